-- What the events of a tick do.
use Rattle.std.specs.Prelude.{◌≡◌, ℕ, nat_lt, count_by}
use Rattle.scenario.specs.declared.plan.Event.{Event}
use Rattle.scenario.specs.Plans.{Plan}
use Rattle.link_model.specs.kept.Before.{dead_before, delay_before}
use Rattle.link_model.specs.Carried.{delay_at, is_dead}
use Rattle.link_model.specs.kept.LaneRuns.{LaneRun, reach}

-- how many events came before tick t
abbrev pub are_past : Plan → ℕ → ℕ
are_past s t = count_by (λ (e : Event). nat_lt e.tick t) s.events

-- each lane's longest delay is that of the link
abbrev pub HaveReach : Plan → (ℕ → LaneRun) → Type 0
HaveReach s runs = (lane : ℕ) → (runs lane).reach ≡ reach s.link.params

-- each lane has the delay that it had before tick t, and was dead or alive as before it
abbrev pub AreAsBefore : Plan → ℕ → (ℕ → LaneRun) → Type 0
AreAsBefore s t runs = (lane : ℕ) → ((runs lane).delay ≡ delay_before s lane t)
    × ((runs lane).dead ≡ dead_before s lane t) × ((runs lane).reach ≡ reach s.link.params)

-- a lane with the delay of tick t, and dead or alive as in it
abbrev pub as_of : Plan → ℕ → ℕ → LaneRun → LaneRun
as_of s t lane x = record x { delay = delay_at s lane t; dead = is_dead s lane t }
