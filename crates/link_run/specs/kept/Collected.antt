-- The cells that are taken from the rings of the lanes, and the frames that are gathered from them.
-- Code: the ends of the rings, a count, and one frame.
use Rattle.std.specs.Prelude.{◌≡◌, ◌<◌, ℕ, suc, ◌+◌, ◌-◌, ◌*◌, Bool, true, if◌then◌else◌, List, length, get_or, None}
use Rattle.link_params.specs.declared.fields.Params.{Params}
use Rattle.link_params.specs.Laws.{broken_law, is_b}
use Rattle.link_params.specs.Numbers.{octets_per_tick, period}
use Rattle.link_params.specs.TimingLaws.{broken_timing}
use Rattle.scenario.specs.Limits.{is_order}
use Rattle.scenario.specs.Plans.{Plan}
use Rattle.link_model.specs.kept.Before.{Columns, columns_now, current}
use Rattle.link_model.specs.Gives.{gives_in}
use Rattle.link_model.specs.Kinds.{kind_of, moment_of, run_of}
use Rattle.link_model.specs.Moments.{History}
use Rattle.lane_threads.specs.declared.cell_end.CellEnd.{CellEnd}
use Rattle.link_run.specs.kept.Gathered.{Gathering, HasGathered, delivered_of}
use Rattle.link_run.specs.kept.Waits.{HaveRoom, HaveWaiting, Waits}

-- the ends, the place of each lane in the frame, the cells that wait, how many entries of a session are places of the alignment
-- sequence, how many of them are still to come, and the frame that is gathered
pub record Collecting : Type 0 where
  pub ends : List CellEnd
  pub route : List ℕ
  pub waiting : List Waits
  pub lead : ℕ
  pub ahead : ℕ
  pub gathering : Gathering

-- the entries of a lane that are places of the alignment sequence: four multiframes, and none with
-- 64b/66b lanes
abbrev pub lead_of : Params → ℕ
lead_of p = if is_b p.mode then 4 * period p else 0

-- the columns of the session of the last tick
abbrev pub columns_of : Plan → History → Columns
columns_of s h = columns_now (kind_of s.link.params) s h

-- the first t ticks were collected
pub record HasCollected (now : Collecting) (s : Plan) (t : ℕ) : Type 0 where
  pub end_count : length now.ends ≡ s.link.params.l
  pub wait_count : length now.waiting ≡ s.link.params.l
  pub route_is : now.route ≡ s.route
  pub order : is_order s.link.params.l s.route ≡ true
  pub room : HaveRoom now.waiting (period s.link.params)
  pub lead_is : now.lead ≡ lead_of s.link.params
  pub ahead_is : now.ahead ≡ now.lead - gives_in (current (run_of s t))
  pub gathered : HasGathered now.gathering s.link.params (columns_of s (run_of s t))

-- the link of this plan is legal
pub record IsLegalLink (s : Plan) : Type 0 where
  pub laws : broken_law s.link.params ≡ None
  pub timing : broken_timing s.link.params s.link.timing ≡ None

-- a cell of each lane waits, where the link runs and the tick brings cells
abbrev pub CanCollect : Collecting → Bool → Bool → Type 0
CanCollect now hunt runs = (length now.waiting ≡ now.gathering.params.l)
    × (runs ≡ true → (if hunt then now.lead else now.ahead) ≡ 0
    → (lane : ℕ) (w : Waits) → lane < length now.waiting
    → 0 < length (get_or now.waiting lane w).cells)

-- tick t was collected too, of the n + 1 ticks whose cells waited
pub record Collects (now : Collecting) (s : Plan) (t n : ℕ) : Type 0 where
  pub has : HasCollected now s (suc t)
  pub cells : HaveWaiting now.waiting s (suc t) n
  pub delivered_is : (moment_of s (run_of s t)).delivered ≡ delivered_of s.link.params
      (octets_per_tick s.link.params * (t + 1)) now.gathering.frames now.gathering.at
