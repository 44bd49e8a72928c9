-- The bits that a lane took in the session of a tick, and that they are those since the first tick
-- of the session's hunt.
use Rattle.std.proofs.Common.{◌≡◌, ℕ, suc, ◌+◌, ◌≤◌, Bool, List, ◌++◌, drop, sym, ap, ◌∙◌, arith}
use Rattle.std.specs.List.{flat_map}
use Rattle.link_params.specs.Lanes.{LaneKind, Taken}
use Rattle.scenario.specs.Plans.{Plan}
use Rattle.link_model.specs.Moments.{History}
use Rattle.link_model.specs.Run.{run}
use Rattle.link_model.specs.Receives.{taken_in}
use Rattle.link_model.specs.Sessions.{first_tick, taken_at}
use Rattle.link_laws.specs.Premises.{bits_since}
use Rattle.link_laws.proofs.Earlier.{bits-longer as since-longer}
use Rattle.link_laws.proofs.SessionStages.{Goes}
use Rattle.link_laws.proofs.SessionTicks.{session-with}

-- the bits that a lane took in the session of tick t, up to it
abbrev pub bits_at : LaneKind → Plan → ℕ → ℕ → List Bool
bits_at kind s lane t = flat_map (λ (x : Taken). x.word) (taken_at kind s lane t)

-- within a session they are all bits since its first tick
pub bits-of-session : (kind : LaneKind) (s : Plan) (h t lane u : ℕ) → Goes kind s h t
    → first_tick kind s h ≤ u → u ≤ t
    → bits_at kind s lane u ≡ bits_since kind s h lane u
bits-of-session kind s h t lane u g low up =
    let next : suc u ≡ u + 1 = omega arith in
    ap (λ (l : History). flat_map (λ (x : Taken). x.word) (taken_in l lane))
    (session-with kind s h t g u low up ∙ ap (λ (n : ℕ). drop (first_tick kind s h) (run kind s n))
    next)

-- the session's bits up to its last tick begin with those up to an earlier one
pub bits-longer : (kind : LaneKind) (s : Plan) (h t lane u : ℕ) → Goes kind s h t
    → first_tick kind s h ≤ u → u ≤ t
    → (more : List Bool) × (bits_at kind s lane t ≡ bits_at kind s lane u ++ more)
bits-longer kind s h t lane u g low up =
    let m = since-longer kind s h t lane u (omega arith) up in (
      m.0,
      bits-of-session kind s h t lane t g (omega arith) (omega arith) ∙ m.1
          ∙ ap (λ (l : List Bool). l ++ m.0) (sym (bits-of-session kind s h t lane u g low up)),
    )
