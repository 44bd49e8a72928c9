-- Bound, from the lane laws and Latency: Lone of the whole time gives Lone of each tick of the
-- session at which the transmitter has a phase.
use Rattle.std.proofs.Common.{ℕ, ◌+◌, ◌≤◌, inl, arith}
use Rattle.link_params.specs.Lanes.{LaneKind}
use Rattle.link_params.specs.Numbers.{bound}
use Rattle.scenario.specs.Plans.{Plan}
use Rattle.link_model.specs.Sessions.{InSession}
use Rattle.link_laws.specs.Premises.{Clean, Lone, Pattern}
use Rattle.link_laws.specs.Laws.{BoundFromLanes, IsPlanRead, LatencyFromLanes}
use Rattle.link_laws.proofs.PlanRead.{has-edges}
use Rattle.link_laws.proofs.SessionStages.{first-high}
use Rattle.link_laws.proofs.ReleaseTick.{goes}
use Rattle.link_laws.proofs.Earlier.{clean-earlier, lone-before}
use Rattle.link_laws.proofs.ArmsInTime.{HasSender}
use Rattle.link_laws.proofs.BoundLaw.{has-delivered}

lone-of-session : (kind : LaneKind) (pattern : Pattern) (s : Plan) (h t u : ℕ) → IsPlanRead s
    → InSession kind s h t → t ≤ u → Clean s h u → HasSender s t
    → Lone kind pattern s h u → Lone kind pattern s h t
lone-of-session kind pattern s h t u read session up clean sent lone =
    let above = session.above in
    let high =
    first-high kind s h t (goes kind s h t session (inl (clean-earlier s h u t up clean))) in
    lone-before kind pattern s h u t (has-edges s read) (inl clean) (omega arith)
    (omega arith) up sent lone

pub bound-from-lanes : LatencyFromLanes → BoundFromLanes
bound-from-lanes latency kind pattern s read laws h begins in_run within clean met lone =
    has-delivered kind pattern s (latency kind pattern s read laws) read laws h begins in_run within
    clean met
    (λ t session up sent. lone-of-session kind pattern s h t (h + bound s.link.params s.link.timing)
    read session up clean sent lone) laws.sender
