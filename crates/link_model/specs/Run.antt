-- The run of a plan: a history that grows tick by tick, for any number of lanes and both kinds of
-- lane.
-- Code: each part keeps what it needs of its own history.
use Rattle.std.specs.Prelude.{ℕ, zero, suc, ◌+◌, ◌-◌, ◌*◌, ◌==◌, Bool, false, if◌then◌else◌, List, [], ◌∷◌, ◌++◌, map, length, get_or, slice_index, Option, Some, None}
use Rattle.link_params.specs.declared.alarms.Device.TheVariants.{Rx}
use Rattle.link_params.specs.declared.lane_report.LaneReport.{LaneReport}
use Rattle.link_params.specs.Lanes.{LaneKind, Taken}
use Rattle.link_params.specs.Numbers.{octets_per_tick}
use Rattle.bring_up.specs.declared.stage.Stage.{Stage}
use Rattle.bring_up.specs.declared.stage.Decision.TheVariants as decision
use Rattle.bring_up.specs.Decisions.{Decided, decided, Standing, decide_at, after_reports, is_running}
use Rattle.scenario.specs.Plans.{Plan, numbers_from}
use Rattle.link_model.specs.Carried.{received}
use Rattle.link_model.specs.Edges.{phase}
use Rattle.link_model.specs.Gives.{frames_given, gives_in}
use Rattle.link_model.specs.Hunts.{session, standing}
use Rattle.link_model.specs.Moments.{History, Moment}
use Rattle.link_model.specs.Receives.{taken_in, told_of}
use Rattle.link_model.specs.Wiring.{by_frame, route_of, wire_of}
use Rattle.link_model.specs.Sends.{beginnings, data_place, frames_before, handed_to, order_of, sent_bits, sent_by}

-- ---- the tick that comes after a history

abbrev pub is_at : Option ℕ → ℕ → Bool
is_at None n = false
is_at (Some x) n = x == n

-- a tick that is no release point decides nothing
abbrev pub decided_in : Plan → Standing → Bool → List LaneReport → Decided
decided_in s before decides reports = if decides then decide_at s.link.params s.link.timing before
    reports else decided decision.Stay []

abbrev pub stage_after : Plan → Standing → Bool → List LaneReport → Stage
stage_after s before decides reports =
    if decides then (after_reports s.link.params s.link.timing before reports).stage else
    before.stage

unfoldable pub moment : LaneKind → Plan → History → Moment
moment kind s h =
    let p = s.link.params in let t = length h in let lanes = numbers_from 0 p.l in
    let order = order_of s h in
    let place = data_place order in
    let handed = map (handed_to s (frames_before h) place) lanes in
    let sent = map (λ l. sent_by kind s h order (slice_index handed l) l) lanes in
    let told = told_of s h in
    let taken = map (λ l. received s l t (sent_bits h (wire_of s l) ++ get_or sent (wire_of s l) []))
    lanes in
    let past = session s h in
    let took : ℕ → List Taken = λ l. taken_in past l
    ++ (record { order = told; word = get_or taken l [] }) ∷ [] in
    let reports = map (λ l. kind.report p s.link.timing (route_of s l) (took l)) lanes in
    let entries = map (λ l. kind.entries p s.link.timing (route_of s l) (took l)) lanes in
    let gave = gives_in past in
    let before = standing s h in
    let decides = is_at (phase s Rx t) s.link.timing.rbd in
    let stage = stage_after s before decides reports in
    record {
      order = order;
      entered = map (λ j. octets_per_tick p * t + j) (beginnings p place);
      handed = handed;
      sent = sent;
      told = told;
      taken = taken;
      reports = reports;
      held = map (λ es. length es - gave) entries;
      decides = decides;
      decided = decided_in s before decides reports;
      stage = stage;
      delivered = if is_running stage then frames_given p (t - gave) gave (by_frame s [] entries)
          else [];
    }

-- the history of the first t ticks
unfoldable pub run : LaneKind → Plan → ℕ → History
run kind s zero = []
run kind s (suc t) = run kind s t ++ moment kind s (run kind s t) ∷ []
