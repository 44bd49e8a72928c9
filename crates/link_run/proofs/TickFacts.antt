-- The frames that begin in a tick, and the history with it.
use Rattle.std.proofs.Common.{◌≡◌, ◌∙◌, ◌≤◌, ◌+◌, ◌*◌, ℕ, zero, suc, length, Option, Some, None, inl, inr, add-one, arith, ap}
use Rattle.std.proofs.lemmas.Bool.{cases_Bool}
use Rattle.std.proofs.lemmas.List.{length-map}
use Rattle.std.proofs.lemmas.List.Sums.{count_by-le-length, length-filter}
use Rattle.link_params.specs.declared.fields.Params.{Params}
use Rattle.link_params.specs.Lanes.{LaneKind}
use Rattle.link_params.specs.Laws.{is_b}
use Rattle.link_params.specs.Numbers.{octets_per_tick}
use Rattle.scenario.specs.Plans.{Plan, numbers_from}
use Rattle.link_model.proofs.NextMoment.{entered-next, next}
use Rattle.link_model.proofs.NumberLists.{length-numbers}
use Rattle.link_model.proofs.RunTicks.{run-suc}
use Rattle.link_model.proofs.TxHistory.{frames-before-more}
use Rattle.link_model.specs.Kinds.{kind_of, run_of}
use Rattle.link_model.specs.Moments.{History}
use Rattle.link_model.specs.Run.{run}
use Rattle.link_model.specs.Sends.{beginnings, begins_frame, data_place, frames_before}
use Rattle.link_run.proofs.GiveFacts.{with_tick}

-- ---- the frames that began

beginnings-few : (p : Params) (place : Option ℕ) → length (beginnings p place) ≤ octets_per_tick p
beginnings-few p None = omega arith
beginnings-few p (Some x) =
    let count = length-filter (begins_frame p x) (numbers_from 0 (octets_per_tick p)) in
    let few = count_by-le-length (begins_frame p x) (numbers_from 0 (octets_per_tick p)) in
    let long = length-numbers (octets_per_tick p) 0 in
    omega arith

few-octets : (p : Params) → octets_per_tick p ≤ 8
few-octets p = elim (cases_Bool (is_b p.mode)) [
  | inl e ↦ rw e (omega arith)
  | inr e ↦ rw e (omega arith)
]

entered-few : (k : LaneKind) (s : Plan) (h : History) → length (next k s h).entered ≤ 8
entered-few k s h =
    let p = s.link.params in
    let place : Option ℕ = data_place (next k s h).order in
    let count = ap length (entered-next k s h)
    ∙ length-map (beginnings p place) (λ j. octets_per_tick p * length h + j) in
    let few = beginnings-few p place in
    let most = few-octets p in
    omega arith

-- at most eight begin in a tick
pub frames-few : (k : LaneKind) (t : ℕ) (s : Plan) → frames_before (run k s t) ≤ 8 * t
unfolding run
frames-few k zero s = omega arith
frames-few k (suc t) s =
    let h = run k s t in
    let before = frames-few k t s in
    let more = frames-before-more h (next k s h) in
    let few = entered-few k s h in
    omega arith

-- the history with the tick
pub run-next : (t : ℕ) (s : Plan) → run_of s (t + 1) ≡ with_tick s (run_of s t)
run-next t s = ap (run_of s) (add-one t) ∙ run-suc (kind_of s.link.params) s t
