-- The history of a run and its ticks, for any kind of lane.
use Rattle.std.proofs.Common.{◌≡◌, ℕ, zero, suc, ◌+◌, ◌-◌, [], ◌∷◌, ◌++◌, length, take, get_or, Some, refl, sym, ap, ◌∙◌, append_assoc, append-nil, arith}
use Rattle.std.proofs.lemmas.List.{get_or_append_left, get_or_push, take-append-le, take_all}
use Rattle.std.proofs.lemmas.Option.{slice_get-get_or}
use Rattle.link_params.specs.Lanes.{LaneKind}
use Rattle.scenario.specs.Plans.{Plan}
use Rattle.link_model.specs.laws.HistoryLaws.{BeginsTheSame, HasEachTick, OneATick}
use Rattle.link_model.specs.Moments.{History, Moment}
use Rattle.link_model.specs.Run.{run}
use Rattle.link_model.specs.Sessions.{at}
use Rattle.link_model.proofs.TxHistory.{length-more}

pub run-suc : (kind : LaneKind) (s : Plan) (t : ℕ)
    → run kind s (suc t) ≡ run kind s t ++ at kind s t ∷ []
unfolding run
run-suc kind s t = refl

pub length-run : OneATick
unfolding run
length-run kind s zero = refl
length-run kind s (suc t) = length-more (run kind s t) (at kind s t) ∙ ap suc (length-run kind s t)

-- a longer run begins with a shorter one
pub run-longer : (k : ℕ) (kind : LaneKind) (s : Plan) (t : ℕ)
    → (l : History) × (run kind s (t + k) ≡ run kind s t ++ l)
run-longer zero kind s t = let e : t + 0 ≡ t = omega arith in
    ([], ap (run kind s) e ∙ sym (append-nil (run kind s t)))
run-longer (suc k) kind s t =
    let e : t + suc k ≡ suc (t + k) = omega arith in
    let m = run-longer k kind s t in (
      m.0 ++ at kind s (t + k) ∷ [],
      ap (run kind s) e ∙ run-suc kind s (t + k)
          ∙ ap (λ (l : History). l ++ at kind s (t + k) ∷ []) m.1
          ∙ append_assoc (run kind s t) m.0 (at kind s (t + k) ∷ []),
    )

pub begins-the-same : BeginsTheSame
begins-the-same kind s t more =
    let long = length-run kind s t in
    let m = run-longer more kind s t in
    ap (take t) m.1 ∙ take-append-le t (run kind s t) m.0 (omega arith)
    ∙ take_all t (run kind s t) (omega arith)

pub has-each-tick : HasEachTick
has-each-tick kind s t n below =
    let d : Moment = at kind s t in
    let long = length-run kind s t in
    let next : length (run kind s (suc t)) ≡ suc t = length-run kind s (suc t) in
    let all = length-run kind s n in
    let m = run-longer (n - suc t) kind s (suc t) in
    let end : suc t + (n - suc t) ≡ n = omega arith in
    let is : run kind s n ≡ run kind s (suc t) ++ m.0 = ap (run kind s) (sym end) ∙ m.1 in
    slice_get-get_or (run kind s n) t d (omega arith)
    ∙ ap (λ (h : History). Some (get_or h t d)) is
    ∙ ap (λ (x : Moment). Some x) (get_or_append_left (run kind s (suc t)) m.0 d t (omega arith)
    ∙ ap (λ (h : History). get_or h t d) (run-suc kind s t)
    ∙ get_or_push (run kind s t) d d t long)
