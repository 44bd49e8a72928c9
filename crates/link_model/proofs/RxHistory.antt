-- The receiver's decisions over a history, with a tick more.
use Rattle.std.proofs.Common.{◌≡◌, true, false, if◌then◌else◌, List, [], ◌∷◌, ◌++◌, length, drop, inl, inr, refl, sym, ap, ◌∙◌, append-nil}
use Rattle.std.proofs.lemmas.Bool.{cases_Bool, cond-true, cond-false}
use Rattle.link_params.specs.declared.fields.Params.{Params}
use Rattle.link_params.specs.declared.fields.Timing.{Timing}
use Rattle.link_params.specs.Lanes.{LaneKind}
use Rattle.link_params.specs.declared.alarms.Device.TheVariants.{Rx}
use Rattle.link_params.specs.declared.lane_report.LaneReport.{LaneReport}
use Rattle.bring_up.specs.declared.stage.Decision.TheVariants.{Stay}
use Rattle.bring_up.specs.Decisions.{Standing, after_reports, begin, decide_at, decided, standing_from}
use Rattle.scenario.specs.Plans.{Plan}
use Rattle.link_model.proofs.NextMoment.{decided-next, next, stage-next, with_next}
use Rattle.link_model.proofs.TxHistory.{drop-reset, drop-reset-before}
use Rattle.link_model.specs.kept.Before.{decisions_before}
use Rattle.link_model.specs.Edges.{is_reset, last_reset}
use Rattle.link_model.specs.Hunts.{ends_in_hunt, is_hunt, points, standing}
use Rattle.link_model.specs.Moments.{History, Moment}

-- ---- standings

pub standing-from-append : (xs : List (List LaneReport)) (p : Params) (t : Timing) (s : Standing)
    (ys : List (List LaneReport))
    → standing_from p t s (xs ++ ys) ≡ standing_from p t (standing_from p t s xs) ys
unfolding standing_from
standing-from-append [] p t s ys = refl
standing-from-append (x ∷ xs) p t s ys = standing-from-append xs p t (after_reports p t s x) ys

pub standing-from-more : (p : Params) (t : Timing) (s : Standing) (xs : List (List LaneReport))
    (reports : List LaneReport)
    → standing_from p t s (xs ++ reports ∷ []) ≡ after_reports p t (standing_from p t s xs) reports
unfolding standing_from
standing-from-more p t s xs reports = standing-from-append xs p t s (reports ∷ [])

-- ---- the reports at release points

abbrev pub points_of : Moment → List (List LaneReport)
points_of m = if m.decides then m.reports ∷ [] else []

pub points-more : (h : History) (m : Moment) → points (h ++ m ∷ []) ≡ points h ++ points_of m
points-more [] m = elim (cases_Bool m.decides) [ inl e ↦ rw e refl | inr e ↦ rw e refl ]
points-more (x ∷ h) m = elim (cases_Bool x.decides) [
  | inl e ↦ rw e (ap (λ (l : List (List LaneReport)). x.reports ∷ l) (points-more h m))
  | inr e ↦ rw e (points-more h m)
]

-- the decisions since the receiver's reset, in the tick that comes
abbrev pub decisions_kept : Plan → History → List (List LaneReport)
decisions_kept s h = if is_reset s Rx (length h) then [] else decisions_before s h

pub points-kept : (s : Plan) (h : History)
    → points (drop (last_reset s Rx (length h)) h) ≡ decisions_kept s h
points-kept s h =
    ap points (drop-reset s Rx h)
    ∙ elim (cases_Bool (is_reset s Rx (length h))) [ inl e ↦ rw e refl | inr e ↦ rw e refl ]

pub standing-next : (s : Plan) (h : History)
    → standing s h ≡ standing_from s.link.params s.link.timing begin
    (if is_reset s Rx (length h) then [] else decisions_before s h)
unfolding standing
standing-next s h = ap (standing_from s.link.params s.link.timing begin) (points-kept s h)

pub decisions-before-more : (s : Plan) (h : History) (m : Moment)
    → decisions_before s (h ++ m ∷ [])
    ≡ (if is_reset s Rx (length h) then [] else decisions_before s h)
    ++ (if m.decides then m.reports ∷ [] else [])
decisions-before-more s h m =
    ap points (drop-reset-before s Rx h m)
    ∙ points-more (drop (last_reset s Rx (length h)) h) m
    ∙ ap (λ (l : List (List LaneReport)). l ++ points_of m) (points-kept s h)

-- where the receiver stands after the last tick
abbrev pub standing_after : Plan → History → Standing
standing_after s h = standing_from s.link.params s.link.timing begin (decisions_before s h)

pub standing-after-none : (s : Plan) → standing_after s [] ≡ begin
unfolding standing_from
standing-after-none s = refl

pub standing-reset : (s : Plan) (h : History) → is_reset s Rx (length h) ≡ true
    → standing s h ≡ begin
unfolding standing_from
standing-reset s h e = standing-next s h ∙ rw e refl

pub standing-kept : (s : Plan) (h : History) → is_reset s Rx (length h) ≡ false
    → standing s h ≡ standing_after s h
standing-kept s h e = standing-next s h ∙ rw e refl

-- where it stands after a tick
pub standing-after-more : (s : Plan) (h : History) (m : Moment)
    → standing_after s (h ++ m ∷ [])
    ≡ (if m.decides then after_reports s.link.params s.link.timing (standing s h) m.reports else
    standing s h)
standing-after-more s h m =
    let p = s.link.params in
    let t = s.link.timing in
    let kept : List (List LaneReport) = decisions_kept s h in
    ap (standing_from p t begin) (decisions-before-more s h m)
    ∙ elim (cases_Bool m.decides) [
      | inl e ↦
          ap (λ (l : List (List LaneReport)). standing_from p t begin (kept ++ l))
          (cond-true m.decides (m.reports ∷ []) [] e)
          ∙ standing-from-more p t begin kept m.reports
          ∙ ap (λ (x : Standing). after_reports p t x m.reports) (sym (standing-next s h))
          ∙ sym (cond-true m.decides (after_reports p t (standing s h) m.reports) (standing s h) e)
      | inr e ↦
          ap (λ (l : List (List LaneReport)). standing_from p t begin (kept ++ l))
          (cond-false m.decides (m.reports ∷ []) [] e)
          ∙ ap (standing_from p t begin) (append-nil kept)
          ∙ sym (standing-next s h)
          ∙ sym (cond-false m.decides (after_reports p t (standing s h) m.reports) (standing s h) e)
    ]

pub stage-standing : (k : LaneKind) (s : Plan) (h : History)
    → (next k s h).stage ≡ (standing_after s (with_next k s h)).stage
stage-standing k s h =
    let p = s.link.params in
    let t = s.link.timing in
    let m = next k s h in
    stage-next k s h
    ∙ sym (ap (λ (x : Standing). x.stage) (standing-after-more s h m)
    ∙ elim (cases_Bool m.decides) [ inl e ↦ rw e refl | inr e ↦ rw e refl ])

pub decided-is : (k : LaneKind) (s : Plan) (h : History)
    → (next k s h).decided
    ≡ (if (next k s h).decides then decide_at s.link.params s.link.timing (standing s h)
    (next k s h).reports else decided Stay [])
decided-is k s h = decided-next k s h

pub ends-in-hunt-more : (h : History) (m : Moment)
    → ends_in_hunt (h ++ m ∷ []) ≡ is_hunt m.decided.decision
unfolding ends_in_hunt
ends-in-hunt-more [] m = refl
ends-in-hunt-more (x ∷ []) m = refl
ends-in-hunt-more (x ∷ y ∷ h) m = ends-in-hunt-more (y ∷ h) m
