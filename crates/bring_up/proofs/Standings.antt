-- What a control keeps, one decision more.
use Rattle.std.proofs.Common.{◌≡◌, ℕ, suc, ◌+◌, ◌-◌, ◌%◌, ◌==◌, ◌<◌, ◌≤◌, nat_le, true, false, List, [], ◌∷◌, ◌++◌, length, refl, sym, ◌∙◌, ap, inl, inr, arith, length-append, eq-eqb, ne_eqb, is_some}
use Rattle.std.proofs.lemmas.Bool.{cases_Bool, cases_lt, le-leb, lt-ltb, le-ltb}
use Rattle.std.proofs.lemmas.List.Sums.{sum_by-append}
use Rattle.link_params.specs.declared.fields.Params.{Params}
use Rattle.link_params.specs.declared.fields.Timing.{Timing}
use Rattle.link_params.specs.declared.lane_report.LaneReport.{LaneReport}
use Rattle.link_params.specs.declared.alarms.Alarm.{Alarm}
use Rattle.bring_up.specs.declared.stage.Stage.{Stage}
use Rattle.bring_up.specs.declared.stage.Stage.TheVariants as stage
use Rattle.bring_up.specs.declared.stage.Decision.{Decision}
use Rattle.bring_up.specs.declared.stage.Decision.TheVariants.{Stay, Arm, Release, Hunt}
use Rattle.bring_up.specs.Decisions.{Decided, Standing, after_decision, after_reports, alarms_from, all_started, begin, decide, decide_at, first_class, hunt_on, in_hunt, lane_missing, lane_window, lost_or_faulty, missing, outside_or_missing, some_started, standing_from}
use Rattle.bring_up.specs.kept.Controls.{Controller, HasDecided, calm_by, controller_after, count_after, counted, decided_by, hunt_count}

pub standing-snoc : (p : Params) (t : Timing) (before : List (List LaneReport)) (s : Standing) (reports : List LaneReport)
    → standing_from p t s (before ++ reports ∷ []) ≡ after_reports p t (standing_from p t s before) reports
unfolding standing_from
standing-snoc p t [] s reports = refl
standing-snoc p t (x ∷ before) s reports = standing-snoc p t before (after_reports p t s x) reports

-- ---- the count of a hunt

hunt_count-early : (n : ℕ) → n < 20 → hunt_count n ≡ n
hunt_count-early n lt = rw (lt-ltb n 20 lt) refl

hunt_count-late : (n : ℕ) → 20 ≤ n → hunt_count n ≡ 4 + (n - 4) % 16
hunt_count-late n le = rw (le-ltb n 20 le) refl

hunt_count-next : (n : ℕ) → hunt_count (n + 1) ≡ count_after stage.Hunt (hunt_count n)
hunt_count-next n = elim (cases_lt n 20) [
  | inl early ↦ elim (cases_lt (n + 1) 20) [
    | inl below ↦
        let no : (n == 19) ≡ false = ne_eqb n 19 (λ e. omega arith) in
        rw (hunt_count-early n early, hunt_count-early (n + 1) below, no) refl
    | inr last ↦
        let e : n ≡ 19 = omega arith in
        rw e refl
  ]
  | inr late ↦
      let old = hunt_count-late n late in
      let new = hunt_count-late (n + 1) (omega arith) in
      elim (cases_lt ((n - 4) % 16) 15) [
        | inl below ↦
            let no : (hunt_count n == 19) ≡ false = ne_eqb (hunt_count n) 19 (λ e. omega arith) in
            rw no (omega arith)
        | inr last ↦
            let yes : (hunt_count n == 19) ≡ true = eq-eqb (hunt_count n) 19 (omega arith) in
            rw yes (omega arith)
      ]
]

hunt-decides : (n : ℕ) (reports : List LaneReport) → in_hunt (hunt_count n + 1) reports ≡ in_hunt (n + 1) reports
hunt-decides n reports = elim (cases_lt n 20) [
  | inl early ↦ ap (λ m. in_hunt (m + 1) reports) (hunt_count-early n early)
  | inr late ↦
      let e = hunt_count-late n late in
      let low : nat_le 4 (hunt_count n + 1) ≡ true = le-leb 4 (hunt_count n + 1) (omega arith) in
      let high : nat_le 4 (n + 1) ≡ true = le-leb 4 (n + 1) (omega arith) in
      let same : (hunt_count n + 1) % 16 ≡ (n + 1) % 16 = omega arith in
      rw (low, high, same) refl
]

-- ---- the decision

pub count-decides : (p : Params) (t : Timing) (s : Stage) (since : List (List LaneReport)) (reports : List LaneReport)
    → decided_by p t s (counted s since) reports ≡ decide p t s since reports
unfolding decide
count-decides p t stage.Hunt since reports = hunt-decides (length since) reports
count-decides p t stage.Wait since reports = refl
count-decides p t stage.Run since reports = refl

decided-same : (now : Controller) (p : Params) (t : Timing) (s : Standing) (reports : List LaneReport) → now.params ≡ p → now.timing ≡ t → now.stage ≡ s.stage
    → now.count ≡ counted now.stage s.since → decided_by now.params now.timing now.stage now.count reports ≡ decide_at p t s reports
decided-same now p t s reports params timing stage count =
    rw (params, timing, count, stage) (count-decides p t s.stage s.since reports)

pub has_decided-same : (now : Controller) (p : Params) (t : Timing) (before : List (List LaneReport)) (reports : List LaneReport) → HasDecided now p t before
    → decided_by now.params now.timing now.stage now.count reports ≡ decide_at p t (standing_from p t begin before) reports
has_decided-same now p t before reports h = decided-same now p t (standing_from p t begin before) reports h.params h.timing h.stage h.count

-- ---- armed lanes stay armed where no lane started

hunt_on-stay : (alarms : List Alarm) (d : Decided) → (hunt_on alarms d).decision ≡ Stay → (alarms ≡ []) × (d.decision ≡ Stay)
hunt_on-stay [] d e = (refl, e)
hunt_on-stay (a ∷ alarms) d e = cc

first_class-none : (xs ys : List Alarm) → first_class xs ys ≡ [] → ys ≡ []
first_class-none [] ys e = e
first_class-none (a ∷ xs) ys e = cc

none-missing : (reports : List LaneReport) (lane : ℕ) → alarms_from lane lane_missing reports ≡ [] → all_started reports ≡ true
unfolding alarms_from
none-missing [] lane e = refl
none-missing (r ∷ reports) lane e = elim (cases_Bool (is_some r.started)) [
  | inl some ↦ rw some (none-missing reports (suc lane) (rw some at e))
  | inr none ↦ let f = rw none at e in cc
]

calm-stay : (n : ℕ) (reports : List LaneReport) → (calm_by n reports).decision ≡ Stay → all_started reports ≡ false
calm-stay n reports e = elim (cases_Bool (all_started reports)) [
  | inl all ↦ let f = rw all at e in cc
  | inr part ↦ part
]

stay-idle : (p : Params) (t : Timing) (n : ℕ) (reports : List LaneReport) → (decided_by p t stage.Wait n reports).decision ≡ Stay → some_started reports ≡ false
stay-idle p t n reports e =
    let calm = hunt_on-stay (first_class (lost_or_faulty p reports) (outside_or_missing t reports)) (calm_by n reports) e in
    let outside : outside_or_missing t reports ≡ [] = first_class-none (lost_or_faulty p reports) (outside_or_missing t reports) calm.0 in
    let late : missing reports ≡ [] = first_class-none (alarms_from 0 (lane_window t) reports) (missing reports) outside in
    elim (cases_Bool (some_started reports)) [
      | inl some ↦
          let all : all_started reports ≡ true = none-missing reports 0 (rw some at late) in
          let part : all_started reports ≡ false = calm-stay n reports calm.1 in
          cc
      | inr none ↦ none
    ]

idle-snoc : (since : List (List LaneReport)) (reports : List LaneReport) → some_started reports ≡ false
    → counted stage.Wait (since ++ reports ∷ []) ≡ counted stage.Wait since + 1
idle-snoc since reports none =
    let one : counted stage.Wait (reports ∷ []) ≡ 1 = rw none refl in
    sum_by-append _ since (reports ∷ []) ∙ ap (λ n. counted stage.Wait since + n) one

counted-next : (p : Params) (t : Timing) (s : Stage) (since : List (List LaneReport)) (reports : List LaneReport) → (decided_by p t s (counted s since) reports).decision ≡ Stay
    → counted s (since ++ reports ∷ []) ≡ count_after s (counted s since)
counted-next p t stage.Hunt since reports e = ap hunt_count (length-append since (reports ∷ [])) ∙ hunt_count-next (length since)
counted-next p t stage.Wait since reports e = idle-snoc since reports (stay-idle p t (counted stage.Wait since) reports e)
counted-next p t stage.Run since reports e = refl

-- ---- after a decision

record StandsAs (now : Controller) (s : Standing) : Type 0 where
  stage : now.stage ≡ s.stage
  count : now.count ≡ counted now.stage s.since

stands-after : (d : Decision) (now : Controller) (s : Standing) (reports : List LaneReport) → StandsAs now s
    → (d ≡ Stay → counted now.stage (s.since ++ reports ∷ []) ≡ count_after now.stage (counted now.stage s.since))
    → StandsAs (controller_after now d) (after_decision s reports d)
stands-after Stay now s reports h stays = record { stage = h.stage; count = ap (count_after now.stage) h.count ∙ sym (stays refl) }
stands-after Arm now s reports h stays = record { stage = refl; count = refl }
stands-after Release now s reports h stays = record { stage = refl; count = refl }
stands-after Hunt now s reports h stays = record { stage = refl; count = refl }

after-params : (d : Decision) (now : Controller) → (controller_after now d).params ≡ now.params
after-params Stay now = refl
after-params Arm now = refl
after-params Release now = refl
after-params Hunt now = refl

after-timing : (d : Decision) (now : Controller) → (controller_after now d).timing ≡ now.timing
after-timing Stay now = refl
after-timing Arm now = refl
after-timing Release now = refl
after-timing Hunt now = refl

pub has_decided-next : (now : Controller) (p : Params) (t : Timing) (before : List (List LaneReport)) (reports : List LaneReport) (d : Decision) → HasDecided now p t before
    → d ≡ (decided_by now.params now.timing now.stage now.count reports).decision → HasDecided (controller_after now d) p t (before ++ reports ∷ [])
has_decided-next now p t before reports d h is =
    let s : Standing = standing_from p t begin before in
    let same : d ≡ (decide_at p t s reports).decision = is ∙ ap (λ (x : Decided). x.decision) (has_decided-same now p t before reports h) in
    let after : standing_from p t begin (before ++ reports ∷ []) ≡ after_decision s reports d = standing-snoc p t before begin reports ∙ ap (after_decision s reports) (sym same) in
    let stands : StandsAs (controller_after now d) (after_decision s reports d) = stands-after d now s reports (record { stage = h.stage; count = h.count })
    (λ stay. counted-next now.params now.timing now.stage s.since reports
    (ap (λ n. (decided_by now.params now.timing now.stage n reports).decision) (sym h.count) ∙ sym is ∙ stay)) in
    record {
      params = after-params d now ∙ h.params;
      timing = after-timing d now ∙ h.timing;
      stage = rw after stands.stage;
      count = rw after stands.count;
    }
