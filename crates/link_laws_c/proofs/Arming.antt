-- When the lanes are armed in a session: after the decision that arms them, at which all are
-- locked, and not before.
use Rattle.std.proofs.Common.{◌≡◌, ℕ, zero, suc, ◌+◌, ◌<◌, ◌≤◌, nat_le, ◌&&◌, ◌⊎◌, not, Bool, true, false, List, [], ◌∷◌, length, get_or, inl, inr, refl, sym, ap, ◌∙◌, arith}
use Rattle.std.proofs.lemmas.Bool.{and_parts, cases_Bool}
use Rattle.std.specs.List.{list_all}
use Rattle.link_params.specs.declared.lane_report.LaneReport.{LaneReport}
use Rattle.link_params.specs.Lanes.{LaneKind}
use Rattle.bring_up.specs.declared.stage.Stage.{Stage}
use Rattle.bring_up.specs.declared.stage.Stage.TheVariants as stage
use Rattle.bring_up.specs.declared.stage.Decision.TheVariants as decision
use Rattle.bring_up.specs.Decisions.{decide, is_hunting}
use Rattle.scenario.specs.Plans.{Plan}
use Rattle.link_model.specs.Sessions.{at, first_tick, is_armed, no_report, report_at}
use Rattle.link_laws.specs.LaneLaws.{ArmedBy}
use Rattle.link_laws.proofs.RunTicks.{armed-at, stands}
use Rattle.link_laws.proofs.ReleaseTick.{length-reports}
use Rattle.link_laws.proofs.Stages.{before, before-suc, decides-as, decision_at, hunt-step, run-step, undecided, wait-step}
use Rattle.link_laws.proofs.SessionStages.{Goes, first-low, hunted}

cases-stage : (k : Stage) → (k ≡ stage.Hunt) ⊎ ((k ≡ stage.Wait) ⊎ (k ≡ stage.Run))
cases-stage stage.Hunt = inl refl
cases-stage stage.Wait = inr (inl refl)
cases-stage stage.Run = inr (inr refl)

armed-stage : (kind : LaneKind) (s : Plan) (u : ℕ) (k : Stage) → before kind s u ≡ k
    → is_armed kind s u ≡ not (is_hunting k)
armed-stage kind s u k is = armed-at kind s u ∙ ap (λ (x : Stage). not (is_hunting x)) is

unarmed-hunts : (kind : LaneKind) (s : Plan) (u : ℕ) → is_armed kind s u ≡ false
    → before kind s u ≡ stage.Hunt
unarmed-hunts kind s u none = elim (cases-stage (before kind s u)) [
  | inl k ↦ k
  | inr r ↦ elim r [
    | inl k ↦ let yes_armed : is_armed kind s u ≡ true = armed-stage kind s u stage.Wait k in
        absurd (cc)
    | inr k ↦ let yes_armed : is_armed kind s u ≡ true = armed-stage kind s u stage.Run k in
        absurd (cc)
  ]
]

-- who arms hunted
arms-hunted : (kind : LaneKind) (s : Plan) (A : ℕ) → decision_at kind s A ≡ decision.Arm
    → before kind s A ≡ stage.Hunt
arms-hunted kind s A is = elim (cases-stage (before kind s A)) [
  | inl k ↦ k
  | inr r ↦ elim r [
    | inr k ↦ elim (run-step kind s A k) [
      | inl a ↦ let other = a.0 in absurd (cc)
      | inr a ↦
          let other = a.0 in absurd (cc)
    ]
    | inl k ↦ elim (wait-step kind s A k) [
      | inl a ↦ let other = a.0 in absurd (cc)
      | inr b ↦ elim b [
        | inl x ↦ let other = x.releases in absurd (cc)
        | inr x ↦ let other =
            x.stays in absurd (cc)
      ]
    ]
  ]
]

list-all-get : {A : Type 0} (f : A → Bool) (xs : List A) (i : ℕ) (d : A) → list_all f xs ≡ true
    → i < length xs → f (get_or xs i d) ≡ true
list-all-get f [] i d all inside = absurd (omega arith)
list-all-get f (x ∷ xs) zero d all inside = elim (cases_Bool (f x)) [
  | inl holds ↦ holds
  | inr fails ↦ let whole : list_all f (x ∷ xs) ≡ true = all in
      let bad : false ≡ true = rw fails at whole in absurd (cc)
]
list-all-get f (x ∷ xs) (suc i) d all inside = elim (cases_Bool (f x)) [
  | inl holds ↦ let whole : list_all f (x ∷ xs) ≡ true = all in
      let rest : list_all f xs ≡ true = rw holds at whole in
      list-all-get f xs i d rest (omega arith)
  | inr fails ↦ let whole : list_all f (x ∷ xs) ≡ true = all in
      let bad : false ≡ true = rw fails at whole in absurd (cc)
]

module _ (kind : LaneKind) (s : Plan) (h t : ℕ) (g : Goes kind s h t) where
  -- once armed, the lanes stay so
  pub armed-later : (u w : ℕ) → first_tick kind s h ≤ u → u ≤ w → w ≤ t → is_armed kind s u ≡ true
      → is_armed kind s w ≡ true
  armed-later u w low up by armed = elim (cases_Bool (is_armed kind s w)) [
    | inl yes_armed ↦ yes_armed
    | inr none ↦
        let k = hunted kind s h t g w (omega arith) by (unarmed-hunts kind s w none) u low up in
        let no_armed : is_armed kind s u ≡ false = armed-stage kind s u stage.Hunt k in
        absurd (cc)
  ]

  pub unarmed-before : (A u : ℕ) → ArmedBy kind s h t A → first_tick kind s h ≤ u → u ≤ A
      → is_armed kind s u ≡ false
  unarmed-before A u a low up =
      let below = a.below in
      armed-stage kind s u stage.Hunt
      (hunted kind s h t g A a.in_session (omega arith) (arms-hunted kind s A a.arms) u low up)

  pub armed-after : (A u : ℕ) → ArmedBy kind s h t A → A < u → u ≤ t → is_armed kind s u ≡ true
  armed-after A u a up by =
      let f = first-low kind s h t g in
      let from = a.in_session in
      let below = a.below in
      elim (hunt-step kind s A (arms-hunted kind s A a.arms)) [
        | inr x ↦ let other = x.0 in let arms = a.arms in absurd (cc)
        | inl x ↦
            let waits : before kind s (suc A) ≡ stage.Wait =
            before-suc kind s A (g.quiet (suc A) (omega arith) (omega arith)) ∙ x.2 in
            armed-later (suc A) u (omega arith) (omega arith) by
            (armed-stage kind s (suc A) stage.Wait waits)
      ]

-- the lanes are armed where all are locked
locks-all : (kind : LaneKind) (s : Plan) (A : ℕ) → decision_at kind s A ≡ decision.Arm
    → list_all (λ (r : LaneReport). r.locked) (at kind s A).reports ≡ true
unfolding decide
locks-all kind s A is =
    let k = arms-hunted kind s A is in
    let rs : List LaneReport = (at kind s A).reports in
    let n : ℕ = length (stands kind s A).since + 1 in
    elim (cases_Bool (at kind s A).decides) [
      | inr none ↦ let stay = undecided kind s A none in absurd (cc)
      | inl decides ↦
          let d = decides-as kind s A stage.Hunt decides k in
          elim (cases_Bool (nat_le 4 n && list_all (λ (r : LaneReport). r.locked) rs)) [
            | inl all ↦ (and_parts (nat_le 4 n) (list_all (λ (r : LaneReport). r.locked) rs) all).1
            | inr fails ↦ let bad : decision.Stay ≡ decision.Arm =
                sym (let k : decision_at kind s A ≡ decision.Stay = rw fails at d in k) ∙ is in
                absurd (cc)
          ]
    ]

pub locked-by-arming : (kind : LaneKind) (s : Plan) (A lane : ℕ)
    → decision_at kind s A ≡ decision.Arm → lane < s.link.params.l
    → (report_at kind s lane A).locked ≡ true
locked-by-arming kind s A lane is below =
    let long = length-reports kind s A in
    list-all-get (λ (r : LaneReport). r.locked) (at kind s A).reports lane no_report
    (locks-all kind s A is) (omega arith)
