-- The stages of the receiver in a session: it hunts, waits, and runs.
use Rattle.std.proofs.Common.{◌≡◌, ℕ, suc, ◌+◌, ◌<◌, ◌≤◌, ◌⊎◌, ◌&&◌, nat_le, if◌then◌else◌, true, false, List, [], length, get_or, Option, Some, None, inl, inr, refl, sym, ap, ◌∙◌, arith}
use Rattle.std.specs.List.{list_all}
use Rattle.std.proofs.lemmas.Bool.{cases_Bool, and_parts, cond-true, cond-false, leb-true, eq-eqb, eqb-true}
use Rattle.link_params.specs.declared.alarms.Device.TheVariants.{Rx}
use Rattle.link_params.specs.declared.lane_report.LaneReport.{LaneReport}
use Rattle.link_params.specs.declared.fields.Params.{Params}
use Rattle.link_params.specs.declared.fields.Timing.{Timing}
use Rattle.link_params.specs.Lanes.{LaneKind}
use Rattle.bring_up.specs.declared.stage.Stage.{Stage}
use Rattle.bring_up.specs.declared.stage.Stage.TheVariants as stage
use Rattle.bring_up.specs.declared.stage.Decision.{Decision}
use Rattle.bring_up.specs.declared.stage.Decision.TheVariants as decision
use Rattle.bring_up.specs.Decisions.{Decided, Standing, after_decision, after_reports, decide, decide_at, decided}
use Rattle.scenario.specs.Plans.{Plan}
use Rattle.link_model.specs.Edges.{is_reset, phase}
use Rattle.link_model.specs.Run.{is_at}
use Rattle.link_model.proofs.DecisionCases.{IsStartedInside, hunt-cases, no_report, run-cases, wait-cases}
use Rattle.link_model.specs.Sessions.{at}
use Rattle.link_laws.proofs.RunTicks.{decided-at, decides-at, stage-at, stands, stands-suc}

cases-stage : (k : Stage) → (k ≡ stage.Hunt) ⊎ ((k ≡ stage.Wait) ⊎ (k ≡ stage.Run))
cases-stage stage.Hunt = inl refl
cases-stage stage.Wait = inr (inl refl)
cases-stage stage.Run = inr (inr refl)

arm-four : (p : Params) (t : Timing) (since : List (List LaneReport)) (rs : List LaneReport)
    → (decide p t stage.Hunt since rs).decision ≡ decision.Arm → 3 ≤ length since
unfolding decide
arm-four p t since rs arms =
    elim (cases_Bool (nat_le 4 (length since + 1) && list_all (λ (r : LaneReport). r.locked) rs)) [
      | inl e ↦
          let four =
          leb-true 4 (length since + 1)
          (and_parts (nat_le 4 (length since + 1)) (list_all (λ (r : LaneReport). r.locked) rs)
          e).0 in
          omega arith
      | inr e ↦ let bad : decision.Stay ≡ decision.Arm = sym (rw e refl) ∙ arms in absurd (cc)
    ]

module _ (kind : LaneKind) (s : Plan) where
  -- the stage before the decision of tick t, and that decision
  abbrev pub before : ℕ → Stage
  before t = (stands kind s t).stage

  abbrev pub decision_at : ℕ → Decision
  decision_at t = (at kind s t).decided.decision

  abbrev due : ℕ → Stage → Decision
  due t k =
      (decide s.link.params s.link.timing k (stands kind s t).since (at kind s t).reports).decision

  abbrev next_stage : ℕ → Decision → Stage
  next_stage t d = (after_decision (stands kind s t) (at kind s t).reports d).stage

  off : (t : ℕ) → (at kind s t).decides ≡ false → (decision_at t ≡ decision.Stay)
      × ((at kind s t).stage ≡ before t)
  off t e =
      let d : decision_at t ≡ (if (at kind s t).decides then due t (before t) else decision.Stay) =
      ap (λ (x : Decided). x.decision) (decided-at kind s t)
      ∙ elim (cases_Bool (at kind s t).decides) [ inl e ↦ rw e refl | inr e ↦ rw e refl ] in
      let k = stage-at kind s t in (
        d ∙ cond-false (at kind s t).decides (due t (before t)) decision.Stay e,
        k
            ∙ cond-false (at kind s t).decides (next_stage t (due t (before t))) (before t) e,
      )

  on : (t : ℕ) (k : Decision) → (at kind s t).decides ≡ true → due t (before t) ≡ k
      → (decision_at t ≡ k) × ((at kind s t).stage ≡ next_stage t k)
  on t k e is =
      let d : decision_at t ≡ (if (at kind s t).decides then due t (before t) else decision.Stay) =
      ap (λ (x : Decided). x.decision) (decided-at kind s t)
      ∙ elim (cases_Bool (at kind s t).decides) [ inl e ↦ rw e refl | inr e ↦ rw e refl ] in
      let q = stage-at kind s t in (
        d ∙ cond-true (at kind s t).decides (due t (before t)) decision.Stay e ∙ is,
        q ∙ cond-true (at kind s t).decides (next_stage t (due t (before t))) (before t) e
            ∙ ap (next_stage t) is,
      )

  at-stage : (t : ℕ) (k : Stage) (d : Decision) → before t ≡ k → due t k ≡ d → due t (before t) ≡ d
  at-stage t k d is h = ap (due t) is ∙ h

  -- what a tick does to each stage
  pub hunt-step : (t : ℕ) → before t ≡ stage.Hunt
      → ((decision_at t ≡ decision.Arm) × ((at kind s t).decides ≡ true)
      × ((at kind s t).stage ≡ stage.Wait))
      ⊎ ((decision_at t ≡ decision.Stay) × ((at kind s t).stage ≡ stage.Hunt))
  hunt-step t is = elim (cases_Bool (at kind s t).decides) [
    | inr e ↦ let o = off t e in inr (o.0, o.1 ∙ is)
    | inl e ↦
        elim (hunt-cases s.link.params s.link.timing (stands kind s t).since (at kind s t).reports) [
          | inl c ↦ let o = on t decision.Arm e (at-stage t stage.Hunt decision.Arm is c) in
              inl (o.0, e, o.1)
          | inr c ↦ let o = on t decision.Stay e (at-stage t stage.Hunt decision.Stay is c) in
              inr (o.0, o.1 ∙ is)
        ]
  ]

  -- a tick in Wait that neither hunts nor releases
  pub record StaysWaiting (t : ℕ) : Type 0 where
    pub stays : decision_at t ≡ decision.Stay
    pub waits : (at kind s t).stage ≡ stage.Wait
    pub nobody : (at kind s t).decides ≡ true → (i : ℕ) → i < length (at kind s t).reports
        → (get_or (at kind s t).reports i no_report).started ≡ None

  -- a tick in Wait that releases
  pub record Released (t : ℕ) : Type 0 where
    pub releases : decision_at t ≡ decision.Release
    pub decides : (at kind s t).decides ≡ true
    pub runs : (at kind s t).stage ≡ stage.Run
    pub lanes : (i : ℕ) → i < length (at kind s t).reports
        → IsStartedInside s.link.timing (get_or (at kind s t).reports i no_report).started

  pub wait-step : (t : ℕ) → before t ≡ stage.Wait
      → ((decision_at t ≡ decision.Hunt) × ((at kind s t).stage ≡ stage.Hunt))
      ⊎ (Released t ⊎ StaysWaiting t)
  wait-step t is = elim (cases_Bool (at kind s t).decides) [
    | inr e ↦ let o = off t e in
        inr
        (inr
        (record {
          stays = o.0;
          waits = o.1 ∙ is;
          nobody = λ d. let bad : true ≡ false = sym d ∙ e in
              absurd (cc);
        }))
    | inl e ↦
        elim (wait-cases s.link.params s.link.timing (stands kind s t).since (at kind s t).reports) [
          | inl c ↦ let o = on t decision.Hunt e (at-stage t stage.Wait decision.Hunt is c) in
              inl (o.0, o.1)
          | inr more ↦ elim more [
            | inl r ↦ let o =
                on t decision.Release e (at-stage t stage.Wait decision.Release is r.is) in
                inr (inl (record { releases = o.0; decides = e; runs = o.1; lanes = r.lanes }))
            | inr w ↦ let o = on t decision.Stay e (at-stage t stage.Wait decision.Stay is w.is) in
                inr (inr (record { stays = o.0; waits = o.1 ∙ is; nobody = λ d. w.lanes }))
          ]
        ]
  ]

  pub run-step : (t : ℕ) → before t ≡ stage.Run
      → ((decision_at t ≡ decision.Hunt) × ((at kind s t).stage ≡ stage.Hunt))
      ⊎ ((decision_at t ≡ decision.Stay) × ((at kind s t).stage ≡ stage.Run))
  run-step t is = elim (cases_Bool (at kind s t).decides) [
    | inr e ↦ let o = off t e in inr (o.0, o.1 ∙ is)
    | inl e ↦
        elim (run-cases s.link.params s.link.timing (stands kind s t).since (at kind s t).reports) [
          | inl c ↦ let o = on t decision.Hunt e (at-stage t stage.Run decision.Hunt is c) in
              inl (o.0, o.1)
          | inr c ↦ let o = on t decision.Stay e (at-stage t stage.Run decision.Stay is c) in
              inr (o.0, o.1 ∙ is)
        ]
  ]

  -- the stage goes on to the next tick, where no reset comes
  pub before-suc : (t : ℕ) → is_reset s Rx (suc t) ≡ false → before (suc t) ≡ (at kind s t).stage
  before-suc t none =
      ap (λ (x : Standing). x.stage) (stands-suc kind s t none)
      ∙ elim (cases_Bool (at kind s t).decides) [
        | inl e ↦
            rw e
            (sym (stage-at kind s t
            ∙ cond-true (at kind s t).decides (next_stage t (due t (before t))) (before t) e))
        | inr e ↦ rw e (sym (off t e).1)
      ]

  -- a release is decided in Wait
  pub released-in : (t : ℕ) → decision_at t ≡ decision.Release → Released t
  released-in t is = elim (cases-stage (before t)) [
    | inl k ↦ elim (hunt-step t k) [
      | inl a ↦ let no = a.0 in absurd (cc)
      | inr a ↦ let no = a.0 in
          absurd (cc)
    ]
    | inr more ↦ elim more [
      | inl k ↦ elim (wait-step t k) [
        | inl a ↦ let no = a.0 in absurd (cc)
        | inr a ↦ elim a [ inl r ↦ r | inr w ↦ let no = w.stays in absurd (cc) ]
      ]
      | inr k ↦ elim (run-step t k) [
        | inl a ↦ let no = a.0 in absurd (cc)
        | inr a ↦ let no =
            a.0 in absurd (cc)
      ]
    ]
  ]

  pub released-waits : (t : ℕ) → decision_at t ≡ decision.Release → before t ≡ stage.Wait
  released-waits t is = elim (cases-stage (before t)) [
    | inl k ↦ elim (hunt-step t k) [
      | inl a ↦ let no = a.0 in absurd (cc)
      | inr a ↦ let no = a.0 in
          absurd (cc)
    ]
    | inr more ↦ elim more [
      | inl k ↦ k
      | inr k ↦ elim (run-step t k) [
        | inl a ↦ let no = a.0 in absurd (cc)
        | inr a ↦ let no =
            a.0 in absurd (cc)
      ]
    ]
  ]

  -- after a decision to hunt it hunts
  pub hunts-stage : (t : ℕ) → decision_at t ≡ decision.Hunt → (at kind s t).stage ≡ stage.Hunt
  hunts-stage t is = elim (cases-stage (before t)) [
    | inl k ↦ elim (hunt-step t k) [ inl a ↦ let no = a.0 in absurd (cc) | inr a ↦ a.1 ]
    | inr more ↦ elim more [
      | inl k ↦ elim (wait-step t k) [
        | inl a ↦ a.1
        | inr a ↦ elim a [
          | inl r ↦ let no = r.releases in absurd (cc)
          | inr w ↦ let no =
              w.stays in absurd (cc)
        ]
      ]
      | inr k ↦ elim (run-step t k) [ inl a ↦ a.1 | inr a ↦ let no = a.0 in absurd (cc) ]
    ]
  ]

  -- where the receiver stands after a decision, and after a tick without one
  pub stands-decided : (t : ℕ) → is_reset s Rx (suc t) ≡ false → (at kind s t).decides ≡ true
      → stands kind s (suc t) ≡ after_decision (stands kind s t) (at kind s t).reports
      (decision_at t)
  stands-decided t none e =
      let d : decision_at t ≡ due t (before t) =
      ap (λ (x : Decided). x.decision)
      (decided-at kind s t
      ∙ cond-true (at kind s t).decides
      (decide_at s.link.params s.link.timing (stands kind s t) (at kind s t).reports)
      (decided decision.Stay []) e) in
      stands-suc kind s t none
      ∙ cond-true (at kind s t).decides
      (after_reports s.link.params s.link.timing (stands kind s t) (at kind s t).reports)
      (stands kind s t) e
      ∙ ap (after_decision (stands kind s t) (at kind s t).reports) (sym d)

  pub stands-undecided : (t : ℕ) → is_reset s Rx (suc t) ≡ false → (at kind s t).decides ≡ false
      → stands kind s (suc t) ≡ stands kind s t
  stands-undecided t none e =
      stands-suc kind s t none
      ∙ cond-false (at kind s t).decides
      (after_reports s.link.params s.link.timing (stands kind s t) (at kind s t).reports)
      (stands kind s t) e

  -- a tick that decides nothing stays
  pub undecided : (t : ℕ) → (at kind s t).decides ≡ false → decision_at t ≡ decision.Stay
  undecided t e = (off t e).0

  -- all that is decided, at this stage
  pub decided-whole : (t : ℕ) (k : Stage) → (at kind s t).decides ≡ true → before t ≡ k
      → (at kind s t).decided ≡ decide s.link.params s.link.timing k (stands kind s t).since
      (at kind s t).reports
  decided-whole t k e is =
      decided-at kind s t
      ∙ cond-true (at kind s t).decides
      (decide_at s.link.params s.link.timing (stands kind s t) (at kind s t).reports)
      (decided decision.Stay []) e
      ∙ ap (λ (q : Stage). decide s.link.params s.link.timing q (stands kind s t).since
      (at kind s t).reports) is

  -- what is decided, at this stage
  pub decides-as : (t : ℕ) (k : Stage) → (at kind s t).decides ≡ true → before t ≡ k
      → decision_at t
      ≡ (decide s.link.params s.link.timing k (stands kind s t).since
      (at kind s t).reports).decision
  decides-as t k e is = ap (λ (x : Decided). x.decision) (decided-whole t k e is)

  -- the lanes are armed at the fourth decision of a hunt or a later one
  pub arms-fourth : (t : ℕ) → before t ≡ stage.Hunt → decision_at t ≡ decision.Arm
      → ((at kind s t).decides ≡ true) × (3 ≤ length (stands kind s t).since)
  arms-fourth t is arms = elim (cases_Bool (at kind s t).decides) [
    | inr e ↦ let stay = undecided t e in absurd (cc)
    | inl e ↦ (
      e,
      let d : decision_at t ≡ due t (before t) =
          ap (λ (x : Decided). x.decision)
          (decided-at kind s t
          ∙ cond-true (at kind s t).decides
          (decide_at s.link.params s.link.timing (stands kind s t) (at kind s t).reports)
          (decided decision.Stay []) e) in
          arm-four s.link.params s.link.timing (stands kind s t).since (at kind s t).reports
          (sym (ap (due t) is) ∙ sym d ∙ arms),
    )
  ]

at-point : (o : Option ℕ) (n : ℕ) → is_at o n ≡ true → o ≡ Some n
at-point None n e = let bad : false ≡ true = e in absurd (cc)
at-point (Some x) n e = ap Some (eqb-true x n e)

-- a decision falls on a release point
pub phase-decides : (kind : LaneKind) (s : Plan) (t : ℕ) → (at kind s t).decides ≡ true
    → phase s Rx t ≡ Some s.link.timing.rbd
phase-decides kind s t e = at-point (phase s Rx t) s.link.timing.rbd (sym (decides-at kind s t) ∙ e)

-- and each release point has one
pub decides-phase : (kind : LaneKind) (s : Plan) (t : ℕ) → phase s Rx t ≡ Some s.link.timing.rbd
    → (at kind s t).decides ≡ true
decides-phase kind s t e = decides-at kind s t ∙ ap (λ (o : Option ℕ). is_at o s.link.timing.rbd) e
    ∙ eq-eqb s.link.timing.rbd s.link.timing.rbd refl
