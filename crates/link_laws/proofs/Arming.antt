-- SYNC~ in a session: low while the receiver hunts, high from the arming of the lanes on, for any
-- kind of lane.
use Rattle.std.proofs.Common.{◌≡◌, ◌⊎◌, ℕ, zero, suc, ◌+◌, ◌-◌, ◌<◌, ◌≤◌, not, true, false, inl, inr, refl, sym, ap, ◌∙◌, arith}
use Rattle.std.proofs.lemmas.Bool.{cases_lt}
use Rattle.link_params.specs.Lanes.{LaneKind}
use Rattle.bring_up.specs.declared.stage.Stage.{Stage}
use Rattle.bring_up.specs.declared.stage.Stage.TheVariants as stage
use Rattle.bring_up.specs.declared.stage.Decision.TheVariants as decision
use Rattle.bring_up.specs.Decisions.{is_hunting}
use Rattle.scenario.specs.Plans.{Plan}
use Rattle.link_model.specs.Hunts.{is_hunt}
use Rattle.link_model.specs.Sends.{observed_at}
use Rattle.link_model.specs.Run.{run}
use Rattle.link_model.specs.Sessions.{at, first_tick, is_armed}
use Rattle.link_laws.proofs.RunTicks.{armed-at}
use Rattle.link_laws.proofs.Stages.{before, before-suc, decision_at, hunt-step, run-step, wait-step}
use Rattle.link_laws.proofs.SessionStages.{Goes, calm, first-high, first-low, hunted}
use Rattle.link_laws.proofs.OrdersGo.{low-late}

cases-stage : (k : Stage) → (k ≡ stage.Hunt) ⊎ ((k ≡ stage.Wait) ⊎ (k ≡ stage.Run))
cases-stage stage.Hunt = inl refl
cases-stage stage.Wait = inr (inl refl)
cases-stage stage.Run = inr (inr refl)

pub unarmed-hunts : (k : Stage) → not (is_hunting k) ≡ false → k ≡ stage.Hunt
unarmed-hunts stage.Hunt e = refl
unarmed-hunts stage.Wait e = let bad : true ≡ false = e in absurd (cc)
unarmed-hunts stage.Run e = let bad : true ≡ false = e in absurd (cc)

-- the lanes are armed by a receiver that hunts
pub arms-hunting : (kind : LaneKind) (s : Plan) (A : ℕ) → decision_at kind s A ≡ decision.Arm
    → (before kind s A ≡ stage.Hunt) × ((at kind s A).decides ≡ true)
    × ((at kind s A).stage ≡ stage.Wait)
arms-hunting kind s A arms = elim (cases-stage (before kind s A)) [
  | inl k ↦ elim (hunt-step kind s A k) [
    | inl a ↦ (k, a.1, a.2)
    | inr a ↦ let no = a.0 in
        absurd (cc)
  ]
  | inr more ↦ elim more [
    | inl k ↦ elim (wait-step kind s A k) [
      | inl a ↦ let no = a.0 in absurd (cc)
      | inr a ↦ elim a [
        | inl r ↦ let no = r.releases in absurd (cc)
        | inr w ↦ let no = w.stays in
            absurd (cc)
      ]
    ]
    | inr k ↦ elim (run-step kind s A k) [
      | inl a ↦ let no = a.0 in absurd (cc)
      | inr a ↦ let no =
          a.0 in absurd (cc)
    ]
  ]
]

module _ (kind : LaneKind) (s : Plan) (h t : ℕ) (g : Goes kind s h t) where
  -- while the receiver hunts up to tick u, SYNC~ is low, and the transmitter sees it so
  pub stage-low : (u i : ℕ) → first_tick kind s h ≤ u → u ≤ t → before kind s u ≡ stage.Hunt → h ≤ i
      → i < u → is_hunting (at kind s i).stage ≡ true
  stage-low u i low up hunts from to =
      let f = first-high kind s h t g in
      let on = before-suc kind s i (g.quiet (suc i) (omega arith) (omega arith)) in
      ap is_hunting (sym on ∙ hunted kind s h t g u low up hunts (suc i) (omega arith)
      (omega arith))

  pub sees-low : (u q : ℕ) → first_tick kind s h ≤ u → u ≤ t → before kind s u ≡ stage.Hunt
      → h + 1 + s.link.timing.sync_delay ≤ q → q ≤ u + s.link.timing.sync_delay
      → (observed_at s (run kind s q) q).low ≡ true
  sees-low u q low up hunts from to = low-late kind s q (omega arith)
      ∙ stage-low u (q - (s.link.timing.sync_delay + 1)) low up hunts (omega arith) (omega arith)

  pub unarmed-before : (u i : ℕ) → first_tick kind s h ≤ u → u ≤ t → before kind s u ≡ stage.Hunt
      → first_tick kind s h ≤ i → i ≤ u → is_armed kind s i ≡ false
  unarmed-before u i low up hunts from to = armed-at kind s i
      ∙ ap (λ k. not (is_hunting k)) (hunted kind s h t g u low up hunts i from to)

  pub unarmed-stage : (u : ℕ) → is_armed kind s u ≡ false → before kind s u ≡ stage.Hunt
  unarmed-stage u e = unarmed-hunts (before kind s u) (sym (armed-at kind s u) ∙ e)

  -- from the arming on it does not hunt
  pub stage-after : (A i : ℕ) → first_tick kind s h ≤ A → decision_at kind s A ≡ decision.Arm
      → A ≤ i → i < t → is_hunting (at kind s i).stage ≡ false
  stage-after A zero low arms from to = let e : 0 ≡ A = omega arith in
      ap is_hunting (ap (λ (n : ℕ). (at kind s n).stage) e ∙ (arms-hunting kind s A arms).2)
  stage-after A (suc i) low arms from to = elim (cases_lt A (suc i)) [
    | inr here ↦ let e : suc i ≡ A = omega arith in
        ap is_hunting (ap (λ (n : ℕ). (at kind s n).stage) e ∙ (arms-hunting kind s A arms).2)
    | inl later ↦
        let f = first-low kind s h t g in
        let on = before-suc kind s i (g.quiet (suc i) (omega arith) (omega arith)) in
        let last = stage-after A i low arms (omega arith) (omega arith) in
        let no = calm kind s h t g (suc i) (omega arith) to in
        elim (cases-stage (before kind s (suc i))) [
          | inl k ↦ let bad : true ≡ false = sym (ap is_hunting k) ∙ ap is_hunting on ∙ last in
              absurd (cc)
          | inr more ↦ elim more [
            | inl k ↦ elim (wait-step kind s (suc i) k) [
              | inl a ↦ let bad : true ≡ false = sym (ap is_hunt a.0) ∙ no in absurd (cc)
              | inr a ↦ elim a [ inl r ↦ ap is_hunting r.runs | inr w ↦ ap is_hunting w.waits ]
            ]
            | inr k ↦ elim (run-step kind s (suc i) k) [
              | inl a ↦ let bad : true ≡ false = sym (ap is_hunt a.0) ∙ no in absurd (cc)
              | inr a ↦ ap is_hunting a.1
            ]
          ]
        ]
  ]

  pub sees-high : (A q : ℕ) → first_tick kind s h ≤ A → decision_at kind s A ≡ decision.Arm
      → A + 1 + s.link.timing.sync_delay ≤ q → q ≤ t + s.link.timing.sync_delay
      → (observed_at s (run kind s q) q).low ≡ false
  sees-high A q low arms from to = low-late kind s q (omega arith)
      ∙ stage-after A (q - (s.link.timing.sync_delay + 1)) low arms (omega arith) (omega arith)

  pub armed-after : (A i : ℕ) → first_tick kind s h ≤ A → decision_at kind s A ≡ decision.Arm
      → A < i → i ≤ t → is_armed kind s i ≡ true
  armed-after A zero low arms from to = absurd (omega arith)
  armed-after A (suc i) low arms from to =
      let f = first-low kind s h t g in
      let on = before-suc kind s i (g.quiet (suc i) (omega arith) (omega arith)) in
      armed-at kind s (suc i) ∙ ap (λ k. not (is_hunting k)) on
      ∙ ap not (stage-after A i low arms (omega arith) (omega arith))
