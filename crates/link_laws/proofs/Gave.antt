-- From the release on each lane gives one entry a tick.
use Rattle.std.proofs.Common.{◌≡◌, ℕ, zero, suc, ◌+◌, ◌-◌, ◌<◌, ◌≤◌, ◌⊎◌, Bool, true, false, if◌then◌else◌, [], ◌∷◌, ◌++◌, inl, inr, refl, sym, ap, ◌∙◌, arith}
use Rattle.std.proofs.lemmas.Bool.{cases_lt}
use Rattle.std.proofs.lemmas.List.Sums.{fold_push}
use Rattle.link_params.specs.Lanes.{LaneKind}
use Rattle.bring_up.specs.declared.stage.Stage.{Stage}
use Rattle.bring_up.specs.declared.stage.Stage.TheVariants as stage
use Rattle.bring_up.specs.declared.stage.Decision.TheVariants as decision
use Rattle.bring_up.specs.Decisions.{is_running}
use Rattle.scenario.specs.Plans.{Plan}
use Rattle.link_model.specs.Moments.{History, Moment}
use Rattle.link_model.specs.Gives.{gives_in}
use Rattle.link_model.specs.Hunts.{is_hunt, session}
use Rattle.link_model.specs.Run.{run}
use Rattle.link_model.specs.Sessions.{at, first_tick}
use Rattle.link_laws.proofs.Stages.{before, before-suc, decision_at, released-in, released-waits, run-step}
use Rattle.link_laws.proofs.SessionStages.{Goes, calm, first-low, runs-on, runs-since}
use Rattle.link_laws.proofs.SessionTicks.{begins-first, begins-none, session-hunt, session-suc}

pub gives-more : (h : History) (m : Moment)
    → gives_in (h ++ m ∷ []) ≡ gives_in h + (if is_running m.stage then 1 else 0)
gives-more h m = fold_push (λ (k : ℕ) (m : Moment). k + (if is_running m.stage then 1 else 0)) 0 h m

cases-running : (k : Stage) → (k ≡ stage.Run) ⊎ (is_running k ≡ false)
cases-running stage.Hunt = inr refl
cases-running stage.Wait = inr refl
cases-running stage.Run = inl refl

module _ (kind : LaneKind) (s : Plan) (h t r : ℕ) (g : Goes kind s h t)
    (low : first_tick kind s h ≤ r) (up : r ≤ t)
    (releases : decision_at kind s r ≡ decision.Release) where
  -- before the release no tick runs
  pub still : (u : ℕ) → first_tick kind s h ≤ u → u < r → is_running (at kind s u).stage ≡ false
  still u from below = elim (cases-running (at kind s u).stage) [
    | inr e ↦ e
    | inl runs ↦
        let l = first-low kind s h t g in
        let on : before kind s (suc u) ≡ stage.Run =
        before-suc kind s u (g.quiet (suc u) (omega arith) (omega arith)) ∙ runs in
        let waits = released-waits kind s r releases in
        let k = runs-since kind s h t g (suc u) (omega arith) (omega arith) on in
        let at_r : before kind s r ≡ stage.Run =
        (let b = k.below in runs-on kind s h t g k.tick r k.from k.releases (omega arith) up) in
        absurd (cc)
  ]

  -- from it on each tick does
  pub runs : (u : ℕ) → r ≤ u → u < t → (at kind s u).stage ≡ stage.Run
  runs u from below = elim (cases_lt r u) [
    | inr here ↦ let same : u ≡ r = omega arith in ap (λ (n : ℕ). (at kind s n).stage) same
        ∙ (released-in kind s r releases).runs
    | inl later ↦
        elim (run-step kind s u (runs-on kind s h t g r u low releases later (omega arith))) [
          | inr a ↦ a.1
          | inl a ↦
              let c = calm kind s h t g u (omega arith) below in
              let bad : true ≡ false = sym (ap is_hunt a.0) ∙ c in absurd (cc)
        ]
  ]

  gave-more : (u : ℕ) → first_tick kind s h ≤ u → u < t
      → gives_in (session s (run kind s (suc u))) ≡ gives_in (session s (run kind s u))
      + (if is_running (at kind s u).stage then 1 else 0)
  gave-more u from below =
      ap gives_in
      (session-suc kind s u
      (begins-none kind s h t g u from below (calm kind s h t g u from below)))
      ∙ gives-more (session s (run kind s u)) (at kind s u)

  gave-none : (k : ℕ) → first_tick kind s h + k ≤ r
      → gives_in (session s (run kind s (first_tick kind s h + k))) ≡ 0
  gave-none zero end =
      let same : first_tick kind s h + 0 ≡ first_tick kind s h = omega arith in
      ap (λ (n : ℕ). gives_in (session s (run kind s n))) same
      ∙ ap gives_in (session-hunt kind s (first_tick kind s h) (begins-first kind s h t g))
  gave-none (suc k) end =
      let u : ℕ = first_tick kind s h + k in
      let same : first_tick kind s h + suc k ≡ suc u = omega arith in
      let more = gave-more u (omega arith) (omega arith) in
      let none = gave-none k (omega arith) in
      let off = still u (omega arith) (omega arith) in
      let zero_more : (if is_running (at kind s u).stage then 1 else 0) ≡ zero =
      ap (λ (b : Bool). let n : ℕ = if b then 1 else 0 in n) off in
      ap (λ (n : ℕ). gives_in (session s (run kind s n))) same ∙ omega arith

  gave-some : (k : ℕ) → r + k ≤ t → gives_in (session s (run kind s (r + k))) ≡ k
  gave-some zero end =
      let same : first_tick kind s h + (r - first_tick kind s h) ≡ r + 0 = omega arith in
      sym (ap (λ (n : ℕ). gives_in (session s (run kind s n))) same)
      ∙ gave-none (r - first_tick kind s h) (omega arith)
  gave-some (suc k) end =
      let u : ℕ = r + k in
      let same : r + suc k ≡ suc u = omega arith in
      let more = gave-more u (omega arith) (omega arith) in
      let some = gave-some k (omega arith) in
      let on : is_running (at kind s u).stage ≡ true =
      ap is_running (runs u (omega arith) (omega arith)) in
      let one_more : (if is_running (at kind s u).stage then 1 else 0) ≡ suc zero =
      ap (λ (b : Bool). let n : ℕ = if b then 1 else 0 in n) on in
      ap (λ (n : ℕ). gives_in (session s (run kind s n))) same ∙ omega arith

  -- so many entries each lane gave before tick u
  pub gave-since : (u : ℕ) → r ≤ u → u ≤ t → gives_in (session s (run kind s u)) ≡ u - r
  gave-since u from end =
      let same : r + (u - r) ≡ u = omega arith in
      sym (ap (λ (n : ℕ). gives_in (session s (run kind s n))) same)
      ∙ gave-some (u - r) (omega arith)
