-- The ticks of a session, as a run's history gives them.
use Rattle.std.proofs.Common.{◌≡◌, ℕ, zero, suc, ◌+◌, ◌-◌, ◌<◌, ◌≤◌, ◌||◌, Bool, true, false, [], ◌∷◌, ◌++◌, length, drop, Option, Some, unwrap_or, inl, inr, refl, sym, ap, ap₂, ◌∙◌, length-drop, arith}
use Rattle.std.proofs.lemmas.Bool.{cases_Bool, or_left, or_right}
use Rattle.std.proofs.lemmas.List.{drop-append-le, drop_all}
use Rattle.link_params.specs.declared.alarms.Device.TheVariants.{Rx}
use Rattle.link_params.specs.declared.orders.RxOrder.{RxOrder}
use Rattle.link_params.specs.Lanes.{LaneKind}
use Rattle.scenario.specs.Plans.{Plan}
use Rattle.link_model.specs.Edges.{is_reset}
use Rattle.link_model.specs.Moments.{History}
use Rattle.link_model.specs.Hunts.{begins_hunt, ends_in_hunt, from_hunt, session}
use Rattle.link_model.specs.Run.{run}
use Rattle.link_model.specs.Receives.{told_of}
use Rattle.link_model.specs.kept.Before.{current}
use Rattle.link_model.proofs.LaneHistory.{from-hunt-here, from-hunt-more}
use Rattle.link_model.proofs.RxHistory.{ends-in-hunt-more}
use Rattle.link_model.specs.Sessions.{at, decides_hunt, first_tick}
use Rattle.link_laws.proofs.RunTicks.{told-at}
use Rattle.link_model.proofs.RunTicks.{length-run, run-suc}
use Rattle.link_laws.proofs.SessionStages.{Goes, calm, first-low, or_parts3}

module _ (kind : LaneKind) (s : Plan) where
  pub hunt-told : (t : ℕ) → (at kind s t).told.hunt ≡ begins_hunt s (run kind s t)
  unfolding told_of
  hunt-told t = ap (λ (o : RxOrder). o.hunt) (told-at kind s t)

  pub begins-zero : begins_hunt s (run kind s 0) ≡ true
  unfolding run ends_in_hunt
  begins-zero = or_right (is_reset s Rx 0) true refl

  -- each run has a hunt
  begun : (t : ℕ) → (l : History) × (from_hunt (run kind s (suc t)) ≡ Some l)
  begun zero =
      let e = hunt-told 0 ∙ begins-zero in (
        at kind s 0 ∷ [],
        ap from_hunt (run-suc kind s 0)
            ∙ from-hunt-here (run kind s 0) (at kind s 0) e,
      )
  begun (suc t) = elim (cases_Bool (at kind s (suc t)).told.hunt) [
    | inl e ↦ (
      at kind s (suc t) ∷ [],
      ap from_hunt (run-suc kind s (suc t))
          ∙ from-hunt-here (run kind s (suc t)) (at kind s (suc t)) e,
    )
    | inr e ↦
        let k = begun t in (
          k.0 ++ at kind s (suc t) ∷ [],
          ap from_hunt (run-suc kind s (suc t))
              ∙ from-hunt-more (run kind s (suc t)) (at kind s (suc t)) k.0 e k.1,
        )
  ]

  pub session-hunt : (t : ℕ) → begins_hunt s (run kind s t) ≡ true → session s (run kind s t) ≡ []
  unfolding session
  session-hunt t e = rw e refl

  session-on : (t : ℕ) → begins_hunt s (run kind s t) ≡ false
      → session s (run kind s t) ≡ current (run kind s t)
  unfolding session
  session-on t e = rw e refl

  current-later : (t : ℕ) → (at kind s t).told.hunt ≡ false
      → current (run kind s (suc t)) ≡ session s (run kind s t) ++ at kind s t ∷ []
  current-later zero e = let bad = sym (hunt-told 0) ∙ e in let is = begins-zero in absurd (cc)
  current-later (suc t) e =
      let k = begun t in
      ap (λ (o : Option History). unwrap_or o []) (ap from_hunt (run-suc kind s (suc t))
      ∙ from-hunt-more (run kind s (suc t)) (at kind s (suc t)) k.0 e k.1)
      ∙ ap (λ (l : History). l ++ at kind s (suc t) ∷ [])
      (sym (session-on (suc t) (sym (hunt-told (suc t)) ∙ e)
      ∙ ap (λ (o : Option History). unwrap_or o []) k.1))

  current-suc : (t : ℕ) → current (run kind s (suc t)) ≡ session s (run kind s t) ++ at kind s t
      ∷ []
  current-suc t = elim (cases_Bool (at kind s t).told.hunt) [
    | inl e ↦
        ap (λ (o : Option History). unwrap_or o []) (ap from_hunt (run-suc kind s t)
        ∙ from-hunt-here (run kind s t) (at kind s t) e)
        ∙ ap (λ (l : History). l ++ at kind s t ∷ []) (sym (session-hunt t (sym (hunt-told t) ∙ e)))
    | inr e ↦ current-later t e
  ]

  -- a session has one tick more
  pub session-suc : (t : ℕ) → begins_hunt s (run kind s (suc t)) ≡ false
      → session s (run kind s (suc t)) ≡ session s (run kind s t) ++ at kind s t ∷ []
  session-suc t e = session-on (suc t) e ∙ current-suc t

module _ (kind : LaneKind) (s : Plan) (h t : ℕ) (g : Goes kind s h t) where
  pub begins-none : (u : ℕ) → first_tick kind s h ≤ u → u < t → decides_hunt kind s u ≡ false
      → begins_hunt s (run kind s (suc u)) ≡ false
  begins-none u low up no_hunt =
      let l = first-low kind s h t g in
      let ends : ends_in_hunt (run kind s (suc u)) ≡ false = ap ends_in_hunt (run-suc kind s u)
      ∙ ends-in-hunt-more (run kind s u) (at kind s u) ∙ no_hunt in
      let reset : is_reset s Rx (length (run kind s (suc u))) ≡ false =
      ap (is_reset s Rx) (length-run kind s (suc u))
      ∙ g.quiet (suc u) (omega arith) (omega arith) in
      ap₂ (λ (a b : Bool). a || b) reset ends

  pub begins-first : begins_hunt s (run kind s (first_tick kind s h)) ≡ true
  unfolding run ends_in_hunt
  begins-first = elim (cases_Bool (decides_hunt kind s h)) [
    | inl e ↦
        let now : first_tick kind s h ≡ suc h = rw e (omega arith) in
        let ends : ends_in_hunt (run kind s (suc h)) ≡ true = ap ends_in_hunt (run-suc kind s h)
        ∙ ends-in-hunt-more (run kind s h) (at kind s h) ∙ e in
        ap (λ (n : ℕ). begins_hunt s (run kind s n)) now
        ∙ or_right (is_reset s Rx (length (run kind s (suc h))))
        (ends_in_hunt (run kind s (suc h))) ends
    | inr e ↦
        let now : first_tick kind s h ≡ h = rw e refl in
        ap (λ (n : ℕ). begins_hunt s (run kind s n)) now
        ∙ elim (or_parts3 h (is_reset s Rx h) (decides_hunt kind s h) g.begins e) [
          | inl z ↦ ap (λ (n : ℕ). begins_hunt s (run kind s n)) z ∙ begins-zero kind s
          | inr r ↦ or_left (is_reset s Rx (length (run kind s h))) (ends_in_hunt (run kind s h))
              (ap (is_reset s Rx) (length-run kind s h) ∙ r)
        ]
  ]

  -- the session holds its ticks from the first one on
  pub session-is : (k : ℕ) → first_tick kind s h + k ≤ t
      → session s (run kind s (first_tick kind s h + k)) ≡ drop (first_tick kind s h)
      (run kind s (first_tick kind s h + k))
  session-is zero up =
      let f : ℕ = first_tick kind s h in
      let same : f + 0 ≡ f = omega arith in
      let long = length-run kind s f in
      ap (λ (n : ℕ). session s (run kind s n)) same ∙ session-hunt kind s f begins-first
      ∙ sym (ap (λ (n : ℕ). drop f (run kind s n)) same ∙ drop_all f (run kind s f) (omega arith))
  session-is (suc k) up =
      let f : ℕ = first_tick kind s h in
      let u : ℕ = f + k in
      let same : f + suc k ≡ suc u = omega arith in
      let long = length-run kind s u in
      let none = begins-none u (omega arith) (omega arith)
      (calm kind s h t g u (omega arith) (omega arith)) in
      ap (λ (n : ℕ). session s (run kind s n)) same ∙ session-suc kind s u none
      ∙ ap (λ (l : History). l ++ at kind s u ∷ []) (session-is k (omega arith))
      ∙ sym (drop-append-le f (run kind s u) (at kind s u ∷ []) (omega arith))
      ∙ sym (ap (drop f) (run-suc kind s u))
      ∙ sym (ap (λ (n : ℕ). drop f (run kind s n)) same)

  -- the same, by its tick
  pub session-at : (u : ℕ) → first_tick kind s h ≤ u → u ≤ t
      → session s (run kind s u) ≡ drop (first_tick kind s h) (run kind s u)
  session-at u low up =
      let same : first_tick kind s h + (u - first_tick kind s h) ≡ u = omega arith in
      sym (ap (λ (n : ℕ). session s (run kind s n)) same) ∙ session-is (u - first_tick kind s h)
      (omega arith) ∙ ap (λ (n : ℕ). drop (first_tick kind s h) (run kind s n)) same

  pub length-session : (u : ℕ) → first_tick kind s h ≤ u → u ≤ t
      → length (session s (run kind s u)) ≡ u - first_tick kind s h
  length-session u low up =
      let long = length-run kind s u in
      ap length (session-at u low up) ∙ length-drop (first_tick kind s h) (run kind s u)
      ∙ ap (λ (n : ℕ). n - first_tick kind s h) long

  -- and with the tick itself
  pub session-with : (u : ℕ) → first_tick kind s h ≤ u → u ≤ t
      → session s (run kind s u) ++ at kind s u
      ∷ [] ≡ drop (first_tick kind s h) (run kind s (suc u))
  session-with u low up =
      let long = length-run kind s u in
      ap (λ (l : History). l ++ at kind s u ∷ []) (session-at u low up)
      ∙ sym (drop-append-le (first_tick kind s h) (run kind s u) (at kind s u ∷ []) (omega arith))
      ∙ sym (ap (drop (first_tick kind s h)) (run-suc kind s u))
