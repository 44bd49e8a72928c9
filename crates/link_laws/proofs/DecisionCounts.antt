-- How many decisions come in the ticks in which the receiver stays as it is: one in each period.
use Rattle.std.proofs.Common.{◌≡◌, ℕ, zero, suc, ◌+◌, ◌*◌, ◌<◌, ◌≤◌, true, false, [], ◌∷◌, ◌++◌, length, Some, inl, inr, ap, ◌∙◌, length-append, arith}
use Rattle.std.proofs.lemmas.Bool.{cases_Bool, cases_lt}
use Rattle.link_params.specs.declared.alarms.Device.TheVariants.{Rx}
use Rattle.link_params.specs.Lanes.{LaneKind}
use Rattle.link_params.specs.Numbers.{period}
use Rattle.bring_up.specs.declared.stage.Decision.TheVariants as decision
use Rattle.bring_up.specs.Decisions.{Standing, after_decision}
use Rattle.scenario.specs.Plans.{Plan}
use Rattle.link_model.specs.Edges.{is_reset, phase}
use Rattle.link_model.specs.Sessions.{at}
use Rattle.link_laws.specs.Laws.{IsPlanRead}
use Rattle.link_laws.proofs.RunTicks.{stands}
use Rattle.link_laws.proofs.PlanRead.{has-edges, numbers}
use Rattle.link_laws.proofs.Phases.{phase-stays, phases-apart}
use Rattle.link_laws.proofs.PhaseComes.{phase-at}
use Rattle.link_laws.proofs.Stages.{decides-phase, decision_at, phase-decides, stands-decided, stands-undecided}

module _ (kind : LaneKind) (s : Plan) where
  -- the decisions before tick u since the stage began
  abbrev pub count_at : ℕ → ℕ
  count_at u = length (stands kind s u).since

  -- in the ticks from a on and before b the receiver decides to stay, or decides nothing
  pub record StaysIn (a b : ℕ) : Type 0 where
    pub quiet : (i : ℕ) → a < i → i ≤ b → is_reset s Rx i ≡ false
    pub stays : (i : ℕ) → a ≤ i → i < b → decision_at kind s i ≡ decision.Stay

  pub since-decided : (u : ℕ) → is_reset s Rx (suc u) ≡ false → decision_at kind s u ≡ decision.Stay
      → (at kind s u).decides ≡ true
      → (stands kind s (suc u)).since ≡ (stands kind s u).since ++ (at kind s u).reports ∷ []
  since-decided u none stay e =
      ap (λ (x : Standing). x.since) (stands-decided kind s u none e
      ∙ ap (after_decision (stands kind s u) (at kind s u).reports) stay)

  pub since-undecided : (u : ℕ) → is_reset s Rx (suc u) ≡ false → (at kind s u).decides ≡ false
      → (stands kind s (suc u)).since ≡ (stands kind s u).since
  since-undecided u none e = ap (λ (x : Standing). x.since) (stands-undecided kind s u none e)

  pub count-decided : (u : ℕ) → is_reset s Rx (suc u) ≡ false → decision_at kind s u ≡ decision.Stay
      → (at kind s u).decides ≡ true → count_at (suc u) ≡ count_at u + 1
  count-decided u none stay e = ap length (since-decided u none stay e)
      ∙ length-append (stands kind s u).since ((at kind s u).reports ∷ [])

  pub count-undecided : (u : ℕ) → is_reset s Rx (suc u) ≡ false → (at kind s u).decides ≡ false
      → count_at (suc u) ≡ count_at u
  count-undecided u none e = ap length (since-undecided u none e)

  pub count-grows : (v a b u : ℕ) → StaysIn a b → a ≤ u → u ≤ v → v ≤ b → count_at u ≤ count_at v
  count-grows zero a b u g from up to = let e : u ≡ 0 = omega arith in
      let same = ap count_at e in omega arith
  count-grows (suc v) a b u g from up to = elim (cases_lt u (suc v)) [
    | inr here ↦ let e : u ≡ suc v = omega arith in let same = ap count_at e in omega arith
    | inl below ↦
        let before = count-grows v a b u g from (omega arith) (omega arith) in
        let none = g.quiet (suc v) (omega arith) (omega arith) in
        elim (cases_Bool (at kind s v).decides) [
          | inl e ↦ let more = count-decided v none (g.stays v (omega arith) (omega arith)) e in
              omega arith
          | inr e ↦ let same = count-undecided v none e in omega arith
        ]
  ]

  -- n periods give n decisions or more
  pub count-many : (n a b y : ℕ) → IsPlanRead s → StaysIn a b → phase s Rx a ≡ Some y
      → a + n * period s.link.params ≤ b → count_at a + n ≤ count_at (a + n * period s.link.params)
  count-many zero a b y read g is to = let e : a + 0 * period s.link.params ≡ a = omega arith in
      let same = ap count_at e in omega arith
  count-many (suc n) a b y read g is to =
      let p : ℕ = period s.link.params in
      let u : ℕ = a + n * p in
      let end : a + suc n * p ≡ u + p = omega arith in
      let before = count-many n a b y read g is (omega arith) in
      let k = phase-stays s Rx a u y (has-edges s read) (omega arith)
      (λ i low up. g.quiet i low (omega arith)) is in
      let m = numbers s read in
      let d = phase-at s Rx u k.0 s.link.timing.rbd read
      (λ i low up. g.quiet i (omega arith) (omega arith)) k.1 m.rbd in
      let low = d.1 in
      let high = d.2 in
      let first = count-grows d.0 a b u g (omega arith) low (omega arith) in
      let one = count-decided d.0 (g.quiet (suc d.0) (omega arith) (omega arith))
      (g.stays d.0 (omega arith) (omega arith)) (decides-phase kind s d.0 d.3) in
      let last = count-grows (u + p) a b (suc d.0) g (omega arith) (omega arith) (omega arith) in
      let same = ap count_at end in
      omega arith

  -- the decisions since one in tick A are a period apart
  pub record IsSpaced (A u : ℕ) : Type 0 where
    pub last : ℕ
    pub spaced : A + count_at u * period s.link.params ≤ last
    pub from : A ≤ last
    pub below : last < u
    pub decides : (at kind s last).decides ≡ true

  pub count-few : (u A b : ℕ) → IsPlanRead s → StaysIn (suc A) b → is_reset s Rx (suc A) ≡ false
      → (at kind s A).decides ≡ true → count_at (suc A) ≡ 0 → A < u → u ≤ b → IsSpaced A u
  count-few zero A b read g none decides zero_count low up = absurd (omega arith)
  count-few (suc u) A b read g none decides zero_count low up = elim (cases_lt A u) [
    | inr here ↦
        let e : u ≡ A = omega arith in
        let same : count_at (suc u) ≡ 0 = ap (λ (x : ℕ). count_at (suc x)) e ∙ zero_count in
        let product : count_at (suc u) * period s.link.params ≡ 0 * period s.link.params =
        ap (λ (x : ℕ). x * period s.link.params) same in
        record {
          last = A;
          spaced = omega arith;
          from = omega arith;
          below = omega arith;
          decides =
              decides;
        }
    | inl later ↦
        let k = count-few u A b read g none decides zero_count later (omega arith) in
        let spaced = k.spaced in
        let from = k.from in
        let below = k.below in
        let quiet = g.quiet (suc u) (omega arith) (omega arith) in
        elim (cases_Bool (at kind s u).decides) [
          | inr e ↦
              let same = count-undecided u quiet e in
              let product : count_at (suc u) * period s.link.params
              ≡ count_at u * period s.link.params =
              ap (λ (x : ℕ). x * period s.link.params) same in
              record {
                last = k.last;
                spaced = omega arith;
                from = from;
                below =
                    omega arith;
                decides = k.decides;
              }
          | inl e ↦
              let more = count-decided u quiet (g.stays u (omega arith) (omega arith)) e in
              let apart = phases-apart s Rx k.last u s.link.timing.rbd (has-edges s read) below
              (λ i a c. elim (cases_lt (suc A) i) [
                | inl inside ↦ g.quiet i inside (omega arith)
                | inr first ↦ let same : i ≡ suc A = omega arith in ap (is_reset s Rx) same ∙ none
              ])
              (phase-decides kind s k.last k.decides) (phase-decides kind s u e) in
              let product : count_at (suc u) * period s.link.params
              ≡ (count_at u + 1) * period s.link.params =
              ap (λ (x : ℕ). x * period s.link.params) more in
              record {
                last = u;
                spaced = omega arith;
                from = omega arith;
                below =
                    omega arith;
                decides = e;
              }
        ]
  ]
