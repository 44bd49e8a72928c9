-- The blocks of a held place that begin an extended multiblock are those whose order is the first
-- place.
use Rattle.std.proofs.Common.{◌≡◌, ℕ, ◌+◌, ◌-◌, ◌*◌, ◌/◌, ◌%◌, ◌==◌, ◌<◌, ◌≤◌, ◌&&◌, Bool, true, false, refl, sym, ap, ◌∙◌, inl, inr, eq-eqb, ne_eqb, mod-eq_of_lt, mod-lt, mul_comm, mul_assoc, div-add-mod', arith}
use Rattle.std.proofs.Math.Nat.{add-mod, add-mul-mod_self_left}
use Rattle.std.proofs.lemmas.Nat.{mod-mul-add}
use Rattle.std.proofs.lemmas.Bool.{cases_lt, cases_eq, eqb-true}
use Rattle.link_params.specs.declared.alarms.Device.TheVariants.{Tx}
use Rattle.link_params.specs.Laws.{is_b}
use Rattle.scenario.specs.Plans.{Plan}
use Rattle.link_model.specs.Edges.{edge_tick}
use Rattle.multiblock.specs.Places.{Place}
use Rattle.lane_c.specs.Locking.{is_first}
use Rattle.lane_c.specs.Received.{lanes_c}
use Rattle.lane_c.proofs.SenderSteps.{mod-both, period-c}
use Rattle.link_model.specs.Sessions.{at}
use Rattle.link_laws.specs.LaneLaws.{is_first_place}
use Rattle.link_laws.proofs.Phases.{HasEdges}
use Rattle.link_laws_c.proofs.Holding.{Holds}
use Rattle.link_laws_c.proofs.OnGrid.{gives-since}
use Rattle.link_laws_c.proofs.SentBits.{not-b}
use Rattle.link_laws_c.proofs.SentForm.{end-from}
use Rattle.link_laws_c.proofs.SentTicks.{order-block}

-- two tests that say the same
pub same-test : (a b : Bool) → (a ≡ true → b ≡ true) → (b ≡ true → a ≡ true) → a ≡ b
same-test true true x y = refl
same-test false false x y = refl
same-test true false x y = sym (x refl)
same-test false true x y = y refl

turned : (n e : ℕ) → e ≤ n → n < e + e → n % e ≡ n - e
turned n e low up =
    let one : e * 1 ≡ e = omega arith in
    let split : n ≡ (n - e) + e * 1 = omega (arith, one, low) in
    let less : n - e < e = omega arith in
    ap (λ (m : ℕ). m % e) split ∙ add-mul-mod_self_left (n - e) e 1 ∙ mod-eq_of_lt less

-- the number before is r exactly where the number is the one after r
before-after : (e j r : ℕ) → 1 ≤ e → r < e → ((j + (e - 1)) % e == r) ≡ (j % e == (r + 1) % e)
before-after e j r some small =
    let a : j % e < e = mod-lt j some in
    let last : (e - 1) % e ≡ e - 1 = mod-eq_of_lt (let l : e - 1 < e = omega arith in l) in
    let both : (j + (e - 1)) % e ≡ (j % e + (e - 1)) % e = add-mod j (e - 1) e
    ∙ ap (λ (n : ℕ). (j % e + n) % e) last in
    elim (cases_eq (j % e) 0) [
      | inl none ↦
          let is : (j + (e - 1)) % e ≡ e - 1 = both ∙ ap (λ (n : ℕ). (n + (e - 1)) % e) none
          ∙ mod-eq_of_lt (let l : 0 + (e - 1) < e = omega arith in l) ∙ omega arith in
          elim (cases_lt (r + 1) e) [
            | inl more ↦
                let next : (r + 1) % e ≡ r + 1 = mod-eq_of_lt more in
                ne_eqb ((j + (e - 1)) % e) r (λ x. omega (arith, is, x, more))
                ∙ sym (ne_eqb (j % e) ((r + 1) % e) (λ x. omega (arith, none, next, x)))
            | inr end ↦
                let next : (r + 1) % e ≡ r + 1 - e = turned (r + 1) e end (omega arith) in
                eq-eqb ((j + (e - 1)) % e) r (omega (arith, is, small, end))
                ∙ sym (eq-eqb (j % e) ((r + 1) % e) (omega (arith, none, next, small)))
          ]
      | inr rest ↦
          let up : 0 < j % e = omega (arith, rest) in
          let is : (j + (e - 1)) % e ≡ j % e + (e - 1) - e = both
          ∙ turned (j % e + (e - 1)) e (omega (arith, up, some)) (omega (arith, a, some)) in
          elim (cases_lt (r + 1) e) [
            | inl more ↦
                let next : (r + 1) % e ≡ r + 1 = mod-eq_of_lt more in
                same-test ((j + (e - 1)) % e == r) (j % e == (r + 1) % e)
                (λ x. let y = eqb-true ((j + (e - 1)) % e) r x in
                eq-eqb (j % e) ((r + 1) % e) (omega (arith, is, y, next, up, some)))
                (λ x. let y = eqb-true (j % e) ((r + 1) % e) x in
                eq-eqb ((j + (e - 1)) % e) r (omega (arith, is, y, next, some)))
            | inr end ↦
                let next : (r + 1) % e ≡ r + 1 - e = turned (r + 1) e end (omega arith) in
                ne_eqb ((j + (e - 1)) % e) r (λ x. omega (arith, is, x, a, up, small, end))
                ∙ sym (ne_eqb (j % e) ((r + 1) % e) (λ x. omega (arith, next, x, up, small)))
          ]
    ]

-- a whole number of multiblocks is a whole number of extended ones
whole-turns : (k e : ℕ) → 1 ≤ e → ((32 * k) % (32 * e) == 0) ≡ (k % e == 0)
whole-turns k e some =
    let q : ℕ = k / e in
    let low : k % e < e = mod-lt k some in
    let whole : q * e + k % e ≡ k = div-add-mod' k e in
    let regroup : q * (32 * e) ≡ 32 * (q * e) = mul_comm q (32 * e) ∙ mul_assoc 32 e q
    ∙ ap (λ n. 32 * n) (mul_comm e q) in
    let parts : 32 * k ≡ q * (32 * e) + 32 * (k % e) = omega (arith, whole, regroup) in
    let is : (32 * k) % (32 * e) ≡ 32 * (k % e) = ap (λ n. n % (32 * e)) parts
    ∙ mod-mul-add q (32 * e) (32 * (k % e)) (omega (arith, low)) in
    same-test ((32 * k) % (32 * e) == 0) (k % e == 0)
    (λ x. let y = eqb-true ((32 * k) % (32 * e)) 0 x in eq-eqb (k % e) 0 (omega (arith, is, y)))
    (λ x. let y = eqb-true (k % e) 0 x in eq-eqb ((32 * k) % (32 * e)) 0 (omega (arith, is, y)))

first-of : (e n r q x : ℕ) → 1 ≤ e → r < e → x ≤ q + n → q % 32 ≡ x % 32
    → ((j : ℕ) → x ≤ q + 32 * j → (j % e == r) ≡ ((q + 32 * j - x) / 32 % e == e - 1))
    → ((n % 32 == 0) && ((n / 32) % e == (r + 1) % e)) ≡ ((q + n - x) % (32 * e) == 0)
first-of e n r q x some small from step turns = elim (cases_eq (n % 32) 0) [
  | inr inside ↦
      let m : ℕ = q + n - x in
      let low : m % 32 ≡ n % 32 = omega arith in
      let not_first : (n % 32 == 0) ≡ false = ne_eqb (n % 32) 0 inside in
      let deep : (m % (32 * e) == 0) ≡ false =
      ne_eqb (m % (32 * e)) 0 (λ z. let both = mod-both m e in
      inside (sym low ∙ sym both ∙ ap (λ (k : ℕ). k % 32) z ∙ omega arith)) in
      rw (not_first, deep) refl
  | inl begins ↦
      let j : ℕ = n / 32 in
      let m : ℕ = q + n - x in
      let k : ℕ = m / 32 in
      let whole : 32 * k ≡ m = omega arith in
      let number : (q + 32 * (j + (e - 1)) - x) / 32 ≡ (e - 1) + k = omega arith in
      let last : (e - 1) % e ≡ e - 1 = mod-eq_of_lt (let l : e - 1 < e = omega arith in l) in
      let turn : (k % e == 0) ≡ (((e - 1) + k) % e == e - 1) =
      sym (end-from e (e - 1) k some
      ∙ ap (λ (z : ℕ). k % e == z) (let z : e - 1 - (e - 1) % e ≡ 0 = omega (arith, last) in
      z)) in
      rw (eq-eqb (n % 32) 0 begins)
      (sym (before-after e j r some small) ∙ turns (j + (e - 1)) (omega arith)
      ∙ ap (λ (z : ℕ). z % e == e - 1) number ∙ sym turn ∙ sym (whole-turns k e some)
      ∙ ap (λ (z : ℕ). z % (32 * e) == 0) whole)
]

pub first-of-place : (s : Plan) (h t lane u n : ℕ) (p : Place) → HasEdges s
    → is_b s.link.params.mode ≡ false → 1 ≤ s.link.params.e → (k : Holds s h t lane u p)
    → edge_tick s Tx k.sent.edge ≤ k.sent.q + n → k.sent.q + n ≤ t
    → is_first s.link.params.e p n ≡ is_first_place (at lanes_c s (k.sent.q + n)).order
first-of-place s h t lane u n p e mode some k from low =
    let x : ℕ = edge_tick s Tx k.sent.edge in
    let m : ℕ = k.sent.q + n in
    first-of s.link.params.e n p.remainder k.sent.q x some k.small from k.sent.step k.turns
    ∙ sym (ap is_first_place
    (order-block s m k.sent.edge e mode (gives-since s Tx t m k.sent.edge k.sent.gives from low))
    ∙ ap (λ (z : ℕ). (m - x) % z == 0) (period-c s.link.params (not-b s.link.params.mode mode)))
