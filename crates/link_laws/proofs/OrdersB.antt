-- What 8b/10b lanes are told to send in a session: /K/ while SYNC~ is seen low and up to the first
-- place, and place after place from there on.
use Rattle.std.proofs.Common.{◌≡◌, ◌⊎◌, ℕ, zero, suc, ◌+◌, ◌-◌, ◌*◌, ◌%◌, ◌<◌, ◌≤◌, ◌==◌, nat_lt, if◌then◌else◌, Bool, true, false, List, [], ◌∷◌, ◌++◌, length, Option, Some, None, option_map, unwrap_or, inl, inr, refl, sym, ap, ◌∙◌, arith}
use Rattle.std.proofs.lemmas.Bool.{cases_Bool, cases_lt, cond-true, cond-false, eq-eqb, ne_eqb, lt-ltb}
use Rattle.link_params.specs.declared.alarms.Device.TheVariants.{Tx}
use Rattle.link_params.specs.declared.orders.TxOrder.TheVariants.{Comma, Ilas, Data}
use Rattle.link_params.specs.Laws.{is_b}
use Rattle.link_params.specs.Lanes.{LaneKind}
use Rattle.link_params.specs.Numbers.{period}
use Rattle.scenario.specs.Plans.{Plan}
use Rattle.link_model.specs.Edges.{is_reset}
use Rattle.link_model.specs.Orders.{Observed, after_boundary, after_low, from_boundary, is_boundary, order_b, since_boundary}
use Rattle.link_model.specs.Sends.{observed_at}
use Rattle.link_model.specs.Run.{run}
use Rattle.link_model.specs.kept.Before.{observed_before}
use Rattle.link_model.specs.Sessions.{at}
use Rattle.link_laws.specs.LaneLaws.{is_first_place}
use Rattle.link_laws.proofs.FirstPlace.{first-b, order-is, seen, seen-next, seen-suc, tx-order-b}
use Rattle.link_laws.proofs.OrdersGo.{low-last, low-more, since-counts}

-- ---- lists of observed ticks

boundary-few : (xs : List Observed) (y : Observed) → length (from_boundary xs) ≡ 0
    → length (from_boundary (xs ++ y ∷ [])) ≤ 1
unfolding from_boundary
boundary-few [] y none =
    elim (cases_Bool (is_boundary y.phase)) [
      | inl e ↦ rw e (omega arith)
      | inr e ↦
          rw e (omega arith)
    ]
boundary-few (x ∷ xs) y none = elim (cases_Bool (is_boundary x.phase)) [
  | inl here ↦ let bad : suc (length xs) ≡ 0 = sym (rw here refl) ∙ none in absurd (omega arith)
  | inr apart ↦
      rw apart
      (boundary-few xs y (let k : length (from_boundary (x ∷ xs)) ≡ length (from_boundary xs) =
      rw apart refl in sym k ∙ none))
]

no-boundary : length (from_boundary []) ≡ 0
unfolding from_boundary
no-boundary = refl

option-few : (o : Option (List Observed)) (y : Observed)
    → length (from_boundary (unwrap_or o [])) ≡ 0
    → length (from_boundary (unwrap_or (option_map (λ l. l ++ y ∷ []) o) [])) ≤ 1
option-few (Some l) y none = boundary-few l y none
option-few None y none = let z = no-boundary in omega arith

low-none : (xs : List Observed) (y : Observed) → y.low ≡ true
    → length (since_boundary (xs ++ y ∷ [])) ≡ 0
low-none xs y low = ap (λ o. length (from_boundary (unwrap_or o []))) (low-last xs y low)
    ∙ no-boundary

since-few : (xs : List Observed) (y : Observed) → length (since_boundary xs) ≡ 0
    → length (since_boundary (xs ++ y ∷ [])) ≤ 1
since-few xs y none = elim (cases_Bool y.low) [
  | inl low ↦ let z = low-none xs y low in omega arith
  | inr high ↦
      let e = ap (λ o. length (from_boundary (unwrap_or o []))) (low-more xs y high) in
      let few = option-few (after_low xs) y none in
      omega arith
]

-- ---- ticks

module _ (kind : LaneKind) (s : Plan) (mode : is_b s.link.params.mode ≡ true) where
  -- so many ticks came from the boundary on, with tick q
  abbrev pub count : ℕ → ℕ
  count q = length (since_boundary (seen kind s q))

  order-b : (q : ℕ) → (at kind s q).order ≡ order_b s.link.params (seen kind s q)
  order-b q = order-is kind s q ∙ tx-order-b s.link.params (seen kind s q) mode

  pub order-none : (q : ℕ) → count q ≡ 0 → (at kind s q).order ≡ Comma
  order-none q none = order-b q
      ∙ cond-true (count q == 0) Comma (after_boundary s.link.params (count q - 1))
      (eq-eqb (count q) 0 none)

  pub order-some : (q n : ℕ) → count q ≡ n + 1
      → (at kind s q).order ≡ after_boundary s.link.params n
  order-some q n some =
      let e : count q - 1 ≡ n = omega arith in
      order-b q ∙ cond-false (count q == 0) Comma (after_boundary s.link.params (count q - 1))
      (ne_eqb (count q) 0 (λ z. omega arith)) ∙ ap (after_boundary s.link.params) e

  pub first-count : (q : ℕ) → is_first_place (at kind s q).order ≡ true → count q ≡ 1
  first-count q first = first-b s.link.params (seen kind s q) (sym (ap is_first_place (order-b q))
      ∙ first)

  pub count-first : (q : ℕ) → count q ≡ 1 → 0 < period s.link.params
      → is_first_place (at kind s q).order ≡ true
  count-first q one some =
      ap is_first_place (order-some q 0 one)
      ∙ ap is_first_place
      (cond-true (nat_lt 0 (4 * period s.link.params)) (Ilas 0)
      (Data (0 % period s.link.params) (0 == 4 * period s.link.params))
      (lt-ltb 0 (4 * period s.link.params) (omega arith)))

  pub count-low : (q : ℕ) → (observed_at s (run kind s q) q).low ≡ true → count q ≡ 0
  count-low q low =
      ap (λ l. length (since_boundary l)) (seen-next kind s q)
      ∙ low-none (if is_reset s Tx q then [] else observed_before s (run kind s q))
      (observed_at s (run kind s q) q) low

  -- no first place, no place
  pub count-still : (b m : ℕ) → count b ≡ 0 → ((x : ℕ) → b < x → x ≤ m → is_reset s Tx x ≡ false)
      → 0 < period s.link.params
      → ((x : ℕ) → b < x → x ≤ m → is_first_place (at kind s x).order ≡ false) → (j : ℕ) → b + j ≤ m
      → count (b + j) ≡ 0
  count-still b m none quiet some absent zero up = let e : b + 0 ≡ b = omega arith in ap count e
      ∙ none
  count-still b m none quiet some absent (suc j) up =
      let u : ℕ = b + j in
      let e : b + suc j ≡ suc u = omega arith in
      let before = count-still b m none quiet some absent j (omega arith) in
      let few = since-few (seen kind s u) (observed_at s (run kind s (suc u)) (suc u)) before in
      let next : count (suc u)
      ≡ length
      (since_boundary (seen kind s u ++ observed_at s (run kind s (suc u)) (suc u) ∷ [])) =
      ap (λ l. length (since_boundary l))
      (seen-suc kind s u (quiet (suc u) (omega arith) (omega arith))) in
      ap count e ∙ elim (cases_lt 0 (count (suc u))) [
        | inr z ↦ let k : count (suc u) ≡ 0 = omega arith in k
        | inl one ↦
            let k : count (suc u) ≡ 1 = omega arith in
            let yes = count-first (suc u) k some in
            let bad = absent (suc u) (omega arith) (omega arith) in
            absurd (cc)
      ]

  -- from a first place on
  pub count-goes : (b t : ℕ) → is_first_place (at kind s b).order ≡ true
      → ((x : ℕ) → b < x → x ≤ t → is_reset s Tx x ≡ false)
      → ((x : ℕ) → b < x → x ≤ t → (observed_at s (run kind s x) x).low ≡ false) → (j : ℕ)
      → b + j ≤ t → count (b + j) ≡ j + 1
  count-goes b t first quiet high j up =
      since-counts kind s b t (sym (ap is_first_place (order-b b)) ∙ first) quiet high j up

-- the least tick from a on that passes a test, if one below n does
pub least-of : (n a : ℕ) (f : ℕ → Bool) → (((x : ℕ) → a ≤ x → x < a + n → f x ≡ false))
    ⊎ ((x : ℕ) × (a ≤ x) × (x < a + n) × (f x ≡ true) × ((y : ℕ) → a ≤ y → y < x → f y ≡ false))
least-of zero a f = inl (λ x low up. absurd (omega arith))
least-of (suc n) a f = elim (cases_Bool (f a)) [
  | inl here ↦ inr (a, omega arith, omega arith, here, λ y low up. absurd (omega arith))
  | inr apart ↦ elim (least-of n (suc a) f) [
    | inl none ↦
        inl
        (λ x low up. elim (cases_lt a x) [
          | inl later ↦
              none x (omega arith) (omega arith)
          | inr here ↦ let e : x ≡ a = omega arith in ap f e
              ∙ apart
        ])
    | inr k ↦
        let low = k.1 in
        let up = k.2 in
        inr (
          k.0,
          omega arith,
          omega arith,
          k.3,
          λ y from to. elim (cases_lt a y) [
            | inl later ↦
                k.4 y (omega arith) to
            | inr here ↦ let e : y ≡ a = omega arith in ap f e ∙ apart
          ],
        )
  ]
]
