-- From a first place on the places of the alignment sequence and of the data follow each other.
use Rattle.std.proofs.Common.{◌≡◌, ℕ, zero, suc, ◌+◌, ◌-◌, ◌*◌, ◌<◌, ◌≤◌, ◌%◌, ◌==◌, nat_lt, if◌then◌else◌, Bool, true, false, List, [], ◌∷◌, ◌++◌, length, map, replicate, get_or, Option, Some, None, option_map, unwrap_or, inl, inr, refl, sym, ap, ◌∙◌, length-append, arith}
use Rattle.std.proofs.Math.Nat.{add-mul-mod_self_left, mod-eq_of_lt}
use Rattle.std.proofs.lemmas.Bool.{cases_Bool, cases_lt, cond-true, cond-false, lt-ltb, le-ltb, ne_eqb}
use Rattle.std.proofs.lemmas.List.{get_or-append_right, get_or-map, get_or-replicate, get_or-take, get_or_append_left, get_or_push, length-replicate}
use Rattle.link_params.specs.declared.alarms.Device.TheVariants.{Tx}
use Rattle.link_params.specs.declared.fields.Params.{Params}
use Rattle.link_params.specs.declared.orders.TxOrder.TheVariants.{Block, Comma, Data, Ilas, Silent}
use Rattle.link_params.specs.Laws.{is_b}
use Rattle.link_params.specs.Lanes.{LaneKind}
use Rattle.link_params.specs.Numbers.{period}
use Rattle.bring_up.specs.Decisions.{is_hunting}
use Rattle.scenario.specs.Plans.{Plan}
use Rattle.link_model.specs.Edges.{edge_tick, is_reset}
use Rattle.link_model.specs.Orders.{Observed, after_boundary, after_low, from_boundary, from_edge, is_boundary, or_else, order_b, order_c, since_boundary}
use Rattle.link_model.specs.Moments.{Moment}
use Rattle.link_model.specs.Sends.{data_place, observed_at, seen_low}
use Rattle.link_model.specs.Run.{run}
use Rattle.link_model.specs.kept.Before.{observed_before}
use Rattle.link_model.specs.Sessions.{at}
use Rattle.link_laws.specs.Premises.{GivesPhase}
use Rattle.link_laws.specs.LaneLaws.{is_first_place}
use Rattle.link_model.proofs.RunTicks.{length-run, run-suc}
use Rattle.link_laws.proofs.Congruences.{same-add}
use Rattle.link_laws.proofs.Phases.{HasEdges, edge-of-phase, gives-later, phase-of}
use Rattle.link_laws.proofs.FirstPlace.{counts-edge, first-b, first-place, order-is, seen, seen-next, seen-suc, tx-order-b, tx-order-c}

-- the ticks that the alignment sequence takes
abbrev pub ilas_ticks : Params → ℕ
ilas_ticks p = if is_b p.mode then 4 * period p else 0

-- ---- lists of observed ticks

low-step : (o : Option (List Observed)) (x : Observed) (xs : List Observed) (y : Observed)
    → or_else (option_map (λ l. l ++ y ∷ []) o) (if x.low then Some (xs ++ y ∷ []) else None)
    ≡ option_map (λ l. l ++ y ∷ []) (or_else o (if x.low then Some xs else None))
low-step (Some l) x xs y = refl
low-step None x xs y = elim (cases_Bool x.low) [ inl here ↦ rw here refl | inr here ↦ rw here refl ]

pub low-more : (xs : List Observed) (y : Observed) → y.low ≡ false
    → after_low (xs ++ y ∷ []) ≡ option_map (λ l. l ++ y ∷ []) (after_low xs)
unfolding after_low
low-more [] y high = rw high refl
low-more (x ∷ xs) y high = ap (λ o. or_else o (if x.low then Some (xs ++ y ∷ []) else None))
    (low-more xs y high) ∙ low-step (after_low xs) x xs y

boundary-more : (xs : List Observed) (y : Observed) → 0 < length (from_boundary xs)
    → length (from_boundary (xs ++ y ∷ [])) ≡ length (from_boundary xs) + 1
unfolding from_boundary
boundary-more [] y some = absurd (omega arith)
boundary-more (x ∷ xs) y some = elim (cases_Bool (is_boundary x.phase)) [
  | inl here ↦ let long = length-append xs (y ∷ []) in rw here (omega arith)
  | inr apart ↦
      let rest : 0 < length (from_boundary xs) =
      (let k : length (from_boundary (x ∷ xs)) ≡ length (from_boundary xs) = rw apart refl in
      omega arith) in
      rw apart (boundary-more xs y rest)
]

no-some : 0 < length (from_boundary []) → ⊥
unfolding from_boundary
no-some some = omega arith

since-step : (o : Option (List Observed)) (y : Observed)
    → 0 < length (from_boundary (unwrap_or o []))
    → length (from_boundary (unwrap_or (option_map (λ l. l ++ y ∷ []) o) []))
    ≡ length (from_boundary (unwrap_or o [])) + 1
since-step (Some l) y some = boundary-more l y some
since-step None y some = absurd (no-some some)

pub since-more : (xs : List Observed) (y : Observed) → y.low ≡ false
    → 0 < length (since_boundary xs)
    → length (since_boundary (xs ++ y ∷ [])) ≡ length (since_boundary xs) + 1
since-more xs y high some =
    ap (λ o. length (from_boundary (unwrap_or o []))) (low-more xs y high)
    ∙ since-step (after_low xs) y some

-- ---- ticks

-- a low tick has none after it
pub low-last : (xs : List Observed) (y : Observed) → y.low ≡ true
    → after_low (xs ++ y ∷ []) ≡ Some []
unfolding after_low
low-last [] y low = rw low refl
low-last (x ∷ xs) y low = ap (λ o. or_else o (if x.low then Some (xs ++ y ∷ []) else None))
    (low-last xs y low)

push-high : (xs : List Observed) (y : Observed) → length (since_boundary (xs ++ y ∷ [])) ≡ 1
    → y.low ≡ false
unfolding from_boundary
push-high xs y one = elim (cases_Bool y.low) [
  | inr high ↦ high
  | inl low ↦ let bad : zero ≡ suc zero =
      sym (ap (λ o. length (from_boundary (unwrap_or o []))) (low-last xs y low)) ∙ one in
      absurd (cc)
]

place-b : (p : Params) (hs : List Observed) (j : ℕ) → is_b p.mode ≡ true
    → length (since_boundary hs) ≡ j + 1
    → data_place (order_b p hs)
    ≡ (if nat_lt j (ilas_ticks p) then None else Some ((j - ilas_ticks p) % period p))
place-b p hs j b count =
    let n : ℕ = 4 * period p in
    let all : ilas_ticks p ≡ n = cond-true (is_b p.mode) (4 * period p) 0 b in
    let last : length (since_boundary hs) - 1 ≡ j = omega arith in
    let order : order_b p hs ≡ after_boundary p j =
    cond-false (length (since_boundary hs) == 0) Comma
    (after_boundary p (length (since_boundary hs) - 1))
    (ne_eqb (length (since_boundary hs)) 0 (λ z. omega arith))
    ∙ ap (after_boundary p) last in
    ap data_place order ∙ (elim (cases_lt j n) [
      | inl early ↦
          ap data_place (cond-true (nat_lt j n) (Ilas j) (Data (j % period p) (j == n))
          (lt-ltb j n early))
          ∙ sym (cond-true (nat_lt j (ilas_ticks p)) None (Some ((j - ilas_ticks p) % period p))
          (lt-ltb j (ilas_ticks p) (omega arith)))
      | inr late ↦
          let whole : j ≡ (j - n) + period p * 4 = omega arith in
          let same : j - n ≡ j - ilas_ticks p = omega arith in
          ap data_place (cond-false (nat_lt j n) (Ilas j) (Data (j % period p) (j == n))
          (le-ltb j n late))
          ∙ ap (λ (k : ℕ). Some (k % period p)) whole
          ∙ ap Some (add-mul-mod_self_left (j - n) (period p) 4)
          ∙ ap (λ (k : ℕ). Some (k % period p)) same
          ∙ sym (cond-false (nat_lt j (ilas_ticks p)) None (Some ((j - ilas_ticks p) % period p))
          (le-ltb j (ilas_ticks p) (omega arith)))
    ])

place-c : (p : Params) (hs : List Observed) (j : ℕ) → is_b p.mode ≡ false
    → 0 < length (from_edge hs) → (length (from_edge hs) - 1) % period p ≡ j % period p
    → data_place (order_c p hs)
    ≡ (if nat_lt j (ilas_ticks p) then None else Some ((j - ilas_ticks p) % period p))
place-c p hs j c some place =
    let all : ilas_ticks p ≡ 0 = cond-false (is_b p.mode) (4 * period p) 0 c in
    let same : j ≡ j - ilas_ticks p = omega arith in
    ap data_place
    (cond-false (length (from_edge hs) == 0) Silent
    (Block ((length (from_edge hs) - 1) % period p) (length (from_edge hs) == 1))
    (ne_eqb (length (from_edge hs)) 0 (λ z. omega arith)))
    ∙ ap Some place ∙ ap (λ (k : ℕ). Some (k % period p)) same
    ∙ sym (cond-false (nat_lt j (ilas_ticks p)) None (Some ((j - ilas_ticks p) % period p))
    (le-ltb j (ilas_ticks p) (omega arith)))

module _ (kind : LaneKind) (s : Plan) where
  -- tick k of a run
  pub run-at : (t k : ℕ) (m : Moment) → k < t → get_or (run kind s t) k m ≡ at kind s k
  run-at zero k m below = absurd (omega arith)
  run-at (suc t) k m below =
      let long = length-run kind s t in
      ap (λ l. get_or l k m) (run-suc kind s t) ∙ (elim (cases_lt k t) [
        | inl early ↦ get_or_append_left (run kind s t) (at kind s t ∷ []) m k (omega arith)
            ∙ run-at t k m early
        | inr last ↦
            let same : k ≡ t = omega arith in
            get_or_push (run kind s t) (at kind s t) m k (omega arith) ∙ sym (ap (at kind s) same)
      ])

  abbrev lows_before : ℕ → List Bool
  lows_before t = map (λ (m : Moment). is_hunting m.stage) (run kind s t)

  seen-level : (t : ℕ)
      → (observed_at s (run kind s t) t).low ≡ get_or (replicate (s.link.timing.sync_delay + 1) true
      ++ lows_before t) t true
  unfolding seen_low
  seen-level t =
      let long = length-run kind s t in
      get_or-take (length (run kind s t) + 1) (replicate (s.link.timing.sync_delay + 1) true
      ++ lows_before t) t true (omega arith)

  -- what the transmitter sees of SYNC~ is the level so many ticks before, and low at the beginning
  pub low-early : (t : ℕ) → t ≤ s.link.timing.sync_delay
      → (observed_at s (run kind s t) t).low ≡ true
  low-early t early =
      let n : ℕ = s.link.timing.sync_delay + 1 in
      let long = length-replicate n true in
      seen-level t ∙ get_or_append_left (replicate n true) (lows_before t) true t (omega arith)
      ∙ get_or-replicate n t true true (omega arith)

  pub low-late : (t : ℕ) → s.link.timing.sync_delay < t
      → (observed_at s (run kind s t) t).low
      ≡ is_hunting (at kind s (t - (s.link.timing.sync_delay + 1))).stage
  low-late t late =
      let n : ℕ = s.link.timing.sync_delay + 1 in
      let k : ℕ = t - n in
      let m : Moment = at kind s 0 in
      let long = length-run kind s t in
      seen-level t ∙ get_or-append_right (replicate n true) (lows_before t) n t true
      (length-replicate n true) (omega arith)
      ∙ get_or-map (λ (m : Moment). is_hunting m.stage) (run kind s t) k m true (omega arith)
      ∙ ap (λ (m : Moment). is_hunting m.stage) (run-at t k m (omega arith))

  -- the tick of a first place sees SYNC~ high
  pub first-high : (b : ℕ) → is_b s.link.params.mode ≡ true
      → is_first_place (at kind s b).order ≡ true → (observed_at s (run kind s b) b).low ≡ false
  first-high b mode first =
      let p = s.link.params in
      let is : is_first_place (order_b p (seen kind s b)) ≡ true =
      ap is_first_place (sym (order-is kind s b ∙ tx-order-b p (seen kind s b) mode)) ∙ first in
      let one = first-b p (seen kind s b) is in
      push-high (if is_reset s Tx b then [] else observed_before s (run kind s b))
      (observed_at s (run kind s b) b)
      (sym (ap (λ l. length (since_boundary l)) (seen-next kind s b)) ∙ one)

  -- in 8b/10b lanes, ticks since the boundary
  pub since-counts : (b t : ℕ) → is_first_place (order_b s.link.params (seen kind s b)) ≡ true
      → ((x : ℕ) → b < x → x ≤ t → is_reset s Tx x ≡ false)
      → ((x : ℕ) → b < x → x ≤ t → (observed_at s (run kind s x) x).low ≡ false)
      → (j : ℕ) → b + j ≤ t → length (since_boundary (seen kind s (b + j))) ≡ j + 1
  since-counts b t first quiet high zero up =
      let same : b + 0 ≡ b = omega arith in
      ap (λ (n : ℕ). length (since_boundary (seen kind s n))) same
      ∙ first-b s.link.params (seen kind s b) first
  since-counts b t first quiet high (suc j) up =
      let u : ℕ = b + j in
      let same : b + suc j ≡ suc u = omega arith in
      let before = since-counts b t first quiet high j (omega arith) in
      let longer = seen-suc kind s u (quiet (suc u) (omega arith) (omega arith)) in
      ap (λ (n : ℕ). length (since_boundary (seen kind s n))) same
      ∙ ap (λ l. length (since_boundary l)) longer
      ∙ since-more (seen kind s u) (observed_at s (run kind s (suc u)) (suc u))
      (high (suc u) (omega arith) (omega arith)) (omega arith)
      ∙ ap (λ (n : ℕ). n + 1) before ∙ omega arith

  -- the order n ticks after a first place
  pub places-go : (b t : ℕ) → HasEdges s → is_first_place (at kind s b).order ≡ true
      → ((x : ℕ) → b < x → x ≤ t → is_reset s Tx x ≡ false)
      → (is_b s.link.params.mode ≡ true → (x : ℕ) → b < x → x ≤ t
      → (observed_at s (run kind s x) x).low ≡ false)
      → (j : ℕ) → b + j ≤ t
      → data_place (at kind s (b + j)).order
      ≡ (if nat_lt j (ilas_ticks s.link.params) then None else Some
      ((j - ilas_ticks s.link.params) % period s.link.params))
  places-go b t e first quiet high j up =
      let p = s.link.params in
      elim (cases_Bool (is_b p.mode)) [
        | inl c ↦
            let is : is_first_place (order_b p (seen kind s b)) ≡ true =
            ap is_first_place (sym (order-is kind s b ∙ tx-order-b p (seen kind s b) c))
            ∙ first in
            let count = since-counts b t is quiet (high c) j up in
            ap data_place (order-is kind s (b + j) ∙ tx-order-b p (seen kind s (b + j)) c)
            ∙ place-b p (seen kind s (b + j)) j c count
        | inr c ↦
            let k = edge-of-phase s Tx b 0 e.regular (first-place kind s b e first) in
            let g : GivesPhase s Tx b k.0 = k.1 in
            let by = g.by in
            let now = phase-of s Tx b k.0 e.regular g in
            let zero_left : (b - edge_tick s Tx k.0) % period p ≡ 0 =
            (let is = first-place kind s b e first in cc) in
            let count = (counts-edge (b + j) kind s e).some k.0
            (gives-later s Tx b (b + j) k.0 (omega arith) (λ x a d. quiet x a (omega arith))
            g) in
            let far : length (from_edge (seen kind s (b + j))) - 1 ≡ b - edge_tick s Tx k.0 + j =
            omega arith in
            let some = e.some in
            let none_left : 0 % period p ≡ 0 =
            mod-eq_of_lt (let q : 0 < period p = omega arith in q) in
            let end : 0 + j ≡ j = omega arith in
            let place : (length (from_edge (seen kind s (b + j))) - 1) % period p ≡ j % period p =
            ap (λ (n : ℕ). n % period p) far ∙ same-add (period p) (b - edge_tick s Tx k.0) 0 j
            (zero_left ∙ sym none_left) ∙ ap (λ (n : ℕ). n % period p) end in
            ap data_place (order-is kind s (b + j) ∙ tx-order-c p (seen kind s (b + j)) c)
            ∙ place-c p (seen kind s (b + j)) j c (omega arith) place
      ]
