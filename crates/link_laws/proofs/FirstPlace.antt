-- What starts a lane is sent on a boundary of the transmitter, in each mode.
use Rattle.std.proofs.Common.{◌≡◌, ℕ, zero, suc, ◌+◌, ◌-◌, ◌*◌, ◌<◌, ◌≤◌, ◌%◌, ◌==◌, ◌⊎◌, if◌then◌else◌, Bool, true, false, List, [], ◌∷◌, ◌++◌, length, Option, Some, None, is_some, unwrap_or, inl, inr, refl, sym, ap, ◌∙◌, length-append, arith}
use Rattle.std.proofs.lemmas.Bool.{cases_Bool, cases_lt, cond-true, cond-false, eqb-true, eq-eqb, ne_eqb, lt-ltb, le-ltb}
use Rattle.link_params.specs.declared.alarms.Device.TheVariants.{Tx}
use Rattle.link_params.specs.declared.fields.Params.{Params}
use Rattle.link_params.specs.Laws.{is_b}
use Rattle.link_params.specs.Lanes.{LaneKind}
use Rattle.link_params.specs.Numbers.{period}
use Rattle.scenario.specs.Plans.{Plan, numbers_from}
use Rattle.link_model.specs.Edges.{edge_tick, is_reset, last_reset, phase}
use Rattle.link_model.specs.Orders.{Observed, after_boundary, after_low, from_boundary, from_edge, is_boundary, or_else, order_b, order_c, since_boundary, tx_order}
use Rattle.link_model.specs.Sends.{observed, observed_at, order_of}
use Rattle.link_model.specs.Run.{run}
use Rattle.link_model.specs.kept.Before.{observed_before}
use Rattle.link_model.proofs.TxHistory.{last-reset-now, observed-before-more, observed-next}
use Rattle.link_model.specs.Sessions.{at}
use Rattle.link_laws.specs.Premises.{GivesPhase}
use Rattle.link_laws.specs.LaneLaws.{is_first_place}
use Rattle.link_laws.proofs.RunTicks.{order-at}
use Rattle.link_model.proofs.RunTicks.{length-run, run-suc}
use Rattle.link_laws.proofs.Phases.{HasEdges, edge-of-phase, last-reset-same, phase-of, phase-stays}

-- ---- lists of observed ticks

edge-push-some : (xs : List Observed) (y : Observed) → 0 < length (from_edge xs)
    → length (from_edge (xs ++ y ∷ [])) ≡ length (from_edge xs) + 1
unfolding from_edge
edge-push-some [] y some = absurd (omega arith)
edge-push-some (x ∷ xs) y some = elim (cases_Bool (is_some x.phase)) [
  | inl here ↦ let long = length-append xs (y ∷ []) in rw here (omega arith)
  | inr later ↦
      let rest : 0 < length (from_edge xs) =
      (let k : length (from_edge (x ∷ xs)) ≡ length (from_edge xs) = rw later refl in
      omega arith) in
      rw later (edge-push-some xs y rest)
]

edge-push-none : (xs : List Observed) (y : Observed) → length (from_edge xs) ≡ 0
    → length (from_edge (xs ++ y ∷ [])) ≡ (if is_some y.phase then 1 else 0)
unfolding from_edge
edge-push-none [] y none =
    elim (cases_Bool (is_some y.phase)) [ inl here ↦ rw here refl | inr here ↦ rw here refl ]
edge-push-none (x ∷ xs) y none = elim (cases_Bool (is_some x.phase)) [
  | inl here ↦ let bad : suc (length xs) ≡ 0 = sym (rw here refl) ∙ none in absurd (cc)
  | inr later ↦
      let rest : length (from_edge xs) ≡ 0 =
      (let k : length (from_edge (x ∷ xs)) ≡ length (from_edge xs) = rw later refl in
      omega arith) in
      rw later (edge-push-none xs y rest)
]

-- the ticks after the last low one are the last ones, or none
pub low-push : (xs : List Observed) (y : Observed) → (after_low (xs ++ y ∷ []) ≡ None)
    ⊎ ((after_low (xs ++ y ∷ []) ≡ Some [])
    ⊎ ((l : List Observed) × (after_low (xs ++ y ∷ []) ≡ Some (l ++ y ∷ []))))
unfolding after_low
low-push [] y = elim (cases_Bool y.low) [
  | inl here ↦ inr (inl (rw here refl))
  | inr here ↦
      inl (rw here refl)
]
low-push (x ∷ xs) y = elim (low-push xs y) [
  | inr some ↦ inr (elim some [
    | inl e ↦ inl (ap (λ o. or_else o (if x.low then Some (xs ++ y ∷ []) else None)) e)
    | inr k ↦ inr (k.0, ap (λ o. or_else o (if x.low then Some (xs ++ y ∷ []) else None)) k.1)
  ])
  | inl none ↦ elim (cases_Bool x.low) [
    | inl here ↦
        inr
        (inr (
          xs,
          ap (λ o. or_else o (if x.low then Some (xs ++ y ∷ []) else None)) none
              ∙ cond-true x.low (Some (xs ++ y ∷ [])) None here,
        ))
    | inr here ↦ inl (ap (λ o. or_else o (if x.low then Some (xs ++ y ∷ []) else None)) none
        ∙ cond-false x.low (Some (xs ++ y ∷ [])) None here)
  ]
]

boundary-push : (xs : List Observed) (y : Observed) → length (from_boundary (xs ++ y ∷ [])) ≡ 1
    → is_boundary y.phase ≡ true
unfolding from_boundary
boundary-push [] y one = elim (cases_Bool (is_boundary y.phase)) [
  | inl here ↦ here
  | inr apart ↦ let bad : zero ≡ suc zero = sym (rw apart refl) ∙ one in absurd (cc)
]
boundary-push (x ∷ xs) y one = elim (cases_Bool (is_boundary x.phase)) [
  | inl here ↦
      let many : length (from_boundary (x ∷ (xs ++ y ∷ []))) ≡ suc (length (xs ++ y ∷ [])) =
      rw here refl in
      let long = length-append xs (y ∷ []) in
      absurd (omega arith)
  | inr apart ↦
      boundary-push xs y (let k : length (from_boundary (x ∷ (xs ++ y ∷ [])))
      ≡ length (from_boundary (xs ++ y ∷ [])) = rw apart refl in sym k ∙ one)
]

since-push : (xs : List Observed) (y : Observed) → length (since_boundary (xs ++ y ∷ [])) ≡ 1
    → is_boundary y.phase ≡ true
unfolding from_boundary
since-push xs y one = elim (low-push xs y) [
  | inl none ↦ let bad : zero ≡ suc zero =
      sym (ap (λ o. length (from_boundary (unwrap_or o []))) none) ∙ one in absurd (cc)
  | inr some ↦ elim some [
    | inl e ↦ let bad : zero ≡ suc zero = sym (ap (λ o. length (from_boundary (unwrap_or o []))) e)
        ∙ one in absurd (cc)
    | inr k ↦ boundary-push k.0 y (sym (ap (λ o. length (from_boundary (unwrap_or o []))) k.1)
        ∙ one)
  ]
]

-- ---- orders

cases-some : (o : Option ℕ) → ((x : ℕ) × (o ≡ Some x)) ⊎ (o ≡ None)
cases-some (Some x) = inl (x, refl)
cases-some None = inr refl

boundary-phase : (o : Option ℕ) → is_boundary o ≡ true → o ≡ Some 0
boundary-phase None e = let bad : false ≡ true = e in absurd (cc)
boundary-phase (Some x) e = ap Some (eqb-true x 0 e)

first-after : (p : Params) (n : ℕ) → is_first_place (after_boundary p n) ≡ true → n ≡ 0
first-after p n first = elim (cases_lt n (4 * period p)) [
  | inl inside ↦
      let is : is_first_place (after_boundary p n) ≡ (n == 0) =
      rw (lt-ltb n (4 * period p) inside) refl in
      eqb-true n 0 (sym is ∙ first)
  | inr past ↦ let bad : false ≡ true = sym (rw (le-ltb n (4 * period p) past) refl) ∙ first in
      absurd (cc)
]

pub first-b : (p : Params) (hs : List Observed) → is_first_place (order_b p hs) ≡ true
    → length (since_boundary hs) ≡ 1
first-b p hs first = elim (cases_lt 0 (length (since_boundary hs))) [
  | inr none ↦
      let z : length (since_boundary hs) ≡ 0 = omega arith in
      let bad : false ≡ true = sym (rw (eq-eqb (length (since_boundary hs)) 0 z) refl) ∙ first in
      absurd (cc)
  | inl some ↦
      let is : is_first_place (order_b p hs) ≡ is_first_place
      (after_boundary p (length (since_boundary hs) - 1)) =
      rw (ne_eqb (length (since_boundary hs)) 0 (λ z. omega arith)) refl in
      let z = first-after p (length (since_boundary hs) - 1) (sym is ∙ first) in
      omega arith
]

first-c : (p : Params) (hs : List Observed) → is_first_place (order_c p hs) ≡ true
    → (0 < length (from_edge hs)) × ((length (from_edge hs) - 1) % period p ≡ 0)
first-c p hs first = elim (cases_lt 0 (length (from_edge hs))) [
  | inr none ↦
      let z : length (from_edge hs) ≡ 0 = omega arith in
      let bad : false ≡ true = sym (rw (eq-eqb (length (from_edge hs)) 0 z) refl) ∙ first in
      absurd (cc)
  | inl some ↦
      let is : is_first_place (order_c p hs) ≡ ((length (from_edge hs) - 1) % period p == 0) =
      rw (ne_eqb (length (from_edge hs)) 0 (λ z. omega arith)) refl in
      (some, eqb-true ((length (from_edge hs) - 1) % period p) 0 (sym is ∙ first))
]

-- ---- ticks of a run

abbrev pub seen : LaneKind → Plan → ℕ → List Observed
seen kind s t = observed s (run kind s t)

pub seen-next : (kind : LaneKind) (s : Plan) (t : ℕ)
    → seen kind s t ≡ (if is_reset s Tx t then [] else observed_before s (run kind s t))
    ++ observed_at s (run kind s t) t ∷ []
seen-next kind s t =
    observed-next s (run kind s t)
    ∙ ap (λ (n : ℕ). (if is_reset s Tx n then [] else observed_before s (run kind s t))
    ++ observed_at s (run kind s t) n ∷ []) (length-run kind s t)

seen-before : (kind : LaneKind) (s : Plan) (t : ℕ)
    → observed_before s (run kind s (suc t)) ≡ seen kind s t
seen-before kind s t = ap (observed_before s) (run-suc kind s t)
    ∙ observed-before-more s (run kind s t) (at kind s t)

seen-none : (kind : LaneKind) (s : Plan) → observed_before s (run kind s 0) ≡ []
unfolding run observed_before numbers_from
seen-none kind s = refl

abbrev one_if_some : Option ℕ → ℕ
one_if_some o = if is_some o then 1 else 0

-- how many ticks there are from the first edge on
pub record CountsEdge (kind : LaneKind) (s : Plan) (t : ℕ) : Type 0 where
  pub some : (i : ℕ) → GivesPhase s Tx t i
      → length (from_edge (seen kind s t)) ≡ t + 1 - edge_tick s Tx i
  pub none : phase s Tx t ≡ None → length (from_edge (seen kind s t)) ≡ 0

counts-fresh : (kind : LaneKind) (s : Plan) (t : ℕ) → HasEdges s
    → seen kind s t ≡ observed_at s (run kind s t) t ∷ [] → last_reset s Tx t ≡ t
    → CountsEdge kind s t
unfolding from_edge
counts-fresh kind s t e new reset =
    let y : Observed = observed_at s (run kind s t) t in
    let count : length (from_edge (seen kind s t)) ≡ (if is_some (phase s Tx t) then 1 else 0) =
    ap (λ l. length (from_edge l)) new ∙ edge-push-none [] y refl in
    record {
      some = λ i g.
          let since = g.since in
          let by = g.by in
          let is = phase-of s Tx t i e.regular g in
          let one : length (from_edge (seen kind s t)) ≡ 1 = count ∙ ap one_if_some is in
          omega arith;
      none = λ no_phase. count ∙ ap one_if_some no_phase;
    }

-- a tick more is observed, where no reset comes
pub seen-suc : (kind : LaneKind) (s : Plan) (t : ℕ) → is_reset s Tx (suc t) ≡ false
    → seen kind s (suc t) ≡ seen kind s t ++ observed_at s (run kind s (suc t)) (suc t) ∷ []
seen-suc kind s t no_reset =
    let y : Observed = observed_at s (run kind s (suc t)) (suc t) in
    seen-next kind s (suc t)
    ∙ ap (λ (b : Bool). (if b then [] else observed_before s (run kind s (suc t))) ++ y ∷ [])
    no_reset
    ∙ ap (λ l. l ++ y ∷ []) (seen-before kind s t)

counts-more : (kind : LaneKind) (s : Plan) (t : ℕ) → HasEdges s → is_reset s Tx (suc t) ≡ false
    → CountsEdge kind s t → CountsEdge kind s (suc t)
unfolding from_edge
counts-more kind s t e no_reset before =
    let y : Observed = observed_at s (run kind s (suc t)) (suc t) in
    let longer : seen kind s (suc t) ≡ seen kind s t ++ y ∷ [] =
    seen-next kind s (suc t)
    ∙ ap (λ (b : Bool). (if b then [] else observed_before s (run kind s (suc t))) ++ y ∷ [])
    no_reset
    ∙ ap (λ l. l ++ y ∷ []) (seen-before kind s t) in
    let same = last-reset-same (suc t) s Tx t (omega arith) (λ x up down. let at_end : x ≡ suc t =
    omega arith in ap (is_reset s Tx) at_end ∙ no_reset) in
    let quiet : (x : ℕ) → t < x → x ≤ suc t → is_reset s Tx x ≡ false = λ x up down. let at_end : x
    ≡ suc t = omega arith in ap (is_reset s Tx) at_end ∙ no_reset in
    record {
      some = λ i g.
          let since = g.since in
          let by = g.by in
          elim (cases_lt t (edge_tick s Tx i)) [
            | inr old ↦
                let g_before : GivesPhase s Tx t i =
                record {
                  since = omega arith;
                  by = old;
                  first =
                      λ k after. g.first k (omega arith);
                } in
                let n = before.some i g_before in
                let more = edge-push-some (seen kind s t) y (omega arith) in
                let all : length (from_edge (seen kind s (suc t)))
                ≡ length (from_edge (seen kind s t)) + 1 = ap (λ l. length (from_edge l)) longer
                ∙ more in
                omega arith
            | inl now ↦
                let no_phase : phase s Tx t ≡ None = elim (cases-some (phase s Tx t)) [
                  | inr none ↦ none
                  | inl k ↦
                      let j = edge-of-phase s Tx t k.0 e.regular k.1 in
                      let old : GivesPhase s Tx t j.0 = j.1 in
                      let old_since = old.since in
                      let old_by = old.by in
                      let first = g.first j.0 (omega arith) in
                      absurd (omega arith)
                ] in
                let n = before.none no_phase in
                let is = phase-of s Tx (suc t) i e.regular g in
                let one : length (from_edge (seen kind s (suc t))) ≡ 1 =
                ap (λ l. length (from_edge l)) longer ∙ edge-push-none (seen kind s t) y n
                ∙ ap one_if_some is in
                omega arith
          ];
      none = λ none_now.
          let no_phase : phase s Tx t ≡ None = elim (cases-some (phase s Tx t)) [
            | inr none ↦ none
            | inl k ↦ let some = phase-stays s Tx t (suc t) k.0 e (omega arith) quiet k.1 in
                let is = some.1 in absurd (cc)
          ] in
          let n = before.none no_phase in
          ap (λ l. length (from_edge l)) longer ∙ edge-push-none (seen kind s t) y n
          ∙ ap one_if_some none_now;
    }

pub counts-edge : (t : ℕ) (kind : LaneKind) (s : Plan) → HasEdges s → CountsEdge kind s t
unfolding last_reset
counts-edge zero kind s e =
    let y : Observed = observed_at s (run kind s 0) 0 in
    counts-fresh kind s 0 e
    (seen-next kind s 0 ∙ ap (λ l. (if is_reset s Tx 0 then [] else l) ++ y ∷ []) (seen-none kind s)
    ∙ elim (cases_Bool (is_reset s Tx 0)) [ inl r ↦ rw r refl | inr r ↦ rw r refl ]) refl
counts-edge (suc t) kind s e = elim (cases_Bool (is_reset s Tx (suc t))) [
  | inr r ↦ counts-more kind s t e r (counts-edge t kind s e)
  | inl r ↦
      let y : Observed = observed_at s (run kind s (suc t)) (suc t) in
      counts-fresh kind s (suc t) e
      (seen-next kind s (suc t)
      ∙ ap (λ (b : Bool). (if b then [] else observed_before s (run kind s (suc t))) ++ y ∷ []) r)
      (last-reset-now s Tx (suc t) r)
]

pub tx-order-b : (p : Params) (hs : List Observed) → is_b p.mode ≡ true
    → tx_order p hs ≡ order_b p hs
unfolding tx_order
tx-order-b p hs b = rw b refl

pub tx-order-c : (p : Params) (hs : List Observed) → is_b p.mode ≡ false
    → tx_order p hs ≡ order_c p hs
unfolding tx_order
tx-order-c p hs c = rw c refl

pub order-is : (kind : LaneKind) (s : Plan) (q : ℕ)
    → (at kind s q).order ≡ tx_order s.link.params (seen kind s q)
unfolding order_of
order-is kind s q = order-at kind s q

pub first-place : (kind : LaneKind) (s : Plan) (q : ℕ) → HasEdges s
    → is_first_place (at kind s q).order ≡ true → phase s Tx q ≡ Some 0
first-place kind s q e first =
    let p = s.link.params in
    let y : Observed = observed_at s (run kind s q) q in
    elim (cases_Bool (is_b p.mode)) [
      | inl b ↦
          let is : is_first_place (order_b p (seen kind s q)) ≡ true =
          ap is_first_place (sym (order-is kind s q ∙ tx-order-b p (seen kind s q) b))
          ∙ first in
          let one = first-b p (seen kind s q) is in
          let one_push = sym (ap (λ l. length (since_boundary l)) (seen-next kind s q)) ∙ one in
          boundary-phase (phase s Tx q)
          (since-push (if is_reset s Tx q then [] else observed_before s (run kind s q)) y
          one_push)
      | inr c ↦
          let is : is_first_place (order_c p (seen kind s q)) ≡ true =
          ap is_first_place (sym (order-is kind s q ∙ tx-order-c p (seen kind s q) c))
          ∙ first in
          let parts = first-c p (seen kind s q) is in
          let some = parts.0 in
          let counts = counts-edge q kind s e in
          elim (cases-some (phase s Tx q)) [
            | inr none ↦ let zero_count = counts.none none in absurd (omega arith)
            | inl k ↦
                let j = edge-of-phase s Tx q k.0 e.regular k.1 in
                let g : GivesPhase s Tx q j.0 = j.1 in
                let by = g.by in
                let count = counts.some j.0 g in
                let far : length (from_edge (seen kind s q)) - 1 ≡ q - edge_tick s Tx j.0 =
                omega arith in
                phase-of s Tx q j.0 e.regular g
                ∙ ap Some (sym (ap (λ (n : ℕ). n % period p) far) ∙ parts.1)
          ]
    ]
