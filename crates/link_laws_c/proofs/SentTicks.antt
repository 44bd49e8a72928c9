-- What a transmitter lane is told, handed and sends in each tick of a run of 64b/66b lanes.
use Rattle.std.proofs.Common.{◌≡◌, ℕ, zero, suc, ◌+◌, ◌-◌, ◌%◌, ◌==◌, ◌<◌, ◌≤◌, true, false, List, [], ◌∷◌, ◌++◌, map, length, drop, slice_index, Option, Some, None, ◌⊎◌, inl, inr, refl, sym, ap, ap₂, ◌∙◌, eq-eqb, ne_eqb, arith}
use Rattle.std.proofs.lemmas.Bool.{cases_Bool, cases_lt}
use Rattle.std.proofs.lemmas.List.{map_push, drop_all, drop-append-le}
use Rattle.link_params.specs.declared.alarms.Device.TheVariants.{Tx}
use Rattle.link_params.specs.declared.fields.Params.{Params}
use Rattle.link_params.specs.declared.orders.TxOrder.TheVariants.{Silent, Block}
use Rattle.link_params.specs.Laws.{is_b}
use Rattle.link_params.specs.Lanes.{Handed}
use Rattle.link_params.specs.Numbers.{period}
use Rattle.scenario.specs.Plans.{Plan, numbers_from}
use Rattle.link_model.specs.Edges.{edge_tick, is_reset, last_reset, phase}
use Rattle.link_model.specs.Orders.{Observed, from_edge, order_c}
use Rattle.link_model.specs.Moments.{History, Moment}
use Rattle.link_model.specs.Sends.{handed_since}
use Rattle.link_model.specs.Run.{run}
use Rattle.link_model.proofs.NumberLists.{numbers-more}
use Rattle.link_model.proofs.TxHistory.{last-reset-before, last-reset-le, last-reset-now}
use Rattle.lane_c.specs.Sent.{is_block, octets_sent}
use Rattle.lane_c.specs.Received.{lanes_c}
use Rattle.lane_c.proofs.SentBlocks.{octets_sent-from, octets_sent-silent}
use Rattle.link_model.specs.Sessions.{at}
use Rattle.link_laws.specs.Premises.{GivesPhase}
use Rattle.link_laws.proofs.Phases.{HasEdges, edge-of-phase, phase-of, phase-stays}
use Rattle.link_laws.proofs.FirstPlace.{counts-edge, order-is, seen, tx-order-c}
use Rattle.link_model.proofs.RunTicks.{length-run, run-suc}

pub cases_some : {A : Type 0} (o : Option A) → ((x : A) × (o ≡ Some x)) ⊎ (o ≡ None)
cases_some (Some x) = inl (x, refl)
cases_some None = inr refl

-- ---- orders

order-of-count : (p : Params) (hs : List Observed) (n : ℕ) → length (from_edge hs) ≡ suc n
    → order_c p hs ≡ Block (n % period p) (n == 0)
order-of-count p hs n count =
    let z : (length (from_edge hs) == 0) ≡ false =
    ne_eqb (length (from_edge hs)) 0 (λ none. omega arith) in
    let less : length (from_edge hs) - 1 ≡ n = omega arith in
    let one : (length (from_edge hs) == 1) ≡ (n == 0) = elim (cases_lt 0 n) [
      | inl more ↦ ne_eqb (length (from_edge hs)) 1 (λ is. omega arith)
          ∙ sym (ne_eqb n 0 (λ is. omega arith))
      | inr none ↦ eq-eqb (length (from_edge hs)) 1 (omega arith) ∙ sym (eq-eqb n 0 (omega arith))
    ] in
    rw (z, less, one) refl

order-of-none : (p : Params) (hs : List Observed) → length (from_edge hs) ≡ 0
    → order_c p hs ≡ Silent
order-of-none p hs none = rw (eq-eqb (length (from_edge hs)) 0 none) refl

-- from the edge that gave the transmitter its phase on each tick sends a block
pub order-block : (s : Plan) (q i : ℕ) → HasEdges s → is_b s.link.params.mode ≡ false
    → GivesPhase s Tx q i
    → (at lanes_c s q).order ≡ Block ((q - edge_tick s Tx i) % period s.link.params)
    ((q - edge_tick s Tx i) == 0)
order-block s q i e mode g =
    let by = g.by in
    let counts = counts-edge q lanes_c s e in
    let count = counts.some i g in
    order-is lanes_c s q ∙ tx-order-c s.link.params (seen lanes_c s q) mode
    ∙ order-of-count s.link.params (seen lanes_c s q) (q - edge_tick s Tx i) (omega arith)

-- before it none does
pub order-silent : (s : Plan) (q : ℕ) → HasEdges s → is_b s.link.params.mode ≡ false
    → phase s Tx q ≡ None → (at lanes_c s q).order ≡ Silent
order-silent s q e mode none =
    let counts = counts-edge q lanes_c s e in
    order-is lanes_c s q ∙ tx-order-c s.link.params (seen lanes_c s q) mode
    ∙ order-of-none s.link.params (seen lanes_c s q) (counts.none none)

-- ---- what was handed

-- what a lane was handed in tick q
abbrev pub handed_at : Plan → ℕ → ℕ → Handed
handed_at s lane q =
    record { order = (at lanes_c s q).order; octets = slice_index (at lanes_c s q).handed lane }

-- all that it was handed since the transmitter's reset, up to tick q
abbrev pub handed_by : Plan → ℕ → ℕ → List Handed
handed_by s lane q = handed_since s (run lanes_c s q) lane ++ handed_at s lane q ∷ []

-- the octets that it was handed in n ticks from x on
abbrev pub octets_from : Plan → ℕ → ℕ → ℕ → List ℕ
octets_from s lane x n = map (λ q. slice_index (at lanes_c s q).handed lane) (numbers_from x n)

pub octets-more : (s : Plan) (lane x n : ℕ) → octets_from s lane x (suc n) ≡ octets_from s lane x n
    ++ slice_index (at lanes_c s (x + n)).handed lane ∷ []
octets-more s lane x n =
    let f : ℕ → ℕ = λ q. slice_index (at lanes_c s q).handed lane in
    ap (map f) (numbers-more n x) ∙ map_push f (numbers_from x n) (x + n)

handed-reset : (s : Plan) (lane q : ℕ) → last_reset s Tx q ≡ q
    → handed_by s lane q ≡ handed_at s lane q ∷ []
unfolding handed_since
handed-reset s lane q now =
    let f : Moment → Handed = λ m. record { order = m.order; octets = slice_index m.handed lane } in
    let long = length-run lanes_c s q in
    let reset : last_reset s Tx (length (run lanes_c s q)) ≡ q = ap (last_reset s Tx) long ∙ now in
    ap (λ (l : History). map f l ++ handed_at s lane q ∷ [])
    (ap (λ (n : ℕ). drop n (run lanes_c s q)) reset
    ∙ drop_all q (run lanes_c s q) (omega arith))

handed-suc : (s : Plan) (lane q : ℕ) → is_reset s Tx (suc q) ≡ false
    → handed_by s lane (suc q) ≡ handed_by s lane q ++ handed_at s lane (suc q) ∷ []
unfolding handed_since
handed-suc s lane q none =
    let f : Moment → Handed = λ m. record { order = m.order; octets = slice_index m.handed lane } in
    let r : ℕ = last_reset s Tx q in
    let low : r ≤ q = last-reset-le s Tx q in
    let long = length-run lanes_c s q in
    let same : last_reset s Tx (length (run lanes_c s (suc q))) ≡ r =
    ap (last_reset s Tx) (length-run lanes_c s (suc q)) ∙ last-reset-before s Tx (suc q) none in
    let old : last_reset s Tx (length (run lanes_c s q)) ≡ r = ap (last_reset s Tx) long in
    ap (λ (l : List Handed). l ++ handed_at s lane (suc q) ∷ [])
    (ap (λ (n : ℕ). map f (drop n (run lanes_c s (suc q)))) same
    ∙ ap (λ (l : History). map f (drop r l)) (run-suc lanes_c s q)
    ∙ ap (map f) (drop-append-le r (run lanes_c s q) (at lanes_c s q ∷ []) (omega arith))
    ∙ map_push f (drop r (run lanes_c s q)) (at lanes_c s q)
    ∙ sym (ap (λ (n : ℕ). map f (drop n (run lanes_c s q)) ++ handed_at s lane q ∷ []) old))

-- ---- the octets that are sent: those handed since the edge

pub record SendsFrom (s : Plan) (lane q : ℕ) : Type 0 where
  pub some : (i : ℕ) → GivesPhase s Tx q i
      → octets_sent (handed_by s lane q) ≡ octets_from s lane (edge_tick s Tx i)
      (suc q - edge_tick s Tx i)
  pub none : phase s Tx q ≡ None → octets_sent (handed_by s lane q) ≡ []

block-is : (s : Plan) (lane q i : ℕ) → HasEdges s → is_b s.link.params.mode ≡ false
    → GivesPhase s Tx q i → is_block (handed_at s lane q).order ≡ true
block-is s lane q i e mode g = ap is_block (order-block s q i e mode g)

silent-is : (s : Plan) (lane q : ℕ) → HasEdges s → is_b s.link.params.mode ≡ false
    → phase s Tx q ≡ None → is_block (handed_at s lane q).order ≡ false
silent-is s lane q e mode none = ap is_block (order-silent s q e mode none)

one-octet : (s : Plan) (lane x q : ℕ) → x ≡ q
    → octets_from s lane x (suc q - x) ≡ slice_index (at lanes_c s q).handed lane ∷ []
unfolding numbers_from
one-octet s lane x q same =
    let n : suc q - x ≡ 1 = omega arith in
    ap₂ (octets_from s lane) same n

-- with nothing sent before
sends-new : (s : Plan) (lane q : ℕ) (before : List Handed) → HasEdges s
    → is_b s.link.params.mode ≡ false → octets_sent before ≡ []
    → handed_by s lane q ≡ before ++ handed_at s lane q ∷ []
    → ((i : ℕ) → GivesPhase s Tx q i → edge_tick s Tx i ≡ q) → SendsFrom s lane q
sends-new s lane q before e mode empty is first = record {
  some = λ i g.
      ap octets_sent is ∙ octets_sent-from before (handed_at s lane q)
      (block-is s lane q i e mode g)
      ∙ ap (λ (l : List ℕ). l ++ slice_index (at lanes_c s q).handed lane ∷ []) empty
      ∙ sym (one-octet s lane (edge_tick s Tx i) q (first i g));
  none = λ no. ap octets_sent is ∙ octets_sent-silent before (handed_at s lane q)
      (silent-is s lane q e mode no) empty;
}

no-octets : octets_sent [] ≡ []
unfolding octets_sent
no-octets = refl

sends-fresh : (s : Plan) (lane q : ℕ) → HasEdges s → is_b s.link.params.mode ≡ false
    → last_reset s Tx q ≡ q → SendsFrom s lane q
sends-fresh s lane q e mode now =
    sends-new s lane q [] e mode no-octets (handed-reset s lane q now)
    (λ i g. let since = g.since in let by = g.by in omega arith)

sends-suc : (s : Plan) (lane q : ℕ) → HasEdges s → is_b s.link.params.mode ≡ false
    → is_reset s Tx (suc q) ≡ false → SendsFrom s lane q → SendsFrom s lane (suc q)
sends-suc s lane q e mode quiet old =
    let same : last_reset s Tx (suc q) ≡ last_reset s Tx q = last-reset-before s Tx (suc q) quiet in
    let is = handed-suc s lane q quiet in
    let none_since : (x : ℕ) → q < x → x ≤ suc q → is_reset s Tx x ≡ false =
    λ x up down. let end : x ≡ suc q = omega arith in ap (is_reset s Tx) end ∙ quiet in
    elim (cases_some (phase s Tx q)) [
      | inr none ↦
          sends-new s lane (suc q) (handed_by s lane q) e mode (old.none none) is (λ i g.
          let since = g.since in
          let by = g.by in
          elim (cases_lt (edge_tick s Tx i) (suc q)) [
            | inr here ↦ omega arith
            | inl past ↦
                let before : GivesPhase s Tx q i =
                record {
                  since = omega arith;
                  by = omega arith;
                  first =
                      λ k after. g.first k (omega arith);
                } in
                let bad = phase-of s Tx q i e.regular before in absurd (cc)
          ])
      | inl k ↦
          let j = edge-of-phase s Tx q k.0 e.regular k.1 in
          let g_old : GivesPhase s Tx q j.0 = j.1 in
          let old_since = g_old.since in
          let old_by = g_old.by in
          record {
            some = λ i g.
                let since = g.since in
                let low = g.first j.0 (omega arith) in
                let before : GivesPhase s Tx q i =
                record {
                  since = omega arith;
                  by = omega arith;
                  first =
                      λ m after. g.first m (omega arith);
                } in
                let x : ℕ = edge_tick s Tx i in
                let longer : suc (suc q) - x ≡ suc (suc q - x) = omega arith in
                let end : x + (suc q - x) ≡ suc q = omega arith in
                ap octets_sent is ∙ octets_sent-from (handed_by s lane q) (handed_at s lane (suc q))
                (block-is s lane (suc q) i e mode g)
                ∙ ap (λ (l : List ℕ). l ++ slice_index (at lanes_c s (suc q)).handed lane ∷ [])
                (old.some i before)
                ∙ ap (λ (n : ℕ). octets_from s lane x (suc q - x)
                ++ slice_index (at lanes_c s n).handed lane ∷ []) (sym end)
                ∙ sym (ap (octets_from s lane x) longer ∙ octets-more s lane x (suc q - x));
            none = λ no. let stays = phase-stays s Tx q (suc q) k.0 e (omega arith) none_since
                k.1 in let is_some = stays.1 in absurd (cc);
          }
    ]

pub sends-from : (q : ℕ) (s : Plan) (lane : ℕ) → HasEdges s → is_b s.link.params.mode ≡ false
    → SendsFrom s lane q
sends-from zero s lane e mode = let low = last-reset-le s Tx 0 in
    sends-fresh s lane 0 e mode (omega arith)
sends-from (suc q) s lane e mode = elim (cases_Bool (is_reset s Tx (suc q))) [
  | inl reset ↦ sends-fresh s lane (suc q) e mode (last-reset-now s Tx (suc q) reset)
  | inr quiet ↦ sends-suc s lane q e mode quiet (sends-from q s lane e mode)
]
