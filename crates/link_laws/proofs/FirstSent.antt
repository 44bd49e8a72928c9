-- Where the transmitter has a phase when the lanes are armed, it sends what starts them within two
-- periods.
use Rattle.std.proofs.Common.{◌≡◌, ℕ, zero, suc, ◌+◌, ◌-◌, ◌*◌, ◌<◌, ◌≤◌, ◌%◌, ◌==◌, ◌⊎◌, nat_lt, if◌then◌else◌, Bool, true, false, List, [], ◌∷◌, ◌++◌, length, Some, option_map, unwrap_or, inl, inr, refl, sym, ap, ◌∙◌, arith}
use Rattle.std.proofs.lemmas.Bool.{cases_Bool, cases_lt, cond-true, cond-false, eq-eqb, lt-ltb, ne_eqb}
use Rattle.link_params.specs.declared.alarms.Device.TheVariants.{Tx, Rx}
use Rattle.link_params.specs.declared.fields.Params.{Params}
use Rattle.link_params.specs.declared.orders.TxOrder.TheVariants.{Block, Comma, Data, Ilas, Silent}
use Rattle.link_params.specs.Laws.{is_b}
use Rattle.link_params.specs.Lanes.{LaneKind}
use Rattle.link_params.specs.Numbers.{period}
use Rattle.bring_up.specs.declared.stage.Stage.TheVariants as stage
use Rattle.bring_up.specs.Decisions.{is_hunting}
use Rattle.scenario.specs.Plans.{Plan}
use Rattle.link_model.specs.Edges.{edge_tick, is_reset, phase}
use Rattle.link_model.specs.Orders.{Observed, after_boundary, after_low, from_boundary, from_edge, is_boundary, order_b, order_c, since_boundary}
use Rattle.link_model.specs.Sends.{observed_at}
use Rattle.link_model.specs.Run.{run}
use Rattle.link_model.specs.kept.Before.{observed_before}
use Rattle.link_model.specs.Sessions.{at}
use Rattle.link_laws.specs.Premises.{GivesPhase}
use Rattle.link_laws.specs.LaneLaws.{is_first_place}
use Rattle.link_laws.specs.Laws.{IsPlanRead}
use Rattle.link_laws.proofs.PlanRead.{has-edges, numbers}
use Rattle.link_laws.proofs.Phases.{HasEdges, edge-of-phase, phase-of, phase-stays}
use Rattle.link_laws.proofs.PhaseComes.{phase-at}
use Rattle.link_laws.proofs.FirstPlace.{counts-edge, order-is, seen, seen-next, seen-suc, tx-order-b, tx-order-c}
use Rattle.link_laws.proofs.OrdersGo.{low-last, low-late, low-more}
use Rattle.link_laws.proofs.Stages.{before, before-suc}
use Rattle.link_laws.proofs.SessionStages.{ArmedSince}

-- ---- 64b/66b lanes: each boundary sends a first block

block-first : (p : Params) (hs : List Observed) → 0 < length (from_edge hs)
    → (length (from_edge hs) - 1) % period p ≡ 0 → is_first_place (order_c p hs) ≡ true
block-first p hs some whole =
    ap is_first_place
    (cond-false (length (from_edge hs) == 0) Silent
    (Block ((length (from_edge hs) - 1) % period p) (length (from_edge hs) == 1))
    (ne_eqb (length (from_edge hs)) 0 (λ z. omega arith)))
    ∙ eq-eqb ((length (from_edge hs) - 1) % period p) 0 whole

pub boundary-sends-c : (kind : LaneKind) (s : Plan) (q : ℕ) → HasEdges s
    → is_b s.link.params.mode ≡ false → phase s Tx q ≡ Some 0
    → is_first_place (at kind s q).order ≡ true
boundary-sends-c kind s q e c is =
    let p = s.link.params in
    let k = edge-of-phase s Tx q 0 e.regular is in
    let g : GivesPhase s Tx q k.0 = k.1 in
    let by = g.by in
    let now = phase-of s Tx q k.0 e.regular g in
    let count = (counts-edge q kind s e).some k.0 g in
    let zero_left : (q - edge_tick s Tx k.0) % period p ≡ 0 = cc in
    let far : length (from_edge (seen kind s q)) - 1 ≡ q - edge_tick s Tx k.0 = omega arith in
    ap is_first_place (order-is kind s q ∙ tx-order-c p (seen kind s q) c)
    ∙ block-first p (seen kind s q) (omega arith) (ap (λ (n : ℕ). n % period p) far ∙ zero_left)

-- ---- 8b/10b lanes: the first boundary after SYNC~ was seen low

boundary-push : (xs : List Observed) (y : Observed) → length (from_boundary xs) ≡ 0
    → length (from_boundary (xs ++ y ∷ [])) ≡ (if is_boundary y.phase then 1 else 0)
unfolding from_boundary
boundary-push [] y none =
    elim (cases_Bool (is_boundary y.phase)) [ inl here ↦ rw here refl | inr here ↦ rw here refl ]
boundary-push (x ∷ xs) y none = elim (cases_Bool (is_boundary x.phase)) [
  | inl here ↦ let bad : suc (length xs) ≡ 0 = sym (rw here refl) ∙ none in absurd (cc)
  | inr later ↦
      let rest : length (from_boundary xs) ≡ 0 =
      (let k : length (from_boundary (x ∷ xs)) ≡ length (from_boundary xs) = rw later refl in
      omega arith) in
      rw later (boundary-push xs y rest)
]

no-boundary : length (from_boundary []) ≡ 0
unfolding from_boundary
no-boundary = refl

place-zero : (p : Params) (hs : List Observed) → 0 < period p → length (since_boundary hs) ≡ 1
    → is_first_place (order_b p hs) ≡ true
place-zero p hs some one =
    let last : length (since_boundary hs) - 1 ≡ 0 = omega arith in
    ap is_first_place
    (cond-false (length (since_boundary hs) == 0) Comma
    (after_boundary p (length (since_boundary hs) - 1))
    (ne_eqb (length (since_boundary hs)) 0 (λ z. omega arith)))
    ∙ ap (λ (n : ℕ). is_first_place (after_boundary p n)) last
    ∙ ap is_first_place
    (cond-true (nat_lt 0 (4 * period p)) (Ilas 0) (Data (0 % period p) (0 == 4 * period p))
    (lt-ltb 0 (4 * period p) (omega arith)))

module _ (kind : LaneKind) (s : Plan) (first u : ℕ) (read : IsPlanRead s)
    (mode : is_b s.link.params.mode ≡ true)
    (a : ArmedSince kind s first u) (low : first + 3 * period s.link.params ≤ a.tick)
    (quiet_rx : (i : ℕ) → a.tick ≤ i → i ≤ u → is_reset s Rx i ≡ false)
    (quiet_tx : (i : ℕ) → a.tick < i → i ≤ u → is_reset s Tx i ≡ false) where
  delay : ℕ
  delay = s.link.timing.sync_delay

  -- the last tick that sees SYNC~ low
  abbrev low_tick : ℕ
  low_tick = a.tick + s.link.timing.sync_delay

  arm-above : 0 < a.tick
  arm-above = let n = numbers s read in let some = n.some in omega arith

  sees-low : (observed_at s (run kind s low_tick) low_tick).low ≡ true
  sees-low =
      let above = arm-above in
      let below = a.below in
      let v : ℕ = a.tick - 1 in
      let back : low_tick - (s.link.timing.sync_delay + 1) ≡ v = omega arith in
      let next : suc v ≡ a.tick = omega arith in
      let none : is_reset s Rx (suc v) ≡ false = ap (is_reset s Rx) next
      ∙ quiet_rx a.tick (omega arith) (omega arith) in
      let hunts : (at kind s v).stage ≡ stage.Hunt = sym (before-suc kind s v none)
      ∙ ap (before kind s) next ∙ a.hunts in
      low-late kind s low_tick (omega arith) ∙ ap (λ (x : ℕ). is_hunting (at kind s x).stage) back
      ∙ ap is_hunting hunts

  sees-high : (x : ℕ) → low_tick < x → x ≤ u → (observed_at s (run kind s x) x).low ≡ false
  sees-high x above to =
      let v : ℕ = x - (s.link.timing.sync_delay + 1) in
      let none = quiet_rx (suc v) (omega arith) (omega arith) in
      let waits : (at kind s v).stage ≡ stage.Wait = sym (before-suc kind s v none)
      ∙ a.waits (suc v) (omega arith) (omega arith) in
      low-late kind s x (omega arith) ∙ ap is_hunting waits

  -- no boundary has come since SYNC~ was seen low
  record NoneYet (x : ℕ) : Type 0 where
    high : List Observed
    after : after_low (seen kind s x) ≡ Some high
    none : length (from_boundary high) ≡ 0

  none-first : NoneYet low_tick
  none-first = record {
    high = [];
    after = ap after_low (seen-next kind s low_tick)
        ∙ low-last (if is_reset s Tx low_tick then [] else observed_before s (run kind s low_tick))
        (observed_at s (run kind s low_tick) low_tick) sees-low;
    none = no-boundary;
  }

  after-suc : (x : ℕ) (k : NoneYet x) → low_tick ≤ x → suc x ≤ u
      → after_low (seen kind s (suc x)) ≡ Some (k.high ++ observed_at s (run kind s (suc x)) (suc x)
      ∷ [])
  after-suc x k from to =
      let y : Observed = observed_at s (run kind s (suc x)) (suc x) in
      ap after_low (seen-suc kind s x (quiet_tx (suc x) (omega arith) to))
      ∙ low-more (seen kind s x) y (sees-high (suc x) (omega arith) to)
      ∙ ap (option_map (λ l. l ++ y ∷ [])) k.after

  sends-boundary : (x : ℕ) (k : NoneYet x) → low_tick ≤ x → suc x ≤ u
      → is_boundary (phase s Tx (suc x)) ≡ true → is_first_place (at kind s (suc x)).order ≡ true
  sends-boundary x k from to is =
      let p = s.link.params in
      let y : Observed = observed_at s (run kind s (suc x)) (suc x) in
      let n = numbers s read in
      let some = n.some in
      let pushed = boundary-push k.high y k.none in
      let one_pushed : (if is_boundary y.phase then 1 else 0) ≡ suc zero =
      ap (λ (b : Bool). let n : ℕ = if b then 1 else 0 in n) is in
      let one : length (since_boundary (seen kind s (suc x))) ≡ 1 =
      ap (λ o. length (from_boundary (unwrap_or o []))) (after-suc x k from to) ∙ pushed
      ∙ one_pushed in
      ap is_first_place (order-is kind s (suc x) ∙ tx-order-b p (seen kind s (suc x)) mode)
      ∙ place-zero p (seen kind s (suc x)) (omega arith) one

  pub record IsSentBy (x : ℕ) : Type 0 where
    pub tick : ℕ
    pub after : a.tick < tick
    pub by : tick ≤ x
    pub first_place : is_first_place (at kind s tick).order ≡ true

  sent-or-none : (x : ℕ) → low_tick ≤ x → x ≤ u → IsSentBy x ⊎ NoneYet x
  sent-or-none zero from to = absurd (let above = arm-above in omega arith)
  sent-or-none (suc x) from to = elim (cases_lt x low_tick) [
    | inl here ↦
        let same : low_tick ≡ suc x = omega arith in
        let k = none-first in
        inr
        (record {
          high = k.high;
          after = ap (λ (i : ℕ). after_low (seen kind s i)) (sym same)
              ∙ k.after;
          none = k.none;
        })
    | inr later ↦ elim (sent-or-none x later (omega arith)) [
      | inl k ↦ let by = k.by in
          inl
          (record { tick = k.tick; after = k.after; by = omega arith; first_place = k.first_place })
      | inr k ↦ elim (cases_Bool (is_boundary (phase s Tx (suc x)))) [
        | inl e ↦
            inl
            (record {
              tick = suc x;
              after = omega arith;
              by = omega arith;
              first_place =
                  sends-boundary x k later to e;
            })
        | inr e ↦
            let y : Observed = observed_at s (run kind s (suc x)) (suc x) in
            let none_pushed : (if is_boundary y.phase then 1 else 0) ≡ zero =
            ap (λ (b : Bool). let n : ℕ = if b then 1 else 0 in n) e in
            inr
            (record {
              high = k.high ++ y ∷ [];
              after = after-suc x k later to;
              none =
                  boundary-push k.high y k.none ∙ none_pushed;
            })
      ]
    ]
  ]

  -- by a boundary after that tick a first place has been sent
  pub sent-by : (q : ℕ) → low_tick < q → q ≤ u → phase s Tx q ≡ Some 0 → IsSentBy q
  sent-by zero from to is = absurd (omega arith)
  sent-by (suc x) from to is = elim (sent-or-none x (omega arith) (omega arith)) [
    | inl k ↦ let by = k.by in
        record { tick = k.tick; after = k.after; by = omega arith; first_place = k.first_place }
    | inr k ↦ record {
      tick = suc x;
      after = omega arith;
      by = omega arith;
      first_place =
          sends-boundary x k (omega arith) to (ap is_boundary is);
    }
  ]

-- ---- both

-- what starts the lanes is sent in tick q
pub record IsSentSoon (kind : LaneKind) (s : Plan) (A : ℕ) : Type 0 where
  pub tick : ℕ
  pub after : A < tick
  pub soon : tick ≤ A + 2 * period s.link.params
  pub first_place : is_first_place (at kind s tick).order ≡ true

pub sent-soon : (kind : LaneKind) (s : Plan) (first u y : ℕ) → IsPlanRead s
    → (a : ArmedSince kind s first u) → first + 3 * period s.link.params ≤ a.tick
    → ((i : ℕ) → a.tick ≤ i → i ≤ u → is_reset s Rx i ≡ false)
    → ((i : ℕ) → a.tick < i → i ≤ u → is_reset s Tx i ≡ false)
    → phase s Tx a.tick ≡ Some y → a.tick + 3 * period s.link.params ≤ u → IsSentSoon kind s a.tick
sent-soon kind s first u y read a low quiet_rx quiet_tx is room =
    let p = s.link.params in
    let n = numbers s read in
    let some = n.some in
    let delay = n.sync_delay in
    let e = has-edges s read in
    elim (cases_Bool (is_b p.mode)) [
      | inl b ↦
          let v : ℕ = suc (a.tick + s.link.timing.sync_delay) in
          let k = phase-stays s Tx a.tick v y e (omega arith)
          (λ i from to. quiet_tx i from (omega arith)) is in
          let q = phase-at s Tx v k.0 0 read (λ i from to. quiet_tx i (omega arith) (omega arith))
          k.1 (omega arith) in
          let from = q.1 in
          let below = q.2 in
          let sent = sent-by kind s first u read b a low quiet_rx quiet_tx q.0 (omega arith)
          (omega arith) q.3 in
          let by = sent.by in
          record {
            tick = sent.tick;
            after = sent.after;
            soon = omega arith;
            first_place =
                sent.first_place;
          }
      | inr c ↦
          let v : ℕ = suc a.tick in
          let k = phase-stays s Tx a.tick v y e (omega arith)
          (λ i from to. quiet_tx i from (omega arith)) is in
          let q = phase-at s Tx v k.0 0 read (λ i from to. quiet_tx i (omega arith) (omega arith))
          k.1 (omega arith) in
          let from = q.1 in
          let below = q.2 in
          record {
            tick = q.0;
            after = omega arith;
            soon = omega arith;
            first_place =
                boundary-sends-c kind s q.0 e c q.3;
          }
    ]
