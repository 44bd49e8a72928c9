-- What a transmitter of 8b/10b lanes sends after one tick more.
use Rattle.std.proofs.Common.{◌≡◌, ℕ, suc, ◌+◌, ◌*◌, ◌%◌, ◌==◌, ◌<◌, ◌≤◌, true, false, List, [], ◌∷◌, ◌++◌, length, refl, sym, ap, ◌∙◌, add-one, arith}
use Rattle.std.proofs.Math.Nat.{mod-add-mod, mod-eq_of_lt, mul-mod_left}
use Rattle.std.proofs.lemmas.Bool.{eq-eqb, ne_eqb}
use Rattle.link_params.specs.declared.fields.Params.{Params}
use Rattle.link_params.specs.declared.fields.Mode.TheVariants.{B}
use Rattle.link_params.specs.declared.orders.TxOrder.TheVariants.{Comma, Ilas, Data as DataOrder}
use Rattle.link_params.specs.Numbers.{period}
use Rattle.link_run.specs.declared.alignment.Alignment.TheVariants.{Idle, Synchronizing, Aligning, Streaming}
use Rattle.link_model.proofs.OrderLemmas.{after_low-low, after_low-none, after_low-some, comma, from_boundary-first, from_boundary-none, later_order, next_in_data, place_in_data, place_in_sequence, since-empty, since-more, since-of, since-start}
use Rattle.link_model.specs.Orders.{Observed, is_boundary, since_boundary, tx_order}
use Rattle.link_run.specs.kept.Alignments.{GoesOnTo, HasObserved}

-- ---- ticks

pub seen_low : (p : Params) (hs : List Observed) (h : Observed) → p.mode ≡ B → h.low ≡ true
    → (Comma ≡ tx_order p (hs ++ h ∷ [])) × HasObserved Synchronizing p (hs ++ h ∷ [])
seen_low p hs h b low =
    let now = after_low-low hs h low in (
      comma p (hs ++ h ∷ []) b (since-start (hs ++ h ∷ []) now),
      ([], now, since-start (hs ++ h ∷ []) now),
    )

pub idle : (p : Params) (hs : List Observed) (h : Observed) → p.mode ≡ B → h.low ≡ false
    → HasObserved Idle p hs → GoesOnTo Idle Idle p hs h Comma
idle p hs h b high was =
    let now = after_low-none hs h high was in
    record {
      due = comma p (hs ++ h ∷ []) b (since-empty (hs ++ h ∷ []) now);
      goes_on =
          now;
      follows = tt;
      next = refl;
    }

pub begins : (p : Params) (hs : List Observed) (h : Observed) → p.mode ≡ B → h.low ≡ false
    → 1 ≤ period p → is_boundary h.phase ≡ true → HasObserved Synchronizing p hs
    → GoesOnTo Synchronizing (Aligning 0) p hs h (Ilas 0)
begins p hs h b high some phase was =
    let now = after_low-some hs h was.0 high was.1 in
    let first = from_boundary-first was.0 h phase (sym (since-of hs was.0 was.1) ∙ was.2) in
    let count : length (since_boundary (hs ++ h ∷ [])) ≡ suc 0 =
    ap length (since-of (hs ++ h ∷ []) (was.0 ++ h ∷ []) now ∙ first) in
    let low : 0 < 4 * period p = omega arith in
    record {
      due = place_in_sequence p 0 low ∙ later_order p (hs ++ h ∷ []) 0 b count;
      goes_on = (was.0 ++ h ∷ [], now, count, low);
      follows = low;
      next = refl;
    }

pub waits : (p : Params) (hs : List Observed) (h : Observed) → p.mode ≡ B → h.low ≡ false
    → is_boundary h.phase ≡ false → HasObserved Synchronizing p hs
    → GoesOnTo Synchronizing Synchronizing p hs h Comma
waits p hs h b high phase was =
    let now = after_low-some hs h was.0 high was.1 in
    let none = from_boundary-none was.0 h phase (sym (since-of hs was.0 was.1) ∙ was.2) in
    let still : since_boundary (hs ++ h ∷ []) ≡ [] = since-of (hs ++ h ∷ []) (was.0 ++ h ∷ []) now
    ∙ none in
    record {
      due = comma p (hs ++ h ∷ []) b still;
      goes_on = (was.0 ++ h ∷ [], now, still);
      follows = tt;
      next = refl;
    }

pub aligns : (p : Params) (hs : List Observed) (h : Observed) (x : ℕ) → p.mode ≡ B → h.low ≡ false
    → x + 1 < 4 * period p → HasObserved (Aligning x) p hs
    → GoesOnTo (Aligning x) (Aligning (x + 1)) p hs h (Ilas (x + 1))
aligns p hs h x b high more was =
    let now = after_low-some hs h was.0 high was.1 in
    let next = since-more hs was.0 h x high was.1 was.2 in
    let count : length (since_boundary (hs ++ h ∷ [])) ≡ suc (x + 1) = omega arith in
    record {
      due = place_in_sequence p (x + 1) more ∙ later_order p (hs ++ h ∷ []) (x + 1) b count;
      goes_on = (was.0 ++ h ∷ [], now, count, more);
      follows = more;
      next = refl;
    }

pub ends : (p : Params) (hs : List Observed) (h : Observed) (x : ℕ) → p.mode ≡ B → h.low ≡ false
    → 1 ≤ period p → 4 * period p ≤ x + 1 → HasObserved (Aligning x) p hs
    → GoesOnTo (Aligning x) (Streaming 0) p hs h (DataOrder 0 true)
ends p hs h x b high some last was =
    let now = after_low-some hs h was.0 high was.1 in
    let below = was.3 in
    let next = since-more hs was.0 h x high was.1 was.2 in
    let count : length (since_boundary (hs ++ h ∷ [])) ≡ 4 * period p + suc 0 = omega arith in
    let whole : length (since_boundary (hs ++ h ∷ [])) ≡ suc (4 * period p) = omega arith in
    let zero_place : 4 * period p % period p ≡ 0 = mul-mod_left 4 (period p) in
    let first : (4 * period p == 4 * period p) ≡ true = eq-eqb (4 * period p) (4 * period p) refl in
    let place : 0 ≡ 0 % period p = sym (mod-eq_of_lt some) in
    record {
      due = sym (ap (λ (k : ℕ). DataOrder k true) zero_place)
          ∙ sym (ap (DataOrder (4 * period p % period p)) first)
          ∙ place_in_data p (4 * period p) (omega arith)
          ∙ later_order p (hs ++ h ∷ []) (4 * period p) b whole;
      goes_on = (was.0 ++ h ∷ [], now, 0, count, place);
      follows = (refl, refl);
      next = refl;
    }

pub streams : (p : Params) (hs : List Observed) (h : Observed) (x place : ℕ) → p.mode ≡ B
    → h.low ≡ false → 1 ≤ period p → (x < period p → place ≡ (x + 1) % period p)
    → HasObserved (Streaming x) p hs
    → GoesOnTo (Streaming x) (Streaming place) p hs h (DataOrder place false)
streams p hs h x place b high some goes was =
    let within : x < period p = omega (arith, was.4) in
    let is : place ≡ suc x % period p = goes within ∙ ap (λ k. k % period p) (add-one x) in
    let now = after_low-some hs h was.0 high was.1 in
    let n : ℕ = was.2 in
    let next = since-more hs was.0 h (4 * period p + n) high was.1
    (let e : length (since_boundary hs) ≡ suc (4 * period p + n) = omega (arith, was.3) in e) in
    let m : ℕ = 4 * period p + (n + 1) in
    let count : length (since_boundary (hs ++ h ∷ [])) ≡ 4 * period p + suc (n + 1) = omega arith in
    let whole : length (since_boundary (hs ++ h ∷ [])) ≡ suc m = omega arith in
    let place_is : m % period p ≡ place = next_in_data n (period p) x place was.4 is in
    let later : (m == 4 * period p) ≡ false = ne_eqb m (4 * period p) (λ e. omega arith) in
    let place_now : place ≡ (n + 1) % period p = is ∙ ap (λ k. k % period p) (sym (add-one x))
    ∙ ap (λ k. (k + 1) % period p) was.4 ∙ mod-add-mod n (period p) 1 in
    record {
      due = sym (ap (λ (k : ℕ). DataOrder k false) place_is)
          ∙ sym (ap (DataOrder (m % period p)) later)
          ∙ place_in_data p m (omega arith) ∙ later_order p (hs ++ h ∷ []) m b whole;
      goes_on = (was.0 ++ h ∷ [], now, n + 1, count, place_now);
      follows = (refl, is);
      next = refl;
    }
