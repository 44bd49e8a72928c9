-- The least number that is in step.
use Rattle.std.proofs.Common.{◌≡◌, ◌≤◌, ◌<◌, ◌+◌, ◌-◌, ◌*◌, ◌/◌, ◌%◌, ◌∙◌, ℕ, Some, unwrap_or, sym, ap, arith, inl, inr}
use Rattle.std.proofs.Math.Nat.{mul-le-mul_left, mod-eq_of_lt, mod-eq-sub-mod}
use Rattle.std.proofs.lemmas.Nat.{mod-mul-add}
use Rattle.std.proofs.lemmas.Bool.{cases_lt, eq-eqb, ne_eqb}
use Rattle.jesd_base.proofs.BitLemmas.{finds_least}
use Rattle.jesd_base.specs.Search.{first_from, IsLeast}
use Rattle.link_params.specs.declared.fields.Params.{Params}
use Rattle.link_params.specs.declared.fields.Timing.{Timing}
use Rattle.link_params.specs.Numbers.{period, wait, is_in_step, tx_edge, rx_edge, lat_ticks}

-- two numbers that leave one remainder are a multiple apart
apart : (p a b : ℕ) → 0 < p → a ≤ b → a % p ≡ b % p → b - a < p → a ≡ b
apart p a b pos le e near =
    let x : p * (a / p) + a % p ≡ a = omega arith in
    let y : p * (b / p) + b % p ≡ b = omega arith in
    elim (cases_lt (a / p) (b / p)) [
      | inl below ↦ let m : p * (a / p + 1) ≤ p * (b / p) = mul-le-mul_left p (let q : a / p + 1 ≤ b / p = omega arith in q) in absurd (omega arith)
      | inr up ↦ let m : p * (b / p) ≤ p * (a / p) = mul-le-mul_left p up in omega arith
    ]

-- the number that is in step
pub in_step : (p least behind due : ℕ) → due < p
    → (least + (due + p - (least + behind) % p) % p + behind) % p ≡ due
in_step p least behind due low =
    let l : ℕ = least + behind in
    let pos : 0 < p = omega arith in
    let w : l % p < p = omega arith in
    let whole : p * (l / p) + l % p ≡ l = omega arith in
    elim (cases_lt due (l % p)) [
      | inl below ↦
          let x : (due + p - l % p) % p ≡ due + p - l % p = mod-eq_of_lt (let h : due + p - l % p < p = omega arith in h) in
          let sum : least + (due + p - l % p) % p + behind ≡ (l / p + 1) * p + due = omega arith in
          ap (λ n. n % p) sum ∙ mod-mul-add (l / p + 1) p due low
      | inr up ↦
          let y : (due + p - l % p) % p ≡ (due + p - l % p - p) % p = mod-eq-sub-mod (let h : p ≤ due + p - l % p = omega arith in h) in
          let z : (due + p - l % p - p) % p ≡ due + p - l % p - p = mod-eq_of_lt (let h : due + p - l % p - p < p = omega arith in h) in
          let sum : least + (due + p - l % p) % p + behind ≡ (l / p) * p + due = omega arith in
          ap (λ n. n % p) sum ∙ mod-mul-add (l / p) p due low
    ]

-- a number that is in step, below least + p, is the least from there on
pub is_least : (p : Params) (t : Timing) (least x : ℕ) → 0 < period p → least ≤ x → x < least + period p
    → (x + tx_edge t) % period p ≡ (rx_edge t + t.rbd) % period p → IsLeast (is_in_step p t) least x
is_least p t least x pos from below step = record {
  from = from;
  passes = eq-eqb _ _ step;
  least = λ y low high. ne_eqb _ _ (λ e.
      let same : y + tx_edge t ≡ x + tx_edge t = apart (period p) (y + tx_edge t) (x + tx_edge t) pos (omega arith) (e ∙ sym step) (omega arith) in
      absurd (omega arith));
}

-- it is the latency
pub lat_ticks-is : (p : Params) (t : Timing) (x : ℕ) → 0 < period p → t.w_hi + wait p ≤ x → x < t.w_hi + wait p + period p
    → (x + tx_edge t) % period p ≡ (rx_edge t + t.rbd) % period p → x ≡ lat_ticks p t
unfolding lat_ticks
lat_ticks-is p t x pos from below step =
    let least = is_least p t (t.w_hi + wait p) x pos from below step in
    let is : first_from (is_in_step p t) (period p) (t.w_hi + wait p) ≡ Some x =
    (finds_least (is_in_step p t) (period p) (t.w_hi + wait p) x).1 least below in
    sym (ap (λ o. unwrap_or o 0) is)
