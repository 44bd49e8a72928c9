-- What is drawn from a number obeys the laws of a link.
use Rattle.std.proofs.Common.{◌≡◌, ◌<◌, ◌≤◌, ◌∙◌, ℕ, zero, suc, ◌+◌, ◌-◌, ◌*◌, ◌/◌, ◌%◌, ◌==◌, ◌&&◌, Bool, true, Some, None, nat_le, nat_lt, unwrap_or, refl, sym, ap, arith}
use Rattle.std.proofs.Math.Nat.{add-mod_right, mod-add-mod}
use Rattle.std.proofs.lemmas.Nat.{div-mul-add, mod-mul-add, mod_below}
use Rattle.std.proofs.lemmas.Bool.{eq-eqb}
use Rattle.std.proofs.lemmas.Bool.Decides.{nat_tests}
use Rattle.jesd_base.specs.Search.{first_from}
use Rattle.link_params.specs.declared.fields.Mode.{Mode}
use Rattle.link_params.specs.declared.fields.Mode.TheVariants.{B, CCrc, CFec}
use Rattle.link_params.specs.declared.fields.Params.{Params}
use Rattle.link_params.specs.declared.fields.Timing.{Timing}
use Rattle.link_params.specs.Laws.{broken_law, is_within}
use Rattle.link_params.specs.Numbers.{period, wait, lat_ticks, is_in_step}
use Rattle.link_params.specs.TimingLaws.{broken_timing, is_steady, is_sysref, are_steady, has_window}
use Rattle.scenario.specs.Generated.{params_with}

-- ---- the parameters

within : (low high x : ℕ) → low ≤ x → x ≤ high → is_within low high x ≡ true
within low high x a b = grind (arith, nat_tests)

whole : (l : ℕ) → 1 ≤ l → l * 1 % l ≡ 0
whole l some = let e : l * 1 ≡ 1 * l + 0 = omega arith in
    ap (λ n. n % l) e ∙ mod-mul-add 1 l 0 some

once : (l : ℕ) → 1 ≤ l → l * 1 / l ≡ 1
once l some = let e : l * 1 ≡ 1 * l + 0 = omega arith in
    ap (λ n. n / l) e ∙ div-mul-add 1 l 0 some

even : (e : ℕ) → 256 * e % 2 ≡ 0
even e = omega arith

pub legal : (m : Mode) (l e : ℕ) → 1 ≤ l → l ≤ 8 → 1 ≤ e → e ≤ 4
    → broken_law (params_with m l e) ≡ None
legal B l e some few more less =
    rw (
      within 1 32 l some (omega arith),
      within 1 256 l some (omega arith),
      whole l some,
      once l some,
    ) refl
legal CCrc l e some few more less =
    rw (
      within 1 32 l some (omega arith),
      within 1 256 l some (omega arith),
      whole l some,
      once l some,
      within 1 32 e more (omega arith),
      even e,
    ) refl
legal CFec l e some few more less =
    rw (
      within 1 32 l some (omega arith),
      within 1 256 l some (omega arith),
      whole l some,
      once l some,
      within 1 32 e more (omega arith),
      even e,
    ) refl

-- ---- the timing

on-boundaries : (n : ℕ) → 17 ≤ n → n ≤ 1024
    → ((2 * n % n == 0) && is_within n 1048576 (2 * n) && nat_le 2 2 && nat_lt 2 (2 * n)) ≡ true
on-boundaries n low high =
    let some : 0 < n = omega arith in
    let e : 2 * n ≡ 2 * n + 0 = omega arith in
    let z : 2 * n % n ≡ 0 = ap (λ k. k % n) e ∙ mod-mul-add 2 n 0 some in
    rw z (grind (arith, nat_tests))

steady : (late : ℕ) → is_steady 7 (8 + 16 * late) ≡ true
steady late = eq-eqb _ _ (omega arith)

first-here : (test : ℕ → Bool) (n p : ℕ) → 0 < n → test p ≡ true → first_from test n p ≡ Some p
unfolding first_from
first-here test zero p some here = absurd (omega arith)
first-here test (suc n) p some here = rw here refl

in-step : (n late w : ℕ) → late < n
    → (w + 3) % n ≡ (2 + (8 + 16 * late + 15) / 16 + (w + n - late) % n) % n
in-step n late w lt =
    let x : ℕ = w + n - late in
    let a : 2 + (8 + 16 * late + 15) / 16 + x % n ≡ x % n + (3 + late) = omega arith in
    let b : x + (3 + late) ≡ (w + 3) + n = omega arith in
    sym (ap (λ k. k % n) a ∙ mod-add-mod x n (3 + late) ∙ ap (λ k. k % n) b
    ∙ add-mod_right (w + 3) n)

-- the timing of a receiver that is so many ticks later, of a SYNC~ and of a greatest arrival
abbrev pub timing_with : Params → ℕ → ℕ → ℕ → Timing
timing_with p late sync high = record {
  sysref_period = 2 * period p;
  sysref_start = 2;
  tx_skew = 8;
  rx_skew = 8 + 16 * late;
  tolerance = 7;
  rbd = (high + wait p + period p - late) % period p;
  sync_delay = sync;
  w_lo = 1;
  w_hi = high;
}

-- the latency is the least that the window allows
latency-is : (p : Params) (late sync high : ℕ) → 17 ≤ period p → late < period p
    → lat_ticks p (timing_with p late sync high) ≡ high + wait p
unfolding lat_ticks
latency-is p late sync high low lt =
    let t = timing_with p late sync high in
    let some : 0 < period p = omega arith in
    ap (λ o. unwrap_or o 0) (first-here (is_in_step p t) (period p) (high + wait p) some
    (eq-eqb _ _ (in-step (period p) late (high + wait p) lt)))

skewed : (n late : ℕ) → late < n → (nat_le 8 (16 * n) && nat_le (8 + 16 * late) (16 * n)
    && is_steady 7 8 && is_steady 7 (8 + 16 * late)) ≡ true
skewed n late lt = rw (steady late) (grind (arith, nat_tests))

windowed : (n high w : ℕ) → 17 ≤ n → 1 ≤ high → high ≤ n / 2
    → (nat_le 1 high && nat_lt high n && nat_lt (high + w) (1 + w + n)) ≡ true
windowed n high w low some half = grind (arith, nat_tests)

within-period : (n x : ℕ) → 17 ≤ n → nat_lt (x % n) n ≡ true
within-period n x low = let some : 0 < n = omega arith in
    let lt = mod_below x n some in grind (arith, nat_tests)

below : (n x : ℕ) → x < n → nat_lt x n ≡ true
below n x lt = grind (arith, nat_tests)

pub timely : (p : Params) (late sync high : ℕ) → 17 ≤ period p → period p ≤ 1024
    → late < period p → sync < period p → 1 ≤ high → high ≤ period p / 2
    → broken_timing p (timing_with p late sync high) ≡ None
timely p late sync high low most behind back some half =
    let t = timing_with p late sync high in
    let n : ℕ = period p in
    let a : is_sysref p t ≡ true = on-boundaries n low most in
    let b : are_steady p t ≡ true = skewed n late behind in
    let d : has_window p t ≡ true = ap
    (λ k. nat_le 1 high && nat_lt high (period p) && nat_lt k (1 + wait p + period p))
    (latency-is p late sync high low behind) ∙ windowed n high (wait p) low some half in
    rw (a, b, within-period n (high + wait p + n - late) low, below n sync back, d) refl
