-- What the laws say of numbers.
use Rattle.std.proofs.Common.{◌≡◌, ◌≤◌, ◌<◌, ◌+◌, ◌-◌, ◌==◌, ◌*◌, ◌/◌, ◌%◌, ◌&&◌, ◌||◌, ℕ, zero, suc, Bool, true, false, List, [], ◌∷◌, Some, None, nat_le, nat_lt, min, arith, inl, inr}
use Rattle.std.proofs.Math.Nat.{mul-le-mul_left}
use Rattle.std.proofs.lemmas.Bool.{cases_Bool, leb-true, ltb-true, eqb-true, and_parts}
use Rattle.std.proofs.lemmas.Bool.Decides.{nat_tests}
use Rattle.link_params.specs.declared.fields.Params.{Params}
use Rattle.link_params.specs.declared.fields.Timing.{Timing}
use Rattle.link_params.specs.Laws.{laws, first_broken, broken_law, is_within, is_b, ceil, due_octets, has_period}
use Rattle.link_params.specs.Numbers.{period, wait, lat_ticks}
use Rattle.link_params.specs.TimingLaws.{timing_laws, broken_timing, is_steady}
use Rattle.link_params.specs.Sizes.{AreSizes}

-- every law holds
abbrev pub AllHold : List (ℕ × Bool) → Type 0
AllHold [] = Unit {0}
AllHold (law ∷ more) = (law.1 ≡ true) × AllHold more

all_hold : (ls : List (ℕ × Bool)) → first_broken ls ≡ None → AllHold ls
all_hold [] e = tt
all_hold (l ∷ ls) e = elim (cases_Bool l.1) [
  | inl t ↦ (t, all_hold ls (let k : first_broken ls ≡ None = rw t at e in k))
  | inr f ↦ let bad : Some l.0 ≡ None = rw f at e in cc bad
]

within-true : (low high x : ℕ) → is_within low high x ≡ true → (low ≤ x) × (x ≤ high)
within-true low high x h = grind (arith, nat_tests)

-- the period of legal parameters
pub record IsPeriod (n : ℕ) : Type 0 where
  pub low : 17 ≤ n
  pub high : n ≤ 1024

period_fits : (p : Params) → 1 ≤ p.f → has_period p ≡ true → IsPeriod (period p)
period_fits p some law = elim (cases_Bool (is_b p.mode)) [
  | inl t ↦
      let parts = and_parts (p.e == 0) (is_within (ceil 17 p.f) (min 32 (1024 / p.f)) p.k) (rw t at law) in
      let k = within-true (ceil 17 p.f) (min 32 (1024 / p.f)) p.k parts.1 in
      let up : p.f * p.k ≤ p.f * (1024 / p.f) = mul-le-mul_left p.f (let q : p.k ≤ 1024 / p.f = omega (arith, k) in q) in
      let down : p.f * ((17 + (p.f - 1)) / p.f) ≤ p.f * p.k = mul-le-mul_left p.f k.0 in
      rw t (record { low = omega arith; high = omega arith })
  | inr f ↦
      let parts = and_parts ((p.k == 0) && p.scr) (is_within 1 32 p.e) (rw f at law) in
      let e = within-true 1 32 p.e parts.1 in
      rw f (record { low = omega (arith, e); high = omega (arith, e) })
]

whole_words : (p : Params) → (p.hd || (p.m * p.s % p.l == 0)) ≡ true → p.hd ≡ false → p.m * p.s % p.l ≡ 0
whole_words p law apart = eqb-true _ _ (rw apart at law)

-- legal parameters lie within their limits
pub legal_sizes : (p : Params) → broken_law p ≡ None → AreSizes p
legal_sizes p e =
    let a = all_hold (laws p) e in
    let f = within-true 1 256 p.f a.1.1.0 in
    let t = period_fits p f.0 a.1.1.1.1.1.1.1.1.1.1.0 in
    record {
      l_low = (within-true 1 32 p.l a.0).0;
      l = (within-true 1 32 p.l a.0).1;
      m_low = (within-true 1 256 p.m a.1.0).0;
      m = (within-true 1 256 p.m a.1.0).1;
      f_low = f.0;
      f = f.1;
      s_low = (within-true 1 32 p.s a.1.1.1.0).0;
      s = (within-true 1 32 p.s a.1.1.1.0).1;
      n_low = (within-true 1 32 p.n a.1.1.1.1.0).0;
      np = (within-true 1 32 p.np a.1.1.1.1.1.0).1;
      word = leb-true (p.n + p.cs) p.np a.1.1.1.1.1.1.1.0;
      whole_words = λ no. whole_words p a.1.1.1.1.1.1.1.1.0 no;
      octets = eqb-true p.f (due_octets p) a.1.1.1.1.1.1.1.1.1.0;
      period_low = t.low;
      period = t.high;
    }

some_factor : (a b : ℕ) → 1 ≤ a * b → 1 ≤ b
some_factor a zero h = absurd (omega arith)
some_factor a (suc b) h = omega arith

-- the fields of the configuration octets have room for legal parameters
pub record HaveRoom (p : Params) : Type 0 where
  pub l : p.l ≤ 32
  pub f : p.f ≤ 256
  pub k_low : 1 ≤ p.k
  pub k : p.k ≤ 32
  pub m : p.m ≤ 256
  pub cs : p.cs ≤ 3
  pub n : p.n ≤ 32
  pub np : p.np ≤ 32
  pub s : p.s ≤ 32

pub rooms : (p : Params) → broken_law p ≡ None → is_b p.mode ≡ true → HaveRoom p
rooms p e b =
    let a = all_hold (laws p) e in
    let law = a.1.1.1.1.1.1.1.1.1.1.0 in
    let parts = and_parts (p.e == 0) (is_within (ceil 17 p.f) (min 32 (1024 / p.f)) p.k) (rw b at law) in
    let frames = within-true (ceil 17 p.f) (min 32 (1024 / p.f)) p.k parts.1 in
    let sizes = legal_sizes p e in
    let least : 17 ≤ p.f * p.k = rw b at sizes.period_low in
    let word = sizes.word in
    record {
      l = sizes.l;
      f = sizes.f;
      k_low = some_factor p.f p.k (omega arith);
      k = omega (arith, frames);
      m = sizes.m;
      cs = leb-true p.cs 3 a.1.1.1.1.1.1.0;
      n = omega (arith, sizes.np);
      np = sizes.np;
      s = sizes.s;
    }

-- a legal timing lies within these limits
pub record IsTimely (p : Params) (t : Timing) : Type 0 where
  pub sysref_period : t.sysref_period ≤ 1048576
  pub sysref_start : t.sysref_start < 1048576
  pub tx_skew : t.tx_skew ≤ 16 * period p
  pub rx_skew : t.rx_skew ≤ 16 * period p
  pub rbd : t.rbd < period p
  pub sync_delay : t.sync_delay < period p
  pub order : t.w_lo ≤ t.w_hi
  pub window : t.w_hi < period p
  pub latency : lat_ticks p t < t.w_lo + wait p + period p

pub timely : (p : Params) (t : Timing) → broken_timing p t ≡ None → IsTimely p t
timely p t e =
    let a = all_hold (timing_laws p t) e in
    let sysref = and_parts ((t.sysref_period % period p == 0) && is_within (period p) 1048576 t.sysref_period && nat_le 2 t.sysref_start) (nat_lt t.sysref_start t.sysref_period) a.0 in
    let before = and_parts ((t.sysref_period % period p == 0) && is_within (period p) 1048576 t.sysref_period) (nat_le 2 t.sysref_start) sysref.0 in
    let range = (and_parts (t.sysref_period % period p == 0) (is_within (period p) 1048576 t.sysref_period) before.0).1 in
    let most = (within-true (period p) 1048576 t.sysref_period range).1 in
    let start = ltb-true t.sysref_start t.sysref_period sysref.1 in
    let window = and_parts (nat_le t.w_lo t.w_hi && nat_lt t.w_hi (period p)) (nat_lt (lat_ticks p t) (t.w_lo + wait p + period p)) a.1.1.1.1.0 in
    let order = and_parts (nat_le t.w_lo t.w_hi) (nat_lt t.w_hi (period p)) window.0 in
    let both = and_parts (nat_le t.tx_skew (16 * period p) && nat_le t.rx_skew (16 * period p) && is_steady t.tolerance t.tx_skew) (is_steady t.tolerance t.rx_skew) a.1.0 in
    let skews = and_parts (nat_le t.tx_skew (16 * period p) && nat_le t.rx_skew (16 * period p)) (is_steady t.tolerance t.tx_skew) both.0 in
    let small = and_parts (nat_le t.tx_skew (16 * period p)) (nat_le t.rx_skew (16 * period p)) skews.0 in
    record {
      sysref_period = most;
      sysref_start = omega arith;
      tx_skew = leb-true t.tx_skew (16 * period p) small.0;
      rx_skew = leb-true t.rx_skew (16 * period p) small.1;
      rbd = ltb-true t.rbd (period p) a.1.1.0;
      sync_delay = ltb-true t.sync_delay (period p) a.1.1.1.0;
      order = leb-true t.w_lo t.w_hi order.0;
      window = ltb-true t.w_hi (period p) order.1;
      latency = ltb-true (lat_ticks p t) (t.w_lo + wait p + period p) window.1;
    }
