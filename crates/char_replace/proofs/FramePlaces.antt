-- Places in frames and multiframes.
use Rattle.std.proofs.Common.{◌≡◌, ◌≢◌, ℕ, zero, suc, ◌+◌, ◌-◌, ◌*◌, ◌/◌, ◌%◌, ◌==◌, ◌<◌, ◌≤◌, nat_le, inl, inr, false, refl, sym, ◌∙◌, ap, arith, mul_assoc, mod-eq_of_lt, ne_eqb, eq-eqb, le-leb}
use Rattle.std.proofs.lemmas.Bool.{cases_lt, cases_eq, lt-leb}
use Rattle.std.proofs.Math.Nat.{div-add-mod, mul-add-mod_self_left, mod_self}
use Rattle.link_params.specs.declared.fields.Params.{Params}
use Rattle.link_params.specs.declared.fields.Mode.TheVariants.{B}
use Rattle.link_params.specs.Numbers.{period}
use Rattle.char_replace.specs.Replacement.{ends_multiframe}
use Rattle.link_params.proofs.LawFacts.{legal_sizes}
use Rattle.char_replace.specs.kept.Ends.{frame_end, IsSerial}

pub period-b : (p : Params) → p.mode ≡ B → period p ≡ p.f * p.k
period-b p b = rw b refl

pub mod-multiple : (f k x : ℕ) → x % (f * k) % f ≡ x % f
mod-multiple f k x =
    let q : ℕ = x / (f * k) in
    let r : ℕ = x % (f * k) in
    let whole : f * (k * q) + r ≡ x = ap (λ n. n + r) (sym (mul_assoc f k q)) ∙ div-add-mod x (f * k) in
    sym (mul-add-mod_self_left f (k * q) r) ∙ ap (λ n. n % f) whole

-- the last place of a multiple is the last place of each part
pub ends-multiple : (f k x : ℕ) → 1 ≤ f → 1 ≤ k → x % (f * k) + 1 ≡ f * k → x % f + 1 ≡ f
ends-multiple f zero x some none end = absurd (omega arith)
ends-multiple f (suc j) x some more end =
    let at : x % (f * suc j) ≡ f * j + (f - 1) = omega arith in
    let low : (f * j + (f - 1)) % f ≡ f - 1 = mul-add-mod_self_left f j (f - 1) ∙ mod-eq_of_lt (let l : f - 1 < f = omega arith in l) in
    let e : x % f ≡ f - 1 = sym (mod-multiple f (suc j) x) ∙ ap (λ n. n % f) at ∙ low in
    omega arith

pub mod-next : (f x : ℕ) → x % f + 1 < f → (x + 1) % f ≡ x % f + 1
mod-next f x below =
    let q : ℕ = x / f in
    let whole : f * q + (x % f + 1) ≡ x + 1 = omega (arith, div-add-mod x f) in
    ap (λ n. n % f) (sym whole) ∙ mul-add-mod_self_left f q (x % f + 1) ∙ mod-eq_of_lt below

pub mod-wrap : (f x : ℕ) → x % f + 1 ≡ f → (x + 1) % f ≡ 0
mod-wrap f x end =
    let q : ℕ = x / f in
    let whole : f * q + f ≡ x + 1 = omega (arith, div-add-mod x f) in
    ap (λ n. n % f) (sym whole) ∙ mul-add-mod_self_left f q f ∙ mod_self f

pub frame_end-here : (p : Params) (x : ℕ) → x % p.f + 1 ≡ p.f → frame_end p (x + 1) ≡ x
frame_end-here p x end = let e = mod-wrap p.f x end in omega arith

pub frame_end-before : (p : Params) (x : ℕ) → x % p.f + 1 ≡ p.f → frame_end p x ≡ x - p.f
frame_end-before p x end = omega arith

pub frame_end-inside : (p : Params) (x : ℕ) → x % p.f + 1 < p.f → frame_end p (x + 1) ≡ frame_end p x
frame_end-inside p x below = let e = mod-next p.f x below in omega arith

-- what ends no frame ends no multiframe
pub ends-none : (p : Params) (x : ℕ) → p.mode ≡ B → 1 ≤ p.f → 1 ≤ p.k → x % p.f + 1 ≢ p.f → ends_multiframe p x ≡ false
ends-none p x b f k apart = rw b (ne_eqb (x % (p.f * p.k) + 1) (p.f * p.k) (λ end. apart (ends-multiple p.f p.k x f k end)))

-- no frame was begun or ended inside a frame
pub begun-inside : (f x : ℕ) → 1 ≤ f → x % f + 1 ≢ f → nat_le f (x + 1) ≡ nat_le f x
begun-inside f x some apart = elim (cases_lt x f) [
  | inl below ↦
      let rest : x % f ≡ x = mod-eq_of_lt below in
      let early : x + 1 < f = omega arith in
      rw (lt-leb f (x + 1) early, lt-leb f x below) refl
  | inr past ↦ rw (le-leb f (x + 1) (omega arith), le-leb f x past) refl
]

some_factor : (a b : ℕ) → 1 ≤ a * b → 1 ≤ b
some_factor a zero h = absurd (omega arith)
some_factor a (suc b) h = omega arith

-- what legal parameters give
pub record HasPeriod (p : Params) : Type 0 where
  pub is : period p ≡ p.f * p.k
  pub f : 1 ≤ p.f
  pub f_high : p.f ≤ 256
  pub k : 1 ≤ p.k
  pub high : p.f * p.k ≤ 1024
  pub low : 1 ≤ p.f * p.k

pub has_period : (p : Params) → IsSerial p → HasPeriod p
has_period p s =
    let sizes = legal_sizes p s.legal in
    let is : period p ≡ p.f * p.k = period-b p s.mode in
    let low : 1 ≤ p.f * p.k = rw is at (let l : 1 ≤ period p = omega (arith, sizes) in l) in
    record { is = is; f = sizes.f_low; f_high = sizes.f; k = some_factor p.f p.k low; high = rw is at sizes.period; low = low }

pub frame_end-of_place : (p : Params) (x place : ℕ) → HasPeriod p → place ≡ x % period p → (place % p.f + 1 == p.f) ≡ (x % p.f + 1 == p.f)
frame_end-of_place p x place h at =
    let here : place ≡ x % (p.f * p.k) = at ∙ ap (λ (n : ℕ). x % n) h.is in
    let same : place % p.f ≡ x % p.f = ap (λ (n : ℕ). n % p.f) here ∙ mod-multiple p.f p.k x in
    ap (λ (n : ℕ). n + 1 == p.f) same

pub multiframe_end-of_place : (p : Params) (x place : ℕ) → HasPeriod p → place ≡ x % period p → (place == p.f * p.k - 1) ≡ ends_multiframe p x
multiframe_end-of_place p x place h at =
    let low = h.low in
    elim (cases_eq place (p.f * p.k - 1)) [
      | inl end ↦
          let e : x % period p + 1 ≡ period p = omega (arith, h.is) in
          rw (eq-eqb place (p.f * p.k - 1) end, eq-eqb (x % period p + 1) (period p) e) refl
      | inr apart ↦
          let e : x % period p + 1 ≢ period p = λ end. apart (omega (arith, h.is)) in
          rw (ne_eqb place (p.f * p.k - 1) apart, ne_eqb (x % period p + 1) (period p) e) refl
    ]
