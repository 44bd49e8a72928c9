-- Places as they are kept.
use Rattle.std.proofs.Common.{◌≡◌, ℕ, ◌+◌, ◌-◌, ◌*◌, ◌%◌, ◌==◌, ◌<◌, ◌≤◌, nat_le, Bool, false, inl, inr, refl, sym, ◌∙◌, ap, arith, eq-eqb, ne_eqb, le-leb}
use Rattle.std.proofs.Math.Nat.{mod-mod, mul-add-mod_self_right, mul-mod_left, mod-lt, mul-le-mul_left}
use Rattle.std.proofs.lemmas.Bool.{cases_lt, lt-ltb, le-ltb}
use Rattle.link_params.specs.declared.fields.Params.{Params}
use Rattle.link_params.specs.Numbers.{period}
use Rattle.code_8b10b.specs.declared.character.Char.{Char}
use Rattle.code_8b10b.specs.declared.character.Char.TheVariants.{Data, Control}
use Rattle.code_8b10b.specs.declared.character.Reading.{Reading}
use Rattle.code_8b10b.specs.declared.character.Reading.TheVariants.{Char as Read, Disparity, Invalid}
use Rattle.char_replace.specs.Replacement.{ends_multiframe}
use Rattle.char_replace.specs.Restoring.{is_accepted}
use Rattle.char_replace.specs.kept.Ends.{IsSerial}
use Rattle.char_replace.proofs.FramePlaces.{mod-multiple, mod-next, mod-wrap, has_period}
use Rattle.lane_b.specs.Loss.{accepted_or_misplaced, alignment_at, ilas_length, is_accepted_since, is_alignment}
use Rattle.lane_b.specs.kept.Starts.{kept_place, next_kept_place}

pub kept-low : (period n : ℕ) → n < 5 * period → kept_place period n ≡ n
kept-low period n below = rw (lt-ltb n (5 * period) below) refl

kept-high : (period n : ℕ) → 5 * period ≤ n → kept_place period n ≡ 5 * period + n % period
kept-high period n past = rw (le-ltb n (5 * period) past) refl

pub kept-mod : (period n : ℕ) → kept_place period n % period ≡ n % period
kept-mod period n = elim (cases_lt n (5 * period)) [
  | inl below ↦ ap (λ x. x % period) (kept-low period n below)
  | inr past ↦ ap (λ x. x % period) (kept-high period n past) ∙ mul-add-mod_self_right 5 period (n % period) ∙ mod-mod n period
]

kept-in_data : (period n : ℕ) → 4 * period ≤ n → 4 * period ≤ kept_place period n
kept-in_data period n le = elim (cases_lt n (5 * period)) [
  | inl below ↦ rw (kept-low period n below) le
  | inr past ↦ let e = kept-high period n past in omega arith
]

-- both lie in the alignment sequence, where they are equal, or both in data
pub kept-in_ilas : (period n : ℕ) → kept_place period n < 4 * period → n < 4 * period
kept-in_ilas period n below = elim (cases_lt n (4 * period)) [
  | inl short ↦ short
  | inr past ↦ let there = kept-in_data period n past in absurd (omega arith)
]

pub kept-past : (period n : ℕ) → 4 * period ≤ kept_place period n → 4 * period ≤ n
kept-past period n past = elim (cases_lt n (4 * period)) [
  | inl short ↦ let same = kept-low period n (omega arith) in absurd (omega arith)
  | inr there ↦ there
]

pub kept-next : (period n : ℕ) → 1 ≤ period → next_kept_place period (kept_place period n) ≡ kept_place period (n + 1)
kept-next period n some = elim (cases_lt n (5 * period)) [
  | inl below ↦
      let apart = ne_eqb (n + 1) (6 * period) (λ e. omega arith) in
      let step : next_kept_place period (kept_place period n) ≡ n + 1 = rw (kept-low period n below, apart) refl in
      elim (cases_lt (n + 1) (5 * period)) [
        | inl inside ↦ step ∙ sym (kept-low period (n + 1) inside)
        | inr end ↦
            let last : n + 1 ≡ 5 * period = omega arith in
            let none : (n + 1) % period ≡ 0 = ap (λ x. x % period) last ∙ mul-mod_left 5 period in
            step ∙ sym (kept-high period (n + 1) end ∙ omega arith)
      ]
  | inr past ↦
      let here = kept-high period n past in
      let later = kept-high period (n + 1) (omega arith) in
      let rest : n % period < period = mod-lt n some in
      elim (cases_lt (n % period + 1) period) [
        | inl inside ↦
            let more : (n + 1) % period ≡ n % period + 1 = mod-next period n inside in
            let apart = ne_eqb (kept_place period n + 1) (6 * period) (λ e. omega arith) in
            rw apart (omega arith)
        | inr end ↦
            let none : (n + 1) % period ≡ 0 = mod-wrap period n (omega arith) in
            let last = eq-eqb (kept_place period n + 1) (6 * period) (omega arith) in
            rw last (omega arith)
      ]
]

-- places of data
pub data-mod : (period n : ℕ) → 4 * period ≤ n → (n - 4 * period) % period ≡ n % period
data-mod period n le =
    let whole : 4 * period + (n - 4 * period) ≡ n = omega arith in
    sym (mul-add-mod_self_right 4 period (n - 4 * period)) ∙ ap (λ x. x % period) whole

same-accepted : (p : Params) (x y : ℕ) (c : Char) → ends_multiframe p x ≡ ends_multiframe p y → x % p.f ≡ y % p.f → nat_le p.f x ≡ nat_le p.f y
    → is_accepted p x c ≡ is_accepted p y c
same-accepted p x y (Data o) whole part later = refl
same-accepted p x y (Control o) whole part later = rw (whole, part, later) refl

pub accepted-kept : (p : Params) (n : ℕ) (c : Char) → IsSerial p → is_accepted_since p (kept_place (period p) n) c ≡ is_accepted_since p n c
accepted-kept p n c serial = elim (cases_lt n (5 * period p)) [
  | inl below ↦ ap (λ x. is_accepted_since p x c) (kept-low (period p) n below)
  | inr past ↦
      let h = has_period p serial in
      let k : ℕ = kept_place (period p) n in
      let e : k ≡ 5 * period p + n % period p = kept-high (period p) n past in
      let y : ℕ = k - ilas_length p in
      let x : ℕ = n - ilas_length p in
      let there : ilas_length p ≤ k = omega arith in
      let here : ilas_length p ≤ n = omega arith in
      let frame : p.f ≤ period p = rw h.is (let m : p.f * 1 ≤ p.f * p.k = mul-le-mul_left p.f h.k in omega arith) in
      let rest : y % period p ≡ x % period p = data-mod (period p) k there ∙ kept-mod (period p) n ∙ sym (data-mod (period p) n here) in
      let part : y % p.f ≡ x % p.f = sym (mod-multiple p.f p.k y) ∙ ap (λ m. m % p.f) (ap (λ m. y % m) (sym h.is) ∙ rest ∙ ap (λ m. x % m) h.is) ∙ mod-multiple p.f p.k x in
      let later : nat_le p.f y ≡ nat_le p.f x = le-leb p.f y (omega arith) ∙ sym (le-leb p.f x (omega arith)) in
      rw (le-ltb k (ilas_length p) there, le-ltb n (ilas_length p) here)
      (same-accepted p y x c (ap (λ m. m + 1 == period p) rest) part later)
]

pub alignment-kept : (p : Params) (n : ℕ) (r : Reading) → IsSerial p → alignment_at p (kept_place (period p) n) r ≡ alignment_at p n r
alignment-kept p n (Read c) serial = ap (λ (b : Bool). accepted_or_misplaced b (is_alignment c)) (accepted-kept p n c serial)
alignment-kept p n (Disparity c) serial = ap (λ (b : Bool). accepted_or_misplaced b false) (accepted-kept p n c serial)
alignment-kept p n Invalid serial = refl
