-- The sequence place by place.
use Rattle.std.proofs.Common.{◌≡◌, ℕ, zero, suc, ◌+◌, ◌*◌, ◌<◌, length, slice_get, Some, refl, sym, ◌∙◌, ap, arith, add-zero, ◌≢◌, ◌%◌, ◌/◌, ◌-◌, ◌≤◌, ◌==◌, ◌&&◌, if◌then◌else◌, nat_le, true, false, slice_index, eq-eqb, ne_eqb, inl, inr}
use Rattle.std.proofs.lemmas.Bool.{le-leb, lt-leb, cases_Bool}
use Rattle.link_params.specs.declared.fields.Params.{Params}
use Rattle.link_params.specs.Numbers.{period}
use Rattle.link_params.specs.Config.{config_octets}
use Rattle.code_8b10b.specs.declared.character.Char.{Char}
use Rattle.code_8b10b.specs.declared.character.Char.TheVariants.{Data, Control}
use Rattle.ilas.specs.Sequence.{chars_from, ilas_char}
use Rattle.ilas.specs.laws.SequenceLaws.{CharAtEachPlace}

pub start-char : (p : Params) (lane x n : ℕ) → n ≡ period p → x % n ≡ 0 → Control 0x1C ≡ ilas_char p lane x
unfolding ilas_char
start-char p lane x n size j =
    let start : (x % period p == 0) ≡ true = eq-eqb (x % period p) 0 (ap (λ m. x % m) (sym size) ∙ j) in
    rw start refl

pub end-char : (p : Params) (lane x n : ℕ) → n ≡ period p → x % n ≢ 0 → x % n + 1 ≡ n → Control 0x7C ≡ ilas_char p lane x
unfolding ilas_char
end-char p lane x n size inside end =
    let same : x % period p ≡ x % n = ap (λ m. x % m) (sym size) in
    let start : (x % period p == 0) ≡ false = ne_eqb (x % period p) 0 (λ e. inside (sym same ∙ e)) in
    let last : (x % period p + 1 == period p) ≡ true = eq-eqb (x % period p + 1) (period p) (ap (λ m. m + 1) same ∙ end ∙ size) in
    rw (start, last) refl

-- the sequence in the middle of a multiframe
abbrev middle : Params → ℕ → ℕ → ℕ → ℕ → Char
middle p lane x q j = if (q == 1) && (j == 1) then Control 0x9C
    else (if (q == 1) && nat_le j 15 then Data (slice_index (config_octets p lane) (j - 2)) else Data (x % 256))

middle-char : (p : Params) (lane x n : ℕ) → n ≡ period p → x % n ≢ 0 → x % n + 1 ≢ n → middle p lane x (x / n) (x % n) ≡ ilas_char p lane x
unfolding ilas_char
middle-char p lane x n size inside inner =
    let same : x % period p ≡ x % n = ap (λ m. x % m) (sym size) in
    let start : (x % period p == 0) ≡ false = ne_eqb (x % period p) 0 (λ e. inside (sym same ∙ e)) in
    let last : (x % period p + 1 == period p) ≡ false = ne_eqb (x % period p + 1) (period p) (λ e. inner (ap (λ m. m + 1) (sym same) ∙ e ∙ sym size)) in
    rw (start, last) (ap (λ m. middle p lane x (x / m) (x % m)) size)

pub q-char : (p : Params) (lane x n : ℕ) → n ≡ period p → x % n ≢ 0 → x % n + 1 ≢ n → x / n ≡ 1 → x % n ≡ 1 → Control 0x9C ≡ ilas_char p lane x
q-char p lane x n size inside inner second place =
    let e : middle p lane x (x / n) (x % n) ≡ Control 0x9C = rw (second, place) refl in
    sym e ∙ middle-char p lane x n size inside inner

pub config-char : (p : Params) (lane x n : ℕ) → n ≡ period p → x % n ≢ 0 → x % n + 1 ≢ n → x / n ≡ 1 → x % n ≢ 1 → x % n ≤ 15
    → Data (slice_index (config_octets p lane) (x % n - 2)) ≡ ilas_char p lane x
config-char p lane x n size inside inner second apart few =
    let one : (x % n == 1) ≡ false = ne_eqb (x % n) 1 apart in
    let e : middle p lane x (x / n) (x % n) ≡ Data (slice_index (config_octets p lane) (x % n - 2)) = rw (second, one, le-leb (x % n) 15 few) refl in
    sym e ∙ middle-char p lane x n size inside inner

-- data in the second multiframe
pub late-char : (p : Params) (lane x n : ℕ) → n ≡ period p → x % n ≢ 0 → x % n + 1 ≢ n → x % n ≢ 1 → 15 < x % n → Data (x % 256) ≡ ilas_char p lane x
late-char p lane x n size inside inner apart many =
    let one : (x % n == 1) ≡ false = ne_eqb (x % n) 1 apart in
    let few : nat_le (x % n) 15 ≡ false = lt-leb (x % n) 15 many in
    let e : middle p lane x (x / n) (x % n) ≡ Data (x % 256) = elim (cases_Bool (x / n == 1)) [
      | inl second ↦ rw (second, one, few) refl
      | inr other ↦ rw other refl
    ] in
    sym e ∙ middle-char p lane x n size inside inner

-- data in another multiframe
pub other-char : (p : Params) (lane x n : ℕ) → n ≡ period p → x % n ≢ 0 → x % n + 1 ≢ n → x / n ≢ 1 → Data (x % 256) ≡ ilas_char p lane x
other-char p lane x n size inside inner other =
    let not_second : (x / n == 1) ≡ false = ne_eqb (x / n) 1 other in
    let e : middle p lane x (x / n) (x % n) ≡ Data (x % 256) = rw not_second refl in
    sym e ∙ middle-char p lane x n size inside inner

length-chars : (p : Params) (lane x n : ℕ) → length (chars_from p lane x n) ≡ n
unfolding chars_from
length-chars p lane x zero = refl
length-chars p lane x (suc n) = ap suc (length-chars p lane (suc x) n)

get-chars : (p : Params) (lane x n k : ℕ) → k < n → slice_get (chars_from p lane x n) k ≡ Some (ilas_char p lane (x + k))
unfolding chars_from
get-chars p lane x zero k lt = absurd (omega arith)
get-chars p lane x (suc n) zero lt = rw add-zero refl
get-chars p lane x (suc n) (suc k) lt =
    let e : suc x + k ≡ x + suc k = omega arith in
    get-chars p lane (suc x) n k (omega arith) ∙ ap (λ y. Some (ilas_char p lane y)) e

pub char_at_each_place : CharAtEachPlace
char_at_each_place p lane = record {
  whole = length-chars p lane 0 (4 * period p);
  at = λ x lt. let e : 0 + x ≡ x = omega arith in get-chars p lane 0 (4 * period p) x lt ∙ ap (λ y. Some (ilas_char p lane y)) e;
}
