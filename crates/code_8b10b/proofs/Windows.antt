-- The low bits of a number as the bits that came last.
use Rattle.std.proofs.Common.{◌≡◌, ◌⊎◌, ℕ, zero, suc, ◌+◌, ◌-◌, ◌*◌, ◌/◌, ◌%◌, ◌^◌, ◌==◌, ◌<◌, Bool, true, false, List, [], ◌++◌, length, drop, Some, refl, sym, ◌∙◌, ap, arith, inl, inr, zero-add}
use Rattle.std.proofs.Math.ListN.{drop_of_length-le}
use Rattle.std.proofs.Math.Nat.{suc-add, mod-lt}
use Rattle.std.proofs.Math.Pow.{pow_pos}
use Rattle.std.proofs.lemmas.List.{append-nil}
use Rattle.std.proofs.lemmas.Nat.{shr_split}
use Rattle.std.proofs.lemmas.Bool.{cases_Bool, eqb-true, eqb-false, eq-eqb, or_cases, or_left, or_right, false_from_ne_true}
use Rattle.jesd_base.specs.Bits.{bits, value}
use Rattle.jesd_base.specs.laws.BitLaws.{ValueOfBits, BitsOfValue, BitsOfBoth}
use Rattle.code_8b10b.specs.declared.character.Rd.TheVariants.{Minus, Plus}
use Rattle.code_8b10b.specs.Commas.{begins, commas, other_commas, stands_at, found}
use Rattle.code_8b10b.specs.laws.CommaLaws.{IsLeastPlace}
use Rattle.code_8b10b.proofs.Places.{begins-self, begins-append, begins-rest, length-commas, length-other_commas, found-commas, found-other_commas}

-- the laws of bits and numbers that are used here
pub record BitLaws : Type 0 where
  pub value_of_bits : ValueOfBits
  pub bits_of_value : BitsOfValue
  pub bits_of_both : BitsOfBoth

pub length-bits : (n w : ℕ) → length (bits n w) ≡ n
unfolding bits
length-bits zero w = refl
length-bits (suc n) w = ap suc (length-bits n w)

pub drop-bits : (x n w : ℕ) → drop x (bits (x + n) w) ≡ bits n w
unfolding bits
drop-bits zero n w = rw zero-add refl
drop-bits (suc x) n w = rw (suc-add x n) (drop-bits x n w)

-- forty bits and what follows them
pub drop-bits_window : BitLaws → (n w x r : ℕ) → x + 40 + r ≡ n → drop x (bits n w) ≡ bits 40 (w / 2 ^ r) ++ bits r (w % 2 ^ r)
drop-bits_window laws n w x r e =
    let split : w / 2 ^ r * 2 ^ r + w % 2 ^ r ≡ w = shr_split w r in
    let len : n ≡ x + (40 + r) = omega arith in
    let both = laws.bits_of_both 40 r (w / 2 ^ r) (w % 2 ^ r) (mod-lt w (pow_pos r)) in
    rw len (drop-bits x (40 + r) w ∙ (rw split at both))

mod-begins : BitLaws → (ps : List Bool) (v : ℕ) → begins ps (bits (length ps) v) ≡ true → v % 2 ^ length ps ≡ value ps
mod-begins laws ps v h =
    let rest = begins-rest ps (bits (length ps) v) h in
    let len = length-bits (length ps) v in
    let all : drop (length ps) (bits (length ps) v) ≡ [] = drop_of_length-le (bits (length ps) v) (omega arith) in
    let list : bits (length ps) v ≡ ps = rw all at rest ∙ append-nil ps in
    sym (laws.value_of_bits (length ps) v) ∙ ap value list

value-commas : value commas ≡ 0x3EB053EB05
unfolding commas bits
value-commas = refl

value-other_commas : value other_commas ≡ 0xC14FAC14FA
unfolding other_commas bits
value-other_commas = refl

-- bits begin with a list where their number is the list's
begins-bits : BitLaws → (ps : List Bool) (v : ℕ) → begins ps (bits (length ps) v) ≡ (v % 2 ^ length ps == value ps)
begins-bits laws ps v = elim (cases_Bool (v % 2 ^ length ps == value ps)) [
  | inl same ↦
      let number : v % 2 ^ length ps ≡ value ps = eqb-true _ _ same in
      let there : value (bits (length ps) v) ≡ v % 2 ^ length ps = laws.value_of_bits (length ps) v in
      let back = laws.bits_of_value (bits (length ps) v) in
      let is : bits (length ps) (value ps) ≡ bits (length ps) v = rw (length-bits (length ps) v, there, number) at back in
      let list : ps ≡ bits (length ps) v = sym (laws.bits_of_value ps) ∙ is in
      rw (same, ← list) (begins-self ps)
  | inr apart ↦ rw apart (false_from_ne_true _ (λ h. eqb-false _ _ apart (mod-begins laws ps v h)))
]

pub begins-commas : BitLaws → (v : ℕ) (rest : List Bool) → begins commas (bits 40 v ++ rest) ≡ (v % 2 ^ 40 == 0x3EB053EB05)
begins-commas laws v rest =
    let len = length-bits 40 v in
    let l = length-commas in
    let whole = begins-append commas (bits 40 v) rest (omega arith) in
    let first = begins-bits laws commas v in
    whole ∙ (rw (l, value-commas) at first)

pub begins-other_commas : BitLaws → (v : ℕ) (rest : List Bool) → begins other_commas (bits 40 v ++ rest) ≡ (v % 2 ^ 40 == 0xC14FAC14FA)
begins-other_commas laws v rest =
    let len = length-bits 40 v in
    let l = length-other_commas in
    let whole = begins-append other_commas (bits 40 v) rest (omega arith) in
    let first = begins-bits laws other_commas v in
    whole ∙ (rw (l, value-other_commas) at first)

-- ---- what the low n bits of a number answer, where the forty bits at x come r bits before the end

module _ (laws : BitLaws) (n w x r : ℕ) (at : x + 40 + r ≡ n) where
  drop-window : drop x (bits n w) ≡ bits 40 (w / 2 ^ r) ++ bits r (w % 2 ^ r)
  drop-window = drop-bits_window laws n w x r at

  begins-commas_at : begins commas (drop x (bits n w)) ≡ (w / 2 ^ r % 2 ^ 40 == 0x3EB053EB05)
  begins-commas_at = rw drop-window (begins-commas laws (w / 2 ^ r) (bits r (w % 2 ^ r)))

  begins-other_commas_at : begins other_commas (drop x (bits n w)) ≡ (w / 2 ^ r % 2 ^ 40 == 0xC14FAC14FA)
  begins-other_commas_at = rw drop-window (begins-other_commas laws (w / 2 ^ r) (bits r (w % 2 ^ r)))

  pub stands_at-bits : stands_at (bits n w) x ≡ true → (w / 2 ^ r % 2 ^ 40 ≡ 0x3EB053EB05) ⊎ (w / 2 ^ r % 2 ^ 40 ≡ 0xC14FAC14FA)
  unfolding stands_at
  stands_at-bits h = elim (or_cases _ _ h) [
    | inl here ↦ inl (eqb-true _ _ (sym begins-commas_at ∙ here))
    | inr there ↦ inr (eqb-true _ _ (sym begins-other_commas_at ∙ there))
  ]

  pub found-bits_commas : w / 2 ^ r % 2 ^ 40 ≡ 0x3EB053EB05 → ((y : ℕ) → y < x → stands_at (bits n w) y ≡ false) → found (bits n w) ≡ Some (record { rest = r; rd = Minus })
  unfolding stands_at
  found-bits_commas e none =
      let here = begins-commas_at ∙ eq-eqb _ _ e in
      let least : IsLeastPlace (bits n w) x = record { stands = or_left _ _ here; least = none } in
      let len = length-bits n w in
      let rest : length (bits n w) - (x + 40) ≡ r = omega arith in
      rw rest at (found-commas (bits n w) _ x least (begins-rest commas (drop x (bits n w)) here))

  pub found-bits_other : w / 2 ^ r % 2 ^ 40 ≡ 0xC14FAC14FA → ((y : ℕ) → y < x → stands_at (bits n w) y ≡ false) → found (bits n w) ≡ Some (record { rest = r; rd = Plus })
  unfolding stands_at
  found-bits_other e none =
      let here = begins-other_commas_at ∙ eq-eqb _ _ e in
      let least : IsLeastPlace (bits n w) x = record { stands = or_right _ _ here; least = none } in
      let len = length-bits n w in
      let rest : length (bits n w) - (x + 40) ≡ r = omega arith in
      rw rest at (found-other_commas (bits n w) _ x least (begins-rest other_commas (drop x (bits n w)) here))
