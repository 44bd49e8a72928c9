-- The table has the check of each byte with so many bytes of zeros behind it.
use Rattle.std.proofs.Common.{◌≡◌, ◌∙◌, ℕ, zero, suc, ◌+◌, ◌*◌, ◌/◌, ◌%◌, ◌<◌, ◌==◌, ◌++◌, ap₂, Bool, true, ◌&&◌, slice_index, refl, inl, inr, arith}
use Rattle.std.proofs.lemmas.Bool.{and_parts, cases_lt, eqb-true}
use Rattle.jesd_base.specs.Bits.{bits, value, zeros}
use Rattle.jesd_base.specs.Division.{divide, rem}
use Rattle.crc12.specs.Crc.{crc, divisor}
use Rattle.crc12.specs.declared.table.TheConstants.{TABLE}

abbrev all_below : (ℕ → Bool) → ℕ → Bool
all_below p zero = true
all_below p (suc n) = p n && all_below p n

all_below-at : (p : ℕ → Bool) (n k : ℕ) → all_below p n ≡ true → k < n → p k ≡ true
all_below-at p zero k h lt = absurd (omega arith)
all_below-at p (suc n) k h lt =
    let parts = and_parts (p n) (all_below p n) h in
    elim (cases_lt k n) [
      | inl below ↦ all_below-at p n k parts.1 below
      | inr top ↦
          let e : k ≡ n = omega arith in
          rw e parts.0
    ]

is_entry : ℕ → Bool
is_entry i = slice_index TABLE i == value (crc (bits 8 (i % 256) ++ zeros (8 * (i / 256))))

each-is_entry : all_below is_entry 2048 ≡ true
unfolding is_entry bits zeros divisor rem divide
each-is_entry = refl

pub table-entry : (byte behind : ℕ) → byte < 256 → behind < 8
    → slice_index TABLE (256 * behind + byte) ≡ value (crc (bits 8 byte ++ zeros (8 * behind)))
unfolding is_entry
table-entry byte behind small few =
    let i : ℕ = 256 * behind + byte in
    let low : i % 256 ≡ byte = omega arith in
    let high : i / 256 ≡ behind = omega arith in
    eqb-true _ _ (all_below-at is_entry 2048 i each-is_entry (omega arith))
    ∙ ap₂ (λ b k. value (crc (bits 8 b ++ zeros (8 * k)))) low high
