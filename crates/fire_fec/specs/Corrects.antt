-- What a correction answers (JESD204C.1, 64b/66b link layer, forward error correction).
-- Code: from the remainder of the word alone, as `Shifting` says.
use Rattle.std.specs.Prelude.{◌≡◌, ℕ, true, false, List, ◌++◌, Bool, take, Some, None}
use Rattle.std.specs.List.{flat_map}
use Rattle.jesd_base.specs.Bits.{bits, all_zero}
use Rattle.jesd_base.specs.Division.{rem}
use Rattle.fire_fec.specs.Burst.{fire, burst_added, burst}
use Rattle.fire_fec.specs.declared.fix.Fix.{Fix}
use Rattle.fire_fec.specs.declared.fix.Fix.TheVariants.{Whole, Fixed, Uncorrectable}

-- the bits of payload blocks, the first block's most significant bit first
abbrev pub payload_bits : List ℕ → List Bool
payload_bits = flat_map (bits 64)

-- the received word: the payload, then its check
abbrev pub received : List ℕ → ℕ → List Bool
received payload check = payload_bits payload ++ bits 26 check

-- Whole exactly where the remainder is zero; Fixed where one burst explains the word, and its payload part is corrected;
-- Uncorrectable where none does, and the payload stays
abbrev pub Corrects : List ℕ → ℕ → List ℕ → Fix → Type 0
Corrects old check new Whole = (all_zero (rem fire (received old check)) ≡ true) × (new ≡ old)
Corrects old check new (Fixed start mask) = (all_zero (rem fire (received old check)) ≡ false)
    × (burst (received old check) ≡ Some (record { start = start; mask = mask }))
    × (payload_bits new ≡ take 2048 (burst_added (received old check) start mask))
Corrects old check new Uncorrectable = (all_zero (rem fire (received old check)) ≡ false)
    × (burst (received old check) ≡ None) × (new ≡ old)
