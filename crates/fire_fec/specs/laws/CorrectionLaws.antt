-- Laws of parity and correction.
-- Code: none of this is computed.
use Rattle.std.specs.Prelude.{◌≡◌, ℕ, ◌^◌, ◌<◌, ◌≤◌, true, List, length}
use Rattle.jesd_base.specs.Bits.{value, all_zero}
use Rattle.jesd_base.specs.Division.{rem}
use Rattle.fire_fec.specs.Burst.{fire, parity, fits, burst_added}
use Rattle.fire_fec.specs.Corrects.{payload_bits, received, Corrects}
use Rattle.fire_fec.specs.declared.fix.Fix.{Fix}
use Rattle.fire_fec.specs.declared.fix.Fix.TheVariants.{Fixed}

-- a parity is a check of 26 bits
abbrev pub ParityBelow : Type 0
ParityBelow = (payload : List ℕ) → value (parity (payload_bits payload)) < 2 ^ 26

-- a payload with its parity behind it has the remainder 0
abbrev pub ParityMakesWhole : Type 0
ParityMakesWhole = (payload : List ℕ) → all_zero (rem fire (received payload (value (parity (payload_bits payload))))) ≡ true

-- one burst that was added to a word of remainder 0 is what a correction answers, and the payload is again the one before it
abbrev pub OneBurstIsCorrected : Type 0
OneBurstIsCorrected = (sent old new : List ℕ) (check got s m : ℕ) (fix : Fix) → length sent ≡ 32 → s < 2074 → 256 ≤ m → m < 512 → fits 2074 s m ≡ true
    → all_zero (rem fire (received sent check)) ≡ true → received old got ≡ burst_added (received sent check) s m → Corrects old got new fix
    → (fix ≡ Fixed s m) × (payload_bits new ≡ payload_bits sent)
