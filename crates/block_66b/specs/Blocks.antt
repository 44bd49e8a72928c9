-- Blocks of 66 bits: two bits of header and 64 of payload (JESD204C.1, 64b/66b link layer, block
-- format; the order of bits is this project's own).
-- Code: shifts of a u128.
use Rattle.std.specs.Prelude.{◌≡◌, ℕ, ◌-◌, Bool, true, false, List, ◌∷◌, ◌++◌, length, take, drop}
use Rattle.jesd_base.specs.Bits.{bits, value, zeros}
use Rattle.block_66b.specs.declared.sync_bit.SyncBit.{SyncBit}
use Rattle.block_66b.specs.declared.sync_bit.SyncBit.TheVariants.{Zero, One, Bad}

-- a block that carries a sync bit: header 01 carries 1, and 10 carries 0
abbrev pub block : Bool → List Bool → List Bool
block true payload = false ∷ true ∷ payload
block false payload = true ∷ false ∷ payload

-- what the header of a block carries; 00 and 11 are bad
unfoldable pub header : List Bool → SyncBit
header (false ∷ true ∷ payload) = One
header (true ∷ false ∷ payload) = Zero
header _ = Bad

-- a block as a number of 66 bits, its first bit the most significant
abbrev pub packed : Bool → ℕ → ℕ
packed sync payload = value (block sync (bits 64 payload))

-- the block that ends so many bits before the end of all bits, with zeros before their first
abbrev pub window : ℕ → List Bool → List Bool
window rest bs = take 66 (drop (length bs - rest) (zeros 66 ++ bs))

-- a window is seen as its rest and the last 66 bits, with zeros before the first
pub record Seen : Type 0 where
  pub rest : ℕ
  pub last : List Bool

-- since it was made with this rest, a window took these bits
pub record HasTaken (now : Seen) (rest : ℕ) (taken : List Bool) : Type 0 where
  pub keeps_rest : now.rest ≡ rest
  pub keeps_last : now.last ≡ drop (length taken) (zeros 66 ++ taken)
