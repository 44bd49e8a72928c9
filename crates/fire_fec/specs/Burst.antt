-- The shortened Fire code of a 64b/66b multiblock (JESD204C.1, 64b/66b link layer, forward error
-- correction): parity, and the one burst of at most nine bits that explains a received word of
-- 2,048 payload bits and 26 check bits. The divisor, the bits that are covered, and that one burst
-- of at most nine bits is corrected, are this project's own. Places count bits of the word.
-- Code: by tables of bytes, and by shifting the remainder until the burst is trapped.
use Rattle.std.specs.Prelude.{ℕ, ◌-◌, Bool, ◌&&◌, List, ◌++◌, length, take, drop, Option, option_map}
use Rattle.jesd_base.specs.Bits.{bits, zeros, all_zero}
use Rattle.jesd_base.specs.Division.{add_bits, rem}
use Rattle.jesd_base.specs.Search.{first_from, first_found}

-- the divisor x^26 + x^21 + x^17 + x^9 + x^4 + 1 = (x^17 + 1)(x^9 + x^4 + 1), without its first bit
unfoldable pub fire : List Bool
fire = bits 26 0x220211

-- the parity of payload bits: the remainder of them with 26 zeros behind them
abbrev pub parity : List Bool → List Bool
parity payload = rem fire (payload ++ zeros 26)

-- a burst: where it begins, and its nine bits as a number, the first the most significant
pub record Burst : Type 0 where
  pub start : ℕ
  pub mask : ℕ

-- the word with the nine bits of the mask added at a place; those that fall past its end are lost
unfoldable pub burst_added : List Bool → ℕ → ℕ → List Bool
burst_added v start mask = take (length v) (add_bits v (zeros start ++ bits 9 mask))

-- the bits of the mask that fall past the end of n bits are 0
unfoldable pub fits : ℕ → ℕ → ℕ → Bool
fits n start mask = all_zero (drop (n - start) (bits 9 mask))

-- the mask fits into the word at a place, and the word with the burst added has the remainder 0
unfoldable pub explains : List Bool → ℕ → ℕ → Bool
explains v start mask = fits (length v) start mask && all_zero (rem fire (burst_added v start mask))

-- the least mask of nine bits, the first of them 1, that explains the word at a place
unfoldable pub mask_at : List Bool → ℕ → Option ℕ
mask_at v start = first_from (explains v start) 256 256

-- the pair with the least start, then the least mask, that explains the word
unfoldable pub burst : List Bool → Option Burst
burst v = first_found (λ s. option_map (λ m. record { start = s; mask = m }) (mask_at v s)) (length v) 0
