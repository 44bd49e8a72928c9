-- The low bits of a number are those of its remainder.
use Rattle.std.proofs.Common.{◌≡◌, ℕ, zero, suc, ◌/◌, ◌%◌, ◌^◌, ◌<◌, ◌==◌, Bool, List, ◌∷◌, refl, sym, ap, ap₂, ◌∙◌, arith}
use Rattle.std.specs.Int.{bit_at}
use Rattle.std.proofs.lemmas.Nat.{shr_split}
use Rattle.std.proofs.lemmas.Nat.Bits.{bit_at_cat_low}
use Rattle.jesd_base.specs.Bits.{bits}

pub bits-masked : (n w v : ℕ) → n < suc w → bits n (v % 2 ^ w) ≡ bits n v
unfolding bits
bits-masked zero w v le = refl
bits-masked (suc n) w v le =
    let first : bit_at (v % 2 ^ w) n ≡ bit_at v n =
    sym (bit_at_cat_low (v / 2 ^ w) w (v % 2 ^ w) n (omega arith)) ∙ ap (λ t. bit_at t n) (shr_split v w) in
    ap₂ {C = List Bool} (λ b r. b ∷ r) (ap (λ t. t == 1) first) (bits-masked n w v (omega arith))
