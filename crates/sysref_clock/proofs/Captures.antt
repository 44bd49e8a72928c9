-- The tick in which an edge is captured.
use Rattle.std.proofs.Common.{◌≡◌, ℕ, ◌+◌, ◌*◌, ◌/◌, ◌≤◌, ℤ, pos, negsuc, ◌≤ℤ◌, ◌+ℤ◌, nat_abs, refl, arith}
use Rattle.std.proofs.lemmas.Int.{ints}
use Rattle.sysref_clock.specs.laws.ClockLaws.{CapturedIsLeast}

place_of : (z : ℤ) → pos 0 ≤ℤ z → z ≡ pos (nat_abs z)
place_of (pos n) h = refl
place_of (negsuc n) h = absurd (omega (arith, ints))

least-above : (z : ℤ) (n : ℕ) → z ≡ pos n → (z ≤ℤ pos (16 * ((n + 15) / 16))) × ((t : ℕ) → z ≤ℤ pos (16 * t) → (n + 15) / 16 ≤ t)
least-above z n e = (omega (arith, ints), λ t h. omega (arith, ints))

pub captured_is_least : CapturedIsLeast
captured_is_least nominal skew jitter h =
    let z : ℤ = pos (16 * nominal + skew) +ℤ jitter in
    least-above z (nat_abs z) (place_of z h)
