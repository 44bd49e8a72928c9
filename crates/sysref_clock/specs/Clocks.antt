-- When SYSREF edges are captured, and the phase of a device's clock over its edges (JESD204B.01
-- clause 6, deterministic latency: the local multiframe clock is aligned by SYSREF). Skew and
-- jitter are in sixteenths of a tick; nominal times, periods and phases are in ticks. A list of
-- edges has one item a tick since the clock was made or cleared: true where an edge comes in that
-- tick.
-- Code: a counter.
use Rattle.std.specs.Prelude.{ℕ, ◌+◌, ◌-◌, ◌*◌, ◌/◌, ◌%◌, nat_lt, Bool, false, ◌&&◌, if◌then◌else◌, List, length, get_or, Option, Some, None, option_map, option_and_then, ℤ, pos, ◌+ℤ◌, nat_abs}
use Rattle.jesd_base.specs.Search.{first_from}

-- where an edge stands, in sixteenths of a tick
abbrev pub place_of_edge : ℕ → ℕ → ℤ → ℤ
place_of_edge nominal skew jitter = pos (16 * nominal + skew) +ℤ jitter

-- the tick in which it is captured: the least one that is not before it. No edge of a legal scenario
-- stands before tick 0: SYSREF starts in tick 2 or later (law 13 of a link's timing), skew only adds,
-- and jitter takes off at most 32 sixteenths, which are two ticks. So its place is its own absolute
-- value.
abbrev pub captured : ℕ → ℕ → ℤ → ℕ
captured nominal skew jitter = (nat_abs (place_of_edge nominal skew jitter) + 15) / 16

-- the first edge: the least place that is true
abbrev pub first_edge : List Bool → Option ℕ
first_edge edges = first_from (λ i. get_or edges i false) (length edges) 0

-- the phase in the last of these ticks: how far it is from the first edge, modulo the period; none before the first edge
unfoldable pub phase_after : ℕ → List Bool → Option ℕ
phase_after period edges = option_map (λ x. (length edges - 1 - x) % period) (first_edge edges)

-- the phase of an edge that comes in the last of these ticks, where it is above 0
unfoldable pub off_after : ℕ → List Bool → Option ℕ
off_after period edges = option_and_then (λ p. if get_or edges (length edges - 1) false && nat_lt 0 p then Some p else None) (phase_after period edges)
