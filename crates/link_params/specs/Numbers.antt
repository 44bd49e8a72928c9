-- The numbers of a link, in ticks where nothing else is said. A tick is one character a lane with
-- 8b/10b lanes, and one block a lane with 64b/66b lanes. (JESD204B.01 clause 6, deterministic
-- latency; the window, the wait for a check and the bound are this project's own.)
-- Code: the latency is found by arithmetic, and not as a least number.
use Rattle.std.specs.Prelude.{ℕ, ◌+◌, ◌-◌, ◌*◌, ◌%◌, ◌==◌, Bool, if◌then◌else◌, unwrap_or}
use Rattle.jesd_base.specs.Search.{first_from}
use Rattle.link_params.specs.declared.fields.Params.{Params}
use Rattle.link_params.specs.declared.fields.Timing.{Timing}
use Rattle.link_params.specs.Laws.{is_b, ceil}

-- the period: a multiframe, or an extended multiblock
abbrev pub period : Params → ℕ
period p = if is_b p.mode then p.f * p.k else 32 * p.e

-- the bits of a tick on a lane
abbrev pub width : Params → ℕ
width p = if is_b p.mode then 10 else 66

-- the octets of a tick on a lane
abbrev pub octets_per_tick : Params → ℕ
octets_per_tick p = if is_b p.mode then 1 else 8

-- how long a block waits for its check
abbrev pub wait : Params → ℕ
wait p = if is_b p.mode then 0 else 64

-- the tick in which the transmitter captures the first SYSREF edge, without jitter
abbrev pub tx_edge : Timing → ℕ
tx_edge t = t.sysref_start + ceil t.tx_skew 16

-- the tick in which the receiver captures it
abbrev pub rx_edge : Timing → ℕ
rx_edge t = t.sysref_start + ceil t.rx_skew 16

-- x ticks after a boundary of the transmitter is a release point of the receiver: x is congruent to
-- rx_edge + rbd - tx_edge modulo the period
abbrev pub is_in_step : Params → Timing → ℕ → Bool
is_in_step p t x = (x + tx_edge t) % period p == (rx_edge t + t.rbd) % period p

-- the latency in ticks: the least time that is in step and takes the latest lane and the wait for the check
unfoldable pub lat_ticks : Params → Timing → ℕ
lat_ticks p t = unwrap_or (first_from (is_in_step p t) (period p) (t.w_hi + wait p)) 0

-- the latency in octets: from a frame's entering to its leaving
abbrev pub latency : Params → Timing → ℕ
latency p t = lat_ticks p t * octets_per_tick p

-- the entries that a lane's elastic buffer has room for, one a tick
abbrev pub depth : Params → Timing → ℕ
depth p t = lat_ticks p t - wait p - t.w_lo + 1

-- the ticks from a hunt's beginning within which a running link is to deliver, where its line is undisturbed and its edges and
-- lanes meet their windows
abbrev pub bound : Params → Timing → ℕ
bound p t = t.sysref_period + 32 * period p + 8 * wait p + 256
