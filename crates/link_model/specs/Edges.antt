-- The SYSREF edges, resets and clock phases of a run (JESD204B.01 clause 6, deterministic latency;
-- jitter and resets are this project's own). All are functions of the plan and the tick.
-- Code: the next edge of a device, and a clock.
use Rattle.std.specs.Prelude.{ℕ, zero, suc, ◌+◌, ◌-◌, ◌*◌, ◌/◌, ◌==◌, Bool, true, false, ◌&&◌, if◌then◌else◌, List, map, fold, Option, ℤ, pos}
use Rattle.std.specs.List.{list_any}
use Rattle.link_params.specs.declared.fields.Timing.{Timing}
use Rattle.link_params.specs.declared.alarms.Device.{Device}
use Rattle.link_params.specs.declared.alarms.Device.TheVariants.{Tx, Rx}
use Rattle.link_params.specs.Numbers.{period}
use Rattle.sysref_clock.specs.Clocks.{captured, phase_after, off_after}
use Rattle.scenario.specs.declared.plan.What.{What}
use Rattle.scenario.specs.declared.plan.What.TheVariants.{Reset, Delay, Dead}
use Rattle.scenario.specs.declared.plan.Jitter.{Jitter}
use Rattle.scenario.specs.Plans.{Plan, numbers_from}

abbrev pub is_device : Device → Device → Bool
is_device Tx Tx = true
is_device Tx Rx = false
is_device Rx Tx = false
is_device Rx Rx = true

abbrev pub resets : Device → What → Bool
resets d (Reset e) = is_device d e
resets d (Delay lane bits) = false
resets d (Dead lane on) = false

-- the device is reset in tick t
unfoldable pub is_reset : Plan → Device → ℕ → Bool
is_reset s d t = list_any (λ e. (e.tick == t) && resets d e.what) s.events

-- the tick of the device's last reset up to t, or 0 where it had none
unfoldable pub last_reset : Plan → Device → ℕ → ℕ
last_reset s d zero = 0
last_reset s d (suc t) = if is_reset s d (suc t) then suc t else last_reset s d t

abbrev pub skew : Timing → Device → ℕ
skew t Tx = t.tx_skew
skew t Rx = t.rx_skew

-- the jitter of edge i at a device: that of the last record for it, or 0
unfoldable pub jitter : List Jitter → Device → ℕ → ℤ
jitter jitters d i =
    fold (λ x (j : Jitter). if is_device d j.device && (j.edge == i) then j.sixteenths else x)
    (pos 0) jitters

-- the tick in which a device captures edge i
unfoldable pub edge_tick : Plan → Device → ℕ → ℕ
edge_tick s d i = let t = s.link.timing in captured (t.sysref_start + i * t.sysref_period)
    (skew t d) (jitter s.jitters d i)

-- some edge is captured in tick t: one of the first ones, since no jitter reaches farther than two
-- ticks
unfoldable pub is_edge : Plan → Device → ℕ → Bool
is_edge s d t = list_any (λ i. edge_tick s d i == t)
    (numbers_from 0 (t / s.link.timing.sysref_period + 2))

-- whether an edge is captured, in each tick from the device's last reset up to t
unfoldable pub edges : Plan → Device → ℕ → List Bool
edges s d t = let r = last_reset s d t in map (is_edge s d) (numbers_from r (t + 1 - r))

-- the phase of the device's clock in tick t: none before the first edge since its reset
abbrev pub phase : Plan → Device → ℕ → Option ℕ
phase s d t = phase_after (period s.link.params) (edges s d t)

-- the phase of an edge that comes in tick t off a boundary
abbrev pub off : Plan → Device → ℕ → Option ℕ
off s d t = off_after (period s.link.params) (edges s d t)
