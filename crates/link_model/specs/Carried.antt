-- What the lines of a run do to the bits: the delay in force, dead lanes, inverted bits and exchanged
-- wires (this project's own).
use Rattle.std.specs.Prelude.{ℕ, ◌+◌, ◌*◌, ◌%◌, ◌==◌, nat_le, nat_lt, Bool, false, not, ◌&&◌, if◌then◌else◌, List, map, count_by, filter, fold}
use Rattle.link_params.specs.Numbers.{width}
use Rattle.line_model.specs.LineBits.{line_word}
use Rattle.scenario.specs.declared.plan.What.{What}
use Rattle.scenario.specs.declared.plan.What.TheVariants.{Reset, Delay, Dead}
use Rattle.scenario.specs.declared.plan.Event.{Event}
use Rattle.scenario.specs.declared.plan.Flip.{Flip}
use Rattle.scenario.specs.Plans.{Plan, numbers_from}
use Rattle.link_model.specs.Wiring.{has_inverted_polarity}

abbrev pub delay_after : ℕ → ℕ → What → ℕ
delay_after lane d (Delay l bits) = if l == lane then bits else d
delay_after lane d (Dead l on) = d
delay_after lane d (Reset e) = d

abbrev pub dead_after : ℕ → Bool → What → Bool
dead_after lane d (Dead l on) = if l == lane then on else d
dead_after lane d (Delay l bits) = d
dead_after lane d (Reset e) = d

-- the delay before the first event of a lane, in bits: that of the window's beginning
abbrev pub first_delay : Plan → ℕ
first_delay s = s.link.timing.w_lo * width s.link.params

-- the delay of a lane in tick t, in bits: that of the last event for it up to t
unfoldable pub delay_at : Plan → ℕ → ℕ → ℕ
delay_at s lane t = fold (λ d (e : Event). if nat_le e.tick t then delay_after lane d e.what else d)
    (first_delay s) s.events

-- a lane is dead in tick t
unfoldable pub is_dead : Plan → ℕ → ℕ → Bool
is_dead s lane t = fold (λ d (e : Event). if nat_le e.tick t then dead_after lane d e.what else d)
    false s.events

-- so many flips cover received bit i of a lane
abbrev pub covers : ℕ → ℕ → Flip → Bool
covers lane i f = (f.lane == lane) && (nat_le f.first i && nat_lt i (f.first + f.count))

abbrev pub is_inverted : Plan → ℕ → ℕ → Bool
is_inverted s lane i = count_by (covers lane i) s.flips % 2 == 1

-- the received bits of a lane that are inverted, of the first n
unfoldable pub inverted_bits : Plan → ℕ → ℕ → List ℕ
inverted_bits s lane n = filter (is_inverted s lane) (numbers_from 0 n)

-- the same bits, or each of them inverted
abbrev pub with_polarity : Bool → List Bool → List Bool
with_polarity b word = if b then map not word else word

-- the bits that a receiver lane receives in tick t, where these bits were sent on the transmitter
-- lane to which it is wired up to the tick's end
unfoldable pub received : Plan → ℕ → ℕ → List Bool → List Bool
received s lane t sent = let w = width s.link.params in
    with_polarity (has_inverted_polarity s lane)
    (line_word w sent (inverted_bits s lane (w * s.ticks)) (delay_at s lane t) (is_dead s lane t))
