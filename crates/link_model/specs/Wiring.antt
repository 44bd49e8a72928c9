-- Which lane is wired to which, and which lane of the frame a receiver lane is set to be
-- (JESD204B.01 clause 5.3.3.5, initial lane alignment, whose lane numbers tell a receiver of it; the
-- records are this project's own). Lanes are counted from 0.
-- Code: each lane holds the transmitter lane to which it is wired; octets go to their place in the frame.
use Rattle.std.specs.Prelude.{ℕ, ◌==◌, Bool, false, List, map, get_or, slice_index, unwrap_or}
use Rattle.jesd_base.specs.Search.{first_from}
use Rattle.scenario.specs.Plans.{Plan, numbers_from}

-- the transmitter lane to which a receiver lane is wired
abbrev pub wire_of : Plan → ℕ → ℕ
wire_of s lane = slice_index s.wire lane

-- the lane of the frame that a receiver lane is set to be
abbrev pub route_of : Plan → ℕ → ℕ
route_of s lane = slice_index s.route lane

-- the receiver lane that is set to be this lane of the frame
unfoldable pub lane_for : Plan → ℕ → ℕ
lane_for s place = unwrap_or (first_from (λ lane. route_of s lane == place) s.link.params.l 0) 0

-- what the receiver lanes have, in the order of the lanes of the frame
abbrev pub by_frame : {X : Type 0} → Plan → X → List X → List X
by_frame s none xs = map (λ place. get_or xs (lane_for s place) none) (numbers_from 0 s.link.params.l)

-- all bits that a receiver lane receives are inverted: its wires are exchanged and the receiver does
-- not undo it, or the other way round
abbrev pub has_inverted_polarity : Plan → ℕ → Bool
has_inverted_polarity s lane = get_or s.inverted lane false
