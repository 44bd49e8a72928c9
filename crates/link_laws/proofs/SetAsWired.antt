-- Lanes that are wired and routed each to one, and lanes that are set as they are wired.
use Rattle.std.proofs.Common.{◌≡◌, ◌∙◌, ℕ, ◌<◌, inl, inr, sym, ap, arith}
use Rattle.link_params.proofs.LawFacts.{legal_sizes}
use Rattle.scenario.specs.Plans.{Plan}
use Rattle.link_model.specs.Wiring.{lane_for, route_of, wire_of}
use Rattle.link_model.proofs.Wirings.{lane-for-below, order-below, order-found}
use Rattle.link_laws.specs.Laws.{IsPlanRead}
use Rattle.link_laws.specs.Premises.{IsSetAsWired, Undamaged}

some-lanes : (s : Plan) → IsPlanRead s → 0 < s.link.params.l
some-lanes s read = let l = (legal_sizes s.link.params read.laws).l_low in omega arith

-- each lane is wired to one
pub wired : (s : Plan) (lane : ℕ) → IsPlanRead s → lane < s.link.params.l
    → wire_of s lane < s.link.params.l
wired s lane read below = order-below s.link.params.l s.wire lane (some-lanes s read) read.wire

-- and each lane of the frame has one
pub lane-below : (s : Plan) (place : ℕ) → IsPlanRead s → lane_for s place < s.link.params.l
lane-below s place read = lane-for-below s place (some-lanes s read)

pub route-back : (s : Plan) (place : ℕ) → IsPlanRead s → place < s.link.params.l
    → route_of s (lane_for s place) ≡ place
route-back s place read below = order-found s place read.route below

-- lanes that are set as they are wired carry to the lane of the frame what its transmitter lane sends
pub wire-back : (s : Plan) (place : ℕ) → IsPlanRead s → IsSetAsWired s → place < s.link.params.l
    → wire_of s (lane_for s place) ≡ place
wire-back s place read set_as_wired below =
    set_as_wired.routed (lane_for s place) (lane-below s place read) ∙ route-back s place read below

pub set_as_wired-of : (s : Plan) (h t : ℕ) → Undamaged s h t → IsSetAsWired s
set_as_wired-of s h t (inl clean) = clean.set_as_wired
set_as_wired-of s h t (inr burst) = burst.set_as_wired
