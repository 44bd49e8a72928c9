-- What the receiver tells its lanes, and what they take (JESD204B.01 clause 6, deterministic
-- latency).
-- Code: the offset is computed from the phase of the tick.
use Rattle.std.specs.Prelude.{ℕ, ◌+◌, ◌-◌, ◌*◌, ◌%◌, not, List, [], map, length, get_or, Option, Some, None}
use Rattle.link_params.specs.declared.fields.Params.{Params}
use Rattle.link_params.specs.declared.fields.Timing.{Timing}
use Rattle.link_params.specs.declared.alarms.Device.TheVariants.{Rx}
use Rattle.link_params.specs.declared.orders.RxOrder.{RxOrder}
use Rattle.link_params.specs.Lanes.{Taken}
use Rattle.link_params.specs.Numbers.{period, rx_edge, tx_edge, wait}
use Rattle.bring_up.specs.Decisions.{is_hunting}
use Rattle.scenario.specs.Plans.{Plan}
use Rattle.link_model.specs.Edges.{phase}
use Rattle.link_model.specs.Hunts.{begins_hunt, standing}
use Rattle.link_model.specs.Moments.{History}

-- ---- what is received

-- the offset that a start would have at this phase of the receiver; a period more is added so that
-- nothing falls below 0
abbrev pub offset_at : Params → Timing → Option ℕ → ℕ
offset_at p t None = 0
offset_at p t (Some x) = (x + rx_edge t + (wait p + 1) * period p - (tx_edge t + wait p)) % period p

unfoldable pub told_of : Plan → History → RxOrder
told_of s h = record {
  hunt = begins_hunt s h;
  armed = not (is_hunting (standing s h).stage);
  offset = offset_at s.link.params s.link.timing (phase s Rx (length h));
}

-- what a receiver lane took in the session
abbrev pub taken_in : History → ℕ → List Taken
taken_in h lane = map (λ m. record { order = m.told; word = get_or m.taken lane [] }) h
