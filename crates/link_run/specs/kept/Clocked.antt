-- What the clock of a device keeps of a run.
-- Code: the next edge, and a phase.
use Rattle.std.specs.Prelude.{◌≡◌, ◌≤◌, ◌<◌, ℕ}
use Rattle.link_params.specs.declared.alarms.Device.{Device}
use Rattle.link_params.specs.Links.{Link}
use Rattle.link_params.specs.Numbers.{period}
use Rattle.sysref_clock.specs.kept.Ticks.{Clock, HasTicked}
use Rattle.scenario.specs.Plans.{Plan}
use Rattle.link_model.specs.kept.Before.{edges_before}
use Rattle.link_model.specs.Edges.{edge_tick}

-- the link, the device, the number of the next edge with the tick in which it is captured, and the
-- clock
pub record Clocking : Type 0 where
  pub link : Link
  pub device : Device
  pub next : ℕ
  pub tick : ℕ
  pub clock : Clock

-- the ticks of a plan before t are over
pub record HasClocked (now : Clocking) (s : Plan) (t : ℕ) : Type 0 where
  pub same_link : now.link ≡ s.link
  pub next_edge : now.tick ≡ edge_tick s now.device now.next
  pub to_come : t ≤ now.tick
  pub passed : (i : ℕ) → i < now.next → edge_tick s now.device i < t
  pub ticked : HasTicked now.clock (period s.link.params) (edges_before s now.device t)
