-- The laws of every run of 8b/10b lanes.
-- Code: none of this is computed.
use Rattle.std.specs.Prelude.{◌≡◌}
use Rattle.link_params.specs.declared.fields.Mode.TheVariants.{B}
use Rattle.lane_b.specs.Received.{lanes_b}
use Rattle.scenario.specs.Plans.{Plan}
use Rattle.link_laws.specs.Checked.{checked_b}
use Rattle.link_laws.specs.LaneLaws.{LaneLaws}
use Rattle.link_laws.specs.Laws.{Bound, Depth, Fullest, IsPlanRead, Latency, Marks, NoImitation, NoImitationAcross, Outside}
use Rattle.link_laws.specs.Premises.{Pattern, lock_pattern}

-- the laws of a lane, for any pattern: with 8b/10b lanes the premise on patterns is true by its
-- text
abbrev pub LaneLawsB : Type 0
LaneLawsB = (s : Plan) (pattern : Pattern) → IsPlanRead s → s.link.params.mode ≡ B
    → LaneLaws lanes_b pattern s

-- the laws of the run of a plan with 8b/10b lanes
pub record RunLawsB (s : Plan) : Type 0 where
  pub latency : Latency lanes_b lock_pattern s
  pub bound : Bound lanes_b lock_pattern s
  pub depth : Depth lanes_b s
  pub fullest : Fullest lanes_b s
  pub outside : Outside lanes_b lock_pattern s
  pub marks : Marks lanes_b checked_b s
  pub no_imitation : NoImitation lanes_b s
  pub across_resets : NoImitationAcross lanes_b s
  pub lanes : LaneLaws lanes_b lock_pattern s

-- they hold of the run of each plan that was read
abbrev pub RunsByLawsB : Type 0
RunsByLawsB = (s : Plan) → IsPlanRead s → s.link.params.mode ≡ B → RunLawsB s
