-- The three laws of 8b/10b lanes, over every run.
use Rattle.std.proofs.Common.{◌≡◌, ◌∙◌, sym, ap, true, false}
use Rattle.link_params.specs.declared.fields.Mode.TheVariants.{B}
use Rattle.link_params.specs.Laws.{is_b}
use Rattle.lane_b.specs.Received.{lanes_b}
use Rattle.scenario.specs.Plans.{Plan}
use Rattle.link_laws.specs.Premises.{Pattern}
use Rattle.link_laws.specs.LaneLaws.{LaneLaws}
use Rattle.link_laws.specs.Laws.{IsPlanRead}
use Rattle.link_laws.proofs.LaneDataB.{lane-data-b}
use Rattle.link_laws.proofs.LaneLockB.{lane-lock-b}
use Rattle.link_laws.proofs.LaneStartB.{lane-start-b}

-- for any pattern: in mode b the premise on patterns is true by its text
pub lane-laws-b : (s : Plan) → IsPlanRead s → s.link.params.mode ≡ B → (pattern : Pattern)
    → LaneLaws lanes_b pattern s
lane-laws-b s read mode pattern = record {
  lock = lane-lock-b s read mode pattern;
  start = lane-start-b s read mode pattern;
  carried = lane-data-b s read mode pattern;
  sender = λ h lane t c in_link in_session clean locked. let b : is_b s.link.params.mode ≡ true =
      ap is_b mode in let bad : true ≡ false = sym b ∙ c in absurd (cc);
}
