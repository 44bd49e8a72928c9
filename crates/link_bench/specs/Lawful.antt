-- Every run that the bench makes keeps the laws of a link.
-- Code: none of this is computed.
use Rattle.std.specs.Prelude.{◌≡◌, ℕ, List, Some, Ok}
use Rattle.scenario.specs.declared.kind.Job.TheVariants as job
use Rattle.scenario.specs.Plans.{Plan, plan_read}
use Rattle.scenario.specs.Reads.{Seen, reads}
use Rattle.link_laws_c.specs.RunLaws.{RunLaws}
use Rattle.scenario.specs.Generated.{generated}

-- the laws of a link hold of the run of each plan of which lines are written: of the plan that the
-- records of an accepted input spell, and of the plan of each number
pub record RunsAreLawful : Type 0 where
  pub of_inputs : (bytes : List ℕ) (seen : Seen) (plan : Plan) → reads job.Run bytes ≡ Ok seen
      → plan_read seen ≡ Some plan → RunLaws plan
  pub of_numbers : (number : ℕ) → RunLaws (generated number)
