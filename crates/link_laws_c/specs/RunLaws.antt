-- The laws of the run of a plan of any mode (JESD204B.01 clauses 5.3.3 link operation and 6
-- deterministic latency, and JESD204C.1; the bound, the window and the marks are this project's
-- own).
-- Code: none of this is computed.
use Rattle.std.specs.Prelude.{◌≡◌, if◌then◌else◌, true}
use Rattle.link_params.specs.declared.fields.Params.{Params}
use Rattle.link_params.specs.Laws.{is_b}
use Rattle.scenario.specs.Plans.{Plan}
use Rattle.link_model.specs.Kinds.{kind_of}
use Rattle.link_laws.specs.Checked.{Checks, checked_b}
use Rattle.link_laws.specs.LaneLaws.{LaneLaws}
use Rattle.link_laws.specs.Laws.{Bound, Depth, Fullest, IsPlanRead, Latency, Marks, NoImitation, NoImitationAcross, Outside}
use Rattle.link_laws.specs.Premises.{lock_pattern}
use Rattle.link_laws_c.specs.CheckedC.{checked_c}

-- the marks that the octets of a lane are due, by the link's mode
abbrev pub checks_of : Params → Checks
checks_of p = if is_b p.mode then checked_b else checked_c

-- the laws of the run of a plan; that nothing else that is sent looks like a lock is a law of 8b/10b
-- lanes, and a premise of the other laws with 64b/66b lanes
pub record RunLaws (s : Plan) : Type 0 where
  pub latency : Latency (kind_of s.link.params) lock_pattern s
  pub bound : Bound (kind_of s.link.params) lock_pattern s
  pub depth : Depth (kind_of s.link.params) s
  pub fullest : Fullest (kind_of s.link.params) s
  pub outside : Outside (kind_of s.link.params) lock_pattern s
  pub marks : Marks (kind_of s.link.params) (checks_of s.link.params) s
  pub no_imitation : is_b s.link.params.mode ≡ true → NoImitation (kind_of s.link.params) s
  pub across_resets : is_b s.link.params.mode ≡ true → NoImitationAcross (kind_of s.link.params) s
  pub lanes : LaneLaws (kind_of s.link.params) lock_pattern s

-- they hold of the run of each plan that was read
abbrev pub RunsByLaws : Type 0
RunsByLaws = (s : Plan) → IsPlanRead s → RunLaws s
