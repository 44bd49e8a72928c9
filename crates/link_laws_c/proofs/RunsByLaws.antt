-- The laws of each run, with lanes of either kind.
use Rattle.std.proofs.Common.{◌≡◌, true, false, inl, inr, ◌∙◌, refl, sym, subst}
use Rattle.std.proofs.lemmas.Bool.{cases_Bool, cond-false, cond-true, true≢false}
use Rattle.link_params.specs.declared.fields.Mode.{Mode}
use Rattle.link_params.specs.declared.fields.Mode.TheVariants.{B, CCrc, CFec}
use Rattle.link_params.specs.Laws.{is_b}
use Rattle.link_params.specs.Lanes.{LaneKind}
use Rattle.lane_b.specs.Received.{lanes_b}
use Rattle.lane_c.specs.Received.{lanes_c}
use Rattle.scenario.specs.Plans.{Plan}
use Rattle.link_model.specs.Kinds.{kind_of}
use Rattle.link_laws.specs.Checked.{Checks, checked_b}
use Rattle.link_laws.specs.LaneLaws.{LaneLaws}
use Rattle.link_laws.specs.Laws.{Bound, Depth, Fullest, IsPlanRead, Latency, Marks, NoImitation, NoImitationAcross, Outside}
use Rattle.link_laws.specs.Premises.{lock_pattern}
use Rattle.link_laws.proofs.RunsByLaws.{runs-by-laws as runs-of-lanes-b}
use Rattle.link_laws_c.specs.CheckedC.{checked_c}
use Rattle.link_laws_c.specs.RunLaws.{RunLaws, RunsByLaws, checks_of}
use Rattle.link_laws_c.proofs.LaneLawsHold.{bound-c, depth-c, fullest-c, lane-laws-c, latency-c, outside-c}
use Rattle.link_laws_c.proofs.MarkedCells.{marks-c}

mode-is-b : (m : Mode) → is_b m ≡ true → m ≡ B
mode-is-b B is = refl
mode-is-b CCrc is = absurd (true≢false (sym is))
mode-is-b CFec is = absurd (true≢false (sym is))

-- the laws of a run with lanes of this kind, whose octets are due these marks
record AreLaws (kind : LaneKind) (checks : Checks) (s : Plan) : Type 0 where
  latency : Latency kind lock_pattern s
  bound : Bound kind lock_pattern s
  depth : Depth kind s
  fullest : Fullest kind s
  outside : Outside kind lock_pattern s
  marks : Marks kind checks s
  no_imitation : is_b s.link.params.mode ≡ true → NoImitation kind s
  across_resets : is_b s.link.params.mode ≡ true → NoImitationAcross kind s
  lanes : LaneLaws kind lock_pattern s

are-of-mode : (s : Plan) → AreLaws (kind_of s.link.params) (checks_of s.link.params) s → RunLaws s
are-of-mode s are = record {
  latency = are.latency;
  bound = are.bound;
  depth = are.depth;
  fullest = are.fullest;
  outside = are.outside;
  marks = are.marks;
  no_imitation = are.no_imitation;
  across_resets = are.across_resets;
  lanes = are.lanes;
}

with-lanes-b : (s : Plan) → IsPlanRead s → is_b s.link.params.mode ≡ true
    → AreLaws lanes_b checked_b s
with-lanes-b s read mode =
    let laws = runs-of-lanes-b s read (mode-is-b s.link.params.mode mode) in record {
      latency = laws.latency;
      bound = laws.bound;
      depth = laws.depth;
      fullest = laws.fullest;
      outside = laws.outside;
      marks = laws.marks;
      no_imitation = λ is. laws.no_imitation;
      across_resets = λ is. laws.across_resets;
      lanes = laws.lanes;
    }

with-lanes-c : (s : Plan) → IsPlanRead s → is_b s.link.params.mode ≡ false
    → AreLaws lanes_c checked_c s
with-lanes-c s read mode = record {
  latency = latency-c s read mode;
  bound = bound-c s read mode;
  depth = depth-c s read mode;
  fullest = fullest-c s read mode;
  outside = outside-c s read mode;
  marks = marks-c s read mode;
  no_imitation = λ is. absurd (true≢false (sym is ∙ mode));
  across_resets = λ is. absurd (true≢false (sym is ∙ mode));
  lanes = lane-laws-c s read mode;
}

pub runs-by-laws : RunsByLaws
runs-by-laws s read =
    let b = is_b s.link.params.mode in
    are-of-mode s (elim (cases_Bool b) [
      | inl is ↦
          subst (λ (k : LaneKind). AreLaws k (checks_of s.link.params) s)
          (sym (cond-true b lanes_b lanes_c is))
          (subst (λ (c : Checks). AreLaws lanes_b c s) (sym (cond-true b checked_b checked_c is))
          (with-lanes-b s read is))
      | inr is ↦
          subst (λ (k : LaneKind). AreLaws k (checks_of s.link.params) s)
          (sym (cond-false b lanes_b lanes_c is))
          (subst (λ (c : Checks). AreLaws lanes_c c s) (sym (cond-false b checked_b checked_c is))
          (with-lanes-c s read is))
    ])
