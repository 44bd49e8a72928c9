use Rattle.std.proofs.Common.{inl, inr, refl}
use Rattle.link_params.specs.declared.fields.Mode.TheVariants.{CCrc, CFec}
use Rattle.scenario.proofs.LegalLemmas.{legal}
use Rattle.scenario.proofs.drawn_link.params_with.Goals as goal

pub returns-in-CCrc : goal.returns-in-CCrc
returns-in-CCrc c =
    let r = c.requires in elim c.in-CCrc.is [
      | inl e ↦ rw e (record {
        value = refl;
        legal = legal CCrc _ _ r.some_lanes r.few_lanes r.some_multiblocks r.few_multiblocks;
      })
      | inr e ↦ rw e (record {
        value = refl;
        legal = legal CFec _ _ r.some_lanes r.few_lanes r.some_multiblocks r.few_multiblocks;
      })
    ]
