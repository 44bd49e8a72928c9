use Rattle.std.proofs.Common.{◌≡◌, ◌*◌, ◌<◌, [], drop, refl, sym, ◌∙◌, ap, arith}
use Rattle.std.proofs.lemmas.List.{drop_all}
use Rattle.link_params.specs.Numbers.{period}
use Rattle.code_8b10b.specs.declared.character.Reading.{Reading}
use Rattle.ilas.specs.Checked.{ilas_state}
use Rattle.lane_b.specs.Loss.{faults_from, alignments_from, ilas_length}
use Rattle.lane_b.proofs.KeptPlaces.{kept-low}
use Rattle.lane_b.proofs.started.Started.new.Goals as goal

pub returns : goal.returns
unfolding ilas_state faults_from alignments_from
returns c =
    let size : c.period-period.result ≡ period c.args.link.now.params = c.period-period.ensures.value ∙ ap period c.shape-shape.ensures.same in
    let some : 0 < 5 * period c.args.link.now.params = omega (arith, c.period-period.ensures.low) in
    let none : drop {A = Reading} (ilas_length c.args.link.now.params) [] ≡ [] = drop_all {X = Reading} (ilas_length c.args.link.now.params) [] (omega arith) in
    record {
      params = refl;
      place = sym (kept-low (period c.args.link.now.params) 0 some);
      check = λ short. c.new.ensures;
      ilas = refl;
      loss = c.new-2.ensures;
      octets = rw none (rw c.shape-shape.ensures.same at c.new-3.ensures);
    }
