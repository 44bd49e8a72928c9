use Rattle.std.proofs.Common.{◌∙◌, ◌+◌, ap}
use Rattle.scenario.specs.Reads.{flipped}
use Rattle.scenario.proofs.FlipLemmas.{flipped-more}
use Rattle.scenario.proofs.reading.Reading.flip.Goals as goal

pub invariant_of-self-in-Ok : goal.invariant_of-self-in-Ok
invariant_of-self-in-Ok c =
    let kept = c.in_ok-push-in-Ok.ensures.kept in
    record {
      counted = ap flipped kept.1 ∙ flipped-more c.args.self.now.flips.items c.in-Ok.flip
          ∙ ap (λ n. n + c.in-Ok.flip.count) c.args.self.now.counted;
    }
