use Rattle.std.proofs.Common.{◌≡◌, ap}
use Rattle.std.proofs.lemmas.List.{get_or-replicate}
use Rattle.lane_threads.specs.declared.step.Step.{Step}
use Rattle.lane_threads.proofs.tests_segments.deframer_overlaps.Goals as goal

pub overlap-requires-clause-hunts : goal.overlap-requires-clause-hunts
overlap-requires-clause-hunts g c κs n d below =
    let is = get_or-replicate 1024 n _ d below in
    (ap (λ (s : Step). s.tx) is, ap (λ (s : Step). s.rx.hunt) is)
