use Rattle.lane_threads.proofs.LaneLists.{can-run-back, can-run-front, has-run-joined}
use Rattle.lane_threads.proofs.segment.+part.Goals as goal

pub run_part-run_both-requires-clause-front : goal.run_part-run_both-requires-clause-front
run_part-run_both-requires-clause-front g t c κs within =
    can-run-front c.args.steps.now c.args.gives _ _ _ c.split_at_mut-front.ensures.value c.requires.can

pub run_part-run_both-requires-clause-back : goal.run_part-run_both-requires-clause-back
run_part-run_both-requires-clause-back g t c κs within =
    can-run-back c.args.steps.now c.args.gives _ _ _ c.split_at_mut-front.ensures.value c.requires.can

pub run_part-returns : goal.run_part-returns
run_part-returns g t c =
    has-run-joined c.args.steps.now c.args.gives _ _ _ _ _ c.split_at_mut-front.ensures.value
    c.run_both.ensures.front c.run_both.ensures.back
