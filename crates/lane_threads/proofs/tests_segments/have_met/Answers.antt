use Rattle.lane_threads.proofs.tests_segments.have_met.Goals as goal

pub run_segment-requires-clause-can : goal.run_segment-requires-clause-can
run_segment-requires-clause-can g c κs within =
    (c.in_ok-first.ensures, (c.in_ok-second.ensures, tt))
