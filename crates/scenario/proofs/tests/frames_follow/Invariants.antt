use Rattle.scenario.proofs.tests.frames_follow.Given as goal

abbrev pub ghost-source_frames : goal.ghost-source_frames
ghost-source_frames a = 5
