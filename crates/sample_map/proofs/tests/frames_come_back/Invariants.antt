use Rattle.sample_map.proofs.tests.frames_come_back.Given as goal

abbrev pub ghost-map_frames : goal.ghost-map_frames
ghost-map_frames a = 4
