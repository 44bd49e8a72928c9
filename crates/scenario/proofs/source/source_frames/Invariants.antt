use Rattle.scenario.proofs.source.source_frames.Given as goal

abbrev pub ghost-repeated_frames : goal.ghost-repeated_frames
ghost-repeated_frames g a = g.count
