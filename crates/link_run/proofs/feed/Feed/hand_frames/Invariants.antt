use Rattle.std.proofs.Common.{◌*◌, ◌/◌, length}
use Rattle.link_run.proofs.feed.Feed.hand_frames.Given as goal

abbrev pub ghost-source_frames : goal.ghost-source_frames
ghost-source_frames a = length a.words.now / (a.s.now.shape.m * a.s.now.shape.s)

abbrev pub ghost-map_frames : goal.ghost-map_frames
ghost-map_frames a = length a.words.now / (a.self.now.m * a.self.now.s)

abbrev pub ghost-add_frames : goal.ghost-add_frames
ghost-add_frames a = length a.octets.now / (length a.handed.now * a.size)
