use Rattle.std.proofs.Common.{◌≡◌, ℕ, ◌<◌, ◌+◌, ◌*◌, ◌/◌, ◌%◌, length, take, drop}
use Rattle.scenario.proofs.source.repeated_frames.Given as goal

abbrev pub invariant-loop-i : goal.invariant-loop-i
invariant-loop-i g l =
    (j : ℕ) → j < l.i → take l.size (drop (j * l.size) l.words)
    ≡ take l.size (drop ((l.n + j) % (length l.frames / l.size) * l.size) l.frames)
