-- What a scenario gives a link.
-- Code: the fields themselves.
use Rattle.std.specs.Prelude.{ℕ, List, []}
use Rattle.scenario.specs.declared.input.Input.{Input}
use Rattle.scenario.specs.declared.input.Input.TheVariants.{Ramp, Frames}

-- the words of the records `frame` in an input
abbrev pub input_words : Input → List ℕ
input_words (Ramp start step) = []
input_words (Frames words) = words.items
