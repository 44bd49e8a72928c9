use Rattle.lane_scramble.proofs.ScrambleLemmas.{descrambled_again, only_last_matter, goes_in_parts, forgets_earlier, keep_length, part_before}
use Rattle.lane_scramble.proofs.scramble_laws.scrambling.Goals as goal

pub returns : goal.returns
returns c = record { again = descrambled_again; last = only_last_matter; parts = goes_in_parts; forgets = forgets_earlier; lengths = keep_length; before = part_before }
