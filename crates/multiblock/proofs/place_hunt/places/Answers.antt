use Rattle.multiblock.proofs.PlaceLemmas.{finds_least_place, finds_none, pattern_stays, place_stays, found_in_tick}
use Rattle.multiblock.proofs.place_hunt.places.Goals as goal

pub returns : goal.returns
returns c = record { least = finds_least_place; none = finds_none; pattern = pattern_stays; place = place_stays; tick = found_in_tick }
