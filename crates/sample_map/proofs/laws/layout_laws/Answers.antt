use Rattle.sample_map.proofs.DueLemmas.{one_frame, one_reading}
use Rattle.sample_map.proofs.FrameLemmas.{places_apart, places_fit, reads_back}
use Rattle.sample_map.proofs.laws.layout_laws.Goals as goal

pub returns-clause-fit : goal.returns-clause-fit
returns-clause-fit c = places_fit

pub returns-clause-again : goal.returns-clause-again
returns-clause-again c = reads_back

pub returns-clause-apart : goal.returns-clause-apart
returns-clause-apart c = places_apart

pub returns-clause-one_frame : goal.returns-clause-one_frame
returns-clause-one_frame c = one_frame

pub returns-clause-one_reading : goal.returns-clause-one_reading
returns-clause-one_reading c = one_reading
