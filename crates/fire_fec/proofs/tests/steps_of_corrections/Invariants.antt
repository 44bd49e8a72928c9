use Rattle.fire_fec.proofs.tests.steps_of_corrections.Given as goal

abbrev pub ghosts-shifted_and_corrected : goal.ghosts-shifted_and_corrected
ghosts-shifted_and_corrected g a = record { name = a.blank.name; parts = a.blank.parts }
