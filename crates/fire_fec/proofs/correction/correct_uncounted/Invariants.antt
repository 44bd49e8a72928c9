use Rattle.fire_fec.proofs.correction.correct_uncounted.Given as goal

abbrev pub ghosts-correct_on : goal.ghosts-correct_on
ghosts-correct_on a = record { name = a.blank.name; parts = a.blank.parts }
