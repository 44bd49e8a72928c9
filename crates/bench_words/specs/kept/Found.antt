-- What was found, by its texts.
-- Code: the fields themselves.
use Rattle.std.specs.Prelude.{option_map, Option, List, ℕ}
use Rattle.std.specs.Borrow.{Bor}
use Rattle.bench_words.specs.kept.Clap.{Given}
use Rattle.bench_words.specs.declared.reading.Found.{Found}

abbrev pub text_of : Option (Bor (List ℕ)) → Option (List ℕ)
text_of = option_map (λ s. s.now)

abbrev pub given : Found → Given
given f = record { job = text_of f.job; workers = text_of f.workers; number = text_of f.number }
