-- Lists of words with what they ask for.
use Rattle.std.proofs.Common.{◌≡◌, refl, codes, Some, None, [], ◌∷◌}
use Rattle.bench_words.specs.declared.asked.Task.TheVariants as task
use Rattle.bench_words.specs.Reading.{asked_by_words, items, texts}

pub three_workers : asked_by_words (codes "run" ∷ codes "--workers" ∷ codes "3" ∷ []) ≡ Some (record { task = task.Run; workers = 3; number = 1 })
unfolding items texts
three_workers = refl

pub plain_after_end : asked_by_words (codes "--number=7" ∷ codes "--" ∷ codes "gen" ∷ []) ≡ Some (record { task = task.Gen; workers = 1; number = 7 })
unfolding items texts
plain_after_end = refl

pub no_workers : asked_by_words (codes "run" ∷ codes "--workers" ∷ codes "0" ∷ []) ≡ None
unfolding items texts
no_workers = refl

pub two_jobs : asked_by_words (codes "run" ∷ codes "run" ∷ []) ≡ None
unfolding items texts
two_jobs = refl

pub option_twice : asked_by_words (codes "run" ∷ codes "--workers=2" ∷ codes "--workers=2" ∷ []) ≡ None
unfolding items texts
option_twice = refl

pub no_word : asked_by_words [] ≡ None
unfolding items texts
no_word = refl

pub end_for_value : asked_by_words (codes "run" ∷ codes "--workers" ∷ codes "--" ∷ codes "3" ∷ []) ≡ None
unfolding items texts
end_for_value = refl

pub option_after_end : asked_by_words (codes "--" ∷ codes "--workers=3" ∷ codes "run" ∷ []) ≡ None
unfolding items texts
option_after_end = refl
