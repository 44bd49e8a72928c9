-- What clap's walk comes to from any place in it.
use Rattle.std.proofs.Common.{◌≡◌, false, List, [], ◌∷◌, Option, None, refl, ap, fold}
use Rattle.std.specs.Prelude.{option_and_then}
use Rattle.clap.specs.declared.error.kind.ErrorKind.{ErrorKind}
use Rattle.clap.specs.Kinds.{Kinds, or_else}
use Rattle.clap.specs.Walk.{Text, Walk, Held, walked, walk_from, nothing_held, settled, finished}
use Rattle.clap.specs.Simple.{Shape, built}
use Rattle.clap.specs.Faults.{turn_fault, walk_fault, settle_fault, defaults_fault, check_fault}
use Rattle.clap.proofs.FaultLemmas.{leaf_fault}
use Rattle.bench_words.specs.kept.Clap.{bench_app, Given, read_by_clap, clap_reading, asked_of}
use Rattle.bench_words.specs.declared.asked.Words.{Words}

abbrev pub shape : Shape
shape = (built bench_app).top

abbrev pub ending : Held → Kinds
ending h = or_else (settle_fault shape.rules false h) (or_else (defaults_fault (settled shape.rules h).rows shape.rules) (check_fault shape (finished shape.rules h) false))

abbrev pub last : Walk → List Text → Held
last w words = (fold (walked shape.rules []) w words).held

unfoldable pub outcome : Walk → List Text → Option Given
outcome w words = read_by_clap (or_else (walk_fault shape [] w words) (ending (last w words))) (finished shape.rules (last w words))

abbrev pub result : Walk → List Text → Option Words
result w words = option_and_then asked_of (outcome w words)

pub from_start : (words : List Text) → clap_reading words ≡ outcome (walk_from nothing_held) words
unfolding clap_reading outcome
from_start words = ap (λ k. read_by_clap k (finished shape.rules (last (walk_from nothing_held) words))) (leaf_fault (built bench_app) nothing_held words refl)

pub at_end : (w : Walk) → outcome w [] ≡ read_by_clap (ending w.held) (finished shape.rules w.held)
unfolding outcome walk_fault
at_end w = refl

pub goes_on : (w : Walk) (word : Text) (words : List Text) → turn_fault shape [] w word ≡ [] → outcome w (word ∷ words) ≡ outcome (walked shape.rules [] w word) words
unfolding outcome walk_fault
goes_on w word words e = rw e refl

pub refuses : (w : Walk) (word : Text) (words : List Text) (k : ErrorKind) (ks : Kinds) → turn_fault shape [] w word ≡ k ∷ ks → outcome w (word ∷ words) ≡ None
unfolding outcome walk_fault
refuses w word words k ks e = rw e refl
