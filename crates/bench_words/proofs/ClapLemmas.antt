-- From clap's clauses to what it makes of the words.
use Rattle.std.proofs.Common.{◌≡◌, List, [], ◌∷◌, Some, None, true, refl}
use Rattle.clap.specs.declared.error.kind.ErrorKind.{ErrorKind}
use Rattle.clap.specs.Kinds.{Kinds, IsAmong}
use Rattle.clap.specs.Faults.{fault_of, is_simple_and_free}
use Rattle.clap.specs.Simple.{App, is_simple, matches_of}
use Rattle.clap.specs.Walk.{Text, Row}
use Rattle.clap.proofs.OnLiterals.{clap_on_literals}
use Rattle.bench_words.specs.kept.Clap.{read_by_clap, clap_reading, given_of, bench_app}

refused : (k : ErrorKind) (kinds : Kinds) (rows : List Row) → IsAmong k kinds → read_by_clap kinds rows ≡ None
refused k [] rows h = absurd h
refused k (x ∷ xs) rows h = refl

pub is_refused : (k : ErrorKind) (app : App) (words : List Text) → app ≡ bench_app → (is_simple_and_free app ≡ true → IsAmong k (fault_of app words)) → clap_reading words ≡ None
unfolding clap_reading clap_on_literals
is_refused k app words is h =
    let among : is_simple_and_free bench_app ≡ true → IsAmong k (fault_of bench_app words) = rw is at h in
    refused k (fault_of bench_app words) (matches_of bench_app words) (among refl)

pub is_read : (app : App) (words : List Text) (rows : List Row) → app ≡ bench_app → (is_simple_and_free app ≡ true → fault_of app words ≡ [])
    → (is_simple app ≡ true → rows ≡ matches_of app words) → clap_reading words ≡ Some (given_of rows)
unfolding clap_reading clap_on_literals
is_read app words rows is free simple =
    let none : is_simple_and_free bench_app ≡ true → fault_of bench_app words ≡ [] = rw is at free in
    let same : is_simple bench_app ≡ true → rows ≡ matches_of bench_app words = rw is at simple in
    rw (none refl, ← same refl) refl
