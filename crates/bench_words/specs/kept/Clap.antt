-- The command as clap sees it, and what clap makes of the words (this project's own).
-- Code: clap is called.
use Rattle.std.specs.Prelude.{true, List, [], ◌∷◌, Option, Some, None, codes}
use Rattle.clap.specs.Walk.{Text, Row, first_of}
use Rattle.clap.specs.Simple.{App, new_app, new_rule, with_rule, matches_of, on_top}
use Rattle.clap.specs.Faults.{fault_of}
use Rattle.clap.specs.Kinds.{Kinds}
use Rattle.bench_words.specs.Reading.{asked}
use Rattle.bench_words.specs.declared.asked.Words.{Words}

abbrev pub bench_app : App
bench_app =
    with_rule (with_rule (with_rule
    (on_top (λ s. record s { no_binary_name = true; disable_help_flag = true }) (new_app (codes "jesd_bench")))
    (record (new_rule (codes "job")) { required = true }))
    (record (new_rule (codes "workers")) { long = Some (codes "workers") }))
    (record (new_rule (codes "number")) { long = Some (codes "number") })

-- the texts that clap finds
pub record Given : Type 0 where
  pub job : Option Text
  pub workers : Option Text
  pub number : Option Text

abbrev pub given_of : List Row → Given
given_of rows = record { job = first_of (codes "job") rows; workers = first_of (codes "workers") rows; number = first_of (codes "number") rows }

abbrev pub read_by_clap : Kinds → List Row → Option Given
read_by_clap [] rows = Some (given_of rows)
read_by_clap (k ∷ ks) rows = None

unfoldable pub clap_reading : List Text → Option Given
clap_reading words = read_by_clap (fault_of bench_app words) (matches_of bench_app words)

-- what they ask for
abbrev pub listed : Option Text → List Text
listed None = []
listed (Some text) = text ∷ []

abbrev pub asked_of : Given → Option Words
asked_of g = asked (listed g.job) (listed g.workers) (listed g.number)
