use Rattle.std.proofs.Common.{◌≡◌, ◌∙◌, sym, ap, codes, Some, inl, inr}
use Rattle.bench_words.proofs.ClapLemmas.{is_read, is_refused}
use Rattle.bench_words.specs.kept.Clap.{given_of}
use Rattle.bench_words.specs.kept.Found.{given}
use Rattle.clap.specs.Walk.{rows_of}
use Rattle.clap.specs.Values.{kind_of}
use Rattle.clap.specs.Matches.{found_of}
use Rattle.clap.proofs.WalkLemmas.{first_value-rows}
use Rattle.bench_words.proofs.reading.read_with_clap.Goals as goal

pub returns-in-Ok-try_get_matches_from : goal.returns-in-Ok-try_get_matches_from
returns-in-Ok-try_get_matches_from c =
    let m = c.in-Ok-try_get_matches_from.matches in
    let job = c.get_str.ensures ∙ first_value-rows (found_of m) (codes "job") in
    let workers = c.get_str-in-Ok-try_get_matches_from.ensures ∙ first_value-rows (found_of m) (codes "workers") in
    let number = c.get_str-in-Ok-try_get_matches_from-2.ensures ∙ first_value-rows (found_of m) (codes "number") in
    let e : given (record { job = c.get_str.result; workers = c.get_str-in-Ok-try_get_matches_from.result; number = c.get_str-in-Ok-try_get_matches_from-2.result }) ≡ given_of (rows_of (found_of m)) = cc (job, workers, number) in
    ap (λ g. Some g) e
    ∙ sym (is_read _ _ (rows_of (found_of m)) c.in-Ok.ensures c.in-Ok-try_get_matches_from.ensures.kinds (λ s. (c.in-Ok-try_get_matches_from.ensures.matches s).0))

pub returns : goal.returns
returns c =
    sym (is_refused (kind_of c.in-Err.error) _ _ c.in-Ok.ensures (λ s. elim (c.in-Err.ensures.kinds s) [
      | inl memory ↦ absurd (c.in_default-kind.not-OutOfMemory (c.kind-kind.ensures ∙ memory))
      | inr among ↦ among
    ]))
