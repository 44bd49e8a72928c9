use Rattle.std.proofs.Common.{◌≡◌, ℕ, ◌+◌, ◌*◌, ◌%◌, ◌^◌, ◌∙◌, length, map, ap}
use Rattle.scenario.specs.Plans.{numbers_from}
use Rattle.scenario.proofs.SourceLemmas.{map-same, ramp-word}
use Rattle.scenario.proofs.source.ramp_from.Goals as goal

pub returns : goal.returns
returns c =
    let start : ℕ = c.args.start in
    let step : ℕ = c.args.step in
    let bits : ℕ = c.args.bits in
    let size : ℕ = length c.args.words.now in
    λ p is.
    c.ramp_words.ensures
    ∙ ap (λ b. map (λ k. ((start + (step * b) % 2 ^ 64) % 2 ^ 64 + step * k) % 2 ^ bits)
    (numbers_from 0 size)) is
    ∙ map-same (numbers_from 0 size) _ (λ k. (start + step * (p + k)) % 2 ^ bits)
    (λ k. ramp-word start step p k bits c.requires)
