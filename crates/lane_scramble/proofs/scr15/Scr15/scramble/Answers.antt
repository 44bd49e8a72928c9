use Rattle.std.proofs.Common.{sym, ap, ◌∙◌, ◌++◌, lit<, lit≤, take, reverse}
use Rattle.jesd_base.specs.Bits.{bits}
use Rattle.lane_scramble.specs.Scrambling.{scrambled, start15}
use Rattle.lane_scramble.proofs.ScrambleLemmas.{last-next, scrambled-next, start15-long}
use Rattle.lane_scramble.proofs.WordLemmas.{lowest}
use Rattle.lane_scramble.proofs.scr15.Scr15.scramble.Goals as goal

pub returns-clause-answer : goal.returns-clause-answer
returns-clause-answer c = λ taken h.
    scrambled-next 14 15 15 start15 taken (lowest 15 c.self.inside.last) (bits 8 c.args.x) (lit< tt) (lit< tt) (lit≤ tt) (lit≤ tt) start15-long (c.self.view_is ∙ h.last)
    ∙ ap (λ r. scrambled 14 15 start15 taken ++ r) c.with_taps-y.ensures.scrambled

pub returns-clause-stands : goal.returns-clause-stands
returns-clause-stands c = λ taken h. record {
  last = c.after-self-inside.ensures
      ∙ last-next 15 start15 (scrambled 14 15 start15 taken) (lowest 15 c.self.inside.last) (bits 8 c.with_taps-y.result) (c.self.view_is ∙ h.last)
      ∙ ap (λ t. take 15 (reverse t ++ start15)) (sym (returns-clause-answer c taken h));
}
