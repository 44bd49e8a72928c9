use Rattle.std.proofs.Common.{sym, ap, ◌∙◌, ◌++◌, lit<, lit≤, take, reverse}
use Rattle.jesd_base.specs.Bits.{bits}
use Rattle.lane_scramble.specs.Scrambling.{scrambled, start58}
use Rattle.lane_scramble.proofs.ScrambleLemmas.{last-next, scrambled-next, start58-long}
use Rattle.lane_scramble.proofs.TapLemmas.{last-fifty-eight}
use Rattle.lane_scramble.proofs.WordLemmas.{lowest}
use Rattle.lane_scramble.proofs.scr58.Scr58.scramble.Goals as goal

pub returns-clause-answer : goal.returns-clause-answer
returns-clause-answer c = λ taken h.
    scrambled-next 39 58 58 start58 taken (lowest 58 c.self.inside.before) (bits 64 c.args.x) (lit< tt) (lit< tt) (lit≤ tt) (lit≤ tt) start58-long (c.self.view_is ∙ h.last)
    ∙ ap (λ r. scrambled 39 58 start58 taken ++ r) c.scrambled_word-y.ensures

pub returns-clause-stands : goal.returns-clause-stands
returns-clause-stands c = λ taken h. record {
  last = last-fifty-eight c.scrambled_word-y.result (lowest 58 c.self.inside.before)
      ∙ last-next 58 start58 (scrambled 39 58 start58 taken) (lowest 58 c.self.inside.before) (bits 64 c.scrambled_word-y.result) (c.self.view_is ∙ h.last)
      ∙ ap (λ t. take 58 (reverse t ++ start58)) (sym (returns-clause-answer c taken h));
}
