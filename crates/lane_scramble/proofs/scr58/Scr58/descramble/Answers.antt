use Rattle.std.proofs.Common.{ap, ◌∙◌, ◌++◌, lit<, lit≤}
use Rattle.jesd_base.specs.Bits.{bits}
use Rattle.lane_scramble.specs.Scrambling.{descrambled, start58}
use Rattle.lane_scramble.proofs.ScrambleLemmas.{last-next, descrambled-next, start58-long}
use Rattle.lane_scramble.proofs.TapLemmas.{last-fifty-eight}
use Rattle.lane_scramble.proofs.WordLemmas.{lowest}
use Rattle.lane_scramble.proofs.scr58.Scr58.descramble.Goals as goal

pub returns-clause-answer : goal.returns-clause-answer
returns-clause-answer c = λ taken h.
    descrambled-next 39 58 58 start58 taken (lowest 58 c.self.inside.before) (bits 64 c.args.y) (lit< tt) (lit< tt) (lit≤ tt) (lit≤ tt) start58-long (c.self.view_is ∙ h.last)
    ∙ ap (λ r. descrambled 39 58 start58 taken ++ r) c.descrambled_word-x.ensures

pub returns-clause-stands : goal.returns-clause-stands
returns-clause-stands c = λ taken h. record {
  last = last-fifty-eight c.args.y (lowest 58 c.self.inside.before)
      ∙ last-next 58 start58 (taken) (lowest 58 c.self.inside.before) (bits 64 c.args.y) (c.self.view_is ∙ h.last);
}
