use Rattle.std.proofs.Common.{ap, ◌∙◌, ◌++◌, lit<, lit≤}
use Rattle.jesd_base.specs.Bits.{bits}
use Rattle.lane_scramble.specs.Scrambling.{descrambled, start15}
use Rattle.lane_scramble.proofs.ScrambleLemmas.{last-next, descrambled-next, start15-long}
use Rattle.lane_scramble.proofs.WordLemmas.{lowest}
use Rattle.lane_scramble.proofs.scr15.Scr15.descramble.Goals as goal

pub returns-clause-answer : goal.returns-clause-answer
returns-clause-answer c = λ taken h.
    descrambled-next 14 15 15 start15 taken (lowest 15 c.self.inside.last) (bits 8 c.args.y) (lit< tt) (lit< tt) (lit≤ tt) (lit≤ tt) start15-long (c.self.view_is ∙ h.last)
    ∙ ap (λ r. descrambled 14 15 start15 taken ++ r) c.with_taps-x.ensures.descrambled

pub returns-clause-stands : goal.returns-clause-stands
returns-clause-stands c = λ taken h. record {
  last = c.after-self-inside.ensures
      ∙ last-next 15 start15 (taken) (lowest 15 c.self.inside.last) (bits 8 c.args.y) (c.self.view_is ∙ h.last);
}
