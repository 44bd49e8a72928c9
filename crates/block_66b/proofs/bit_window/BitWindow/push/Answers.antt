use Rattle.std.proofs.Common.{◌++◌, sym, ap, ◌∙◌, arith}
use Rattle.jesd_base.specs.Bits.{bits, value}
use Rattle.block_66b.specs.Blocks.{window}
use Rattle.block_66b.proofs.BlockLemmas.{last-tick, window-value}
use Rattle.block_66b.proofs.bit_window.BitWindow.push.Goals as goal

pub returns-clause-stands : goal.returns-clause-stands
returns-clause-stands c = λ rest taken h.
    let b = c.bits_and_numbers.ensures in
    let seen = rw (← c.self.view_is) at h in
    record {
      keeps_rest = seen.keeps_rest;
      keeps_last = last-tick b.length b.value_of_bits b.append taken c.self.inside.last c.args.tick seen.keeps_last;
    }

pub returns-clause-answer : goal.returns-clause-answer
returns-clause-answer c = λ rest taken h.
    let b = c.bits_and_numbers.ensures in
    let seen = rw (← c.self.view_is) at h in
    c.across-block.ensures.block
    ∙ sym (window-value b.length b.value_of_bits b.append c.self.inside.rest taken c.self.inside.last c.args.tick (omega arith) (omega arith) seen.keeps_last)
    ∙ ap (λ k. value (window k (taken ++ bits 66 c.args.tick))) seen.keeps_rest
