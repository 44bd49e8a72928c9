use Rattle.std.proofs.Common.{◌-◌, ◌∙◌, sym, length, arith}
use Rattle.scenario.proofs.TextLemmas.{strip_start-more, strip_start-here, strip_start-none}
use Rattle.scenario.proofs.text.without_start.Goals as goal

pub loop-rest-preserved : goal.loop-rest-preserved
loop-rest-preserved c = let some = c.in-len1-up.len_at_least in
    strip_start-more c.loop-rest.rest.now (length c.loop-rest.rest.now - 1) some
    (sym c.is_blank_byte.ensures ∙ c.if-not-is_blank_byte.false) (omega arith)
    ∙ c.loop-rest.invariant

pub returns-in_default : goal.returns-in_default
returns-in_default c = strip_start-none c.loop-rest.rest.now c.in_default.len_below
    ∙ c.loop-rest.invariant

pub returns-then-not-is_blank_byte : goal.returns-then-not-is_blank_byte
returns-then-not-is_blank_byte c = strip_start-here c.loop-rest.rest.now
    (sym c.is_blank_byte.ensures ∙ c.if-not-is_blank_byte.true) ∙ c.loop-rest.invariant
