use Rattle.std.proofs.Common.{◌-◌, ◌∙◌, sym, length, arith}
use Rattle.scenario.proofs.TextLemmas.{strip_end-more, strip_end-here, strip_end-none}
use Rattle.scenario.proofs.text.without_end.Goals as goal

pub loop-rest-preserved : goal.loop-rest-preserved
loop-rest-preserved c = let some = c.in-len1-up.len_at_least in
    strip_end-more c.loop-rest.rest.now (length c.loop-rest.rest.now - 1) (omega arith)
    (sym c.is_blank_byte.ensures ∙ c.if-not-is_blank_byte.false) ∙ c.loop-rest.invariant

pub returns-in_default : goal.returns-in_default
returns-in_default c = strip_end-none c.loop-rest.rest.now c.in_default.len_below
    ∙ c.loop-rest.invariant

pub returns-then-not-is_blank_byte : goal.returns-then-not-is_blank_byte
returns-then-not-is_blank_byte c = let some = c.in-len1-up.len_at_least in
    strip_end-here c.loop-rest.rest.now (length c.loop-rest.rest.now - 1) (omega arith)
    (sym c.is_blank_byte.ensures ∙ c.if-not-is_blank_byte.true) ∙ c.loop-rest.invariant
