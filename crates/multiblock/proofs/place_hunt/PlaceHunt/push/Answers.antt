use Rattle.std.proofs.Common.{◌∙◌, ap, refl, arith}
use Rattle.std.specs.Prelude.{None}
use Rattle.std.specs.Int.{bit_at}
use Rattle.std.proofs.lemmas.Nat.Bits.{bit_at-zero}
use Rattle.multiblock.proofs.Hunting.{Took, pushed, place-rest, place-next}
use Rattle.multiblock.proofs.place_hunt.PlaceHunt.push.Goals as goal

pub returns-then-phases-eq0-clause-answer : goal.returns-then-phases-eq0-clause-answer
returns-then-phases-eq0-clause-answer c = λ e taken h.
    let b = c.bits_and_numbers.ensures in
    let took : Took c.args.self.now c.take.new.self c.args.word = record { e = c.take.ensures.e; count = c.take.ensures.count; last = c.take.ensures.last; newest = c.take.ensures.newest; older = c.take.ensures.older } in
    (pushed b.length b.value_of_bits b.bits_of_value b.append c.args.self.now c.take.new.self e taken c.args.word c.phases-phases.result c.requires took
    c.take.ensures.most h c.phases-phases.ensures None
    tt
    (λ _ r low set. let z = ap (λ x. bit_at x r) c.if-phases-eq0.true ∙ bit_at-zero r in absurd (omega arith))).0

pub returns-then-phases-eq0-clause-hunts_on : goal.returns-then-phases-eq0-clause-hunts_on
returns-then-phases-eq0-clause-hunts_on c = λ e taken h none.
    let b = c.bits_and_numbers.ensures in
    let took : Took c.args.self.now c.take.new.self c.args.word = record { e = c.take.ensures.e; count = c.take.ensures.count; last = c.take.ensures.last; newest = c.take.ensures.newest; older = c.take.ensures.older } in
    (pushed b.length b.value_of_bits b.bits_of_value b.append c.args.self.now c.take.new.self e taken c.args.word c.phases-phases.result c.requires took
    c.take.ensures.most h c.phases-phases.ensures None
    tt
    (λ _ r low set. let z = ap (λ x. bit_at x r) c.if-phases-eq0.true ∙ bit_at-zero r in absurd (omega arith))).1 refl

pub returns-clause-answer : goal.returns-clause-answer
returns-clause-answer c = λ e taken h.
    let b = c.bits_and_numbers.ensures in
    let took : Took c.args.self.now c.take.new.self c.args.word = record { e = c.take.ensures.e; count = c.take.ensures.count; last = c.take.ensures.last; newest = c.take.ensures.newest; older = c.take.ensures.older } in
    (pushed b.length b.value_of_bits b.bits_of_value b.append c.args.self.now c.take.new.self e taken c.args.word c.phases-phases.result c.requires took
    c.take.ensures.most h c.phases-phases.ensures c.place_in.result
    c.place_in.ensures.some
    c.place_in.ensures.none).0

pub returns-clause-hunts_on : goal.returns-clause-hunts_on
returns-clause-hunts_on c = λ e taken h none.
    let b = c.bits_and_numbers.ensures in
    let took : Took c.args.self.now c.take.new.self c.args.word = record { e = c.take.ensures.e; count = c.take.ensures.count; last = c.take.ensures.last; newest = c.take.ensures.newest; older = c.take.ensures.older } in
    (pushed b.length b.value_of_bits b.bits_of_value b.append c.args.self.now c.take.new.self e taken c.args.word c.phases-phases.result c.requires took
    c.take.ensures.most h c.phases-phases.ensures c.place_in.result
    c.place_in.ensures.some
    c.place_in.ensures.none).1 none

pub returns-clause-rest : goal.returns-clause-rest
returns-clause-rest c =
    place-rest c.take.new.self c.phases-phases.result c.place_in.result c.place_in.ensures.some

pub returns-clause-next : goal.returns-clause-next
returns-clause-next c =
    let t = c.take.ensures in
    let p = c.place_in in
    place-next c.args.self.now c.take.new.self c.phases-phases.result p.result t.e t.least p.ensures.some
