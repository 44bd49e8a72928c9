use Rattle.std.proofs.Common.{None, refl, sym, ◌∙◌, arith}
use Rattle.jesd_base.specs.Bits.{bits}
use Rattle.fire_fec.specs.Corrects.{payload_bits}
use Rattle.fire_fec.proofs.Corrected.{is_whole, is_not_whole, burst_of_remainder}
use Rattle.fire_fec.proofs.Flipping.{burst_in_payload, payload-length}
use Rattle.fire_fec.proofs.correction.correct.Goals as goal

pub returns-then-value-eq0-clause-answer : goal.returns-then-value-eq0-clause-answer
returns-then-value-eq0-clause-answer g c =
    let is = c.of_word-trap.ensures.rest in
    let zero = sym c.value.ensures.value ∙ c.if-value-eq0.true in
    (is_whole c.args.payload.now c.args.check c.of_word-trap.result (omega arith) is zero, refl)

pub returns-in-Some-clause-answer : goal.returns-in-Some-clause-answer
returns-in-Some-clause-answer g c =
    let l = payload-length c.args.payload.now in
    let blocks = c.args.payload.now in
    let check = c.args.check in
    let r = c.of_word-trap.result in
    let start = c.in-Some.start in
    let mask = c.in-Some.mask in
    let v = c.value.ensures.value in
    let is = c.of_word-trap.ensures.rest in (
      is_not_whole blocks check r (omega arith) is (λ e. c.if-value-eq0.false (v ∙ e)),
      burst_of_remainder blocks check r (omega arith) is _ c.in-Some.ensures.burst,
      c.add_burst.ensures
          ∙ sym (burst_in_payload (payload_bits blocks) (bits 26 check) start mask (omega arith)),
    )

pub returns-in-None-clause-answer : goal.returns-in-None-clause-answer
returns-in-None-clause-answer g c =
    let blocks = c.args.payload.now in
    let check = c.args.check in
    let r = c.of_word-trap.result in
    let v = c.value.ensures.value in
    let is = c.of_word-trap.ensures.rest in (
      is_not_whole blocks check r (omega arith) is (λ e. c.if-value-eq0.false (v ∙ e)),
      burst_of_remainder blocks check r (omega arith) is None c.in-None.ensures.burst,
      refl,
    )
