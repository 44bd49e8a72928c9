use Rattle.std.proofs.Common.{◌≡◌, ℕ, List, length, take, ◌∙◌, sym, ap, arith, bit_xor}
use Rattle.std.proofs.lemmas.Nat.{xor_lt}
use Rattle.std.proofs.Math.Seq.{take-length}
use Rattle.jesd_base.specs.Bits.{value}
use Rattle.fire_fec.specs.Burst.{parity}
use Rattle.fire_fec.specs.Corrects.{payload_bits}
use Rattle.fire_fec.proofs.Flipping.{payload-length}
use Rattle.fire_fec.proofs.Remainders.{received_remainder}
use Rattle.fire_fec.proofs.trap.Trap.of_word.Goals as goal

pub invariant_of-result : goal.invariant_of-result
invariant_of-result g c = xor_lt 26 c.trap.inside.rest c.args.check c.trap.invariant c.requires

pub returns-clause-rest : goal.returns-clause-rest
returns-clause-rest g c =
    let blocks : List ℕ = c.args.payload.now in
    let l = payload-length blocks in
    let end : c.loop-block.block-index ≡ length blocks = omega arith in
    let all : take c.loop-block.block-index blocks ≡ blocks =
    ap (λ k. take k blocks) end ∙ take-length blocks in
    let whole = c.loop-block.invariant.trap ∙ ap (λ s. value (parity (payload_bits s))) all in
    ap (λ r. bit_xor r c.args.check) (c.trap.view_is ∙ whole)
    ∙ sym (received_remainder (payload_bits blocks) c.args.check (omega arith) c.requires)
