use Rattle.std.proofs.Common.{◌≡◌, ℕ, ◌*◌, ◌%◌, ◌^◌, sym, ◌∙◌, ap, arith, bit_xor}
use Rattle.jesd_base.specs.Bits.{bits, value}
use Rattle.fire_fec.specs.Burst.{parity}
use Rattle.fire_fec.specs.kept.Taking.{block_taken}
use Rattle.fire_fec.proofs.Blocks.{block_taken-parity, block_taken-small, block_taken-sum, octets_taken-none, octet_more, octets_whole}
use Rattle.fire_fec.proofs.remainder.after_block.Goals as goal

pub loop-place-init : goal.loop-place-init
loop-place-init c = octets_taken-none

pub loop-place-preserved : goal.loop-place-preserved
loop-place-preserved c =
    let l = c.loop-place in
    let octets = c.to_be_bytes.result in
    octet_more octets _ c.to_be_bytes.ensures l.place l.after (omega arith) l.invariant

pub returns : goal.returns
returns c =
    let r : ℕ = c.args.rest in
    let b : ℕ = c.args.block in
    let up : c.from.result * 2 ^ 38 % 2 ^ 64 ≡ r * 2 ^ 38 = omega (arith, c.from.ensures) in
    let l = c.loop-place in
    let octets = c.to_be_bytes.result in
    let sum : l.after ≡ block_taken r b =
    octets_whole octets _ c.to_be_bytes.ensures l.place l.after (omega arith) l.invariant
    ∙ ap (λ n. value (parity (bits 64 (bit_xor n b)))) up ∙ sym (block_taken-sum r b) in
    record {
      below = rw sum (block_taken-small r b);
      remainder = sum;
      parity = λ before is. sum ∙ ap (λ n. block_taken n b) is ∙ block_taken-parity before b;
    }
