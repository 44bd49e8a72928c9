use Rattle.std.proofs.Common.{◌≡◌, take}
use Rattle.fire_fec.proofs.Blocks.{octets_taken}
use Rattle.fire_fec.proofs.remainder.after_block.Given as goal

abbrev pub invariant-loop-place : goal.invariant-loop-place
invariant-loop-place l = l.after ≡ octets_taken l.place (take l.place l.octet-items)
