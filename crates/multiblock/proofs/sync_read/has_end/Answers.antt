use Rattle.std.proofs.Common.{◌/◌, ◌==◌, ◌∙◌, ap, sym}
use Rattle.std.proofs.lemmas.Nat.{and_mask}
use Rattle.multiblock.proofs.SyncLemmas.{crc-end, fec-end}
use Rattle.multiblock.proofs.sync_read.has_end.Goals as goal

pub returns-clause-crc : goal.returns-clause-crc
returns-clause-crc c = ap (λ t. t == 1) (and_mask (c.args.word / 512) 1) ∙ sym (crc-end c.args.word)

pub returns-clause-fec : goal.returns-clause-fec
returns-clause-fec c = ap (λ t. t == 1) (and_mask (c.args.word / 512) 1) ∙ sym (fec-end c.args.word)
