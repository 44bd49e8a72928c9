use Rattle.std.proofs.Common.{ap, sym, ◌∙◌}
use Rattle.jesd_base.specs.Bits.{bits}
use Rattle.multiblock.specs.SyncWords.{read_sync}
use Rattle.multiblock.proofs.SyncLemmas.{fec-read, crc-read, only-crc}
use Rattle.multiblock.proofs.sync_read.read_sync.Goals as goal

pub returns-in-CFec-clause-read : goal.returns-in-CFec-clause-read
returns-in-CFec-clause-read c =
    fec-read c.args.word _ _ _ c.fec_check.ensures.check c.has_end-end.ensures.fec c.has_pilot-pilot.ensures
    ∙ ap (λ m. read_sync m (bits 32 c.args.word)) (sym c.in-CFec.is)

pub returns-in_default-clause-read : goal.returns-in_default-clause-read
returns-in_default-clause-read c =
    crc-read c.args.word _ _ _ _ c.crc_check.ensures.check c.crc_cmd.ensures c.has_end-end.ensures.crc c.has_pilot-pilot.ensures
    ∙ ap (λ m. read_sync m (bits 32 c.args.word)) (sym (only-crc c.args.mode c.requires c.in_default.not-CFec))
