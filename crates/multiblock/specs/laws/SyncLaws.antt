-- A law of sync words: what was put in is read.
-- Code: none of this is computed.
use Rattle.std.specs.Prelude.{◌≡◌, ℕ, ◌^◌, ◌<◌, Bool, true}
use Rattle.link_params.specs.declared.fields.Mode.TheVariants.{CCrc, CFec}
use Rattle.multiblock.specs.SyncWords.{sync_word, read_sync}

-- reading a sync word gives back its check, its command bits, its end bit and a good pilot; under FEC there are no command bits
abbrev pub ReadsBack : Type 0
ReadsBack = (check cmd : ℕ) (end : Bool)
    → (check < 2 ^ 12 → cmd < 128 → read_sync CCrc (sync_word CCrc check cmd end) ≡ record { check = check; cmd = cmd; end = end; pilot = true })
    × (check < 2 ^ 26 → read_sync CFec (sync_word CFec check cmd end) ≡ record { check = check; cmd = 0; end = end; pilot = true })
