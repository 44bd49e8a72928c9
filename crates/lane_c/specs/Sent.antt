-- What a 64b/66b transmitter lane sends for all that it was handed since its reset (JESD204C.1,
-- 64b/66b link layer: scrambling, block format, sync word and multiblock; which bits a check
-- covers, and where it travels, are this project's own).
-- Code: one block a tick, on the scrambler's last bits, the payload of the multiblock so far and
-- its sync word.
use Rattle.std.specs.Prelude.{ℕ, zero, suc, ◌+◌, ◌-◌, ◌*◌, ◌/◌, ◌%◌, ◌==◌, Bool, true, false, if◌then◌else◌, List, [], ◌∷◌, ◌++◌, map, length, take, drop, get_or, replicate}
use Rattle.std.specs.List.{flat_map}
use Rattle.jesd_base.specs.Bits.{bits, value, zeros}
use Rattle.link_params.specs.declared.fields.Mode.{Mode}
use Rattle.link_params.specs.declared.fields.Mode.TheVariants.{B, CCrc, CFec}
use Rattle.link_params.specs.declared.fields.Params.{Params}
use Rattle.link_params.specs.declared.orders.TxOrder.{TxOrder}
use Rattle.link_params.specs.declared.orders.TxOrder.TheVariants.{Comma, Ilas, Data, Silent, Block}
use Rattle.link_params.specs.Lanes.{Handed}
use Rattle.lane_scramble.specs.Scrambling.{scrambled58}
use Rattle.block_66b.specs.Blocks.{block}
use Rattle.crc12.specs.Crc.{crc}
use Rattle.fire_fec.specs.Burst.{parity}
use Rattle.multiblock.specs.SyncWords.{sync_word}

-- ---- sync words

-- the check of a multiblock's payload bits
abbrev pub check : Mode → List Bool → List Bool
check B payload = []
check CCrc payload = crc payload
check CFec payload = parity payload

-- the payload bits of multiblock j, of those of all blocks
abbrev pub part_of : List Bool → ℕ → List Bool
part_of payload j = take 2048 (drop (2048 * j) payload)

-- a multiblock carries the check of the one before it, and the first one zeros
abbrev pub check_before : Mode → List Bool → ℕ → ℕ
check_before mode payload zero = 0
check_before mode payload (suc j) = value (check mode (part_of payload j))

-- the last of E multiblocks ends an extended multiblock
abbrev pub is_end : Params → ℕ → Bool
is_end p j = j % p.e == p.e - 1

-- the sync word of multiblock j
unfoldable pub word_of : Params → List Bool → ℕ → List Bool
word_of p payload j = sync_word p.mode (check_before p.mode payload j) 0 (is_end p j)

-- the sync words of n multiblocks from number j on, one after another
unfoldable pub words_from : Params → List Bool → ℕ → ℕ → List Bool
words_from p payload j zero = []
words_from p payload j (suc n) =
    let more = words_from p payload (suc j) n in
    word_of p payload j ++ more

-- ---- blocks

-- block n: its header carries sync bit n, and its payload is 64 bits
abbrev pub block_at : List Bool → List Bool → ℕ → List Bool
block_at sync payload n = block (get_or sync n false) (take 64 (drop (64 * n) payload))

-- the first n blocks
unfoldable pub blocks : List Bool → List Bool → ℕ → List (List Bool)
blocks sync payload zero = []
blocks sync payload (suc n) = blocks sync payload n ++ block_at sync payload n ∷ []

-- the payload bits of the blocks of these octets, eight in a number: scrambled from the first on
abbrev pub payload_of : List ℕ → List Bool
payload_of octets = scrambled58 (flat_map (bits 64) octets)

-- the sync bits of their headers
abbrev pub sync_of : Params → List ℕ → List Bool
sync_of p octets = words_from p (payload_of octets) 0 (length octets / 32 + 1)

-- the blocks of these octets
unfoldable pub blocks_of : Params → List ℕ → List (List Bool)
blocks_of p octets = blocks (sync_of p octets) (payload_of octets) (length octets)

-- ---- all that was handed in

abbrev pub is_block : TxOrder → Bool
is_block Comma = false
is_block (Ilas x) = false
is_block (Data x first) = false
is_block Silent = false
is_block (Block x first) = true

-- the octets from the first block on
unfoldable pub octets_sent : List Handed → List ℕ
octets_sent [] = []
octets_sent (h ∷ hs) =
    let all = map (λ k. k.octets) (h ∷ hs) in
    if is_block h.order then all else octets_sent hs

-- the bits of each tick: zeros before the first block
unfoldable pub sent_c : Params → ℕ → List Handed → List (List Bool)
sent_c p lane handed =
    let octets = octets_sent handed in
    replicate (length handed - length octets) (zeros 66) ++ blocks_of p octets
