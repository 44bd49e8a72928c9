-- The place of blocks and multiblocks in a list of bits (JESD204C.1, 64b/66b link layer, block and
-- multiblock synchronization; which places a receiver takes is this project's own rule).
-- Code: a ring of the headers of all 66 phases, and sets of phases as bits of a number.
use Rattle.std.specs.Prelude.{ℕ, zero, suc, ◌+◌, ◌-◌, ◌*◌, ◌%◌, ◌==◌, max, Bool, true, false, not, ◌&&◌, List, [], ◌∷◌, length, take, drop, get_or, Option, Some, None, option_map}
use Rattle.jesd_base.specs.Bits.{add}
use Rattle.jesd_base.specs.Search.{first_from}
use Rattle.block_66b.specs.declared.sync_bit.SyncBit.{SyncBit}
use Rattle.block_66b.specs.declared.sync_bit.SyncBit.TheVariants.{Zero, One, Bad}
use Rattle.block_66b.specs.Blocks.{header}
use Rattle.multiblock.specs.declared.place.Place.{Place as Found}
use Rattle.multiblock.specs.SyncWords.{pilot, same_bits}

-- the headers of n blocks, from the first bit of a list on
unfoldable pub headers : ℕ → List Bool → List SyncBit
headers zero bs = []
headers (suc n) bs = let more = headers n (drop 66 bs) in header bs ∷ more

-- n pieces of a list, of one size each; the last ones are short where the list is
unfoldable pub pieces {ℓ} : {A : Type ℓ} → ℕ → ℕ → List A → List (List A)
pieces zero size xs = []
pieces (suc n) size xs = let more = pieces n size (drop size xs) in take size xs ∷ more

-- V, the multiblocks of the pattern
abbrev pub pattern_size : ℕ → ℕ
pattern_size e = max 4 e

-- the sync bits, where no header is bad
unfoldable pub good : List SyncBit → Option (List Bool)
good [] = Some []
good (Bad ∷ hs) = None
good (One ∷ hs) = option_map (λ bs. true ∷ bs) (good hs)
good (Zero ∷ hs) = option_map (λ bs. false ∷ bs) (good hs)

-- each sync word ends in 00001
unfoldable pub have_pilots : List (List Bool) → Bool
have_pilots [] = true
have_pilots (w ∷ ws) = same_bits (drop 27 w) pilot && have_pilots ws

-- the end bits of the words from number j on are 1 in exactly those of one remainder modulo e
unfoldable pub ends_at : ℕ → ℕ → ℕ → List (List Bool) → Bool
ends_at e r j [] = true
ends_at e r j (w ∷ ws) = not (add (get_or w 22 false) (j % e == r)) && ends_at e r (suc j) ws

-- the remainder of the end bits, where these sync words are a pattern
unfoldable pub remainder_of : ℕ → List (List Bool) → Option ℕ
remainder_of e ws = elim (have_pilots ws) as (λ b. Option ℕ) [ true ↦ first_from (λ r. ends_at e r 0 ws) e 0 | false ↦ None ]

-- the remainder of the end bits, where the bits begin with a pattern: 32·V blocks with good headers, each sync word ends
-- in 00001, and the end bits are 1 in exactly the multiblocks of one remainder modulo e
unfoldable pub pattern : ℕ → List Bool → Option ℕ
pattern e bs = elim (good (headers (32 * pattern_size e) bs)) as (λ o. Option ℕ) [ None ↦ None | Some sync ↦ remainder_of e (pieces (pattern_size e) 32 sync) ]

-- a place: its first bit, and the remainder of the multiblocks that end an extended multiblock
pub record Place : Type 0 where
  pub first : ℕ
  pub remainder : ℕ

-- the bits of a pattern
abbrev pub span : ℕ → ℕ
span e = 66 * (32 * pattern_size e)

-- the least place from the first of these bits on, which is bit p, of n places
unfoldable pub place_among : ℕ → ℕ → List Bool → ℕ → Option Place
place_among e zero bs p = None
place_among e (suc n) bs p = elim (pattern e bs) as (λ o. Option Place) [ Some r ↦ Some (record { first = p; remainder = r }) | None ↦ place_among e n (drop 1 bs) (suc p) ]

-- the least place from bit p on at which a pattern stands whole
unfoldable pub least_place : ℕ → ℕ → List Bool → Option Place
least_place e p bs = place_among e (suc (length bs) - (p + span e)) (drop p bs) p

-- the place in the extended multiblock of the block that follows the pattern
abbrev pub next_place : ℕ → ℕ → ℕ
next_place e r = 32 * ((pattern_size e + e - 1 - r) % e)

-- what a hunt answers once these bits have come since it began, where it answered nothing before: the bits of the last
-- tick that come after the pattern, and the place in the extended multiblock of the block that follows
unfoldable pub found : ℕ → List Bool → Option Found
found e bs = option_map (λ (p : Place). record { rest = length bs - (p.first + span e); next = next_place e p.remainder }) (least_place e 0 bs)
