-- What a receiver lane keeps, as contracts see it. Places count bits of the hunt; blocks and
-- multiblocks are counted from the place.
-- Code: the fields themselves.
use Rattle.std.specs.Prelude.{◌≡◌, ◌⊎◌, ◌≤◌, ◌<◌, ℕ, suc, ◌+◌, ◌-◌, ◌*◌, ◌/◌, ◌%◌, ◌==◌, min, Bool, true, false, List, [], ◌∷◌, ◌++◌, map, length, take, drop, get_or, Option, Some, None}
use Rattle.jesd_base.specs.Bits.{bits}
use Rattle.link_params.specs.declared.fields.Mode.{Mode}
use Rattle.link_params.specs.declared.fields.Mode.TheVariants.{B, CCrc, CFec}
use Rattle.link_params.specs.declared.fields.Params.{Params}
use Rattle.link_params.specs.declared.fields.Timing.{Timing}
use Rattle.link_params.specs.declared.orders.RxOrder.{RxOrder}
use Rattle.link_params.specs.declared.cells.Mark.{Mark}
use Rattle.link_params.specs.declared.cells.Mark.TheVariants as mark
use Rattle.link_params.specs.declared.cells.LaneCell.{LaneCell}
use Rattle.link_params.specs.Lanes.{Held as HeldEntry, Entry, Taken, is_inside}
use Rattle.link_params.specs.Numbers.{period}
use Rattle.block_66b.specs.declared.sync_bit.SyncBit.{SyncBit}
use Rattle.block_66b.specs.declared.sync_bit.SyncBit.TheVariants.{Zero, One, Bad}
use Rattle.block_66b.specs.Blocks.{HasTaken as HasWindowed, header}
use Rattle.lane_scramble.specs.kept.Scramblers.{HasDescrambled58}
use Rattle.multiblock.specs.declared.place.Place.{Place as Found}
use Rattle.multiblock.specs.Places.{Place, least_place, next_place, pattern_size, pieces}
use Rattle.multiblock.specs.kept.Hunts.{HasHunted, Kept}
use Rattle.elastic_buffer.specs.kept.Queues.{Queue}
use Rattle.lane_c.specs.declared.pipeline.Judged.{Judged as JudgedBlocks}
use Rattle.lane_c.specs.declared.pipeline.Multiblock.{Multiblock}
use Rattle.lane_c.specs.declared.pipeline.Pipeline.{Pipeline}
use Rattle.lane_c.specs.declared.receiver.Held.{Held}
use Rattle.lane_c.specs.declared.receiver.Start.{Start}
use Rattle.lane_c.specs.declared.receiver.Step.{Step}
use Rattle.lane_c.specs.declared.receiver.Step.TheVariants as step
use Rattle.lane_c.specs.declared.receiver.State.{State}
use Rattle.lane_c.specs.declared.receiver.State.TheVariants as state
use Rattle.lane_c.specs.kept.Counts.{HasCounted}
use Rattle.lane_c.specs.Loss.{headers_after, is_bad, misplaced, pattern_end}
use Rattle.lane_c.specs.Locking.{bits_taken, dropped_at, offset_of, order_at, place_from, start}
use Rattle.lane_c.specs.Statuses.{Judged, judged}
use Rattle.lane_c.specs.Received.{cell, entries_c, report_c}

-- the link's parameters and timing, where the lane stands, and its buffer
pub record Receiver : Type 0 where
  pub params : Params
  pub timing : Timing
  pub state : State
  pub buffer : Queue

-- each tick has sixty-six bits
abbrev pub AreBlocks : List Taken → Type 0
AreBlocks [] = Unit {0}
AreBlocks (t ∷ ts) = (length t.word ≡ 66) × AreBlocks ts

-- a tick with this order and these bits, bit 65 of the number first
abbrev pub tick_of : RxOrder → ℕ → Taken
tick_of order word = record { order = order; word = bits 66 word }

-- the search for the place comes to bit x, whatever is taken later: each place before it is
-- dropped, after more than a tick
pub record Searches (e : ℕ) (taken : List Taken) (x : ℕ) : Type 0 where
  pub drops : ℕ
  pub few : 66 * drops ≤ x
  pub inside : x ≤ length (bits_taken taken)
  pub same : (later : List Taken) (n : ℕ) → place_from (n + drops) e (taken ++ later) 0
      ≡ place_from n e (taken ++ later) x

-- a hunt goes on, over the bits from the one on that the search came to
pub record HuntsOn (now : Kept) (e : ℕ) (taken : List Taken) : Type 0 where
  pub from : ℕ
  pub searches : Searches e taken from
  pub hunted : HasHunted now e (drop from (bits_taken taken))

-- ---- the pipeline

abbrev pub is_one : SyncBit → Bool
is_one Zero = false
is_one One = true
is_one Bad = false

-- the blocks of multiblock j from a place on, as far as they came
abbrev pub blocks_in : Place → List Bool → ℕ → List (List Bool)
blocks_in x bs j =
    take 32 (drop (32 * j) (pieces ((length bs - x.first) / 66) 66 (drop x.first bs)))

-- a block more came after a place, the one with this number from it on
pub record HasMore (x : Place) (bs later : List Bool) (n : ℕ) (block : List Bool) : Type 0 where
  pub before : (length bs - x.first) / 66 ≡ n
  pub after : (length later - x.first) / 66 ≡ suc n
  pub more : pieces (suc n) 66 (drop x.first later) ≡ pieces n 66 (drop x.first bs) ++ block ∷ []

-- these blocks came, the first ones of a multiblock
pub record HasCome (now : Multiblock) (blocks : List (List Bool)) : Type 0 where
  pub word : bits (length blocks) now.word ≡ map (λ b. is_one (header b)) blocks
  pub bad : bits (length blocks) now.bad ≡ map (λ b. is_bad (header b)) blocks
  pub payload : map (bits 64) (take (length blocks) now.payload) ≡ map (drop 2) blocks

-- the status of a block that is judged
abbrev pub status_at : JudgedBlocks → Bool → Mark
status_at now true = mark.Bad
status_at now false = now.mark

-- this is what the check says of the blocks of a multiblock
pub record AreJudged (now : JudgedBlocks) (blocks : List Judged) : Type 0 where
  pub statuses : map (status_at now) (bits 32 now.bad) ≡ map (λ b. b.status) blocks
  pub payload : map (bits 64) now.payload ≡ map (λ b. b.payload) blocks

abbrev pub no_block : Judged
no_block = record { status = mark.Bad; payload = [] }

-- the block with this number of those that were judged
abbrev pub block_of : List Judged → ℕ → Judged
block_of blocks n = get_or blocks n no_block

-- this block left last
pub record HasLeft (now : Pipeline) (block : Judged) : Type 0 where
  pub status : now.before ≡ block.status
  pub size : length block.payload ≡ 64
  pub earlier : List Bool
  pub descrambled_so : HasDescrambled58 now.scrambler (earlier ++ block.payload)

-- so many bits of a check
abbrev pub check_size : Mode → ℕ
check_size B = 0
check_size CCrc = 12
check_size CFec = 26

-- the blocks of multiblock j, by the next one
abbrev pub judged_in : Mode → Place → List Bool → ℕ → List Judged
judged_in mode x bs j = judged mode (blocks_in x bs j) (blocks_in x bs (j + 1))

-- the block with this number after the pattern, once it is judged
abbrev pub block_after : Params → Place → List Bool → ℕ → Judged
block_after p x bs n = block_of (judged_in p.mode x bs (pattern_size p.e + n / 32)) (n % 32)

-- the cell of the block that leaves where so many blocks came after the pattern before
abbrev pub cell_now : Params → Place → List Bool → ℕ → LaneCell
cell_now p x bs blocks =
    cell (block_after p x bs (blocks - 65)) (block_after p x bs (blocks - 64))

-- so many blocks came after the pattern: multiblock j arrives, the one before it waits, and the one
-- before that leaves
pub record HasPiped (now : Pipeline) (p : Params) (x : Place) (bs : List Bool)
    (blocks : ℕ) : Type 0 where
  pub descrambled : List Bool
  pub descrambled_so : HasDescrambled58 now.scrambler descrambled
  pub multiblock : ℕ
  pub is : multiblock ≡ pattern_size p.e + blocks / 32
  pub arriving : HasCome now.arriving (blocks_in x bs multiblock)
  pub waiting : 32 ≤ blocks → HasCome now.waiting (blocks_in x bs (multiblock - 1))
  pub leaving : 64 ≤ blocks → AreJudged now.leaving (judged_in p.mode x bs (multiblock - 2))
  pub left : 65 ≤ blocks → HasLeft now (block_after p x bs (blocks - 65))

-- ---- the place

-- a start at this offset
abbrev pub start_at : Timing → ℕ → Start
start_at t offset = record { offset = offset; inside = is_inside t offset }

-- the lane has started, with block n
pub record HasStarted (now : Start) (p : Params) (t : Timing) (taken : List Taken)
    (x : Place) : Type 0 where
  pub block : ℕ
  pub is : start p.e taken x ≡ Some block
  pub offset : now.offset ≡ offset_of taken x block
  pub window : now.inside ≡ is_inside t now.offset

abbrev pub MayHaveStarted : Option Start → Params → Timing → List Taken → Place → Type 0
MayHaveStarted None p t taken x = start p.e taken x ≡ None
MayHaveStarted (Some s) p t taken x = HasStarted s p t taken x

-- a place is held, and so many blocks came after its pattern
pub record IsHeld (now : Held) (p : Params) (t : Timing) (taken : List Taken) : Type 0 where
  pub from : ℕ
  pub searches : Searches p.e taken from
  pub at : Place
  pub least : least_place p.e from (bits_taken taken) ≡ Some at
  pub stays : dropped_at p.e taken at ≡ None
  pub blocks : ℕ
  pub come : length (bits_taken taken) ≡ pattern_end p.e at + 66 * blocks + now.rest
  pub rest : now.rest < 66
  pub windowed : HasWindowed now.window now.rest (bits_taken taken)
  pub count : now.after ≡ min blocks 96
  pub next : now.place ≡ (next_place p.e at.remainder + blocks) % period p
  pub counted : HasCounted now.loss p.e (map is_bad (headers_after p.e (bits_taken taken) at))
      (misplaced p.e at (headers_after p.e (bits_taken taken) at))
  pub piped : HasPiped now.pipeline p at (bits_taken taken) blocks
  pub started : MayHaveStarted now.start p t taken at
  pub armed : start p.e taken at ≡ None ⊎ ((order_at taken (length taken - 1)).armed ≡ true)

-- a place was completed in the tick with these bits: no block came after its pattern yet
pub record HasBegun (now : Held) (e : ℕ) (place : Found) (word : List Bool) : Type 0 where
  pub windowed : HasWindowed now.window place.rest word
  pub rest : now.rest ≡ place.rest
  pub count : now.after ≡ 0
  pub next : now.place ≡ place.next
  pub counted : HasCounted now.loss e [] []
  pub descrambled_so : HasDescrambled58 now.pipeline.scrambler []
  pub started : now.start ≡ None

abbrev pub HoldsFirst : State → ℕ → Found → List Bool → Type 0
HoldsFirst (state.Hunting h) e place word = ⊥
HoldsFirst (state.Held h) e place word = HasBegun h e place word

-- a hunt has had these bits
abbrev pub Hunts : State → ℕ → List Bool → Type 0
Hunts (state.Hunting h) e bs = HasHunted h e bs
Hunts (state.Held h) e bs = ⊥

abbrev pub StandsSo : State → Params → Timing → List Taken → Type 0
StandsSo (state.Hunting h) p t taken = HuntsOn h p.e taken
StandsSo (state.Held h) p t taken = IsHeld h p t taken

-- the block with this number after the pattern: where it is the last of its multiblock, whether
-- that ends an extended one
abbrev pub EndsAt : Params → Place → ℕ → Bool → Type 0
EndsAt p x n end = n % 32 ≡ 31 → end ≡ ((pattern_size p.e + n / 32) % p.e == x.remainder)

-- the blocks up to this number are read
pub record HasRead (now : Held) (p : Params) (taken : List Taken) (x : Place)
    (blocks : ℕ) : Type 0 where
  pub windowed : HasWindowed now.window now.rest (bits_taken taken)
  pub counted : HasCounted now.loss p.e (map is_bad (headers_after p.e (bits_taken taken) x))
      (misplaced p.e x (headers_after p.e (bits_taken taken) x))
  pub piped : HasPiped now.pipeline p x (bits_taken taken) blocks

-- an order is armed where the one before it was
abbrev pub IsArmedOn : List Taken → RxOrder → Type 0
IsArmedOn taken order = (order_at taken (length taken - 1)).armed ≡ true → order.armed ≡ true

-- the bits of a tick dropped the place, and the last ones are left for the search
pub record HasDropped (now : Held) (e : ℕ) (taken : List Taken) (x : Taken) : Type 0 where
  pub from : ℕ
  pub searches : Searches e (taken ++ x ∷ []) from
  pub rest : now.rest < 66
  pub left : drop from (bits_taken (taken ++ x ∷ [])) ≡ drop (66 - now.rest) x.word

-- a start that is reported is inside the window
abbrev pub started_inside : Timing → Option ℕ → Bool
started_inside t None = false
started_inside t (Some offset) = is_inside t offset

-- a lane that took these has started inside its window
abbrev pub is_inside_now : Params → Timing → ℕ → List Taken → Bool
is_inside_now p t lane taken = started_inside t (report_c p t lane taken).started

-- what a tick does where a place is held
abbrev pub Does : Step → Held → Params → Timing → ℕ → List Taken → Taken → Type 0
Does step.Stay now p t lane taken x =
    IsHeld now p t (taken ++ x ∷ [])
    × (entries_c p t lane (taken ++ x ∷ []) ≡ entries_c p t lane taken)
    × (is_inside_now p t lane taken ≡ false)
Does (step.Keep cell) now p t lane taken x =
    IsHeld now p t (taken ++ x ∷ [])
    × (entries_c p t lane (taken ++ x ∷ []) ≡ entries_c p t lane taken ++ HeldEntry cell ∷ [])
    × (is_inside_now p t lane (taken ++ x ∷ []) ≡ true)
Does step.Drop now p t lane taken x =
    HasDropped now p.e taken x × (entries_c p t lane taken ≡ [])
    × (is_inside_now p t lane taken ≡ false)

-- ---- the buffer

-- the entries from number `gave` on wait in the buffer
pub record Holds (entries : List Entry) (cells : List LaneCell) (gave : ℕ) : Type 0 where
  pub within : gave ≤ length entries
  pub wait : map HeldEntry cells ≡ drop gave entries

-- a lane of this link has taken these since its hunt began, and gave so many entries
pub record HasTaken (now : Receiver) (p : Params) (t : Timing) (lane : ℕ) (taken : List Taken)
    (gave : ℕ) : Type 0 where
  pub params : now.params ≡ p
  pub timing : now.timing ≡ t
  pub words : AreBlocks taken
  pub stands : StandsSo now.state p t taken
  pub holds : Holds (entries_c p t lane taken) now.buffer.cells gave
