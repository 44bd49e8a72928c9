-- What a receiver lane keeps, as contracts see it. Offsets are in ticks, places in bits of the
-- hunt.
-- Code: the fields themselves.
use Rattle.std.specs.Prelude.{◌≡◌, ◌≤◌, ℕ, ◌+◌, ◌-◌, ◌*◌, ◌%◌, Bool, true, false, List, [], ◌∷◌, ◌++◌, length, drop, Option, Some, None}
use Rattle.jesd_base.specs.Bits.{bits}
use Rattle.link_params.specs.declared.fields.Params.{Params}
use Rattle.link_params.specs.declared.fields.Timing.{Timing}
use Rattle.link_params.specs.Lanes.{Taken, is_inside}
use Rattle.code_8b10b.specs.declared.character.Rd.TheVariants.{Minus}
use Rattle.code_8b10b.specs.Commas.{least_place, HasHunted}
use Rattle.elastic_buffer.specs.kept.Queues.{Queue}
use Rattle.lane_b.specs.declared.chars.Chars.{Chars}
use Rattle.lane_b.specs.declared.receiver.State.{State}
use Rattle.lane_b.specs.declared.receiver.State.TheVariants.{Hunting, Locked}
use Rattle.lane_b.specs.declared.receiver.Chain.{Chain}
use Rattle.lane_b.specs.declared.receiver.Start.{Start}
use Rattle.lane_b.specs.Locking.{Lock, bits_taken, words_in, lock_at, lock_from, since_start, is_empty, order_at, tick_of_start}
use Rattle.lane_b.specs.Received.{entries_b}
use Rattle.lane_b.specs.kept.Senders.{rd_after}
use Rattle.lane_b.specs.kept.Starts.{HasRead}
use Rattle.lane_b.specs.kept.Gives.{Holds}

-- the link's parameters and timing, the lane, where it stands, how many of the entries in the buffer are places of the alignment
-- sequence, and the buffer
pub record Receiver : Type 0 where
  pub params : Params
  pub timing : Timing
  pub lane : ℕ
  pub state : State
  pub placed : ℕ
  pub buffer : Queue

-- each tick has ten bits
abbrev pub AreTens : List Taken → Type 0
AreTens [] = Unit {0}
AreTens (t ∷ ts) = (length t.word ≡ 10) × AreTens ts

-- the search for the lock comes to bit x, whatever is taken later: each lock before it is dropped, after more than five ticks
pub record Searches (taken : List Taken) (x : ℕ) : Type 0 where
  pub drops : ℕ
  pub few : 50 * drops ≤ x
  pub inside : x ≤ length (bits_taken taken)
  pub same : (later : List Taken) (n : ℕ) → lock_from (n + drops) (taken ++ later) 0 ≡ lock_from n (taken ++ later) x

-- a hunt goes on, over the bits from the one on that the search came to
pub record HuntsOn (now : List Bool) (taken : List Taken) : Type 0 where
  pub from : ℕ
  pub searches : Searches taken from
  pub hunted : HasHunted now (drop from (bits_taken taken))

-- the search found the place of a lock, and its characters are read up to the last whole one
pub record ReadsOn (now : Chars) (taken : List Taken) (place : ℕ) : Type 0 where
  pub from : ℕ
  pub searches : Searches taken from
  pub least : least_place from (drop from (bits_taken taken)) ≡ Some place
  pub inside : place + 40 ≤ length (bits_taken taken)
  pub rest : now.rest ≡ (length (bits_taken taken) - (place + 40)) % 10
  pub last : bits 10 now.last ≡ drop (length (bits_taken taken) - 10) (bits_taken taken)
  pub rd : now.rd ≡ rd_after Minus (words_in (drop (place + 30) (bits_taken taken)))

-- the lane has started
pub record IsStarted (now : Start) (p : Params) (t : Timing) (lane : ℕ) (taken : List Taken) (l : Lock) : Type 0 where
  pub begun : is_empty (since_start l) ≡ false
  pub armed : (order_at taken (tick_of_start l)).armed ≡ true
  pub offset : now.offset ≡ (order_at taken (tick_of_start l)).offset
  pub window : now.inside ≡ is_inside t now.offset
  pub has_read : HasRead now.lane p lane (since_start l)

abbrev pub MayBeStarted : Option Start → Params → Timing → ℕ → List Taken → Lock → Type 0
MayBeStarted None p t lane taken l = since_start l ≡ []
MayBeStarted (Some s) p t lane taken l = IsStarted s p t lane taken l

-- the lane is locked
pub record IsLocked (now : Chain) (p : Params) (t : Timing) (lane : ℕ) (taken : List Taken) : Type 0 where
  pub place : ℕ
  pub reads : ReadsOn now.chars taken place
  pub started : MayBeStarted now.start p t lane taken (lock_at (bits_taken taken) place)

abbrev pub StandsSo : State → Params → Timing → ℕ → List Taken → Type 0
StandsSo (Hunting h) p t lane taken = HuntsOn h taken
StandsSo (Locked k) p t lane taken = IsLocked k p t lane taken

-- a lane of this link has taken these since its hunt began, and gave so many entries
pub record HasTaken (now : Receiver) (p : Params) (t : Timing) (lane : ℕ) (taken : List Taken) (gave : ℕ) : Type 0 where
  pub params : now.params ≡ p
  pub timing : now.timing ≡ t
  pub of_lane : now.lane ≡ lane
  pub words : AreTens taken
  pub stands : StandsSo now.state p t lane taken
  pub holds : Holds (entries_b p t lane taken) now.placed now.buffer.cells gave
