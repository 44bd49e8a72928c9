-- Where characters begin on a received 8b/10b lane, and where its alignment sequence starts
-- (JESD204B.01 clauses 5.3.3.1 code group synchronization and 5.3.3.5 initial lane alignment). Bits
-- are counted from the first one of the hunt.
-- Code: a hunt for ten bit phases, and then one character a tick.
use Rattle.std.specs.Prelude.{ℕ, zero, suc, ◌+◌, ◌-◌, ◌*◌, ◌/◌, ◌==◌, Bool, true, false, not, ◌&&◌, if◌then◌else◌, List, [], ◌∷◌, length, take, drop, get_or, Option, Some, None, option_and_then}
use Rattle.std.specs.List.{flat_map}
use Rattle.jesd_base.specs.Bits.{value}
use Rattle.link_params.specs.declared.orders.RxOrder.{RxOrder}
use Rattle.link_params.specs.Lanes.{Taken}
use Rattle.code_8b10b.specs.declared.character.Rd.TheVariants.{Minus}
use Rattle.code_8b10b.specs.declared.character.Char.{Char}
use Rattle.code_8b10b.specs.declared.character.Char.TheVariants.{Data, Control}
use Rattle.code_8b10b.specs.declared.character.Reading.{Reading}
use Rattle.code_8b10b.specs.declared.character.Reading.TheVariants.{Char as Read, Disparity, Invalid}
use Rattle.code_8b10b.specs.Reads.{readings}
use Rattle.code_8b10b.specs.Commas.{least_place}

-- all bits that were taken
abbrev pub bits_taken : List Taken → List Bool
bits_taken taken = flat_map (λ t. t.word) taken

-- the numbers of the whole tens of a list of bits
unfoldable pub tens : ℕ → List Bool → List ℕ
tens zero bs = []
tens (suc n) bs = value (take 10 bs) ∷ tens n (drop 10 bs)

abbrev pub words_in : List Bool → List ℕ
words_in bs = tens (length bs / 10) bs

abbrev pub is_comma_char : Char → Bool
is_comma_char (Control o) = o == 0xBC
is_comma_char (Data o) = false

-- a reading of /K/: Char or Disparity
abbrev pub is_comma : Reading → Bool
is_comma (Read c) = is_comma_char c
is_comma (Disparity c) = is_comma_char c
is_comma Invalid = false

-- the readings from the first one on that is not of /K/
unfoldable pub from_other : List Reading → List Reading
from_other [] = []
from_other (r ∷ rs) = if is_comma r then from_other rs else r ∷ rs

abbrev pub is_empty : {A : Type 0} → List A → Bool
is_empty [] = true
is_empty (x ∷ xs) = false

-- a lock: the place of its forty bits, and all readings after them
pub record Lock : Type 0 where
  pub place : ℕ
  pub read : List Reading

-- the lock at a place: all whole tens after the forty bits are characters, in one chain from the disparity after the fourth /K/,
-- which its own ten bits tell whatever came before
unfoldable pub lock_at : List Bool → ℕ → Lock
lock_at bs x = record { place = x; read = drop 1 (readings Minus (words_in (drop (x + 30) bs))) }

-- the readings since the start: from the first one on that is not of /K/
abbrev pub since_start : Lock → List Reading
since_start l = from_other l.read

-- how many bits came up to the end of that first one, and the tick, counted from the hunt's first, that has the last of them
abbrev pub bits_to_start : Lock → ℕ
bits_to_start l = l.place + 40 + 10 * (length l.read - length (since_start l) + 1)

abbrev pub tick_of_start : Lock → ℕ
tick_of_start l = (bits_to_start l - 1) / 10

abbrev pub no_order : RxOrder
no_order = record { hunt = false; armed = false; offset = 0 }

-- the order of a tick since the hunt
abbrev pub order_at : List Taken → ℕ → RxOrder
order_at taken i = (get_or taken i (record { order = no_order; word = [] })).order

-- a lock is dropped: a reading that is not of /K/ came before the lane was armed
abbrev pub is_dropped : List Taken → Lock → Bool
is_dropped taken l = not (is_empty (since_start l)) && not (order_at taken (tick_of_start l)).armed

-- the lock that is held: that of the least place from bit x on, or where it is dropped, that of the least place from the bit on
-- that comes after the reading that dropped it. A lock that is dropped takes at least five ticks, so n ticks bound the drops.
unfoldable pub lock_from : ℕ → List Taken → ℕ → Option Lock
lock_from zero taken x = None
lock_from (suc n) taken x = option_and_then
    (λ y. let l = lock_at (bits_taken taken) y in let later = lock_from n taken (bits_to_start l) in
    if is_dropped taken l then later else Some l)
    (least_place x (drop x (bits_taken taken)))

unfoldable pub lock : List Taken → Option Lock
lock taken = lock_from (length taken) taken 0

-- the offset of the start
abbrev pub start_of : List Taken → Lock → Option ℕ
start_of taken l = if is_empty (since_start l) then None else Some (order_at taken (tick_of_start l)).offset
