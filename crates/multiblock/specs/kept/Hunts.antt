-- What a hunt keeps of the bits that it took, and what it finds in them. Ages count ticks of 66
-- bits.
-- Code: a set of phases as 66 bits of a number, for the headers of all phases at once.
use Rattle.std.specs.Prelude.{◌≡◌, ℕ, zero, suc, ◌+◌, ◌-◌, ◌*◌, ◌/◌, ◌%◌, ◌^◌, ◌==◌, ◌<◌, min, Bool, true, not, ◌&&◌, List, get_or, length, ◌≤◌, Option, Some, None}
use Rattle.std.specs.Int.{bit_at}
use Rattle.jesd_base.specs.Bits.{add, value}
use Rattle.jesd_base.specs.Search.{first_from}
use Rattle.multiblock.specs.declared.place.Place.{Place as Found}
use Rattle.multiblock.specs.Places.{found, span, pattern_size, next_place}

-- a hunt is seen as E, how many bits it took (up to a bound), the last 66 bits, and a ring of the headers of 1,024 ticks with
-- the place of the next
pub record Kept : Type 0 where
  pub e : ℕ
  pub count : ℕ
  pub last : ℕ
  pub at : ℕ
  pub heads : List ℕ

-- the headers of the tick that is so many ticks old
abbrev pub aged : Kept → ℕ → ℕ
aged now j = get_or now.heads ((now.at + 1023 - j) % 1024) 0

-- since it began with this E, a hunt took these bits
pub record HasKept (now : Kept) (e : ℕ) (taken : List Bool) : Type 0 where
  pub keeps_size : now.e ≡ e
  pub keeps_count : now.count ≡ min (length taken) 67650
  pub keeps_last : now.last ≡ value taken % 2 ^ 66
  pub keeps_heads : (j : ℕ) → j < 1024 → aged now j ≡ value taken / 2 ^ (66 * j + 64) % 2 ^ 68

-- and found no place
pub record HasHunted (now : Kept) (e : ℕ) (taken : List Bool) : Type 0 where
  pub keeps : HasKept now e taken
  pub finds_none : found e taken ≡ None

-- at this phase the header of a tick is good, and its sync bit
abbrev pub is_good : Kept → ℕ → ℕ → Bool
is_good now r j = add (bit_at (aged now j) (1 + r) == 1) (bit_at (aged now j) r == 1)

abbrev pub sync_bit : Kept → ℕ → ℕ → Bool
sync_bit now r j = bit_at (aged now j) r == 1

-- n headers from the one of this age on are good
unfoldable pub all_good : (ℕ → Bool) → ℕ → ℕ → Bool
all_good good a zero = true
all_good good a (suc n) = let more = all_good good a n in good (n + a) && more

-- the sync bits from the one of this age on end a sync word
abbrev pub pilot_at : (ℕ → Bool) → ℕ → Bool
pilot_at sync a = sync a && (not (sync (1 + a)) && (not (sync (2 + a)) && (not (sync (3 + a)) && not (sync (4 + a)))))

-- the last n multiblocks have good headers and pilots
unfoldable pub all_words : (ℕ → Bool) → (ℕ → Bool) → ℕ → Bool
all_words good sync zero = true
all_words good sync (suc n) = let more = all_words good sync n in (all_good good (32 * n) 32 && pilot_at sync (32 * n)) && more

-- the end bits of the last n multiblocks, the first of which is number j, are those of this remainder
unfoldable pub ends_of : ℕ → ℕ → (ℕ → Bool) → ℕ → ℕ → Bool
ends_of e m sync j zero = true
ends_of e m sync j (suc n) = let more = ends_of e m sync (suc j) n in not (add (sync (9 + 32 * n)) (j % e == m)) && more

-- the remainder of the end bits at this phase
abbrev pub remainder_at : Kept → ℕ → Option ℕ
remainder_at now r = first_from (λ m. ends_of now.e m (sync_bit now r) 0 (pattern_size now.e)) now.e 0

-- of these phases, this one shows no place
abbrev pub IsNothing : Kept → ℕ → ℕ → Type 0
IsNothing now phases r = bit_at phases r ≡ 1 → span now.e + r ≤ now.count → remainder_at now r ≡ None

-- one of these phases shows this place
pub record StandsAt (now : Kept) (phases : ℕ) (p : Found) : Type 0 where
  pub within : p.rest < 66
  pub is_one : bit_at phases p.rest ≡ 1
  pub whole : span now.e + p.rest ≤ now.count
  pub remainder : ℕ
  pub stands : remainder_at now p.rest ≡ Some remainder
  pub follows : p.next ≡ next_place now.e remainder

-- and none of them shows an earlier one
pub record IsFound (now : Kept) (phases : ℕ) (p : Found) : Type 0 where
  pub stands : StandsAt now phases p
  pub before : (r : ℕ) → p.rest < r → r < 66 → IsNothing now phases r
