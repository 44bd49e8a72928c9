-- The least place as a fact, and the hunt. Places count bits.
-- Code: none of this is computed.
use Rattle.std.specs.Prelude.{◌≡◌, ℕ, ◌+◌, ◌*◌, ◌%◌, ◌<◌, ◌≤◌, Bool, List, ◌++◌, length, drop, Some, None, IsSome}
use Rattle.multiblock.specs.declared.place.Place.{Place as Found}
use Rattle.multiblock.specs.Places.{pattern, span, Place, least_place, found}

-- the pattern stands whole at bit i
abbrev pub HasPattern : ℕ → List Bool → ℕ → Type 0
HasPattern e bs i = (i + span e ≤ length bs) × IsSome (pattern e (drop i bs))

-- q is the least place from bit p on
pub record IsLeastPlace (e p : ℕ) (bs : List Bool) (q : Place) : Type 0 where
  pub from : p ≤ q.first
  pub whole : q.first + span e ≤ length bs
  pub stands : pattern e (drop q.first bs) ≡ Some q.remainder
  pub least : (i : ℕ) → p ≤ i → i < q.first → pattern e (drop i bs) ≡ None

-- the search finds exactly the least place
abbrev pub FindsLeastPlace : Type 0
FindsLeastPlace = (e p : ℕ) (bs : List Bool) (q : Place) → (least_place e p bs ≡ Some q → IsLeastPlace e p bs q) × (IsLeastPlace e p bs q → least_place e p bs ≡ Some q)

-- and none exactly where the pattern stands nowhere
abbrev pub FindsNone : Type 0
FindsNone = (e p : ℕ) (bs : List Bool) → (least_place e p bs ≡ None → (i : ℕ) → p ≤ i → i + span e ≤ length bs → pattern e (drop i bs) ≡ None)
    × (((i : ℕ) → p ≤ i → i + span e ≤ length bs → pattern e (drop i bs) ≡ None) → least_place e p bs ≡ None)

-- bits that come later change no pattern that stands whole
abbrev pub PatternStays : Type 0
PatternStays = (e i : ℕ) (bs more : List Bool) → i + span e ≤ length bs → pattern e (drop i (bs ++ more)) ≡ pattern e (drop i bs)

-- so they change no place that was found
abbrev pub PlaceStays : Type 0
PlaceStays = (e p : ℕ) (bs more : List Bool) (q : Place) → least_place e p bs ≡ Some q → least_place e p (bs ++ more) ≡ Some q

-- what is found in a tick of 66 bits, where nothing was found before, leaves fewer than 66 bits of it, and a block that begins a multiblock follows
abbrev pub FoundInTick : Type 0
FoundInTick = (e : ℕ) (bs word : List Bool) (f : Found) → 1 ≤ e → length word ≡ 66 → found e bs ≡ None → found e (bs ++ word) ≡ Some f
    → (f.rest < 66) × (f.next < 32 * e) × (f.next % 32 ≡ 0)
