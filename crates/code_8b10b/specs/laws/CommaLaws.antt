-- Laws of the commas' places, which count bits.
-- Code: none of this is computed.
use Rattle.std.specs.Prelude.{◌≡◌, ◌≢◌, ℕ, ◌+◌, ◌%◌, ◌<◌, Bool, true, false, List, [], ◌∷◌, slice_index_or, Some, None}
use Rattle.std.specs.List.{flat_map}
use Rattle.jesd_base.specs.Bits.{bits, value}
use Rattle.code_8b10b.specs.declared.character.Rd.{Rd}
use Rattle.code_8b10b.specs.declared.character.Char.{Char}
use Rattle.code_8b10b.specs.Code.{spelling, Chained}
use Rattle.code_8b10b.specs.Commas.{stands_at, least_place}

-- x is the least place
pub record IsLeastPlace (bs : List Bool) (x : ℕ) : Type 0 where
  pub stands : stands_at bs x ≡ true
  pub least : (y : ℕ) → y < x → stands_at bs y ≡ false

-- the search finds exactly the least place, and none exactly where the forty bits stand nowhere
abbrev pub FindsLeastPlace : Type 0
FindsLeastPlace = (bs : List Bool) (x : ℕ) → (least_place 0 bs ≡ Some x → IsLeastPlace bs x) × (IsLeastPlace bs x → least_place 0 bs ≡ Some x)

abbrev pub FindsNoPlace : Type 0
FindsNoPlace = (bs : List Bool) → (least_place 0 bs ≡ None → (x : ℕ) → stands_at bs x ≡ false)
    × (((x : ℕ) → stands_at bs x ≡ false) → least_place 0 bs ≡ None)

-- bit k of the spellings 0x0FA 0x305 of /K/, repeated without end
unfoldable pub comma_bit : ℕ → Bool
comma_bit k = slice_index_or (bits 20 0x3EB05) (k % 20) false

-- the ten bits from place k of the endless commas
abbrev pub comma_window : ℕ → List Bool
comma_window k = comma_bit k ∷ comma_bit (k + 1) ∷ comma_bit (k + 2) ∷ comma_bit (k + 3) ∷ comma_bit (k + 4)
    ∷ comma_bit (k + 5) ∷ comma_bit (k + 6) ∷ comma_bit (k + 7) ∷ comma_bit (k + 8) ∷ comma_bit (k + 9) ∷ []

-- in the commas repeated without end, ten bits from a place that is no multiple of 10 spell no character at either disparity
abbrev pub NoSlip : Type 0
NoSlip = (k : ℕ) → k % 10 ≢ 0 → (rd : Rd) (c : Char) → spelling rd c ≢ Some (value (comma_window k))

-- each word spells some character at some disparity
abbrev pub AreSpellings : List ℕ → Type 0
AreSpellings [] = Unit {0}
AreSpellings (w ∷ ws) = ((rd : Rd) × (c : Char) × (spelling rd c ≡ Some w)) × AreSpellings ws

-- the words of a chain are spellings
abbrev pub ChainIsSpelled : Type 0
ChainIsSpelled = (rd : Rd) (cs : List Char) (ws : List ℕ) → Chained rd cs ws → AreSpellings ws

-- in the bits of spellings, one after another at whatever disparities, the forty bits stand only where a character begins
abbrev pub NoImitation : Type 0
NoImitation = (ws : List ℕ) (x : ℕ) → AreSpellings ws → stands_at (flat_map (bits 10) ws) x ≡ true → x % 10 ≡ 0
