-- The character that ten bits spell, against the spellings of all characters.
use Rattle.std.proofs.Common.{◌≡◌, ℕ, ◌==◌, ◌<◌, nat_lt, Bool, true, false, List, [], ◌∷◌, map, Option, Some, None, option_map, refl, inl, inr}
use Rattle.std.specs.Prelude.{find}
use Rattle.std.proofs.lemmas.Bool.{cases_Bool, eqb-true, ltb-true}
use Rattle.code_8b10b.specs.declared.character.Rd.{Rd}
use Rattle.code_8b10b.specs.declared.character.Rd.TheVariants.{Minus, Plus}
use Rattle.code_8b10b.specs.declared.character.Char.{Char}
use Rattle.code_8b10b.specs.declared.character.Char.TheVariants.{Data, Control}
use Rattle.code_8b10b.specs.Code.{spelling, data_spelling, after_six, sixes, fours, four_of_seven, controls, Row, column}
use Rattle.code_8b10b.specs.Reads.{char_at, data_at, control_at, place_in}
use Rattle.code_8b10b.specs.laws.CodeLaws.{OneCharacter, TenBits}
use Rattle.code_8b10b.proofs.Tabulated.{tabulated, same_below}

unfoldable pub spells : Option ℕ → ℕ → Bool
spells None w = false
spells (Some v) w = v == w

spells-true : (s : Option ℕ) (w : ℕ) → spells s w ≡ true → s ≡ Some w
unfolding spells
spells-true None w h = cc
spells-true (Some v) w h = let e : v ≡ w = eqb-true v w h in rw e refl

-- ---- what is spelled reads back

computed-data : (rd : Rd) → tabulated (λ o. char_at rd (data_spelling rd o)) 256 ≡ tabulated (λ o. Some (Data o)) 256
unfolding char_at data_at control_at place_in data_spelling after_six sixes fours four_of_seven controls
computed-data Minus = refl
computed-data Plus = refl

computed-controls : (rd : Rd) → map (λ r. char_at rd (column rd r)) controls ≡ map (λ r. Some (Control r.octet)) controls
unfolding char_at data_at control_at place_in after_six sixes fours four_of_seven controls
computed-controls Minus = refl
computed-controls Plus = refl

-- what holds of each row holds of the one that is found
found_row : {A : Type 0} (f g : Row → A) (rs : List Row) (o : ℕ) (r : Row) → map f rs ≡ map g rs → find (λ q. q.octet == o) rs ≡ Some r → (f r ≡ g r) × (r.octet ≡ o)
found_row f g [] o r e found = cc
found_row {A} f g (q ∷ qs) o r e found =
    let head : f q ≡ g q = cc in
    let tail : ◌≡◌ {A = List A} (map f qs) (map g qs) = cc in
    elim (cases_Bool (q.octet == o)) [
      | inl same ↦
          let e2 = rw same at found in
          let here : q ≡ r = cc in
          rw (← here) (head, eqb-true _ _ same)
      | inr apart ↦ found_row f g qs o r tail (rw apart at found)
    ]

control_back : (rd : Rd) (o w : ℕ) (row : Option Row) → find (λ r. r.octet == o) controls ≡ row → option_map (column rd) row ≡ Some w → char_at rd w ≡ Some (Control o)
control_back rd o w None found e = cc
control_back rd o w (Some r) found e =
    let is : column rd r ≡ w = cc in
    let at = found_row (λ q. char_at rd (column rd q)) (λ q. Some (Control q.octet)) controls o r (computed-controls rd) found in
    let back : char_at rd (column rd r) ≡ Some (Control r.octet) = at.0 in
    let octet : r.octet ≡ o = at.1 in
    rw (is, octet) at back

pub char_at-spelling : (rd : Rd) (c : Char) (w : ℕ) → spelling rd c ≡ Some w → char_at rd w ≡ Some c
unfolding spelling
char_at-spelling rd (Data o) w e = elim (cases_Bool (nat_lt o 256)) [
  | inl small ↦
      let e2 = rw small at e in
      let is : data_spelling rd o ≡ w = cc in
      let back = same_below (λ p. char_at rd (data_spelling rd p)) (λ p. Some (Data p)) 256 o (computed-data rd) (ltb-true _ _ small) in
      rw is at back
  | inr large ↦ let e2 = rw large at e in cc
]
char_at-spelling rd (Control o) w e = control_back rd o w (find (λ r. r.octet == o) controls) refl e

pub one_character : OneCharacter
one_character rd c d w e f =
    let first = char_at-spelling rd c w e in
    let second = char_at-spelling rd d w f in
    cc

-- ---- every spelling has ten bits

computed-small_data : (rd : Rd) → tabulated (λ o. nat_lt (data_spelling rd o) 1024) 256 ≡ tabulated (λ o. true) 256
unfolding data_spelling after_six sixes fours four_of_seven
computed-small_data Minus = refl
computed-small_data Plus = refl

computed-small_controls : (rd : Rd) → map (λ r. nat_lt (column rd r) 1024) controls ≡ map (λ r. true) controls
unfolding controls
computed-small_controls Minus = refl
computed-small_controls Plus = refl

control_small : (rd : Rd) (o w : ℕ) (row : Option Row) → find (λ r. r.octet == o) controls ≡ row → option_map (column rd) row ≡ Some w → w < 1024
control_small rd o w None found e = cc
control_small rd o w (Some r) found e =
    let is : column rd r ≡ w = cc in
    let at = found_row (λ q. nat_lt (column rd q) 1024) (λ q. true) controls o r (computed-small_controls rd) found in
    let small : nat_lt (column rd r) 1024 ≡ true = at.0 in
    ltb-true _ _ (rw is at small)

pub ten_bits : TenBits
unfolding spelling
ten_bits rd (Data o) w e = elim (cases_Bool (nat_lt o 256)) [
  | inl small ↦
      let e2 = rw small at e in
      let is : data_spelling rd o ≡ w = cc in
      let below = same_below (λ p. nat_lt (data_spelling rd p) 1024) (λ p. true) 256 o (computed-small_data rd) (ltb-true _ _ small) in
      ltb-true _ _ (rw is at below)
  | inr large ↦ let e2 = rw large at e in cc
]
ten_bits rd (Control o) w e = control_small rd o w (find (λ r. r.octet == o) controls) refl e

-- ---- what reads back is spelled

unfoldable pub spelled_back : Option Char → Rd → ℕ → Bool
spelled_back None rd w = true
spelled_back (Some c) rd w = spells (spelling rd c) w

computed-back : (rd : Rd) → tabulated (λ w. spelled_back (char_at rd w) rd w) 1024 ≡ tabulated (λ w. true) 1024
unfolding spelled_back spells spelling char_at data_at control_at place_in data_spelling after_six sixes fours four_of_seven controls
computed-back Minus = refl
computed-back Plus = refl

pub spelling-char_at : (rd : Rd) (c : Char) (w : ℕ) → w < 1024 → char_at rd w ≡ Some c → spelling rd c ≡ Some w
unfolding spelled_back
spelling-char_at rd c w lt e =
    let back = same_below (λ v. spelled_back (char_at rd v) rd v) (λ v. true) 1024 w (computed-back rd) lt in
    spells-true (spelling rd c) w (rw e at back)
