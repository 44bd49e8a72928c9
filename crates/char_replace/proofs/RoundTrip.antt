-- The octets come back.
use Rattle.std.proofs.Common.{◌≡◌, ℕ, zero, suc, ◌-◌, ◌==◌, ◌<◌, ◌≤◌, nat_le, ◌&&◌, if◌then◌else◌, Bool, true, false, List, map, length, get_or, Some, refl, sym, ◌∙◌, ap, inl, inr, arith}
use Rattle.std.proofs.lemmas.Bool.{cases_Bool, cases_lt, and_parts, eqb-true, leb-true}
use Rattle.std.proofs.lemmas.List.{get_or-map, length-map}
use Rattle.std.proofs.lemmas.Option.{slice_get-get_or, get_or_from_slice_get}
use Rattle.link_params.specs.declared.fields.Params.{Params}
use Rattle.link_params.proofs.LawFacts.{legal_sizes}
use Rattle.code_8b10b.specs.declared.character.Char.{Char}
use Rattle.code_8b10b.specs.declared.character.Char.TheVariants.{Data}
use Rattle.code_8b10b.specs.declared.character.Reading.TheVariants.{Char as Read, Invalid}
use Rattle.char_replace.specs.declared.restored.Restored.{Restored}
use Rattle.char_replace.specs.Replacement.{IsReplaced, char_due, scrambled_char, plain_char, alignment_a, alignment_f, ends_multiframe, ends_frame_only, is_alike, is_after_data}
use Rattle.char_replace.specs.Restoring.{IsRestored, given_at, nothing}
use Rattle.char_replace.specs.laws.ReplaceLaws.{RestoresOctets}

abbrev clean : ℕ → Restored
clean o = record { octet = o; bad = false; fault = false }

one_of_three : (first second : Bool) (a f d : Char) (P : Char → Type 0) → (first ≡ true → P a) → (second ≡ true → P f) → P d
    → P (if first then a else (if second then f else d))
one_of_three true second a f d P one two three = one refl
one_of_three false true a f d P one two three = two refl
one_of_three false false a f d P one two three = three

-- a scrambled octet comes back from its own character
scrambled : (p : Params) (octets : List ℕ) (given : List Restored) (x : ℕ) → p.scr ≡ true
    → given_at p given x (Read (scrambled_char p octets x)) ≡ clean (get_or octets x 0)
scrambled p octets given x scr =
    let o : ℕ = get_or octets x 0 in
    let whole : Bool = ends_multiframe p x in
    let part : Bool = ends_frame_only p x in
    let P : Char → Type 0 = λ c. given_at p given x (Read c) ≡ clean o in
    one_of_three (whole && (o == 0x7C)) (part && (o == 0xFC)) alignment_a alignment_f (Data o) P
    (λ h.
    let both = and_parts whole (o == 0x7C) h in
    let end = both.0 in
    let octet : o ≡ 0x7C = eqb-true o 0x7C both.1 in
    rw (scr, end, octet) refl)
    (λ h.
    let both = and_parts part (o == 0xFC) h in
    let end = both.0 in
    let octet : o ≡ 0xFC = eqb-true o 0xFC both.1 in
    rw (scr, end, octet) refl)
    (rw scr refl)

-- an octet like the one a frame before
alike : (p : Params) (octets : List ℕ) (x : ℕ) → is_alike p octets x ≡ true → (nat_le p.f x ≡ true) × (get_or octets (x - p.f) 0 ≡ get_or octets x 0)
alike p octets x h =
    let both = and_parts (nat_le p.f x) (get_or octets x 0 == get_or octets (x - p.f) 0) h in
    (both.0, sym (eqb-true (get_or octets x 0) (get_or octets (x - p.f) 0) both.1))

-- without scrambling an alignment character gives what came back a frame before
plain : (p : Params) (octets : List ℕ) (chars : List Char) (given : List Restored) (x : ℕ) → p.scr ≡ false
    → (nat_le p.f x ≡ true → get_or given (x - p.f) nothing ≡ clean (get_or octets (x - p.f) 0))
    → given_at p given x (Read (plain_char p octets chars x)) ≡ clean (get_or octets x 0)
plain p octets chars given x off before =
    let o : ℕ = get_or octets x 0 in
    let whole : Bool = ends_multiframe p x in
    let part : Bool = ends_frame_only p x in
    let like : Bool = is_alike p octets x in
    let after : Bool = is_after_data p chars x in
    let P : Char → Type 0 = λ c. given_at p given x (Read c) ≡ clean o in
    one_of_three (whole && like) ((part && like) && after) alignment_a alignment_f (Data o) P
    (λ h.
    let both = and_parts whole like h in
    let end = both.0 in
    let same = alike p octets x both.1 in
    let some = same.0 in
    let was = before some in
    let octet = same.1 in
    rw (off, end, some, was, octet) refl)
    (λ h.
    let both = and_parts part like (and_parts (part && like) after h).0 in
    let end = both.0 in
    let same = alike p octets x both.1 in
    let some = same.0 in
    let was = before some in
    let octet = same.1 in
    rw (off, end, some, was, octet) refl)
    (rw off refl)

-- place x gives the octet, where the earlier places do
comes_back : (p : Params) (octets : List ℕ) (chars : List Char) (given : List Restored) (x : ℕ) → 1 ≤ p.f → IsReplaced p octets chars → IsRestored p (map Read chars) given
    → x < length octets → ((y : ℕ) → y < x → get_or given y nothing ≡ clean (get_or octets y 0)) → get_or given x nothing ≡ clean (get_or octets x 0)
comes_back p octets chars given x f sent restored lt before =
    let same = sent.whole in
    let wide : length (map Read chars) ≡ length chars = length-map chars Read in
    let read : get_or (map Read chars) x Invalid ≡ Read (get_or chars x (Data 0)) = get_or-map Read chars x (Data 0) Invalid (omega arith) in
    let due : get_or chars x (Data 0) ≡ char_due p octets chars x = get_or_from_slice_get chars x (char_due p octets chars x) (Data 0) (sent.at x lt) in
    let came : get_or given x nothing ≡ given_at p given x (get_or (map Read chars) x Invalid) =
    get_or_from_slice_get given x (given_at p given x (get_or (map Read chars) x Invalid)) nothing (restored.at x (omega arith)) in
    let earlier : nat_le p.f x ≡ true → get_or given (x - p.f) nothing ≡ clean (get_or octets (x - p.f) 0) =
    λ h. let room : p.f ≤ x = leb-true p.f x h in before (x - p.f) (omega arith) in
    let from : (c : Char) → char_due p octets chars x ≡ c → given_at p given x (Read c) ≡ clean (get_or octets x 0) → get_or given x nothing ≡ clean (get_or octets x 0) =
    λ c kind e. came ∙ ap (given_at p given x) (read ∙ ap (λ (d : Char). Read d) (due ∙ kind)) ∙ e in
    elim (cases_Bool p.scr) [
      | inl scr ↦ from (scrambled_char p octets x) (rw scr refl) (scrambled p octets given x scr)
      | inr off ↦ from (plain_char p octets chars x) (rw off refl) (plain p octets chars given x off earlier)
    ]

all_come_back : (p : Params) (octets : List ℕ) (chars : List Char) (given : List Restored) → 1 ≤ p.f → IsReplaced p octets chars → IsRestored p (map Read chars) given
    → (n : ℕ) → n ≤ length octets → (x : ℕ) → x < n → get_or given x nothing ≡ clean (get_or octets x 0)
all_come_back p octets chars given f sent restored zero room x lt = absurd (omega arith)
all_come_back p octets chars given f sent restored (suc n) room x lt =
    let before : (y : ℕ) → y < n → get_or given y nothing ≡ clean (get_or octets y 0) = all_come_back p octets chars given f sent restored n (omega arith) in
    elim (cases_lt x n) [
      | inl below ↦ before x below
      | inr past ↦
          let top : x ≡ n = omega arith in
          comes_back p octets chars given x f sent restored (omega arith) (λ y lower. before y (omega arith))
    ]

pub restores_octets : RestoresOctets
restores_octets p octets chars given legal b sent restored x lt =
    let sizes = legal_sizes p legal in
    let some : 1 ≤ p.f = sizes.f_low in
    let wide : length (map Read chars) ≡ length chars = length-map chars Read in
    let same = sent.whole in
    let long = restored.whole in
    slice_get-get_or given x nothing (omega arith) ∙ ap Some (all_come_back p octets chars given some sent restored (length octets) (omega arith) x lt)
