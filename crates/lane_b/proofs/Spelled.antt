-- The characters that are sent have spellings.
use Rattle.std.proofs.Common.{◌≡◌, ℕ, ◌+◌, ◌-◌, ◌/◌, ◌%◌, ◌==◌, ◌<◌, ◌&&◌, nat_le, if◌then◌else◌, Bool, true, false, List, get_or, Option, Some, None, option_map, refl, sym, ◌∙◌, ap, inl, inr}
use Rattle.std.proofs.lemmas.Bool.{cases_Bool, lt-ltb}
use Rattle.link_params.specs.declared.fields.Params.{Params}
use Rattle.code_8b10b.specs.declared.character.Rd.{Rd}
use Rattle.code_8b10b.specs.declared.character.Char.{Char}
use Rattle.code_8b10b.specs.declared.character.Char.TheVariants.{Data, Control}
use Rattle.code_8b10b.specs.Code.{after, spelling, controls}
use Rattle.link_params.specs.Numbers.{period}
use Rattle.link_params.specs.Config.{config_octets}
use Rattle.ilas.specs.Sequence.{ilas_char}
use Rattle.char_replace.specs.Replacement.{char_due, alignment_a, alignment_f, ends_multiframe, ends_frame_only, is_alike, is_after_data}
use Rattle.lane_b.specs.kept.Senders.{HasSpellings}

pub data-spelled : (o : ℕ) → o < 256 → HasSpellings (Data o)
unfolding spelling
data-spelled o lt = let small = lt-ltb o 256 lt in record { at = λ rd. rw small refl }

pub comma-spelled : HasSpellings (Control 0xBC)
unfolding spelling controls
comma-spelled = record { at = λ rd. refl }

pub begin-spelled : HasSpellings (Control 0x1C)
unfolding spelling controls
begin-spelled = record { at = λ rd. refl }

pub configuration-spelled : HasSpellings (Control 0x9C)
unfolding spelling controls
configuration-spelled = record { at = λ rd. refl }

pub end-spelled : HasSpellings alignment_a
unfolding spelling controls
end-spelled = record { at = λ rd. refl }

pub frame_end-spelled : HasSpellings alignment_f
unfolding spelling controls
frame_end-spelled = record { at = λ rd. refl }

one_of_three : (first second : Bool) (a f d : Char) → HasSpellings a → HasSpellings f → HasSpellings d
    → HasSpellings (if first then a else (if second then f else d))
one_of_three true second a f d one two three = one
one_of_three false true a f d one two three = two
one_of_three false false a f d one two three = three

-- what is due has spellings, where the octet is one
pub due-spelled : (p : Params) (octets : List ℕ) (chars : List Char) (x : ℕ) → get_or octets x 0 < 256 → HasSpellings (char_due p octets chars x)
due-spelled p octets chars x lt =
    let o : ℕ = get_or octets x 0 in
    elim (cases_Bool p.scr) [
      | inl scr ↦ rw scr (one_of_three (ends_multiframe p x && (o == 0x7C)) (ends_frame_only p x && (o == 0xFC)) alignment_a alignment_f (Data o) end-spelled frame_end-spelled (data-spelled o lt))
      | inr plain ↦ rw plain (one_of_three (ends_multiframe p x && is_alike p octets x) (ends_frame_only p x && is_alike p octets x && is_after_data p chars x) alignment_a alignment_f (Data o) end-spelled frame_end-spelled (data-spelled o lt))
    ]

-- the word and the disparity that the code gives
pub record IsEncoded (o : Option ℕ) (rd next : Rd) (w : ℕ) : Type 0 where
  pub word : o ≡ Some w
  pub disparity : next ≡ after rd w

abbrev pub words : Rd → ℕ → ℕ × Rd
words rd v = (v, after rd v)

pub encoded : (o : Option ℕ) (rd : Rd) (q : ℕ × Rd) → Some q ≡ option_map (words rd) o → IsEncoded o rd q.1 q.0
encoded None rd q e = cc
encoded (Some v) rd q e =
    let all : q ≡ words rd v = cc in
    let number : q.0 ≡ v = ap (λ (t : ℕ × Rd). t.0) all in
    let disparity : q.1 ≡ after rd v = ap (λ (t : ℕ × Rd). t.1) all in
    record { word = ap Some (sym number); disparity = rw number disparity }

-- ---- the sequence's characters

pub one_of_five : (a b c d : Bool) (v w x y z : Char) → HasSpellings v → HasSpellings w → HasSpellings x → (y ≡ (if a then v else (if b then w else (if c then x else (if d then y else z)))) → HasSpellings y)
    → (z ≡ (if a then v else (if b then w else (if c then x else (if d then y else z)))) → HasSpellings z)
    → HasSpellings (if a then v else (if b then w else (if c then x else (if d then y else z))))
one_of_five true b c d v w x y z one two three four five = one
one_of_five false true c d v w x y z one two three four five = two
one_of_five false false true d v w x y z one two three four five = three
one_of_five false false false true v w x y z one two three four five = four refl
one_of_five false false false false v w x y z one two three four five = five refl

pub ilas-spelled : (p : Params) (lane x : ℕ) (c : Char) → c ≡ ilas_char p lane x → ((o : ℕ) → c ≡ Data o → o < 256) → HasSpellings c
unfolding ilas_char
ilas-spelled p lane x c e octet =
    let n : ℕ = period p in
    let q : ℕ = x / n in
    let j : ℕ = x % n in
    let config : ℕ = get_or (config_octets p lane) (j - 2) 0 in
    rw e (one_of_five (j == 0) (j + 1 == n) ((q == 1) && (j == 1)) ((q == 1) && nat_le j 15) (Control 0x1C) alignment_a (Control 0x9C) (Data config) (Data (x % 256))
    begin-spelled end-spelled configuration-spelled (λ is. data-spelled config (octet config (e ∙ sym is))) (λ is. data-spelled (x % 256) (octet (x % 256) (e ∙ sym is))))
