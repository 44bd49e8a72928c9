-- What is replaced and what is restored, as functions and as relations.
use Rattle.std.proofs.Common.{◌≡◌, ℕ, zero, suc, ◌+◌, ◌-◌, ◌<◌, ◌≤◌, List, [], ◌∷◌, ◌++◌, length, take, drop, get_or, Some, refl, sym, ◌∙◌, ap, ap₂, inl, inr, arith, add-one, length-append}
use Rattle.std.specs.Prelude.{slice_get}
use Rattle.std.proofs.Math.ListN.{get_or-append}
use Rattle.std.proofs.Math.Seq.{get_or-append_seam}
use Rattle.std.proofs.lemmas.Bool.{cases_lt, lt-leb}
use Rattle.std.proofs.lemmas.List.{length-take-le, take-append-drop, take_all, take_more}
use Rattle.std.proofs.lemmas.Option.{get_or_from_slice_get, slice_get-get_or}
use Rattle.link_params.specs.declared.fields.Params.{Params}
use Rattle.code_8b10b.specs.declared.character.Char.{Char}
use Rattle.code_8b10b.specs.declared.character.Char.TheVariants.{Data}
use Rattle.code_8b10b.specs.declared.character.Reading.{Reading}
use Rattle.code_8b10b.specs.declared.character.Reading.TheVariants.{Invalid}
use Rattle.char_replace.specs.declared.restored.Restored.{Restored}
use Rattle.char_replace.specs.Replacement.{IsReplaced, char_due}
use Rattle.char_replace.specs.Restoring.{IsRestored, given_at, nothing}
use Rattle.lane_b.specs.laws.LaneLaws.{Replaces, Restores, SendsLast}
use Rattle.lane_b.specs.Received.{restored}
use Rattle.lane_b.specs.Sent.{coded_octets, data_char, replaced}
use Rattle.lane_b.proofs.CodedOctets.{and_false, length-coded, length-replaced}
use Rattle.lane_b.proofs.Restored.{length-restored, repeats-none}

-- ---- what is due by the characters before

-- later characters change nothing
due-front : (p : Params) (octets : List ℕ) (chars more : List Char) (x : ℕ) → x ≤ length chars
    → 1 ≤ p.f
    → char_due p octets (chars ++ more) x ≡ char_due p octets chars x
due-front p octets chars more x le f = elim (cases_lt x p.f) [
  | inl first ↦
      let none = lt-leb p.f x first in
      simp (none, and_false)
  | inr later ↦ let sent = get_or-append chars more (Data 0) (x - p.f) (omega arith) in rw sent refl
]

due-at : (p : Params) (octets : List ℕ) (chars : List Char) (n : ℕ) → n ≤ length chars → 1 ≤ p.f
    → char_due p octets chars n ≡ char_due p octets (take n chars) n
due-at p octets chars n le f =
    let l = length-take-le n chars le in
    ap (λ (cs : List Char). char_due p octets cs n) (sym (take-append-drop n chars))
    ∙ due-front p octets (take n chars) (drop n chars) n (omega arith) f

-- ---- the characters that carry octets

replaced-at : (n : ℕ) (p : Params) (coded : List ℕ) → 1 ≤ p.f → (x : ℕ) → x < n
    → slice_get (replaced p coded n) x ≡ Some (char_due p coded (replaced p coded n) x)
unfolding replaced
replaced-at zero p coded f x lt = absurd (omega arith)
replaced-at (suc n) p coded f x lt =
    let cs : List Char = replaced p coded n in
    let c : Char = char_due p coded cs n in
    let l : length cs ≡ n = length-replaced n p coded in
    let long = length-append cs (c ∷ []) in
    let read = slice_get-get_or (cs ++ c ∷ []) x (Data 0) (omega arith) in
    let same = due-front p coded cs (c ∷ []) x (omega arith) f in
    elim (cases_lt x n) [
      | inl below ↦
          let old = get_or-append cs (c ∷ []) (Data 0) x (omega arith) in
          let was = get_or_from_slice_get cs x (char_due p coded cs x) (Data 0)
          (replaced-at n p coded f x below) in
          read ∙ ap Some (old ∙ was ∙ sym same)
      | inr past ↦
          let top : x ≡ n = omega arith in
          let last : get_or (cs ++ c ∷ []) x (Data 0) ≡ c =
          ap (λ (k : ℕ). get_or (cs ++ c ∷ []) k (Data 0)) (top ∙ sym l)
          ∙ get_or-append_seam cs c [] (Data 0) in
          read ∙ ap Some (last ∙ ap (char_due p coded cs) (sym top) ∙ sym same)
    ]

front-is : (n : ℕ) (p : Params) (coded : List ℕ) (chars : List Char) → 1 ≤ p.f
    → IsReplaced p coded chars → n ≤ length coded
    → take n chars ≡ replaced p coded n
unfolding replaced
front-is zero p coded chars f h le = refl
front-is (suc n) p coded chars f h le =
    let whole = h.whole in
    let front : take n chars ≡ replaced p coded n = front-is n p coded chars f h (omega arith) in
    let last = get_or_from_slice_get chars n (char_due p coded chars n) (Data 0)
    (h.at n (omega arith)) in
    let due = last ∙ due-at p coded chars n (omega arith) f
    ∙ ap (λ (cs : List Char). char_due p coded cs n) front in
    ap (λ (k : ℕ). take k chars) (sym (add-one n)) ∙ take_more chars n (Data 0) (omega arith)
    ∙ ap₂ {C = List Char} (λ cs c. cs ++ c ∷ []) front due

pub replaces : Replaces
replaces p coded f = (
  record {
    whole = length-replaced (length coded) p coded;
    at =
        replaced-at (length coded) p coded f;
  },
  λ chars h.
      let whole = h.whole in
      sym (take_all (length coded) chars (omega arith)) ∙ front-is (length coded) p coded chars f h
      (omega arith),
)

pub sends-last : SendsLast
unfolding data_char
sends-last p octets o chars f h =
    let all : List ℕ = octets ++ o ∷ [] in
    let coded : List ℕ = coded_octets p all in
    let n : ℕ = length octets in
    let long : length all ≡ n + 1 = length-append octets (o ∷ []) in
    let wide = length-coded p all in
    let whole = h.whole in
    let last : length all - 1 ≡ n = omega arith in
    let due = due-at p coded chars n (omega arith) f
    ∙ ap (λ (cs : List Char). char_due p coded cs n)
    (front-is n p coded chars f h (omega arith)) in
    rw last (h.at n (omega arith) ∙ ap Some due)

-- ---- what readings give

given-front : (x : ℕ) (p : Params) (given more : List Restored) (r : Reading) → x ≤ length given
    → 1 ≤ p.f
    → given_at p (given ++ more) x r ≡ given_at p given x r
given-front zero p given more r le f = let none = repeats-none p r f in rw none refl
given-front (suc x) p given more r le f =
    let before : get_or (given ++ more) (suc x - p.f) nothing ≡ get_or given (suc x - p.f) nothing =
    get_or-append given more nothing (suc x - p.f) (omega arith) in
    rw before refl

given-due_at : (p : Params) (given : List Restored) (n : ℕ) (r : Reading) → n ≤ length given
    → 1 ≤ p.f → given_at p given n r ≡ given_at p (take n given) n r
given-due_at p given n r le f =
    let l = length-take-le n given le in
    ap (λ (gs : List Restored). given_at p gs n r) (sym (take-append-drop n given))
    ∙ given-front n p (take n given) (drop n given) r (omega arith) f

restored-at : (n : ℕ) (p : Params) (read : List Reading) → 1 ≤ p.f → (x : ℕ) → x < n
    → slice_get (restored p read n) x
    ≡ Some (given_at p (restored p read n) x (get_or read x Invalid))
unfolding restored
restored-at zero p read f x lt = absurd (omega arith)
restored-at (suc n) p read f x lt =
    let gs : List Restored = restored p read n in
    let g : Restored = given_at p gs n (get_or read n Invalid) in
    let l : length gs ≡ n = length-restored n p read in
    let long = length-append gs (g ∷ []) in
    let got = slice_get-get_or (gs ++ g ∷ []) x nothing (omega arith) in
    let same = given-front x p gs (g ∷ []) (get_or read x Invalid) (omega arith) f in
    elim (cases_lt x n) [
      | inl below ↦
          let old = get_or-append gs (g ∷ []) nothing x (omega arith) in
          let was = get_or_from_slice_get gs x (given_at p gs x (get_or read x Invalid)) nothing
          (restored-at n p read f x below) in
          got ∙ ap Some (old ∙ was ∙ sym same)
      | inr past ↦
          let top : x ≡ n = omega arith in
          let last : get_or (gs ++ g ∷ []) x nothing ≡ g =
          ap (λ (k : ℕ). get_or (gs ++ g ∷ []) k nothing) (top ∙ sym l)
          ∙ get_or-append_seam gs g [] nothing in
          got ∙ ap Some (last ∙ ap (λ (k : ℕ). given_at p gs k (get_or read k Invalid)) (sym top)
          ∙ sym same)
    ]

given-is : (n : ℕ) (p : Params) (read : List Reading) (given : List Restored) → 1 ≤ p.f
    → IsRestored p read given → n ≤ length read
    → take n given ≡ restored p read n
unfolding restored
given-is zero p read given f h le = refl
given-is (suc n) p read given f h le =
    let whole = h.whole in
    let r : Reading = get_or read n Invalid in
    let front : take n given ≡ restored p read n = given-is n p read given f h (omega arith) in
    let last = get_or_from_slice_get given n (given_at p given n r) nothing
    (h.at n (omega arith)) in
    let due = last ∙ given-due_at p given n r (omega arith) f
    ∙ ap (λ (gs : List Restored). given_at p gs n r) front in
    ap (λ (k : ℕ). take k given) (sym (add-one n)) ∙ take_more given n nothing (omega arith)
    ∙ ap₂ {C = List Restored} (λ gs g. gs ++ g ∷ []) front due

pub restores : Restores
restores p read f = (
  record { whole = length-restored (length read) p read; at = restored-at (length read) p read f },
  λ given h.
      let whole = h.whole in
      sym (take_all (length read) given (omega arith)) ∙ given-is (length read) p read given f h
      (omega arith),
)
