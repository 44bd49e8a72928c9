-- One data octet more, by what a lane keeps.
use Rattle.std.proofs.Common.{◌≡◌, ℕ, suc, ◌%◌, ◌<◌, Bool, true, false, List, [], ◌∷◌, ◌++◌, length, get_or, Option, Some, None, sym, ◌∙◌, ap, subst, arith, length-append}
use Rattle.std.specs.List.{flat_map}
use Rattle.jesd_base.specs.Bits.{bits}
use Rattle.lane_scramble.specs.kept.Scramblers.{HasScrambled15}
use Rattle.std.proofs.Math.Nat.{mod-lt}
use Rattle.std.proofs.Math.Seq.{get_or-append_seam}
use Rattle.std.proofs.lemmas.Option.{get_or_from_slice_get}
use Rattle.link_params.specs.declared.fields.Params.{Params}
use Rattle.link_params.specs.Numbers.{period}
use Rattle.code_8b10b.specs.declared.character.Char.{Char}
use Rattle.code_8b10b.specs.declared.character.Char.TheVariants.{Data}
use Rattle.char_replace.specs.Replacement.{char_due}
use Rattle.char_replace.specs.kept.Ends.{Sender as Replacer, HasReplaced}
use Rattle.lane_b.specs.Sent.{coded_octets}
use Rattle.lane_b.specs.kept.Senders.{Carries, FollowsData, GoesOn, MayGoOn, Sender, HasPlace, HasSpellings, IsPlaced}
use Rattle.lane_b.proofs.CodedOctets.{place-more}
use Rattle.lane_b.proofs.Spelled.{due-spelled}

-- a replacement takes an octet at a place, and gives a character
abbrev pub Takes : Replacer → Replacer → ℕ → ℕ → Char → Type 0
Takes old new x y c = (p : Params) (octets : List ℕ) (chars : List Char) → HasReplaced old p octets chars → x ≡ length octets % period p
    → HasReplaced new p (octets ++ y ∷ []) (chars ++ c ∷ [])

pub is_placed-more : (old new : Replacer) (p : Params) (next : Option ℕ) (x y : ℕ) (c : Char) → HasPlace p old next → next ≡ Some x → Takes old new x y c
    → IsPlaced new p (suc x % period p)
is_placed-more old new p None x y c h e takes = cc
is_placed-more old new p (Some n) x y c h e takes =
    let same : n ≡ x = cc in
    let at : x ≡ length h.octets % period p = sym same ∙ h.place in
    record {
      octets = h.octets ++ y ∷ [];
      chars = h.chars ++ c ∷ [];
      replaced_so = takes p h.octets h.chars h.replaced_so at;
      place = place-more p h.octets y x at;
    }

-- the next place is one of a multiframe
pub place-low : (replace : Replacer) (p : Params) (next : Option ℕ) (x size : ℕ)
    → HasPlace p replace next → next ≡ Some x → 0 < size → size ≡ period p → x < size
place-low replace p None x size h e some is = cc
place-low replace p (Some n) x size h e some is =
    let same : n ≡ x = cc in
    let at : length h.octets % size ≡ x = ap (λ d. length h.octets % d) is ∙ sym h.place ∙ same in
    subst (λ k. k < size) at (mod-lt (length h.octets) some)

pub taken-spelled : (old new : Replacer) (p : Params) (next : Option ℕ) (x y : ℕ) (c : Char) → HasPlace p old next → next ≡ Some x → Takes old new x y c → y < 256
    → HasSpellings c
taken-spelled old new p None x y c h e takes lt = cc
taken-spelled old new p (Some n) x y c h e takes lt =
    let same : n ≡ x = cc in
    let now = takes p h.octets h.chars h.replaced_so (sym same ∙ h.place) in
    let k : ℕ = length h.octets in
    let long = length-append h.octets (y ∷ []) in
    let wide = length-append h.chars (c ∷ []) in
    let whole = now.replaced.whole in
    let top : length h.chars ≡ k = omega arith in
    let all : List Char = h.chars ++ c ∷ [] in
    let at = get_or_from_slice_get all k (char_due p (h.octets ++ y ∷ []) all k) (Data 0) (now.replaced.at k (omega arith)) in
    let last : get_or all k (Data 0) ≡ c = ap (λ (i : ℕ). get_or all i (Data 0)) (sym top) ∙ get_or-append_seam h.chars c [] (Data 0) in
    let octet : get_or (h.octets ++ y ∷ []) k 0 ≡ y = get_or-append_seam h.octets y [] 0 in
    let small : get_or (h.octets ++ y ∷ []) k 0 < 256 = rw octet lt in
    subst HasSpellings (sym at ∙ last) (due-spelled p (h.octets ++ y ∷ []) all k small)

pub follows-first : (next : Option ℕ) (x : ℕ) (first : Bool) → FollowsData next x first → first ≡ true → x ≡ 0
follows-first None x first h e = h.1
follows-first (Some n) x first h e = let no = h.0 in cc

pub follows-next : (next : Option ℕ) (x : ℕ) (first : Bool) → FollowsData next x first → first ≡ false → next ≡ Some x
follows-next None x first h e = let no = h.0 in cc
follows-next (Some n) x first h e = ap Some (sym h.1)

-- data goes on by the replacement and the scrambler alone
pub goes_on-same : (old new : Sender) (p : Params) (octets : List ℕ) (next : Option ℕ) → old.replace ≡ new.replace → old.scrambler ≡ new.scrambler
    → MayGoOn old p octets next → MayGoOn new p octets next
goes_on-same old new p octets None replace scrambler h = tt
goes_on-same old new p octets (Some x) replace scrambler h =
    let P : Replacer → Type 0 = λ r. Carries r p (coded_octets p octets) in
    let Q : List Bool → Type 0 = λ kept. HasScrambled15 kept (flat_map (bits 8) octets) in
    record { place = h.place; replaced_so = subst P replace h.replaced_so; scrambled_so = λ scr. subst Q scrambler (h.scrambled_so scr) }

pub goes_on-at : (now : Sender) (p : Params) (octets : List ℕ) (x : ℕ) (next : Option ℕ) → next ≡ Some x → GoesOn now p octets x → MayGoOn now p octets next
goes_on-at now p octets x next e h = let P : Option ℕ → Type 0 = λ n. MayGoOn now p octets n in subst P (sym e) h
