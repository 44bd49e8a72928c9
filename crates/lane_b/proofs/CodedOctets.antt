-- One data octet more.
use Rattle.std.proofs.Common.{◌≡◌, ℕ, zero, suc, ◌+◌, ◌-◌, ◌*◌, ◌%◌, ◌<◌, ◌≤◌, ◌&&◌, Bool, true, false, List, [], ◌∷◌, ◌++◌, length, take, drop, get_or, refl, sym, ◌∙◌, ap, subst, inl, inr, arith, length-append, length-drop}
use Rattle.std.specs.List.{flat_map}
use Rattle.std.proofs.lemmas.List.{take-append-le, drop-append-le}
use Rattle.std.proofs.lemmas.Grind.{flat_map-append}
use Rattle.std.proofs.lemmas.Bool.{cases_Bool, cases_lt, lt-leb}
use Rattle.std.proofs.lemmas.Option.{get_or_from_slice_get}
use Rattle.std.proofs.Math.ListN.{get_or-append}
use Rattle.std.proofs.Math.Seq.{get_or-append_seam}
use Rattle.std.proofs.Math.Nat.{mod-add-mod}
use Rattle.jesd_base.specs.Bits.{bits, value}
use Rattle.jesd_base.proofs.BitLemmas.{value_of_bits}
use Rattle.link_params.specs.declared.fields.Params.{Params}
use Rattle.link_params.specs.Numbers.{period}
use Rattle.code_8b10b.specs.declared.character.Char.{Char}
use Rattle.code_8b10b.specs.declared.character.Char.TheVariants.{Data}
use Rattle.lane_scramble.specs.Scrambling.{scrambled15, start15}
use Rattle.lane_scramble.proofs.ScrambleLemmas.{keep_length}
use Rattle.char_replace.specs.Replacement.{char_due}
use Rattle.char_replace.specs.kept.Ends.{Sender as Replacer, HasReplaced}
use Rattle.lane_b.specs.kept.Senders.{Carries}
use Rattle.lane_b.specs.Sent.{octets_of, scrambled_octets, coded_octets, replaced, data_char}

-- ---- scrambled octets

octets_of-more : (n : ℕ) (bs ys : List Bool) → length bs ≡ 8 * n → octets_of (suc n) (bs ++ ys) ≡ octets_of n bs ++ value (take 8 ys) ∷ []
unfolding octets_of
octets_of-more zero [] ys e = refl
octets_of-more zero (b ∷ bs) ys e = absurd (omega arith)
octets_of-more (suc n) bs ys e =
    let room : 8 ≤ length bs = omega arith in
    let front = take-append-le 8 bs ys room in
    let rest = drop-append-le 8 bs ys room in
    let l = length-drop 8 bs in
    rw (front, rest) (ap {B = List ℕ} (λ r. value (take 8 bs) ∷ r) (octets_of-more n (drop 8 bs) ys (omega arith)))

length_eight : (x : ℕ) (s : List Bool) → length (bits 8 x ++ s) ≡ 8 + length s
unfolding bits
length_eight x s = omega arith

length-octets : (octets : List ℕ) → length (flat_map (bits 8) octets) ≡ 8 * length octets
length-octets [] = refl
length-octets (o ∷ os) = let h = length-octets os in let t = length_eight o (flat_map (bits 8) os) in omega arith

take_eight : (x : ℕ) → take 8 (bits 8 x) ≡ bits 8 x
unfolding bits
take_eight x = refl

value_eight : (x : ℕ) → x < 256 → value (take 8 (bits 8 x)) ≡ x
value_eight x lt = ap value (take_eight x) ∙ value_of_bits 8 x ∙ omega arith

append_none : (o : ℕ) → flat_map (bits 8) (o ∷ []) ≡ bits 8 o
unfolding bits
append_none o = refl

pub bits-more : (octets : List ℕ) (o : ℕ) → flat_map (bits 8) (octets ++ o ∷ []) ≡ flat_map (bits 8) octets ++ bits 8 o
bits-more octets o = flat_map-append (bits 8) octets (o ∷ []) ∙ ap (λ (r : List Bool). flat_map (bits 8) octets ++ r) (append_none o)

-- the scrambled octets, with one more
pub scrambled-more : (octets : List ℕ) (o y : ℕ) → y < 256
    → scrambled15 (flat_map (bits 8) octets ++ bits 8 o) ≡ scrambled15 (flat_map (bits 8) octets) ++ bits 8 y
    → scrambled_octets (octets ++ o ∷ []) ≡ scrambled_octets octets ++ y ∷ []
scrambled-more octets o y lt e =
    let n : ℕ = length octets in
    let s : List Bool = scrambled15 (flat_map (bits 8) octets) in
    let long : length (octets ++ o ∷ []) ≡ suc n = length-append octets (o ∷ []) ∙ omega arith in
    let wide : length s ≡ 8 * n = (keep_length 14 15 start15 (flat_map (bits 8) octets)).0 ∙ length-octets octets in
    let all : scrambled15 (flat_map (bits 8) (octets ++ o ∷ [])) ≡ s ++ bits 8 y = ap scrambled15 (bits-more octets o) ∙ e in
    rw (long, all) (octets_of-more n s (bits 8 y) wide ∙ ap (λ (v : ℕ). octets_of n s ++ v ∷ []) (value_eight y lt))

pub length-octets_of : (n : ℕ) (bs : List Bool) → length (octets_of n bs) ≡ n
unfolding octets_of
length-octets_of zero bs = refl
length-octets_of (suc n) bs = ap suc (length-octets_of n (drop 8 bs))

pub length-coded : (p : Params) (octets : List ℕ) → length (coded_octets p octets) ≡ length octets
length-coded p octets = elim (cases_Bool p.scr) [
  | inl scr ↦ rw scr (length-octets_of (length octets) (scrambled15 (flat_map (bits 8) octets)))
  | inr plain ↦ rw plain refl
]

-- ---- characters

char_due-front : (p : Params) (octets ys : List ℕ) (chars : List Char) (x : ℕ) → x < length octets → char_due p (octets ++ ys) chars x ≡ char_due p octets chars x
char_due-front p octets ys chars x lt =
    let here = get_or-append octets ys 0 x lt in
    let before = get_or-append octets ys 0 (x - p.f) (omega arith) in
    simp (here, before)

-- the first characters don't depend on later octets
pub replaced-front : (n : ℕ) (p : Params) (coded ys : List ℕ) → n ≤ length coded → replaced p (coded ++ ys) n ≡ replaced p coded n
unfolding replaced
replaced-front zero p coded ys le = refl
replaced-front (suc n) p coded ys le =
    let same = replaced-front n p coded ys (omega arith) in
    rw (same, char_due-front p coded ys (replaced p coded n) n (omega arith)) refl

pub length-replaced : (n : ℕ) (p : Params) (coded : List ℕ) → length (replaced p coded n) ≡ n
unfolding replaced
length-replaced zero p coded = refl
length-replaced (suc n) p coded =
    let h = length-replaced n p coded in
    length-append (replaced p coded n) (char_due p coded (replaced p coded n) n ∷ []) ∙ omega arith

pub and_false : (b : Bool) → b && false ≡ false
and_false true = refl
and_false false = refl

-- what is due doesn't depend on the character itself
char_due-chars : (p : Params) (octets : List ℕ) (chars : List Char) (c : Char) (x : ℕ) → length chars ≡ x → 1 ≤ p.f
    → char_due p octets (chars ++ c ∷ []) x ≡ char_due p octets chars x
char_due-chars p octets chars c x same f = elim (cases_lt x p.f) [
  | inl first ↦ let none = lt-leb p.f x first in simp (none, and_false)
  | inr later ↦ let sent = get_or-append chars (c ∷ []) (Data 0) (x - p.f) (omega arith) in rw sent refl
]

-- ---- the next character

-- the character that a replacement gives is the one that is due
last-due : (p : Params) (coded : List ℕ) (y : ℕ) (c : Char) (r : Replacer) → 1 ≤ p.f → HasReplaced r p (coded ++ y ∷ []) (replaced p coded (length coded) ++ c ∷ [])
    → c ≡ char_due p (coded ++ y ∷ []) (replaced p (coded ++ y ∷ []) (length coded)) (length coded)
last-due p coded y c r f h =
    let n : ℕ = length coded in
    let cs : List Char = replaced p coded n in
    let wide : length cs ≡ n = length-replaced n p coded in
    let long = length-append coded (y ∷ []) in
    let at = get_or_from_slice_get (cs ++ c ∷ []) n (char_due p (coded ++ y ∷ []) (cs ++ c ∷ []) n) (Data 0) (h.replaced.at n (omega arith)) in
    let last : get_or (cs ++ c ∷ []) n (Data 0) ≡ c = ap (λ (k : ℕ). get_or (cs ++ c ∷ []) k (Data 0)) (sym wide) ∙ get_or-append_seam cs c [] (Data 0) in
    let front : replaced p (coded ++ y ∷ []) n ≡ cs = replaced-front n p coded (y ∷ []) (omega arith) in
    sym last ∙ at ∙ char_due-chars p (coded ++ y ∷ []) cs c n wide f ∙ ap (λ (ds : List Char). char_due p (coded ++ y ∷ []) ds n) (sym front)

replaced-more : (p : Params) (coded : List ℕ) (y : ℕ) (c : Char) → c ≡ char_due p (coded ++ y ∷ []) (replaced p (coded ++ y ∷ []) (length coded)) (length coded)
    → replaced p coded (length coded) ++ c ∷ [] ≡ replaced p (coded ++ y ∷ []) (length (coded ++ y ∷ []))
unfolding replaced
replaced-more p coded y c due =
    let n : ℕ = length coded in
    let long : length (coded ++ y ∷ []) ≡ suc n = length-append coded (y ∷ []) ∙ omega arith in
    let front : replaced p (coded ++ y ∷ []) n ≡ replaced p coded n = replaced-front n p coded (y ∷ []) (omega arith) in
    rw (long, ← front) (ap (λ (d : Char). replaced p (coded ++ y ∷ []) n ++ d ∷ []) due)

-- a replacement that carries the octets so far carries the next one
pub carries-more : (r : Replacer) (p : Params) (coded : List ℕ) (y : ℕ) (c : Char) → 1 ≤ p.f
    → HasReplaced r p (coded ++ y ∷ []) (replaced p coded (length coded) ++ c ∷ []) → Carries r p (coded ++ y ∷ [])
carries-more r p coded y c f h =
    let P : List Char → Type 0 = λ cs. HasReplaced r p (coded ++ y ∷ []) cs in
    subst P (replaced-more p coded y c (last-due p coded y c r f h)) h

-- the character of the last octet
pub data_char-more : (r : Replacer) (p : Params) (octets : List ℕ) (o y : ℕ) (c : Char) → 1 ≤ p.f → coded_octets p (octets ++ o ∷ []) ≡ coded_octets p octets ++ y ∷ []
    → HasReplaced r p (coded_octets p octets ++ y ∷ []) (replaced p (coded_octets p octets) (length (coded_octets p octets)) ++ c ∷ [])
    → c ≡ data_char p (octets ++ o ∷ [])
unfolding data_char
data_char-more r p octets o y c f more h =
    let coded : List ℕ = coded_octets p octets in
    let same : length coded ≡ length octets = length-coded p octets in
    let last : length (octets ++ o ∷ []) - 1 ≡ length coded = let long = length-append octets (o ∷ []) in omega arith in
    rw (last, more) (last-due p coded y c r f h)

-- the place after
pub place-more : (p : Params) (octets : List ℕ) (o x : ℕ) → x ≡ length octets % period p → suc x % period p ≡ length (octets ++ o ∷ []) % period p
place-more p octets o x e =
    let n : ℕ = length octets in
    let long : length (octets ++ o ∷ []) ≡ n + 1 = length-append octets (o ∷ []) in
    let next : suc x ≡ n % period p + 1 = omega arith in
    ap (λ (k : ℕ). k % period p) next ∙ mod-add-mod n (period p) 1 ∙ ap (λ (k : ℕ). k % period p) (sym long)

-- ---- where data begins

coded-none : (p : Params) → coded_octets p [] ≡ []
unfolding octets_of
coded-none p = elim (cases_Bool p.scr) [ inl scr ↦ rw scr refl | inr plain ↦ rw plain refl ]

pub carries-none : (r : Replacer) (p : Params) → HasReplaced r p [] [] → Carries r p (coded_octets p [])
unfolding replaced
carries-none r p h = let P : List ℕ → Type 0 = λ coded. Carries r p coded in subst P (sym (coded-none p)) h

-- the coded octets of one more, where the link is scrambled, and where it is not
pub coded-scrambled : (p : Params) (octets : List ℕ) (o y : ℕ) → p.scr ≡ true → y < 256
    → scrambled15 (flat_map (bits 8) octets ++ bits 8 o) ≡ scrambled15 (flat_map (bits 8) octets) ++ bits 8 y
    → coded_octets p (octets ++ o ∷ []) ≡ coded_octets p octets ++ y ∷ []
coded-scrambled p octets o y scr lt e = rw scr (scrambled-more octets o y lt e)
