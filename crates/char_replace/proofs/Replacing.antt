-- One octet more on the sender's side.
use Rattle.std.proofs.Common.{◌≡◌, ◌≢◌, ℕ, ◌+◌, ◌-◌, ◌%◌, ◌==◌, ◌<◌, ◌≤◌, nat_le, ◌&&◌, if◌then◌else◌, Bool, true, false, List, [], ◌∷◌, ◌++◌, length, get_or, Some, refl, sym, ◌∙◌, ap, subst, inl, inr, arith, length-append, eq-eqb, ne_eqb, le-leb, leb-true}
use Rattle.std.proofs.Math.ListN.{get_or-append}
use Rattle.std.proofs.Math.Seq.{get_or-append_seam}
use Rattle.std.proofs.lemmas.Bool.{cases_Bool, cases_lt, lt-leb, eqb-true}
use Rattle.std.proofs.lemmas.Option.{slice_get-get_or, get_or_from_slice_get}
use Rattle.link_params.specs.declared.fields.Params.{Params}
use Rattle.link_params.specs.declared.fields.Mode.TheVariants.{B}
use Rattle.link_params.specs.Numbers.{period}
use Rattle.code_8b10b.specs.declared.character.Char.{Char}
use Rattle.code_8b10b.specs.declared.character.Char.TheVariants.{Data}
use Rattle.char_replace.specs.Replacement.{IsReplaced, alignment_a, alignment_f, char_due, ends_frame_only, ends_multiframe, is_data}
use Rattle.char_replace.specs.kept.Ends.{Sender, HasReplaced, char_by_kept, frame_end, IsSerial}
use Rattle.char_replace.proofs.FramePlaces.{has_period, ends-none, begun-inside, frame_end-here, frame_end-before, frame_end-inside}

abbrev get_or_at : {A : Type 0} → List A → A → ℕ → A
get_or_at xs d x = get_or xs x d

-- what is due at an earlier place stays
due-before : (p : Params) (octets : List ℕ) (chars : List Char) (o : ℕ) (c : Char) (x : ℕ) → length chars ≡ length octets → x < length octets
    → char_due p (octets ++ o ∷ []) (chars ++ c ∷ []) x ≡ char_due p octets chars x
due-before p octets chars o c x same lt =
    let here = get_or-append octets (o ∷ []) 0 x lt in
    let before = get_or-append octets (o ∷ []) 0 (x - p.f) (omega arith) in
    let sent = get_or-append chars (c ∷ []) (Data 0) (x - p.f) (omega arith) in
    simp (here, before, sent)

-- the characters are those that are due, where the last one is
pub is_replaced-more : (p : Params) (octets : List ℕ) (chars : List Char) (o : ℕ) (c : Char) → IsReplaced p octets chars
    → c ≡ char_due p (octets ++ o ∷ []) (chars ++ c ∷ []) (length octets) → IsReplaced p (octets ++ o ∷ []) (chars ++ c ∷ [])
is_replaced-more p octets chars o c h due =
    let same : length chars ≡ length octets = h.whole in
    let long = length-append octets (o ∷ []) in
    let wide = length-append chars (c ∷ []) in
    record {
      whole = omega arith;
      at = λ x lt. elim (cases_lt x (length octets)) [
        | inl below ↦
            let read = slice_get-get_or (chars ++ c ∷ []) x (Data 0) (omega arith) in
            let old = get_or-append chars (c ∷ []) (Data 0) x (omega arith) in
            let was = get_or_from_slice_get chars x (char_due p octets chars x) (Data 0) (h.at x below) in
            read ∙ ap Some (old ∙ was ∙ sym (due-before p octets chars o c x same below))
        | inr past ↦
            let top : x ≡ length octets = omega arith in
            let read = slice_get-get_or (chars ++ c ∷ []) (length chars) (Data 0) (omega arith) in
            let last = get_or-append_seam chars c [] (Data 0) in
            rw (top, ← same) (read ∙ ap Some (last ∙ rw (← same) at due))
      ];
    }

-- inside a frame the octet is sent as data
pub due-inside : (p : Params) (octets : List ℕ) (chars : List Char) (o x : ℕ) → x ≡ length octets → p.mode ≡ B → 1 ≤ p.f → 1 ≤ p.k → x % p.f + 1 ≢ p.f
    → char_due p (octets ++ o ∷ []) chars x ≡ Data o
due-inside p octets chars o x top b f k apart =
    let whole = ends-none p x b f k apart in
    let end = ne_eqb (x % p.f + 1) p.f apart in
    let last = get_or-append_seam octets o [] 0 in
    rw (whole, end, top) (elim (cases_Bool p.scr) [ inl scr ↦ rw (scr, last) | inr plain ↦ rw (plain, last) ])

-- the end of a frame is sent by what is kept
pub due-end : (s : Sender) (p : Params) (octets : List ℕ) (chars : List Char) (o : ℕ) (c : Char) (x : ℕ) → HasReplaced s p octets chars
    → x ≡ length octets → 1 ≤ p.f → x % p.f + 1 ≡ p.f
    → char_due p (octets ++ o ∷ []) (chars ++ c ∷ []) x ≡ char_by_kept s (ends_multiframe p x) o
due-end s p octets chars o c x h top f end =
    let is_end = eq-eqb (x % p.f + 1) p.f end in
    let last : get_or (octets ++ o ∷ []) x 0 ≡ o = rw top (get_or-append_seam octets o [] 0) in
    rw (h.params, is_end, last) (elim (cases_Bool p.scr) [
      | inl scr ↦ rw scr refl
      | inr plain ↦ rw plain (elim (cases_lt x p.f) [
        | inl first ↦
            let none = lt-leb p.f x first in
            let begun : s.begun ≡ false = h.begun plain ∙ rw (← top) none in
            rw (none, begun) (elim (cases_Bool (ends_multiframe p x)) [ inl whole ↦ rw whole refl | inr part ↦ rw part refl ])
        | inr later ↦
            let some = le-leb p.f x later in
            let begun : s.begun ≡ true = h.begun plain ∙ rw (← top) some in
            let place : frame_end p (length octets) ≡ x - p.f = rw (← top) (frame_end-before p x end) in
            let room : p.f ≤ length octets = omega arith in
            let before : get_or (octets ++ o ∷ []) (x - p.f) 0 ≡ s.last = get_or-append octets (o ∷ []) 0 (x - p.f) (omega arith) ∙ sym (rw place at (h.last plain room)) in
            let same = h.replaced.whole in
            let sent = get_or-append chars (c ∷ []) (Data 0) (x - p.f) (omega arith) in
            let as_data : is_data (get_or (chars ++ c ∷ []) (x - p.f) (Data 0)) ≡ s.as_data = ap is_data sent ∙ sym (rw place at (h.as_data plain room)) in
            rw (some, begun, before, as_data) refl
      ])
    ])

-- the next octet inside a frame
pub replaced-inside : (s : Sender) (p : Params) (octets : List ℕ) (chars : List Char) (o : ℕ) → HasReplaced s p octets chars → p.mode ≡ B → 1 ≤ p.f → 1 ≤ p.k
    → length octets % p.f + 1 ≢ p.f → HasReplaced s p (octets ++ o ∷ []) (chars ++ Data o ∷ [])
replaced-inside s p octets chars o h b f k apart =
    let x : ℕ = length octets in
    let long : length (octets ++ o ∷ []) ≡ x + 1 = length-append octets (o ∷ []) in
    let short : x % p.f < p.f = omega arith in
    let place : frame_end p (length (octets ++ o ∷ [])) ≡ frame_end p x = ap (frame_end p) long ∙ frame_end-inside p x (omega arith) in
    let due = sym (due-inside p octets (chars ++ Data o ∷ []) o x refl b f k apart) in
    let same = h.replaced.whole in
    record {
      replaced = is_replaced-more p octets chars o (Data o) h.replaced due;
      params = h.params;
      begun = λ plain. h.begun plain ∙ sym (ap (nat_le p.f) long ∙ begun-inside p.f x f apart);
      last = λ plain room.
          let old : p.f ≤ x = leb-true p.f x (sym (begun-inside p.f x f apart) ∙ le-leb p.f (x + 1) (omega arith)) in
          let inside : frame_end p x < x = omega arith in
          h.last plain old ∙ sym (get_or-append octets (o ∷ []) 0 (frame_end p x) inside) ∙ ap (get_or_at (octets ++ o ∷ []) 0) (sym place);
      as_data = λ plain room.
          let old : p.f ≤ x = leb-true p.f x (sym (begun-inside p.f x f apart) ∙ le-leb p.f (x + 1) (omega arith)) in
          let inside : frame_end p x < length chars = omega arith in
          h.as_data plain old ∙ ap is_data (sym (get_or-append chars (Data o ∷ []) (Data 0) (frame_end p x) inside) ∙ ap (get_or_at (chars ++ Data o ∷ []) (Data 0)) (sym place));
    }

-- the next octet at the end of a frame
pub replaced-end : (s later : Sender) (p : Params) (octets : List ℕ) (chars : List Char) (o : ℕ) (c : Char) → HasReplaced s p octets chars → 1 ≤ p.f
    → length octets % p.f + 1 ≡ p.f → c ≡ char_by_kept s (ends_multiframe p (length octets)) o
    → later.params ≡ s.params → later.begun ≡ true → later.last ≡ o → later.as_data ≡ is_data c → HasReplaced later p (octets ++ o ∷ []) (chars ++ c ∷ [])
replaced-end s later p octets chars o c h f end due params begun last as_data =
    let x : ℕ = length octets in
    let long : length (octets ++ o ∷ []) ≡ x + 1 = length-append octets (o ∷ []) in
    let place : frame_end p (length (octets ++ o ∷ [])) ≡ x = ap (frame_end p) long ∙ frame_end-here p x end in
    let same = h.replaced.whole in
    let full : p.f ≤ x + 1 = omega arith in
    record {
      replaced = is_replaced-more p octets chars o c h.replaced (due ∙ sym (due-end s p octets chars o c x h refl f end));
      params = params ∙ h.params;
      begun = λ plain. begun ∙ sym (ap (nat_le p.f) long ∙ le-leb p.f (x + 1) full);
      last = λ plain room. last ∙ sym (ap (get_or_at (octets ++ o ∷ []) 0) place ∙ get_or-append_seam octets o [] 0);
      as_data = λ plain room. as_data ∙ ap is_data (sym (ap (get_or_at (chars ++ c ∷ []) (Data 0)) (place ∙ sym same) ∙ get_or-append_seam chars c [] (Data 0)));
    }

-- with scrambling an octet that is neither 7C nor FC is sent as data
due-scrambled : (p : Params) (octets : List ℕ) (chars : List Char) (o : ℕ) → p.scr ≡ true → o ≢ 0x7C → o ≢ 0xFC
    → char_due p (octets ++ o ∷ []) chars (length octets) ≡ Data o
due-scrambled p octets chars o scr no_a no_f =
    let x : ℕ = length octets in
    let last = get_or-append_seam octets o [] 0 in
    let a = ne_eqb o 0x7C no_a in
    let f = ne_eqb o 0xFC no_f in
    rw (scr, last, a, f) (both (ends_multiframe p x) (ends_frame_only p x))
  where
    both : (whole end : Bool) → (if whole && false then alignment_a else (if end && false then alignment_f else Data o)) ≡ Data o
    both true true = refl
    both true false = refl
    both false true = refl
    both false false = refl

pub replaced-push_scrambled : (s : Sender) (q : Params) (o : ℕ) → s.params ≡ q → q.scr ≡ true → o ≢ 0x7C → o ≢ 0xFC
    → (p : Params) (octets : List ℕ) (chars : List Char) → HasReplaced s p octets chars → HasReplaced s p (octets ++ o ∷ []) (chars ++ Data o ∷ [])
replaced-push_scrambled s q o kept scr no_a no_f p octets chars h =
    let is : p.scr ≡ true = ap (λ (n : Params). n.scr) (sym h.params ∙ kept) ∙ scr in
    record {
      replaced = is_replaced-more p octets chars o (Data o) h.replaced (sym (due-scrambled p octets (chars ++ Data o ∷ []) o is no_a no_f));
      params = h.params;
      begun = λ plain. absurd (apart is plain);
      last = λ plain room. absurd (apart is plain);
      as_data = λ plain room. absurd (apart is plain);
    }
  where
    apart : p.scr ≡ true → p.scr ≡ false → ⊥
    apart is plain = cc

-- one octet more, by what the place says
pub replaced-push_inside : (s : Sender) (q : Params) (o place : ℕ) (end : Bool) → s.params ≡ q → IsSerial q
    → ((x : ℕ) → place ≡ x % period q → end ≡ (x % q.f + 1 == q.f)) → end ≡ false
    → (p : Params) (octets : List ℕ) (chars : List Char) → HasReplaced s p octets chars → place ≡ length octets % period p
    → HasReplaced s p (octets ++ o ∷ []) (chars ++ Data o ∷ [])
replaced-push_inside s q o place end kept serial ends inside p octets chars h at =
    let x : ℕ = length octets in
    let known : q ≡ p = sym kept ∙ h.params in
    let legal : IsSerial p = subst IsSerial known serial in
    let Ends : Params → Type 0 = λ n. place ≡ x % period n → end ≡ (x % n.f + 1 == n.f) in
    let e : end ≡ (x % p.f + 1 == p.f) = subst Ends known (ends x) at in
    let sizes = has_period p legal in
    replaced-inside s p octets chars o h legal.mode sizes.f sizes.k
    (λ top. let bad : false ≡ true = sym inside ∙ e ∙ eq-eqb (x % p.f + 1) p.f top in cc)

pub replaced-push_end : (s later : Sender) (q : Params) (o place : ℕ) (c : Char) (end whole : Bool) → s.params ≡ q → IsSerial q
    → ((x : ℕ) → place ≡ x % period q → end ≡ (x % q.f + 1 == q.f)) → ((x : ℕ) → place ≡ x % period q → whole ≡ ends_multiframe q x)
    → end ≡ true → c ≡ char_by_kept s whole o → later.params ≡ q → later.begun ≡ true → later.last ≡ o → later.as_data ≡ is_data c
    → (p : Params) (octets : List ℕ) (chars : List Char) → HasReplaced s p octets chars → place ≡ length octets % period p
    → HasReplaced later p (octets ++ o ∷ []) (chars ++ c ∷ [])
replaced-push_end s later q o place c end whole kept serial ends wholes top due params begun last as_data p octets chars h at =
    let x : ℕ = length octets in
    let known : q ≡ p = sym kept ∙ h.params in
    let legal : IsSerial p = subst IsSerial known serial in
    let Ends : Params → Type 0 = λ n. place ≡ x % period n → end ≡ (x % n.f + 1 == n.f) in
    let Wholes : Params → Type 0 = λ n. place ≡ x % period n → whole ≡ ends_multiframe n x in
    let e : end ≡ (x % p.f + 1 == p.f) = subst Ends known (ends x) at in
    let w : whole ≡ ends_multiframe p x = subst Wholes known (wholes x) at in
    let sizes = has_period p legal in
    replaced-end s later p octets chars o c h sizes.f (eqb-true (x % p.f + 1) p.f (sym e ∙ top))
    (due ∙ ap (λ (b : Bool). char_by_kept s b o) w) (params ∙ sym kept) begun last as_data
