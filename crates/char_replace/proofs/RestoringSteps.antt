-- One reading more on the receiver's side.
use Rattle.std.proofs.Common.{◌≡◌, ◌≢◌, ℕ, ◌+◌, ◌-◌, ◌%◌, ◌==◌, ◌<◌, ◌≤◌, nat_le, not, ◌&&◌, ◌||◌, if◌then◌else◌, Bool, true, false, List, [], ◌∷◌, ◌++◌, length, get_or, Some, refl, sym, ◌∙◌, ap, subst, inl, inr, arith, length-append, eq-eqb, le-leb}
use Rattle.std.proofs.Math.ListN.{get_or-append}
use Rattle.std.proofs.Math.Seq.{get_or-append_seam}
use Rattle.std.proofs.lemmas.Bool.{cases_Bool, cases_lt, and_parts, or_cases, eqb-true, leb-true, true≢false}
use Rattle.std.proofs.lemmas.Option.{slice_get-get_or, get_or_from_slice_get}
use Rattle.link_params.specs.declared.fields.Params.{Params}
use Rattle.link_params.specs.declared.fields.Mode.TheVariants.{B}
use Rattle.link_params.specs.Numbers.{period}
use Rattle.code_8b10b.specs.declared.character.Char.TheVariants.{Data, Control}
use Rattle.code_8b10b.specs.declared.character.Reading.{Reading}
use Rattle.code_8b10b.specs.declared.character.Reading.TheVariants.{Char as Read, Disparity, Invalid}
use Rattle.char_replace.specs.declared.restored.Restored.{Restored}
use Rattle.char_replace.specs.Replacement.{ends_multiframe}
use Rattle.char_replace.specs.Restoring.{IsRestored, given_at, nothing, is_accepted}
use Rattle.char_replace.specs.kept.Ends.{Receiver, HasRestored, given_by_kept, frame_end, IsSerial}
use Rattle.char_replace.proofs.FramePlaces.{begun-inside, frame_end-here, frame_end-before, frame_end-inside, ends-multiple, period-b, has_period}

abbrev get_or_at : {A : Type 0} → List A → A → ℕ → A
get_or_at xs d x = get_or xs x d

-- what an earlier place gives stays
given-before : (p : Params) (readings : List Reading) (given : List Restored) (r : Reading) (g : Restored) (x : ℕ) → length given ≡ length readings → x < length readings
    → given_at p (given ++ g ∷ []) x (get_or (readings ++ r ∷ []) x Invalid) ≡ given_at p given x (get_or readings x Invalid)
given-before p readings given r g x same lt =
    let here = get_or-append readings (r ∷ []) Invalid x lt in
    let before = get_or-append given (g ∷ []) nothing (x - p.f) (omega arith) in
    simp (here, before)

-- these are what the readings give, where the last one is
pub is_restored-more : (p : Params) (readings : List Reading) (given : List Restored) (r : Reading) (g : Restored) → IsRestored p readings given
    → g ≡ given_at p (given ++ g ∷ []) (length readings) r → IsRestored p (readings ++ r ∷ []) (given ++ g ∷ [])
is_restored-more p readings given r g h due =
    let same : length given ≡ length readings = h.whole in
    let long = length-append readings (r ∷ []) in
    let wide = length-append given (g ∷ []) in
    record {
      whole = omega arith;
      at = λ x lt. elim (cases_lt x (length readings)) [
        | inl below ↦
            let read = slice_get-get_or (given ++ g ∷ []) x nothing (omega arith) in
            let old = get_or-append given (g ∷ []) nothing x (omega arith) in
            let was = get_or_from_slice_get given x (given_at p given x (get_or readings x Invalid)) nothing (h.at x below) in
            read ∙ ap Some (old ∙ was ∙ sym (given-before p readings given r g x same below))
        | inr past ↦
            let top : x ≡ length readings = omega arith in
            let read = slice_get-get_or (given ++ g ∷ []) (length given) nothing (omega arith) in
            let last = get_or-append_seam given g [] nothing in
            let came = get_or-append_seam readings r [] Invalid in
            rw (top, came, ← same) (read ∙ ap Some (last ∙ rw (← same) at due))
      ];
    }

-- an accepted character ends a frame
accepted-end : (p : Params) (x o : ℕ) → p.mode ≡ B → 1 ≤ p.f → 1 ≤ p.k → is_accepted p x (Control o) ≡ true → x % p.f + 1 ≡ p.f
accepted-end p x o b f k held =
    let part : Bool = x % p.f + 1 == p.f in
    let whole : Bool = ends_multiframe p x in
    let stands = and_parts (((o == 0x7C) && whole) || ((o == 0xFC) && (part && not whole))) (p.scr || nat_le p.f x) held in
    elim (or_cases ((o == 0x7C) && whole) ((o == 0xFC) && (part && not whole)) stands.0) [
      | inl a ↦
          let end : x % period p + 1 ≡ period p = eqb-true (x % period p + 1) (period p) (and_parts (o == 0x7C) whole a).1 in
          ends-multiple p.f p.k x f k (rw (period-b p b) at end)
      | inr a ↦ eqb-true (x % p.f + 1) p.f (and_parts part (not whole) (and_parts (o == 0xFC) (part && not whole) a).1).0
    ]

-- without scrambling an accepted character repeats what is kept
before-is : (s : Receiver) (p : Params) (readings : List Reading) (given : List Restored) (g : Restored) (x o : ℕ) → HasRestored s p readings given → x ≡ length readings
    → p.mode ≡ B → 1 ≤ p.f → 1 ≤ p.k → p.scr ≡ false → is_accepted p x (Control o) ≡ true → get_or (given ++ g ∷ []) (x - p.f) nothing ≡ s.last
before-is s p readings given g x o h top b f k plain held =
    let part : Bool = x % p.f + 1 == p.f in
    let whole : Bool = ends_multiframe p x in
    let later = and_parts (((o == 0x7C) && whole) || ((o == 0xFC) && (part && not whole))) (p.scr || nat_le p.f x) held in
    let room : p.f ≤ x = leb-true p.f x (rw plain at later.1) in
    let end = accepted-end p x o b f k held in
    let place : frame_end p (length readings) ≡ x - p.f = rw (← top) (frame_end-before p x end) in
    let same = h.restored.whole in
    let full : p.f ≤ length readings = omega arith in
    get_or-append given (g ∷ []) nothing (x - p.f) (omega arith) ∙ sym (rw place at (h.last plain full))

-- the two ways to give agree where the repeated places do
same_given : (fault scr accepted : Bool) (o : ℕ) (before last : Restored) → (scr ≡ false → accepted ≡ true → before ≡ last)
    → ◌≡◌ {A = Restored}
    (if not scr && accepted then record { octet = before.octet; bad = (fault || not accepted) || before.bad; fault = fault || not accepted }
    else record { octet = o; bad = fault || not accepted; fault = fault || not accepted })
    (if not scr && accepted then record { octet = last.octet; bad = fault || last.bad; fault = fault }
    else record { octet = o; bad = fault || not accepted; fault = fault || not accepted })
same_given fault true accepted o before last h = refl
same_given fault false false o before last h = refl
same_given true false true o before last h =
    let f : Restored → Restored = λ r. record { octet = r.octet; bad = true; fault = true } in ap f (h refl refl)
same_given false false true o before last h =
    let f : Restored → Restored = λ r. record { octet = r.octet; bad = r.bad; fault = false } in ap f (h refl refl)

same_begun : (scr before now : Bool) → (scr ≡ false → before ≡ now) → (scr || before) ≡ (scr || now)
same_begun true before now h = refl
same_begun false before now h = h refl

-- without scrambling a whole frame was read where it is kept so
same-begun : (s : Receiver) (p : Params) (readings : List Reading) (given : List Restored) (x : ℕ)
    → HasRestored s p readings given → x ≡ length readings → (p.scr || s.begun) ≡ (p.scr || nat_le p.f x)
same-begun s p readings given x h top =
    same_begun p.scr s.begun (nat_le p.f x) (λ plain. h.begun plain ∙ ap (nat_le p.f) (sym top))

-- what a reading gives follows from what is kept
pub given-is : (s : Receiver) (p : Params) (readings : List Reading) (given : List Restored) (r : Reading) (g : Restored) (x : ℕ) → HasRestored s p readings given
    → x ≡ length readings → p.mode ≡ B → 1 ≤ p.f → 1 ≤ p.k
    → given_at p (given ++ g ∷ []) x r ≡ given_by_kept s (x % p.f + 1 == p.f) (ends_multiframe p x) r
given-is s p readings given (Read (Data o)) g x h top b f k = elim (cases_Bool p.scr) [ inl scr ↦ rw scr refl | inr plain ↦ rw plain refl ]
given-is s p readings given (Disparity (Data o)) g x h top b f k = elim (cases_Bool p.scr) [ inl scr ↦ rw scr refl | inr plain ↦ rw plain refl ]
given-is s p readings given Invalid g x h top b f k = refl
given-is s p readings given (Read (Control o)) g x h top b f k =
    let kept = before-is s p readings given g x o h top b f k in
    let begun = same-begun s p readings given x h top in
    rw (h.params, begun) (same_given false p.scr (is_accepted p x (Control o)) o (get_or (given ++ g ∷ []) (x - p.f) nothing) s.last kept)
given-is s p readings given (Disparity (Control o)) g x h top b f k =
    let kept = before-is s p readings given g x o h top b f k in
    let begun = same-begun s p readings given x h top in
    rw (h.params, begun) (same_given true p.scr (is_accepted p x (Control o)) o (get_or (given ++ g ∷ []) (x - p.f) nothing) s.last kept)

-- the next reading inside a frame
pub restored-inside : (s : Receiver) (p : Params) (readings : List Reading) (given : List Restored) (r : Reading) (g : Restored) → HasRestored s p readings given
    → p.mode ≡ B → 1 ≤ p.f → 1 ≤ p.k → length readings % p.f + 1 ≢ p.f
    → g ≡ given_by_kept s (length readings % p.f + 1 == p.f) (ends_multiframe p (length readings)) r → HasRestored s p (readings ++ r ∷ []) (given ++ g ∷ [])
restored-inside s p readings given r g h b f k apart due =
    let x : ℕ = length readings in
    let long : length (readings ++ r ∷ []) ≡ x + 1 = length-append readings (r ∷ []) in
    let short : x % p.f < p.f = omega arith in
    let place : frame_end p (length (readings ++ r ∷ [])) ≡ frame_end p x = ap (frame_end p) long ∙ frame_end-inside p x (omega arith) in
    let same = h.restored.whole in
    record {
      restored = is_restored-more p readings given r g h.restored (due ∙ sym (given-is s p readings given r g x h refl b f k));
      params = h.params;
      begun = λ plain. h.begun plain ∙ sym (ap (nat_le p.f) long ∙ begun-inside p.f x f apart);
      last = λ plain room.
          let old : p.f ≤ x = leb-true p.f x (sym (begun-inside p.f x f apart) ∙ le-leb p.f (x + 1) (omega arith)) in
          let inside : frame_end p x < length given = omega arith in
          h.last plain old ∙ sym (get_or-append given (g ∷ []) nothing (frame_end p x) inside) ∙ ap (get_or_at (given ++ g ∷ []) nothing) (sym place);
    }

-- the next reading at the end of a frame
pub restored-end : (s later : Receiver) (p : Params) (readings : List Reading) (given : List Restored) (r : Reading) (g : Restored) → HasRestored s p readings given
    → p.mode ≡ B → 1 ≤ p.f → 1 ≤ p.k → length readings % p.f + 1 ≡ p.f
    → g ≡ given_by_kept s (length readings % p.f + 1 == p.f) (ends_multiframe p (length readings)) r
    → later.params ≡ s.params → later.begun ≡ true → later.last ≡ g → HasRestored later p (readings ++ r ∷ []) (given ++ g ∷ [])
restored-end s later p readings given r g h b f k end due params begun last =
    let x : ℕ = length readings in
    let long : length (readings ++ r ∷ []) ≡ x + 1 = length-append readings (r ∷ []) in
    let place : frame_end p (length (readings ++ r ∷ [])) ≡ x = ap (frame_end p) long ∙ frame_end-here p x end in
    let same = h.restored.whole in
    let full : p.f ≤ x + 1 = omega arith in
    record {
      restored = is_restored-more p readings given r g h.restored (due ∙ sym (given-is s p readings given r g x h refl b f k));
      params = params ∙ h.params;
      begun = λ plain. begun ∙ sym (ap (nat_le p.f) long ∙ le-leb p.f (x + 1) full);
      last = λ plain room. last ∙ sym (ap (get_or_at (given ++ g ∷ []) nothing) (place ∙ sym same) ∙ get_or-append_seam given g [] nothing);
    }

-- one reading more, by what the place says
pub restored-push_inside : (s : Receiver) (q : Params) (place : ℕ) (r : Reading) (g : Restored) (end whole : Bool) → s.params ≡ q → IsSerial q
    → ((x : ℕ) → place ≡ x % period q → end ≡ (x % q.f + 1 == q.f)) → ((x : ℕ) → place ≡ x % period q → whole ≡ ends_multiframe q x)
    → end ≡ false → g ≡ given_by_kept s end whole r
    → (p : Params) (readings : List Reading) (given : List Restored) → HasRestored s p readings given → place ≡ length readings % period p
    → HasRestored s p (readings ++ r ∷ []) (given ++ g ∷ [])
restored-push_inside s q place r g end whole kept serial ends wholes inside due p readings given h at =
    let x : ℕ = length readings in
    let known : q ≡ p = sym kept ∙ h.params in
    let legal : IsSerial p = subst IsSerial known serial in
    let Ends : Params → Type 0 = λ n. place ≡ x % period n → end ≡ (x % n.f + 1 == n.f) in
    let Wholes : Params → Type 0 = λ n. place ≡ x % period n → whole ≡ ends_multiframe n x in
    let e : end ≡ (x % p.f + 1 == p.f) = subst Ends known (ends x) at in
    let w : whole ≡ ends_multiframe p x = subst Wholes known (wholes x) at in
    let sizes = has_period p legal in
    restored-inside s p readings given r g h legal.mode sizes.f sizes.k
    (λ top. let bad : false ≡ true = sym inside ∙ e ∙ eq-eqb (x % p.f + 1) p.f top in cc)
    (due ∙ ap (λ (b : Bool). given_by_kept s b whole r) e ∙ ap (λ (b : Bool). given_by_kept s (x % p.f + 1 == p.f) b r) w)

pub restored-push_end : (s later : Receiver) (q : Params) (place : ℕ) (r : Reading) (g : Restored) (end whole : Bool) → s.params ≡ q → IsSerial q
    → ((x : ℕ) → place ≡ x % period q → end ≡ (x % q.f + 1 == q.f)) → ((x : ℕ) → place ≡ x % period q → whole ≡ ends_multiframe q x)
    → end ≡ true → g ≡ given_by_kept s end whole r → later.params ≡ q → later.begun ≡ true → later.last ≡ g
    → (p : Params) (readings : List Reading) (given : List Restored) → HasRestored s p readings given → place ≡ length readings % period p
    → HasRestored later p (readings ++ r ∷ []) (given ++ g ∷ [])
restored-push_end s later q place r g end whole kept serial ends wholes top due params begun last p readings given h at =
    let x : ℕ = length readings in
    let known : q ≡ p = sym kept ∙ h.params in
    let legal : IsSerial p = subst IsSerial known serial in
    let Ends : Params → Type 0 = λ n. place ≡ x % period n → end ≡ (x % n.f + 1 == n.f) in
    let Wholes : Params → Type 0 = λ n. place ≡ x % period n → whole ≡ ends_multiframe n x in
    let e : end ≡ (x % p.f + 1 == p.f) = subst Ends known (ends x) at in
    let w : whole ≡ ends_multiframe p x = subst Wholes known (wholes x) at in
    let sizes = has_period p legal in
    restored-end s later p readings given r g h legal.mode sizes.f sizes.k (eqb-true (x % p.f + 1) p.f (sym e ∙ top))
    (due ∙ ap (λ (b : Bool). given_by_kept s b whole r) e ∙ ap (λ (b : Bool). given_by_kept s (x % p.f + 1 == p.f) b r) w) (params ∙ sym kept) begun last

-- what a data character gives does not depend on its place
data-gives : (p : Params) (given : List Restored) (x o : ℕ)
    → record { octet = o; bad = false; fault = false } ≡ given_at p given x (Read (Data o))
data-gives p given x o = elim (cases_Bool p.scr) [ inl scr ↦ rw scr refl | inr plain ↦ rw plain refl ]

-- one data character more with scrambling
pub restored-push_scrambled : (s : Receiver) (q : Params) (o : ℕ) → s.params ≡ q → q.scr ≡ true
    → (p : Params) (readings : List Reading) (given : List Restored) → HasRestored s p readings given
    → HasRestored s p (readings ++ Read (Data o) ∷ []) (given ++ (record { octet = o; bad = false; fault = false }) ∷ [])
restored-push_scrambled s q o kept scr p readings given h =
    let is : p.scr ≡ true = ap (λ (n : Params). n.scr) (sym h.params ∙ kept) ∙ scr in
    let g : Restored = record { octet = o; bad = false; fault = false } in
    record {
      restored = is_restored-more p readings given (Read (Data o)) g h.restored (data-gives p (given ++ g ∷ []) (length readings) o);
      params = h.params;
      begun = λ plain. absurd (true≢false (sym is ∙ plain));
      last = λ plain room. absurd (true≢false (sym is ∙ plain));
    }
