-- What the data gives before descrambling, with one reading more.
use Rattle.std.proofs.Common.{◌≡◌, ℕ, zero, suc, ◌+◌, ◌-◌, ◌≤◌, ◌==◌, not, ◌&&◌, ◌||◌, inl, inr, false, List, [], ◌∷◌, ◌++◌, length, get_or, refl, sym, ◌∙◌, ap, ap₂, arith, length-append, add-one}
use Rattle.std.proofs.Math.ListN.{get_or-append}
use Rattle.std.proofs.Math.Seq.{get_or-append_seam}
use Rattle.std.proofs.lemmas.Bool.{cases_Bool, lt-leb, and_right}
use Rattle.std.proofs.lemmas.Option.{get_or_from_slice_get}
use Rattle.link_params.specs.declared.fields.Params.{Params}
use Rattle.code_8b10b.specs.declared.character.Char.TheVariants.{Data, Control}
use Rattle.code_8b10b.specs.declared.character.Reading.{Reading}
use Rattle.code_8b10b.specs.declared.character.Reading.TheVariants.{Char as Read, Disparity, Invalid}
use Rattle.char_replace.specs.declared.restored.Restored.{Restored}
use Rattle.char_replace.specs.Replacement.{ends_frame_only, ends_multiframe}
use Rattle.char_replace.specs.Restoring.{IsRestored, given_at, is_accepted, is_bad_char, is_repeat, nothing}
use Rattle.lane_b.specs.Received.{restored}

pub length-restored : (n : ℕ) (p : Params) (read : List Reading) → length (restored p read n) ≡ n
unfolding restored
length-restored zero p read = refl
length-restored (suc n) p read =
    length-append (restored p read n) (given_at p (restored p read n) n (get_or read n Invalid) ∷ []) ∙ ap (λ m. m + 1) (length-restored n p read) ∙ add-one n

restored-append : (n : ℕ) (p : Params) (read more : List Reading) → n ≤ length read → restored p (read ++ more) n ≡ restored p read n
unfolding restored
restored-append zero p read more le = refl
restored-append (suc n) p read more le =
    let h = restored-append n p read more (omega arith) in
    let here : get_or (read ++ more) n Invalid ≡ get_or read n Invalid = get_or-append read more Invalid n (omega arith) in
    ap₂ (λ xs r. xs ++ given_at p xs n r ∷ []) h here

-- nothing is repeated at place 0
accepts-none : (p : Params) (o : ℕ) → 1 ≤ p.f → (not p.scr && is_accepted p 0 (Control o)) ≡ false
accepts-none p o some = elim (cases_Bool p.scr) [
  | inl scr ↦ rw scr refl
  | inr plain ↦
      let early = lt-leb p.f 0 (omega arith) in
      rw (plain, early) (and_right (((o == 0x7C) && ends_multiframe p 0) || ((o == 0xFC) && ends_frame_only p 0)) false refl)
]

pub repeats-none : (p : Params) (r : Reading) → 1 ≤ p.f → is_repeat p 0 r ≡ false
repeats-none p (Read (Data o)) some = elim (cases_Bool p.scr) [ inl scr ↦ rw scr refl | inr plain ↦ rw plain refl ]
repeats-none p (Read (Control o)) some = accepts-none p o some
repeats-none p (Disparity (Data o)) some = elim (cases_Bool p.scr) [ inl scr ↦ rw scr refl | inr plain ↦ rw plain refl ]
repeats-none p (Disparity (Control o)) some = accepts-none p o some
repeats-none p Invalid some = refl

-- a place gives what the places before it give
given-push : (n : ℕ) (p : Params) (given : List Restored) (g : Restored) (r : Reading) → length given ≡ n → 1 ≤ p.f
    → given_at p (given ++ g ∷ []) n r ≡ given_at p given n r
given-push zero p given g r long some = let none = repeats-none p r some in rw none refl
given-push (suc n) p given g r long some =
    let before : get_or (given ++ g ∷ []) (suc n - p.f) nothing ≡ get_or given (suc n - p.f) nothing = get_or-append given (g ∷ []) nothing (suc n - p.f) (omega arith) in
    rw before refl

-- what a restorer gave next is what is given there
module _ (p : Params) (read : List Reading) (r : Reading) (g : Restored) (some : 1 ≤ p.f)
    (h : IsRestored p (read ++ r ∷ []) (restored p read (length read) ++ g ∷ [])) where
  pub given-due : g ≡ given_at p (restored p read (length read)) (length read) r
  given-due =
      let n : ℕ = length read in
      let before : List Restored = restored p read n in
      let long : length before ≡ n = length-restored n p read in
      let more : length (read ++ r ∷ []) ≡ n + 1 = length-append read (r ∷ []) in
      let came : get_or (read ++ r ∷ []) n Invalid ≡ r = get_or-append_seam read r [] Invalid in
      let here : get_or (before ++ g ∷ []) n nothing ≡ g = ap (λ m. get_or (before ++ g ∷ []) m nothing) (sym long) ∙ get_or-append_seam before g [] nothing in
      let due = get_or_from_slice_get (before ++ g ∷ []) n _ nothing (h.at n (omega arith)) in
      sym here ∙ due ∙ ap (given_at p (before ++ g ∷ []) n) came ∙ given-push n p before g r long some

  pub restored-push : restored p (read ++ r ∷ []) (length (read ++ r ∷ [])) ≡ restored p read (length read) ++ g ∷ []
  unfolding restored
  restored-push =
      let n : ℕ = length read in
      let more : length (read ++ r ∷ []) ≡ suc n = length-append read (r ∷ []) ∙ add-one (length read) in
      let came : get_or (read ++ r ∷ []) n Invalid ≡ r = get_or-append_seam read r [] Invalid in
      ap (restored p (read ++ r ∷ [])) more
      ∙ ap₂ (λ xs x. xs ++ given_at p xs n x ∷ []) (restored-append n p read (r ∷ []) (omega arith)) came
      ∙ ap (λ x. restored p read n ++ x ∷ []) (sym given-due)

  pub fault-due : g.fault ≡ is_bad_char p (length read) r
  fault-due = ap (λ (x : Restored). x.fault) given-due
      ∙ elim (cases_Bool (is_repeat p (length read) r)) [ inl again ↦ rw again refl | inr new ↦ rw new refl ]
