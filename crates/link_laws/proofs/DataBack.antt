-- The data octets of an 8b/10b lane come back: from the characters that carry them, each read as it
-- was sent.
use Rattle.std.proofs.Common.{◌≡◌, ℕ, zero, suc, ◌-◌, ◌*◌, ◌^◌, ◌<◌, ◌≤◌, ◌==◌, not, ◌&&◌, ◌||◌, Bool, true, false, List, [], ◌∷◌, ◌++◌, length, map, take, drop, get_or, Some, None, inl, inr, refl, sym, ap, ap₂, ◌∙◌, length-append, length-drop, length-take-le, arith}
use Rattle.std.proofs.Math.Nat.{mod-eq_of_lt}
use Rattle.std.proofs.Math.Seq.{drop-append_seam, take-append_seam}
use Rattle.std.specs.List.{flat_map}
use Rattle.std.proofs.lemmas.Bool.{and_right, cases_Bool, cases_lt, cond-true, cond-false, lt-leb}
use Rattle.std.proofs.lemmas.List.{take-append-drop, ext_get_or, get_or-map, get_or_append_left, get_or_push, length-map}
use Rattle.std.proofs.lemmas.Option.{get_or_from_slice_get, slice_get-get_or}
use Rattle.jesd_base.specs.Bits.{bits, value}
use Rattle.jesd_base.proofs.BitLemmas.{bits_length, bits_of_value, value_of_bits}
use Rattle.link_params.specs.declared.cells.LaneCell.{LaneCell}
use Rattle.link_params.specs.declared.cells.Mark.TheVariants.{Ok as Good}
use Rattle.link_params.specs.declared.fields.Mode.TheVariants.{B}
use Rattle.link_params.specs.declared.fields.Params.{Params}
use Rattle.link_params.specs.Laws.{broken_law}
use Rattle.link_params.proofs.LawFacts.{legal_sizes}
use Rattle.code_8b10b.specs.declared.character.Char.{Char}
use Rattle.code_8b10b.specs.declared.character.Char.TheVariants.{Data, Control}
use Rattle.code_8b10b.specs.declared.character.Reading.{Reading}
use Rattle.code_8b10b.specs.declared.character.Reading.TheVariants.{Char as Read, Disparity, Invalid}
use Rattle.lane_scramble.specs.Scrambling.{descrambled15, scrambled15, start15}
use Rattle.lane_scramble.proofs.ScrambleLemmas.{descrambled_again, keep_length}
use Rattle.char_replace.specs.declared.restored.Restored.{Restored}
use Rattle.char_replace.specs.Replacement.{IsReplaced, char_due, ends_frame_only, ends_multiframe}
use Rattle.char_replace.specs.Restoring.{IsRestored, given_at, is_accepted, is_bad_char, is_repeat, nothing}
use Rattle.char_replace.proofs.RoundTrip.{restores_octets}
use Rattle.lane_b.specs.Sent.{coded_octets, octets_of, replaced, scrambled_octets}
use Rattle.lane_b.specs.Received.{cells, data_cells, descrambled_octets, restored, spread}
use Rattle.lane_b.proofs.CodedOctets.{length-coded, length-octets_of, length-replaced}
use Rattle.link_laws.proofs.SentChars.{AreSmall, length-octet_bits}

-- ---- the characters that are due

and_false : (b : Bool) → b && false ≡ false
and_false true = refl
and_false false = refl

pub replaced-at : (n : ℕ) (p : Params) (coded : List ℕ) (x : ℕ) → x < n
    → get_or (replaced p coded n) x (Data 0) ≡ char_due p coded (replaced p coded x) x
unfolding replaced
replaced-at zero p coded x lt = absurd (omega arith)
replaced-at (suc n) p coded x lt =
    let long = length-replaced n p coded in
    elim (cases_lt x n) [
      | inl early ↦ get_or_append_left (replaced p coded n) (char_due p coded (replaced p coded n) n
          ∷ []) (Data 0) x (omega arith) ∙ replaced-at n p coded x early
      | inr last ↦
          let same : n ≡ x = omega arith in
          get_or_push (replaced p coded n) (char_due p coded (replaced p coded n) n) (Data 0) x
          (omega arith) ∙ ap (λ k. char_due p coded (replaced p coded k) k) same
    ]

due-same : (p : Params) (octets : List ℕ) (chars others : List Char) (x : ℕ)
    → (p.f ≤ x → get_or chars (x - p.f) (Data 0) ≡ get_or others (x - p.f) (Data 0))
    → char_due p octets chars x ≡ char_due p octets others x
due-same p octets chars others x same = elim (cases_lt x p.f) [
  | inl first ↦ let none = lt-leb p.f x first in simp (none, and_false)
  | inr later ↦ let e = same later in rw e refl
]

-- they carry the octets
pub is-replaced : (p : Params) (coded : List ℕ) → 1 ≤ p.f
    → IsReplaced p coded (replaced p coded (length coded))
is-replaced p coded f =
    let n : ℕ = length coded in
    let long = length-replaced n p coded in
    record {
      whole = long;
      at = λ x lt.
          slice_get-get_or (replaced p coded n) x (Data 0) (omega arith)
          ∙ ap Some (replaced-at n p coded x lt ∙ due-same p coded (replaced p coded x)
          (replaced p coded n) x (λ room.
          replaced-at x p coded (x - p.f) (omega arith)
          ∙ sym (replaced-at n p coded (x - p.f) (omega arith))));
    }

-- ---- what their readings give

length-restored : (n : ℕ) (p : Params) (read : List Reading) → length (restored p read n) ≡ n
unfolding restored
length-restored zero p read = refl
length-restored (suc n) p read = let h = length-restored n p read in
    let l =
    length-append (restored p read n) (given_at p (restored p read n) n (get_or read n Invalid)
    ∷ []) in omega arith

restored-at : (n : ℕ) (p : Params) (read : List Reading) (x : ℕ) → x < n
    → get_or (restored p read n) x nothing ≡ given_at p (restored p read x) x
    (get_or read x Invalid)
unfolding restored
restored-at zero p read x lt = absurd (omega arith)
restored-at (suc n) p read x lt =
    let long = length-restored n p read in
    let last : Restored = given_at p (restored p read n) n (get_or read n Invalid) in
    elim (cases_lt x n) [
      | inl early ↦ get_or_append_left (restored p read n) (last ∷ []) nothing x (omega arith)
          ∙ restored-at n p read x early
      | inr end ↦
          let same : n ≡ x = omega arith in
          get_or_push (restored p read n) last nothing x (omega arith)
          ∙ ap (λ k. given_at p (restored p read k) k (get_or read k Invalid)) same
    ]

accepts-none : (p : Params) (x o : ℕ) → x < p.f → (not p.scr && is_accepted p x (Control o)) ≡ false
accepts-none p x o first = elim (cases_Bool p.scr) [
  | inl scr ↦ rw scr refl
  | inr plain ↦
      let early = lt-leb p.f x first in
      rw (plain, early)
      (and_right (((o == 0x7C) && ends_multiframe p x) || ((o == 0xFC) && ends_frame_only p x)) false
      refl)
]

-- nothing is repeated in the first frame
repeats-none : (p : Params) (x : ℕ) (r : Reading) → x < p.f → is_repeat p x r ≡ false
repeats-none p x Invalid first = refl
repeats-none p x (Read (Data o)) first =
    elim (cases_Bool p.scr) [ inl scr ↦ rw scr refl | inr plain ↦ rw plain refl ]
repeats-none p x (Read (Control o)) first = accepts-none p x o first
repeats-none p x (Disparity (Data o)) first =
    elim (cases_Bool p.scr) [ inl scr ↦ rw scr refl | inr plain ↦ rw plain refl ]
repeats-none p x (Disparity (Control o)) first = accepts-none p x o first

given-same : (p : Params) (given others : List Restored) (x : ℕ) (r : Reading)
    → (p.f ≤ x → get_or given (x - p.f) nothing ≡ get_or others (x - p.f) nothing)
    → given_at p given x r ≡ given_at p others x r
given-same p given others x r same = elim (cases_lt x p.f) [
  | inl first ↦ let none = repeats-none p x r first in rw none refl
  | inr later ↦ let e = same later in rw e refl
]

is-restored : (p : Params) (read : List Reading) → 1 ≤ p.f
    → IsRestored p read (restored p read (length read))
is-restored p read f =
    let n : ℕ = length read in
    let long = length-restored n p read in
    record {
      whole = long;
      at = λ x lt.
          slice_get-get_or (restored p read n) x nothing (omega arith)
          ∙ ap Some
          (restored-at n p read x lt ∙ given-same p (restored p read x) (restored p read n) x
          (get_or read x Invalid) (λ room.
          restored-at x p read (x - p.f) (omega arith)
          ∙ sym (restored-at n p read (x - p.f) (omega arith))));
    }

abbrev pub clean : ℕ → Restored
clean o = record { octet = o; bad = false; fault = false }

abbrev pub good : ℕ → LaneCell
good o = record { value = o; mark = Good }

octets-of-clean : (xs : List ℕ) → map (λ (g : Restored). g.octet) (map clean xs) ≡ xs
octets-of-clean [] = refl
octets-of-clean (x ∷ xs) = ap {B = List ℕ} (λ l. x ∷ l) (octets-of-clean xs)

abbrev none_bad : List ℕ → List Bool
none_bad xs = map (λ o. false) xs

bads-of-clean : (xs : List ℕ) → map (λ (g : Restored). g.bad) (map clean xs) ≡ none_bad xs
bads-of-clean [] = refl
bads-of-clean (x ∷ xs) = ap {B = List Bool} (λ l. false ∷ l) (bads-of-clean xs)

spread-none : (xs : List ℕ) → spread false false (none_bad xs) ≡ none_bad xs
unfolding spread
spread-none [] = refl
spread-none (x ∷ xs) = ap {B = List Bool} (λ l. false ∷ l) (spread-none xs)

cells-good : (xs ys : List ℕ) → length xs ≡ length ys → cells xs (none_bad ys) ≡ map good xs
unfolding cells
cells-good [] [] e = refl
cells-good [] (y ∷ ys) e = absurd (omega arith)
cells-good (x ∷ xs) [] e = absurd (omega arith)
cells-good (x ∷ xs) (y ∷ ys) e = ap {B = List LaneCell} (λ l. good x ∷ l)
    (cells-good xs ys (omega arith))

-- ---- scrambled and descrambled

abbrev EachSmall : List ℕ → Type 0
EachSmall [] = Unit {0}
EachSmall (x ∷ xs) = (x < 256) × EachSmall xs

each-small : (xs : List ℕ) → AreSmall xs → EachSmall xs
each-small [] all = tt
each-small (x ∷ xs) all = (all 0, each-small xs (λ k. all (suc k)))

octets_of-bits : (xs : List ℕ) → EachSmall xs → octets_of (length xs) (flat_map (bits 8) xs) ≡ xs
unfolding octets_of
octets_of-bits [] all = refl
octets_of-bits (x ∷ xs) all =
    let eight = bits_length 8 x in
    let is : value (bits 8 x) ≡ x = value_of_bits 8 x
    ∙ mod-eq_of_lt (let lt : x < 2 ^ 8 = all.0 in lt) in
    let first : take 8 (bits 8 x ++ flat_map (bits 8) xs) ≡ bits 8 x =
    ap (λ k. take k (bits 8 x ++ flat_map (bits 8) xs)) (sym eight)
    ∙ take-append_seam (bits 8 x) (flat_map (bits 8) xs) in
    let after : drop 8 (bits 8 x ++ flat_map (bits 8) xs) ≡ flat_map (bits 8) xs =
    ap (λ k. drop k (bits 8 x ++ flat_map (bits 8) xs)) (sym eight)
    ∙ drop-append_seam (bits 8 x) (flat_map (bits 8) xs) in
    ap₂ (λ y ys. value y ∷ octets_of (length xs) ys) first after
    ∙ ap₂ (λ y ys. y ∷ ys) is (octets_of-bits xs all.1)

bits-octets_of : (n : ℕ) (bs : List Bool) → length bs ≡ 8 * n
    → flat_map (bits 8) (octets_of n bs) ≡ bs
unfolding octets_of
bits-octets_of zero [] e = refl
bits-octets_of zero (b ∷ bs) e = absurd (omega arith)
bits-octets_of (suc n) bs e =
    let eight : length (take 8 bs) ≡ 8 = length-take-le 8 bs (omega arith) in
    let rest = length-drop 8 bs in
    let front : bits 8 (value (take 8 bs)) ≡ take 8 bs = ap (λ k. bits k (value (take 8 bs)))
    (sym eight) ∙ bits_of_value (take 8 bs) in
    ap₂ (λ (xs ys : List Bool). xs ++ ys) front (bits-octets_of n (drop 8 bs) (omega arith))
    ∙ take-append-drop 8 bs

descrambled-back : (octets : List ℕ) → AreSmall octets
    → descrambled_octets (scrambled_octets octets) ≡ octets
descrambled-back octets small =
    let plain : List Bool = flat_map (bits 8) octets in
    let long : length (scrambled15 plain) ≡ 8 * length octets = (keep_length 14 15 start15 plain).0
    ∙ length-octet_bits octets in
    ap (λ n. octets_of n (descrambled15 (flat_map (bits 8) (scrambled_octets octets))))
    (length-octets_of (length octets) (scrambled15 plain))
    ∙ ap (λ bs. octets_of (length octets) (descrambled15 bs))
    (bits-octets_of (length octets) (scrambled15 plain) long)
    ∙ ap (octets_of (length octets)) (descrambled_again 14 15 start15 plain)
    ∙ octets_of-bits octets (each-small octets small)

-- ---- the data of a lane

module _ (p : Params) (octets : List ℕ) (legal : broken_law p ≡ None) (mode : p.mode ≡ B)
    (small : AreSmall octets) where
  abbrev coded : List ℕ
  coded = coded_octets p octets

  abbrev pub chars : List Char
  chars = replaced p coded (length coded)

  abbrev pub reads : List Reading
  reads = map Read chars

  abbrev got : List Restored
  got = restored p reads (length reads)

  some-octets : 1 ≤ p.f
  some-octets = let sizes = legal_sizes p legal in sizes.f_low

  pub length-reads : length reads ≡ length octets
  length-reads = length-map chars Read ∙ length-replaced (length coded) p coded
      ∙ length-coded p octets

  got-at : (x : ℕ) → x < length octets → get_or got x nothing ≡ clean (get_or coded x 0)
  got-at x lt =
      let same = length-coded p octets in
      get_or_from_slice_get got x (clean (get_or coded x 0)) nothing
      (restores_octets p coded chars got legal mode (is-replaced p coded some-octets)
      (is-restored p reads some-octets) x (omega arith))

  got-all : got ≡ map clean coded
  got-all =
      let same = length-coded p octets in
      let count = length-reads in
      let long = length-restored (length reads) p reads in
      let wide = length-map coded clean in
      ext_get_or nothing got (map clean coded) (omega arith) (λ x lt. got-at x (omega arith)
      ∙ sym (get_or-map clean coded x 0 nothing (omega arith)))

  -- each octet comes back, and its mark is ok
  pub data-back : data_cells p reads ≡ map good octets
  unfolding data_cells
  data-back =
      let are : map (λ (g : Restored). g.octet) got ≡ coded =
      ap (map (λ (g : Restored). g.octet)) got-all ∙ octets-of-clean coded in
      let bads : map (λ (g : Restored). g.bad) got ≡ none_bad coded =
      ap (map (λ (g : Restored). g.bad)) got-all ∙ bads-of-clean coded in
      elim (cases_Bool p.scr) [
        | inl scr ↦
            let is : coded ≡ scrambled_octets octets =
            cond-true p.scr (scrambled_octets octets) octets scr in
            let same = length-coded p octets in
            let back : descrambled_octets coded ≡ octets = ap descrambled_octets is
            ∙ descrambled-back octets small in
            cond-true p.scr (cells (descrambled_octets (map (λ (g : Restored). g.octet) got))
            (spread false false (map (λ (g : Restored). g.bad) got)))
            (cells (map (λ (g : Restored). g.octet) got) (map (λ (g : Restored). g.bad) got)) scr
            ∙ ap₂ (λ xs bs. cells (descrambled_octets xs) (spread false false bs)) are bads
            ∙ ap₂ cells back (spread-none coded)
            ∙ cells-good octets coded (omega arith)
        | inr plain ↦
            let is : coded ≡ octets = cond-false p.scr (scrambled_octets octets) octets plain in
            cond-false p.scr (cells (descrambled_octets (map (λ (g : Restored). g.octet) got))
            (spread false false (map (λ (g : Restored). g.bad) got)))
            (cells (map (λ (g : Restored). g.octet) got) (map (λ (g : Restored). g.bad) got)) plain
            ∙ ap₂ cells are bads ∙ cells-good coded coded refl ∙ ap (map good) is
      ]

  given-fault : (g : List Restored) (x : ℕ) (r : Reading)
      → (given_at p g x r).fault ≡ is_bad_char p x r
  given-fault g x r = elim (cases_Bool (is_repeat p x r)) [
    | inl again ↦ rw again refl
    | inr new ↦
        rw new refl
  ]

  -- no character is bad
  pub none-bad : (x : ℕ) → x < length octets → is_bad_char p x (Read (get_or chars x (Data 0)))
      ≡ false
  none-bad x lt =
      let count = length-reads in
      let wide = length-map chars Read in
      let here : get_or reads x Invalid ≡ Read (get_or chars x (Data 0)) =
      get_or-map Read chars x (Data 0) Invalid (omega arith) in
      sym (ap (is_bad_char p x) here)
      ∙ sym (given-fault (restored p reads x) x (get_or reads x Invalid))
      ∙ ap (λ (g : Restored). g.fault) (sym (restored-at (length reads) p reads x (omega arith))
      ∙ got-at x lt)
