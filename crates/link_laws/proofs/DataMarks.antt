-- The mark of an octet of an 8b/10b lane's data is the one that the characters it depends on give.
use Rattle.std.proofs.Common.{◌≡◌, ℕ, zero, suc, ◌+◌, ◌-◌, ◌<◌, ◌≤◌, ◌==◌, nat_le, not, ◌&&◌, ◌||◌, Bool, true, false, List, [], ◌∷◌, ◌++◌, length, get_or, inl, inr, refl, sym, ap, ap₂, ◌∙◌, length-append, add-one, arith}
use Rattle.std.specs.List.{flat_map, list_any}
use Rattle.std.proofs.Math.ListN.{get_or-append}
use Rattle.std.proofs.Math.Seq.{get_or-append_seam}
use Rattle.std.proofs.lemmas.Bool.{and_parts, cases_Bool, cases_lt, cond-false, cond-true, leb-true}
use Rattle.std.proofs.lemmas.List.{get_or-map, length-map}
use Rattle.jesd_base.specs.Bits.{bits}
use Rattle.lane_scramble.specs.Scrambling.{descrambled15}
use Rattle.link_params.specs.declared.fields.Params.{Params}
use Rattle.link_params.specs.declared.cells.LaneCell.{LaneCell}
use Rattle.link_params.specs.Lanes.{Taken}
use Rattle.code_8b10b.specs.declared.character.Char.{Char}
use Rattle.code_8b10b.specs.declared.character.Char.TheVariants.{Data, Control}
use Rattle.code_8b10b.specs.declared.character.Reading.{Reading}
use Rattle.code_8b10b.specs.declared.character.Reading.TheVariants.{Char as Read, Disparity, Invalid}
use Rattle.char_replace.specs.declared.restored.Restored.{Restored}
use Rattle.char_replace.specs.Replacement.{ends_frame_only, ends_multiframe}
use Rattle.char_replace.specs.Restoring.{given_at, is_accepted, is_bad_char, is_repeat, nothing}
use Rattle.lane_b.specs.kept.Cells.{bad_read, octets_read}
use Rattle.lane_b.specs.Locking.{lock}
use Rattle.lane_b.specs.Received.{cells, data_cells, descrambled_octets, marked, restored, spread}
use Rattle.lane_b.proofs.CodedOctets.{length-octets_of}
use Rattle.scenario.specs.Plans.{numbers_from}
use Rattle.link_model.specs.kept.Before.{no_cell}
use Rattle.link_laws.specs.Checked.{checked_b, data_read, pieces, reading_at, repeated_pieces, scrambled_pieces}

-- the character at a place is bad
abbrev pub is_bad_at : Params → List Reading → ℕ → Bool
is_bad_at p read x = is_bad_char p x (reading_at read x)

-- ---- what the places give before descrambling

length-restored : (n : ℕ) (p : Params) (read : List Reading) → length (restored p read n) ≡ n
unfolding restored
length-restored zero p read = refl
length-restored (suc n) p read =
    length-append (restored p read n) (given_at p (restored p read n) n (reading_at read n) ∷ [])
    ∙ ap (λ m. m + 1) (length-restored n p read) ∙ add-one n

-- what place x gives, by the places before it
abbrev given_by : Params → List Reading → ℕ → Restored
given_by p read x = given_at p (restored p read x) x (reading_at read x)

restored-at : (n : ℕ) (p : Params) (read : List Reading) (x : ℕ) → x < n
    → get_or (restored p read n) x nothing ≡ given_by p read x
unfolding restored
restored-at zero p read x below = absurd (omega arith)
restored-at (suc n) p read x below =
    let before : List Restored = restored p read n in
    let long = length-restored n p read in
    elim (cases_lt x n) [
      | inl early ↦ get_or-append before (given_by p read n ∷ []) nothing x (omega arith)
          ∙ restored-at n p read x early
      | inr late ↦
          let same : x ≡ n = omega arith in
          let end : x ≡ length before = omega arith in
          ap (λ (k : ℕ). get_or (before ++ given_by p read n ∷ []) k nothing) end
          ∙ get_or-append_seam before (given_by p read n) [] nothing
          ∙ ap (given_by p read) (sym same)
    ]

bads-at : (p : Params) (read : List Reading) (x : ℕ) → x < length read
    → get_or (bad_read p read) x false ≡ (given_by p read x).bad
bads-at p read x below =
    let long = length-restored (length read) p read in
    get_or-map (λ (g : Restored). g.bad) (restored p read (length read)) x nothing false
    (omega arith) ∙ ap (λ (g : Restored). g.bad) (restored-at (length read) p read x below)

-- a repeated octet lies behind the first frame, of data that is not scrambled
record IsBehind (p : Params) (x : ℕ) : Type 0 where
  plain : p.scr ≡ false
  behind : p.f ≤ x

not-true : (a : Bool) → not a ≡ true → a ≡ false
not-true true e = let bad : false ≡ true = e in absurd (cc)
not-true false e = refl

accepted-behind : (p : Params) (x : ℕ) (c : Char) → (not p.scr && is_accepted p x c) ≡ true
    → IsBehind p x
accepted-behind p x (Data o) e = let bad : false ≡ true = (and_parts (not p.scr) false e).1 in
    absurd (cc)
accepted-behind p x (Control o) e =
    let parts = and_parts (not p.scr) (is_accepted p x (Control o)) e in
    let plain = not-true p.scr parts.0 in
    let place =
    (and_parts (((o == 0x7C) && ends_multiframe p x) || ((o == 0xFC) && ends_frame_only p x))
    (p.scr || nat_le p.f x) parts.1).1 in
    let low : nat_le p.f x ≡ true = rw plain at place in
    record { plain = plain; behind = leb-true p.f x low }

repeat-behind : (p : Params) (x : ℕ) (r : Reading) → is_repeat p x r ≡ true → IsBehind p x
repeat-behind p x (Read c) e = accepted-behind p x c e
repeat-behind p x (Disparity c) e = accepted-behind p x c e
repeat-behind p x Invalid e = let bad : false ≡ true = e in absurd (cc)

given-new : (p : Params) (read : List Reading) (x : ℕ) → is_repeat p x (reading_at read x) ≡ false
    → (given_by p read x).bad ≡ is_bad_at p read x
given-new p read x new = rw new refl

given-again : (p : Params) (read : List Reading) (x : ℕ) → 1 ≤ p.f
    → is_repeat p x (reading_at read x) ≡ true
    → (given_by p read x).bad ≡ (is_bad_at p read x || (given_by p read (x - p.f)).bad)
given-again p read x some again =
    let low = (repeat-behind p x (reading_at read x) again).behind in
    let before = restored-at x p read (x - p.f) (omega arith) in
    rw (again, before) refl

-- ---- without scrambling

or-assoc : (a b c : Bool) → (a || b || c) ≡ (a || (b || c))
or-assoc true b c = refl
or-assoc false b c = refl

or-false : (b : Bool) → (b || false) ≡ b
or-false true = refl
or-false false = refl

-- the pieces of a place give what the place gives
pieces-give : (most : ℕ) (p : Params) (read : List Reading) (x : ℕ) → 1 ≤ p.f → x < most
    → list_any (is_bad_at p read) (repeated_pieces p read most x) ≡ (given_by p read x).bad
unfolding repeated_pieces
pieces-give zero p read x some below = absurd (omega arith)
pieces-give (suc most) p read x some below =
    let more : List ℕ = repeated_pieces p read most (x - p.f) in
    let or_rest : List ℕ → Bool = λ ps. is_bad_at p read x || list_any (is_bad_at p read) ps in
    elim (cases_Bool (is_repeat p x (reading_at read x))) [
      | inl again ↦
          let low = (repeat-behind p x (reading_at read x) again).behind in
          ap or_rest (cond-true (is_repeat p x (reading_at read x)) more [] again)
          ∙ ap (λ (b : Bool). is_bad_at p read x || b)
          (pieces-give most p read (x - p.f) some (omega arith))
          ∙ sym (given-again p read x some again)
      | inr new ↦
          ap or_rest (cond-false (is_repeat p x (reading_at read x)) more [] new)
          ∙ or-false (is_bad_at p read x) ∙ sym (given-new p read x new)
    ]

-- ---- with scrambling

repeats-plain : (p : Params) (x : ℕ) (r : Reading) → p.scr ≡ true → is_repeat p x r ≡ false
repeats-plain p x (Read c) scr = rw scr refl
repeats-plain p x (Disparity c) scr = rw scr refl
repeats-plain p x Invalid scr = refl

-- a bit of these at a place, and the two before it
three-bits : (bs : List Bool) (n : ℕ) (two one : Bool) → suc (suc n) < length bs
    → get_or (spread two one bs) (suc (suc n)) false
    ≡ (get_or bs n false || (get_or bs (suc n) false || get_or bs (suc (suc n)) false))
unfolding spread
three-bits [] n two one below = absurd (omega arith)
three-bits (a ∷ []) n two one below = absurd (omega arith)
three-bits (a ∷ b ∷ []) n two one below = absurd (omega arith)
three-bits (a ∷ b ∷ c ∷ bs) zero two one below = or-assoc a b c
three-bits (a ∷ b ∷ c ∷ bs) (suc n) two one below = three-bits (b ∷ c ∷ bs) n one a (omega arith)

spread-first : (bs : List Bool) → 0 < length bs
    → get_or (spread false false bs) 0 false ≡ get_or bs 0 false
unfolding spread
spread-first [] below = absurd (omega arith)
spread-first (a ∷ bs) below = refl

spread-second : (bs : List Bool) → 1 < length bs
    → get_or (spread false false bs) 1 false ≡ (get_or bs 0 false || get_or bs 1 false)
unfolding spread
spread-second [] below = absurd (omega arith)
spread-second (a ∷ []) below = absurd (omega arith)
spread-second (a ∷ b ∷ bs) below = refl

-- some of the pieces are bad
scrambled-give : (bad : ℕ → Bool) (bs : List Bool) (n : ℕ) → n < length bs
    → ((x : ℕ) → x < length bs → get_or bs x false ≡ bad x)
    → list_any bad (scrambled_pieces n) ≡ get_or (spread false false bs) n false
unfolding numbers_from
scrambled-give bad bs zero below same = or-false (bad 0)
    ∙ sym (spread-first bs below ∙ same 0 below)
scrambled-give bad bs (suc zero) below same =
    ap (λ (b : Bool). bad 0 || b) (or-false (bad 1))
    ∙ sym (spread-second bs below ∙ ap₂ (λ (a b : Bool). a || b) (same 0 (omega arith))
    (same 1 below))
scrambled-give bad bs (suc (suc n)) below same =
    let from : suc (suc n) - 2 ≡ n = omega arith in
    let many : suc (suc n) + 1 - n ≡ 3 = omega arith in
    ap (λ (x : ℕ). list_any bad (numbers_from x (suc (suc n) + 1 - x))) from
    ∙ ap (λ (m : ℕ). list_any bad (numbers_from n m)) many
    ∙ ap (λ (b : Bool). bad n || (bad (suc n) || b)) (or-false (bad (suc (suc n))))
    ∙ sym (three-bits bs n false false below
    ∙ ap₂ (λ (a b : Bool). a || b) (same n (omega arith))
    (ap₂ (λ (a b : Bool). a || b) (same (suc n) (omega arith)) (same (suc (suc n)) below)))

-- ---- cells

cell-at : (octets : List ℕ) (bads : List Bool) (n : ℕ) → n < length octets → n < length bads
    → (get_or (cells octets bads) n no_cell).mark ≡ marked (get_or bads n false)
unfolding cells
cell-at [] bads n first second = absurd (omega arith)
cell-at (o ∷ octets) [] n first second = absurd (omega arith)
cell-at (o ∷ octets) (b ∷ bads) zero first second = refl
cell-at (o ∷ octets) (b ∷ bads) (suc n) first second =
    cell-at octets bads n (omega arith) (omega arith)

length-spread : (bs : List Bool) (two one : Bool) → length (spread two one bs) ≡ length bs
unfolding spread
length-spread [] two one = refl
length-spread (x ∷ bs) two one = ap suc (length-spread bs one x)

length-cells : (octets : List ℕ) (bads : List Bool) → length octets ≡ length bads
    → length (cells octets bads) ≡ length octets
unfolding cells
length-cells [] bads same = refl
length-cells (o ∷ octets) [] same = absurd (omega arith)
length-cells (o ∷ octets) (b ∷ bads) same = ap suc (length-cells octets bads (omega arith))

length-bads : (p : Params) (read : List Reading) → length (bad_read p read) ≡ length read
length-bads p read = length-map (restored p read (length read)) (λ (g : Restored). g.bad)
    ∙ length-restored (length read) p read

length-octets : (p : Params) (read : List Reading) → length (octets_read p read) ≡ length read
length-octets p read = length-map (restored p read (length read)) (λ (g : Restored). g.octet)
    ∙ length-restored (length read) p read

length-descrambled : (p : Params) (read : List Reading)
    → length (descrambled_octets (octets_read p read)) ≡ length read
length-descrambled p read =
    length-octets_of (length (octets_read p read))
    (descrambled15 (flat_map (bits 8) (octets_read p read))) ∙ length-octets p read

cells-plain : (p : Params) (read : List Reading) → p.scr ≡ false
    → data_cells p read ≡ cells (octets_read p read) (bad_read p read)
unfolding data_cells
cells-plain p read e = rw e refl

cells-scrambled : (p : Params) (read : List Reading) → p.scr ≡ true
    → data_cells p read ≡ cells (descrambled_octets (octets_read p read))
    (spread false false (bad_read p read))
unfolding data_cells
cells-scrambled p read e = rw e refl

pub length-data : (p : Params) (read : List Reading) → length (data_cells p read) ≡ length read
length-data p read =
    let bads = length-bads p read in
    elim (cases_Bool p.scr) [
      | inl scr ↦
          let long = length-descrambled p read in
          let wide = length-spread (bad_read p read) false false in
          ap length (cells-scrambled p read scr)
          ∙ length-cells (descrambled_octets (octets_read p read))
          (spread false false (bad_read p read)) (omega arith) ∙ long
      | inr plain ↦
          let long = length-octets p read in
          ap length (cells-plain p read plain) ∙ length-cells (octets_read p read) (bad_read p read)
          (omega arith) ∙ long
    ]

-- some character that octet n depends on is bad
abbrev has_bad : Params → List Reading → ℕ → Bool
has_bad p read n = list_any (is_bad_at p read) (pieces p read n)

mark-plain : (p : Params) (read : List Reading) (n : ℕ) → 1 ≤ p.f → p.scr ≡ false → n < length read
    → (get_or (data_cells p read) n no_cell).mark ≡ marked (has_bad p read n)
mark-plain p read n some plain below =
    let octets = length-octets p read in
    let bads = length-bads p read in
    let is : has_bad p read n ≡ get_or (bad_read p read) n false =
    ap (list_any (is_bad_at p read))
    (cond-false p.scr (scrambled_pieces n) (repeated_pieces p read (n + 1) n) plain)
    ∙ pieces-give (n + 1) p read n some (omega arith) ∙ sym (bads-at p read n below) in
    ap (λ (cs : List LaneCell). (get_or cs n no_cell).mark) (cells-plain p read plain)
    ∙ cell-at (octets_read p read) (bad_read p read) n (omega arith) (omega arith)
    ∙ ap marked (sym is)

mark-scrambled : (p : Params) (read : List Reading) (n : ℕ) → p.scr ≡ true → n < length read
    → (get_or (data_cells p read) n no_cell).mark ≡ marked (has_bad p read n)
mark-scrambled p read n scr below =
    let octets = length-descrambled p read in
    let bads = length-bads p read in
    let wide = length-spread (bad_read p read) false false in
    let is : has_bad p read n ≡ get_or (spread false false (bad_read p read)) n false =
    ap (list_any (is_bad_at p read))
    (cond-true p.scr (scrambled_pieces n) (repeated_pieces p read (n + 1) n) scr)
    ∙ scrambled-give (is_bad_at p read) (bad_read p read) n (omega arith)
    (λ x inside. bads-at p read x (omega arith)
    ∙ given-new p read x (repeats-plain p x (reading_at read x) scr)) in
    ap (λ (cs : List LaneCell). (get_or cs n no_cell).mark) (cells-scrambled p read scr)
    ∙ cell-at (descrambled_octets (octets_read p read)) (spread false false (bad_read p read)) n
    (omega arith) (omega arith) ∙ ap marked (sym is)

-- the mark of octet n of the data is the one that is due
pub cell-mark : (p : Params) (taken : List Taken) (n : ℕ) → 1 ≤ p.f
    → n < length (data_read p (lock taken))
    → (get_or (data_cells p (data_read p (lock taken))) n no_cell).mark ≡ checked_b p taken n
unfolding checked_b
cell-mark p taken n some below = elim (cases_Bool p.scr) [
  | inl scr ↦ mark-scrambled p (data_read p (lock taken)) n scr below
  | inr plain ↦ mark-plain p (data_read p (lock taken)) n some plain below
]
