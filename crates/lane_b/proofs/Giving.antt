-- Cells and marks with one reading more.
use Rattle.std.proofs.Common.{◌≡◌, ℕ, zero, suc, ◌*◌, ◌<◌, ◌||◌, Bool, true, false, List, [], ◌∷◌, ◌++◌, length, take, drop, map, refl, inl, inr, sym, ◌∙◌, ap, ap₂, arith, length-append, length-drop, add-one}
use Rattle.std.specs.List.{flat_map}
use Rattle.std.proofs.lemmas.List.{take-append-le, drop-append-le, take_all, map_push, length-map, flat_map_more, nil_from_length, length_push}
use Rattle.std.proofs.lemmas.Bool.{cases_Bool, cond-true, cond-false}
use Rattle.jesd_base.specs.Bits.{bits, value}
use Rattle.jesd_base.proofs.BitLemmas.{bits_length, value_of_bits}
use Rattle.lane_scramble.specs.Scrambling.{descrambled15, start15}
use Rattle.lane_scramble.proofs.ScrambleLemmas.{keep_length}
use Rattle.link_params.specs.declared.fields.Params.{Params}
use Rattle.link_params.specs.declared.cells.LaneCell.{LaneCell}
use Rattle.code_8b10b.specs.declared.character.Reading.{Reading}
use Rattle.char_replace.specs.declared.restored.Restored.{Restored}
use Rattle.lane_b.specs.Sent.{octets_of}
use Rattle.lane_b.specs.Received.{restored, cells, data_cells, descrambled_octets, marked, spread}
use Rattle.lane_b.specs.kept.Cells.{last_of, last_but_one_of, octets_read, bad_read}

-- ---- marks

pub last-push : (bs : List Bool) (one b : Bool) → last_of one (bs ++ b ∷ []) ≡ b
unfolding last_of
last-push [] one b = refl
last-push (x ∷ bs) one b = last-push bs x b

pub last_but_one-push : (bs : List Bool) (two one b : Bool) → last_but_one_of two one (bs ++ b ∷ []) ≡ last_of one bs
unfolding last_of last_but_one_of
last_but_one-push [] two one b = refl
last_but_one-push (x ∷ bs) two one b = last_but_one-push bs one x b

spread-push : (bs : List Bool) (two one b : Bool)
    → spread two one (bs ++ b ∷ []) ≡ spread two one bs ++ (last_but_one_of two one bs || last_of one bs || b) ∷ []
unfolding spread last_of last_but_one_of
spread-push [] two one b = refl
spread-push (x ∷ bs) two one b = ap (λ (l : List Bool). (two || one || x) ∷ l) (spread-push bs one x b)

length-spread : (bs : List Bool) (two one : Bool) → length (spread two one bs) ≡ length bs
unfolding spread
length-spread [] two one = refl
length-spread (x ∷ bs) two one = ap suc (length-spread bs one x)

cells-push : (octets : List ℕ) (bads : List Bool) (o : ℕ) (b : Bool) → length octets ≡ length bads
    → cells (octets ++ o ∷ []) (bads ++ b ∷ []) ≡ cells octets bads ++ record { value = o; mark = marked b } ∷ []
unfolding cells
cells-push [] [] o b same = refl
cells-push [] (x ∷ bads) o b same = absurd (omega arith)
cells-push (y ∷ octets) [] o b same = absurd (omega arith)
cells-push (y ∷ octets) (x ∷ bads) o b same =
    let c : LaneCell = record { value = y; mark = marked x } in ap (λ (l : List LaneCell). c ∷ l) (cells-push octets bads o b (omega arith))

-- ---- octets of bits

length-octets_of : (n : ℕ) (bs : List Bool) → length (octets_of n bs) ≡ n
unfolding octets_of
length-octets_of zero bs = refl
length-octets_of (suc n) bs = ap suc (length-octets_of n (drop 8 bs))

octets_of-push : (n : ℕ) (bs : List Bool) (o : ℕ) → length bs ≡ 8 * n → o < 256 → octets_of (suc n) (bs ++ bits 8 o) ≡ octets_of n bs ++ o ∷ []
unfolding octets_of
octets_of-push zero bs o long small =
    let none : bs ≡ [] = nil_from_length bs (omega arith) in
    let all : take 8 (bits 8 o) ≡ bits 8 o = take_all 8 (bits 8 o) (omega (arith, bits_length 8 o)) in
    let octet : value (bits 8 o) ≡ o = value_of_bits 8 o ∙ omega arith in
    rw none (ap (λ (n : ℕ). n ∷ []) (ap value all ∙ octet))
octets_of-push (suc n) bs o long small =
    let first : take 8 (bs ++ bits 8 o) ≡ take 8 bs = take-append-le 8 bs (bits 8 o) (omega arith) in
    let rest : drop 8 (bs ++ bits 8 o) ≡ drop 8 bs ++ bits 8 o = drop-append-le 8 bs (bits 8 o) (omega arith) in
    let later = octets_of-push n (drop 8 bs) o (omega (arith, length-drop 8 bs)) small in
    ap₂ {C = List ℕ} (λ x l. x ∷ l) (ap value first) (ap (octets_of (suc n)) rest ∙ later)

length-bits_of : (octets : List ℕ) → length (flat_map (bits 8) octets) ≡ 8 * length octets
length-bits_of [] = omega arith
length-bits_of (o ∷ octets) = let h = length-bits_of octets in let e = bits_length 8 o in length-append (bits 8 o) (flat_map (bits 8) octets) ∙ omega arith

pub bits_of-push : (octets : List ℕ) (o : ℕ) → flat_map (bits 8) (octets ++ o ∷ []) ≡ flat_map (bits 8) octets ++ bits 8 o
bits_of-push octets o = sym (flat_map_more (bits 8) [] octets o)

descrambled-push : (octets : List ℕ) (o x : ℕ) → x < 256
    → descrambled15 (flat_map (bits 8) octets ++ bits 8 o) ≡ descrambled15 (flat_map (bits 8) octets) ++ bits 8 x
    → descrambled_octets (octets ++ o ∷ []) ≡ descrambled_octets octets ++ x ∷ []
descrambled-push octets o x small answer =
    let n : ℕ = length octets in
    let taken : List Bool = flat_map (bits 8) octets in
    let long : length (descrambled15 taken) ≡ 8 * n = (keep_length 14 15 start15 taken).1 ∙ length-bits_of octets in
    let more : length (octets ++ o ∷ []) ≡ suc n = length_push octets o ∙ add-one n in
    ap₂ octets_of more (ap descrambled15 (bits_of-push octets o) ∙ answer) ∙ octets_of-push n (descrambled15 taken) x long small

-- ---- one reading more, and what it gives

data_cells-plain : (p : Params) (read : List Reading) → p.scr ≡ false → data_cells p read ≡ cells (octets_read p read) (bad_read p read)
unfolding data_cells
data_cells-plain p read e = cond-false p.scr _ _ e

data_cells-scrambled : (p : Params) (read : List Reading) → p.scr ≡ true
    → data_cells p read ≡ cells (descrambled_octets (octets_read p read)) (spread false false (bad_read p read))
unfolding data_cells
data_cells-scrambled p read e = cond-true p.scr _ _ e

module _ (p : Params) (read : List Reading) (r : Reading) (g : Restored)
    (next : restored p (read ++ r ∷ []) (length (read ++ r ∷ [])) ≡ restored p read (length read) ++ g ∷ []) where
  pub octets-push : octets_read p (read ++ r ∷ []) ≡ octets_read p read ++ g.octet ∷ []
  octets-push = ap (map (λ (x : Restored). x.octet)) next ∙ map_push (λ (x : Restored). x.octet) (restored p read (length read)) g

  pub bad-push : bad_read p (read ++ r ∷ []) ≡ bad_read p read ++ g.bad ∷ []
  bad-push = ap (map (λ (x : Restored). x.bad)) next ∙ map_push (λ (x : Restored). x.bad) (restored p read (length read)) g

  same-length : length (octets_read p read) ≡ length (bad_read p read)
  same-length =
      let all : List Restored = restored p read (length read) in
      length-map all (λ (x : Restored). x.octet) ∙ sym (length-map all (λ (x : Restored). x.bad))

  pub cell-plain : p.scr ≡ false → data_cells p (read ++ r ∷ []) ≡ data_cells p read ++ record { value = g.octet; mark = marked g.bad } ∷ []
  cell-plain plain =
      data_cells-plain p (read ++ r ∷ []) plain
      ∙ ap₂ cells octets-push bad-push
      ∙ cells-push (octets_read p read) (bad_read p read) g.octet g.bad same-length
      ∙ ap (λ (l : List LaneCell). l ++ record { value = g.octet; mark = marked g.bad } ∷ []) (sym (data_cells-plain p read plain))

  pub cell-scrambled : (x : ℕ) → x < 256 → p.scr ≡ true
      → descrambled15 (flat_map (bits 8) (octets_read p read) ++ bits 8 g.octet) ≡ descrambled15 (flat_map (bits 8) (octets_read p read)) ++ bits 8 x
      → data_cells p (read ++ r ∷ []) ≡ data_cells p read
      ++ record { value = x; mark = marked (last_but_one_of false false (bad_read p read) || last_of false (bad_read p read) || g.bad) } ∷ []
  cell-scrambled x small scr answer =
      let octets : List ℕ = octets_read p read in
      let bads : List Bool = bad_read p read in
      let bad : Bool = last_but_one_of false false bads || last_of false bads || g.bad in
      let same : length (descrambled_octets octets) ≡ length (spread false false bads) =
      length-octets_of (length octets) (descrambled15 (flat_map (bits 8) octets)) ∙ same-length ∙ sym (length-spread bads false false) in
      data_cells-scrambled p (read ++ r ∷ []) scr
      ∙ ap₂ cells (ap descrambled_octets octets-push ∙ descrambled-push octets g.octet x small answer) (ap (spread false false) bad-push ∙ spread-push bads false false g.bad)
      ∙ cells-push (descrambled_octets octets) (spread false false bads) x bad same
      ∙ ap (λ (l : List LaneCell). l ++ record { value = x; mark = marked bad } ∷ []) (sym (data_cells-scrambled p read scr))

pub data_cells-none : (p : Params) → data_cells p [] ≡ []
unfolding restored cells octets_of
data_cells-none p = elim (cases_Bool p.scr) [
  | inl scr ↦ data_cells-scrambled p [] scr
  | inr plain ↦ data_cells-plain p [] plain
]
