-- One reading more since the start gives one entry more.
use Rattle.std.proofs.Common.{◌≡◌, ℕ, zero, suc, ◌^◌, ◌<◌, ◌≤◌, Bool, List, [], ◌∷◌, ◌++◌, length, drop, get_or, reverse, refl, inl, inr, sym, ◌∙◌, ap, ap₂, arith, length-append, add-one}
use Rattle.std.specs.List.{flat_map}
use Rattle.std.proofs.Math.ListN.{get_or-append}
use Rattle.std.proofs.Math.Seq.{get_or-append_seam}
use Rattle.std.proofs.lemmas.Bool.{cases_Bool, cases_lt}
use Rattle.jesd_base.specs.Bits.{bits, value}
use Rattle.jesd_base.proofs.BitLemmas.{bits_length, bits_of_value, value_below}
use Rattle.lane_scramble.specs.Scrambling.{descrambled, descrambled15, start15}
use Rattle.lane_scramble.proofs.ScrambleLemmas.{goes_in_parts, keep_length}
use Rattle.link_params.specs.declared.fields.Params.{Params}
use Rattle.link_params.specs.declared.cells.LaneCell.{LaneCell}
use Rattle.link_params.specs.Lanes.{Entry, Placed, Held}
use Rattle.code_8b10b.specs.declared.character.Reading.{Reading}
use Rattle.code_8b10b.specs.declared.character.Reading.TheVariants.{Invalid}
use Rattle.char_replace.specs.declared.restored.Restored.{Restored}
use Rattle.char_replace.specs.Restoring.{given_at}
use Rattle.lane_b.specs.kept.Cells.{octets_read}
use Rattle.lane_b.specs.Loss.{ilas_length}
use Rattle.lane_b.specs.Received.{data_cells, entries_since, restored}
use Rattle.lane_b.proofs.Giving.{cell-plain, cell-scrambled}
use Rattle.lane_b.proofs.Starting.{entries-held, entries-placed}

-- places give what they gave before
restored-longer : (n : ℕ) (p : Params) (read more : List Reading) → n ≤ length read → restored p (read ++ more) n ≡ restored p read n
unfolding restored
restored-longer zero p read more le = refl
restored-longer (suc n) p read more le =
    let h = restored-longer n p read more (omega arith) in
    let here : get_or (read ++ more) n Invalid ≡ get_or read n Invalid = get_or-append read more Invalid n (omega arith) in
    ap₂ (λ xs r. xs ++ given_at p xs n r ∷ []) h here

restored-next : (p : Params) (read : List Reading) (r : Reading)
    → restored p (read ++ r ∷ []) (length (read ++ r ∷ [])) ≡ restored p read (length read) ++ given_at p (restored p read (length read)) (length read) r ∷ []
unfolding restored
restored-next p read r =
    let n : ℕ = length read in
    let more : length (read ++ r ∷ []) ≡ suc n = length-append read (r ∷ []) ∙ add-one (length read) in
    let came : get_or (read ++ r ∷ []) n Invalid ≡ r = get_or-append_seam read r [] Invalid in
    ap (restored p (read ++ r ∷ [])) more
    ∙ ap₂ (λ xs x. xs ++ given_at p xs n x ∷ []) (restored-longer n p read (r ∷ []) (omega arith)) came

-- an octet more gives eight bits more
descrambled-more : (bs : List Bool) (o : ℕ) → (x : ℕ) × (x < 256) × (descrambled15 (bs ++ bits 8 o) ≡ descrambled15 bs ++ bits 8 x)
descrambled-more bs o =
    let d : List Bool = descrambled 14 15 (reverse bs ++ start15) (bits 8 o) in
    let long : length d ≡ 8 = (keep_length 14 15 (reverse bs ++ start15) (bits 8 o)).1 ∙ bits_length 8 o in
    let low : value d < 2 ^ length d = value_below d in
    let small : value d < 256 = rw long at low in
    let same : d ≡ bits 8 (value d) = sym (bits_of_value d) ∙ ap (λ n. bits n (value d)) long in
    (value d, small, (goes_in_parts 14 15 start15 bs (bits 8 o)).1 ∙ ap (λ l. descrambled15 bs ++ l) same)

cells-more : (p : Params) (read : List Reading) (r : Reading) → (c : LaneCell) × (data_cells p (read ++ r ∷ []) ≡ data_cells p read ++ c ∷ [])
cells-more p read r =
    let g : Restored = given_at p (restored p read (length read)) (length read) r in
    let next = restored-next p read r in
    elim (cases_Bool p.scr) [
      | inl scr ↦
          let d = descrambled-more (flat_map (bits 8) (octets_read p read)) g.octet in
          (_, cell-scrambled p read r g next d.0 d.1 scr d.2)
      | inr plain ↦ (_, cell-plain p read r g next plain)
    ]

pub entries-since-more : (p : Params) (since : List Reading) (r : Reading) → (e : Entry) × (entries_since p (since ++ r ∷ []) ≡ entries_since p since ++ e ∷ [])
entries-since-more p since r = elim (cases_lt (length since) (ilas_length p)) [
  | inl short ↦ (Placed, entries-placed p since r short)
  | inr past ↦ let c = cells-more p (drop (ilas_length p) since) r in (Held c.0, entries-held p since r c.0 past c.1)
]
