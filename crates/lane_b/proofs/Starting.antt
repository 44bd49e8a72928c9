-- What a lane keeps with one reading more.
use Rattle.std.proofs.Common.{◌≡◌, ◌≢◌, ℕ, suc, ◌+◌, ◌%◌, ◌==◌, ◌<◌, ◌≤◌, nat_lt, if◌then◌else◌, Bool, false, List, [], ◌∷◌, ◌++◌, Option, Some, None, length, map, take, drop, refl, sym, ◌∙◌, ap, ap₂, arith, length-append, length-drop, append_assoc, add-zero, ne_eqb}
use Rattle.std.proofs.lemmas.Bool.{cond-true, cond-false, lt-ltb, le-ltb}
use Rattle.std.proofs.lemmas.List.{append-nil, take_all, take-append-le, drop_all, drop-append-le, map_push}
use Rattle.link_params.specs.declared.fields.Params.{Params}
use Rattle.link_params.specs.declared.cells.LaneCell.{LaneCell}
use Rattle.link_params.specs.declared.ilas_state.IlasCause.{IlasCause}
use Rattle.link_params.specs.declared.ilas_state.IlasState.{IlasState}
use Rattle.link_params.specs.declared.ilas_state.IlasState.TheVariants.{Going, Done}
use Rattle.link_params.specs.Lanes.{Entry, Placed, Held}
use Rattle.link_params.specs.Numbers.{period}
use Rattle.code_8b10b.specs.declared.character.Reading.{Reading}
use Rattle.char_replace.specs.Restoring.{is_bad_char}
use Rattle.char_replace.specs.kept.Ends.{IsSerial}
use Rattle.ilas.specs.Checked.{cause_at, fault_or, first_fault, ilas_state}
use Rattle.ilas.specs.kept.Checks.{HasChecked}
use Rattle.lane_b.specs.Loss.{alignment_at, alignments_from, faults_from, ilas_length, is_fault, is_wrong_in_ilas, with_option}
use Rattle.lane_b.specs.Received.{data_cells, entries_since}
use Rattle.lane_b.specs.kept.Counts.{HasCounted}
use Rattle.lane_b.specs.kept.Cells.{HasReadData}
use Rattle.lane_b.specs.kept.Starts.{HasRead, Reader, kept_place, next_kept_place}
use Rattle.lane_b.proofs.Giving.{data_cells-none}
use Rattle.lane_b.proofs.KeptPlaces.{alignment-kept, data-mod, kept-mod, kept-next}

-- ---- faults and alignment characters

pub faults-push : (rs : List Reading) (p : Params) (x : ℕ) (r : Reading) → faults_from p x (rs ++ r ∷ []) ≡ faults_from p x rs ++ is_fault p (x + length rs) r ∷ []
unfolding faults_from
faults-push [] p x r = rw add-zero refl
faults-push (q ∷ rs) p x r =
    let e : suc x + length rs ≡ x + length (q ∷ rs) = omega arith in
    let f : Bool = is_fault p x q in
    ap (λ (l : List Bool). f ∷ l) (faults-push rs p (suc x) r ∙ ap (λ n. faults_from p (suc x) rs ++ is_fault p n r ∷ []) e)

with_option-append : (a : Option Bool) (xs ys : List Bool) → with_option a (xs ++ ys) ≡ with_option a xs ++ ys
with_option-append (Some b) xs ys = refl
with_option-append None xs ys = refl

pub alignments-push : (rs : List Reading) (p : Params) (x : ℕ) (r : Reading)
    → alignments_from p x (rs ++ r ∷ []) ≡ alignments_from p x rs ++ with_option (alignment_at p (x + length rs) r) []
unfolding alignments_from
alignments-push [] p x r = rw add-zero refl
alignments-push (q ∷ rs) p x r =
    let e : suc x + length rs ≡ x + length (q ∷ rs) = omega arith in
    let a : Option Bool = alignment_at p x q in
    ap (with_option a) (alignments-push rs p (suc x) r ∙ ap (λ n. alignments_from p (suc x) rs ++ with_option (alignment_at p n r) []) e)
    ∙ with_option-append a (alignments_from p (suc x) rs) (with_option (alignment_at p (x + length (q ∷ rs)) r) [])

-- ---- the check of the sequence

pub fault_or-not_done : (x : ℕ) (cause : Option IlasCause) (s : IlasState) → s ≢ Done → fault_or x cause s ≢ Done
fault_or-not_done x (Some cause) s going e = cc
fault_or-not_done x None s going e = going e

first_fault-not_done : (xs : List Reading) (p : Params) (lane : ℕ) (rs : List Reading) (x : ℕ) (s : IlasState) → s ≢ Done → first_fault p lane rs x xs s ≢ Done
unfolding first_fault
first_fault-not_done [] p lane rs x s going = going
first_fault-not_done (q ∷ xs) p lane rs x s going = fault_or-not_done x (cause_at p lane rs x q) _ (first_fault-not_done xs p lane rs (suc x) s going)

-- the sequence is not done before its last place
pub state-not_done : (rs : List Reading) (p : Params) (lane : ℕ) → length rs < ilas_length p → ilas_state p lane rs ≢ Done
unfolding ilas_state
state-not_done [] p lane short = λ e. cc
state-not_done (q ∷ rs) p lane short =
    let all : take (ilas_length p) (q ∷ rs) ≡ q ∷ rs = take_all (ilas_length p) (q ∷ rs) (omega arith) in
    let apart : (length (q ∷ rs) == ilas_length p) ≡ false = ne_eqb (length (q ∷ rs)) (ilas_length p) (λ e. omega arith) in
    rw (all, apart) (first_fault-not_done (q ∷ rs) p lane (q ∷ rs) 0 Going (λ e. cc))

-- after its last place the state stays
pub state-stays : (rs : List Reading) (p : Params) (lane : ℕ) (r : Reading) → 1 ≤ length rs → ilas_length p ≤ length rs
    → ilas_state p lane (rs ++ r ∷ []) ≡ ilas_state p lane rs
unfolding ilas_state
state-stays [] p lane r some past = absurd (omega arith)
state-stays (q ∷ rs) p lane r some past =
    ap (λ (t : List Reading). first_fault p lane t 0 t (if length t == ilas_length p then Done else Going)) (take-append-le (ilas_length p) (q ∷ rs) (r ∷ []) past)

-- ---- entries

pub entries-placed : (p : Params) (rs : List Reading) (r : Reading) → length rs < ilas_length p → entries_since p (rs ++ r ∷ []) ≡ entries_since p rs ++ Placed ∷ []
entries-placed p rs r short =
    let n : ℕ = ilas_length p in
    let more : length (rs ++ r ∷ []) ≡ length rs + 1 = length-append rs (r ∷ []) in
    let of : List Reading → List Entry = map (λ (x : Reading). Placed) in
    let before : entries_since p rs ≡ of rs =
    ap₂ (λ xs ys. of xs ++ map Held (data_cells p ys)) (take_all n rs (omega arith)) (drop_all n rs (omega arith))
    ∙ ap (λ cs. of rs ++ map Held cs) (data_cells-none p) ∙ append-nil (of rs) in
    let after : entries_since p (rs ++ r ∷ []) ≡ of (rs ++ r ∷ []) =
    ap₂ (λ xs ys. of xs ++ map Held (data_cells p ys)) (take_all n (rs ++ r ∷ []) (omega arith)) (drop_all n (rs ++ r ∷ []) (omega arith))
    ∙ ap (λ cs. of (rs ++ r ∷ []) ++ map Held cs) (data_cells-none p) ∙ append-nil (of (rs ++ r ∷ [])) in
    after ∙ map_push (λ (x : Reading). Placed) rs r ∙ ap (λ (l : List Entry). l ++ Placed ∷ []) (sym before)

pub entries-held : (p : Params) (rs : List Reading) (r : Reading) (c : LaneCell) → ilas_length p ≤ length rs
    → data_cells p (drop (ilas_length p) rs ++ r ∷ []) ≡ data_cells p (drop (ilas_length p) rs) ++ c ∷ []
    → entries_since p (rs ++ r ∷ []) ≡ entries_since p rs ++ Held c ∷ []
entries-held p rs r c past gives =
    let n : ℕ = ilas_length p in
    let of : List Reading → List Entry = map (λ (x : Reading). Placed) in
    let held : List LaneCell = data_cells p (drop n rs) in
    ap₂ (λ xs ys. of xs ++ map Held (data_cells p ys)) (take-append-le n rs (r ∷ []) past) (drop-append-le n rs (r ∷ []) past)
    ∙ ap (λ cs. of (take n rs) ++ map Held cs) gives
    ∙ ap (λ (l : List Entry). of (take n rs) ++ l) (map_push Held held c)
    ∙ sym (append_assoc (of (take n rs)) (map Held held) (Held c ∷ []))

-- ---- a place of the sequence, and one of data

pub fault-in_ilas : (p : Params) (n : ℕ) (r : Reading) → n < ilas_length p → is_fault p n r ≡ is_wrong_in_ilas p n r
fault-in_ilas p n r short = cond-true (nat_lt n (ilas_length p)) _ _ (lt-ltb n (ilas_length p) short)

pub fault-in_data : (p : Params) (rs : List Reading) (r : Reading) → ilas_length p ≤ length rs
    → is_fault p (length rs) r ≡ is_bad_char p (length (drop (ilas_length p) rs)) r
fault-in_data p rs r past =
    cond-false (nat_lt (length rs) (ilas_length p)) _ _ (le-ltb (length rs) (ilas_length p) past)
    ∙ ap (λ x. is_bad_char p x r) (sym (length-drop (ilas_length p) rs))

pub data-none : (p : Params) (rs : List Reading) (r : Reading) → length rs < ilas_length p → drop (ilas_length p) (rs ++ r ∷ []) ≡ drop (ilas_length p) rs
data-none p rs r short =
    let more : length (rs ++ r ∷ []) ≡ length rs + 1 = length-append rs (r ∷ []) in
    drop_all (ilas_length p) (rs ++ r ∷ []) (omega arith) ∙ sym (drop_all (ilas_length p) rs (omega arith))

pub data-more : (p : Params) (rs : List Reading) (r : Reading) → ilas_length p ≤ length rs → drop (ilas_length p) (rs ++ r ∷ []) ≡ drop (ilas_length p) rs ++ r ∷ []
data-more p rs r past = drop-append-le (ilas_length p) rs (r ∷ []) past

pub data-place : (p : Params) (rs : List Reading) (place : ℕ) → place ≡ kept_place (period p) (length rs) → ilas_length p ≤ length rs
    → place % period p ≡ length (drop (ilas_length p) rs) % period p
data-place p rs place at past =
    ap (λ x. x % period p) at ∙ kept-mod (period p) (length rs) ∙ sym (data-mod (period p) (length rs) past)
    ∙ ap (λ x. x % period p) (sym (length-drop (ilas_length p) rs))

-- ---- all that is kept

pub has_read-next : (now later : Reader) (p : Params) (lane : ℕ) (since : List Reading) (r : Reading) (fault : Bool) (a : Option Bool) → IsSerial p → 1 ≤ period p
    → HasRead now p lane since → later.params ≡ p → later.place ≡ next_kept_place (period p) now.place
    → fault ≡ is_fault p (length since) r → a ≡ alignment_at p now.place r
    → HasCounted later.loss (faults_from p 0 since ++ fault ∷ []) (alignments_from p 0 since ++ with_option a [])
    → (length (since ++ r ∷ []) < ilas_length p → HasChecked later.check p lane (since ++ r ∷ []))
    → later.ilas ≡ ilas_state p lane (since ++ r ∷ [])
    → HasReadData later.octets p (drop (ilas_length p) (since ++ r ∷ []))
    → HasRead later p lane (since ++ r ∷ [])
has_read-next now later p lane since r fault a serial some h params place faulty aligned loss check ilas octets =
    let n : ℕ = length since in
    let long : length (since ++ r ∷ []) ≡ n + 1 = length-append since (r ∷ []) in
    let none : 0 + n ≡ n = omega arith in
    let faults : faults_from p 0 (since ++ r ∷ []) ≡ faults_from p 0 since ++ fault ∷ [] =
    faults-push since p 0 r ∙ ap (λ (b : Bool). faults_from p 0 since ++ b ∷ []) (ap (λ x. is_fault p x r) none ∙ sym faulty) in
    let alignments : alignments_from p 0 (since ++ r ∷ []) ≡ alignments_from p 0 since ++ with_option a [] =
    alignments-push since p 0 r ∙ ap (λ (b : Option Bool). alignments_from p 0 since ++ with_option b []) (ap (λ x. alignment_at p x r) none ∙ sym (alignment-kept p n r serial) ∙ ap (λ x. alignment_at p x r) (sym h.place) ∙ sym aligned) in
    record {
      params = params;
      place = place ∙ ap (next_kept_place (period p)) h.place ∙ kept-next (period p) n some ∙ ap (kept_place (period p)) (sym long);
      check = check;
      ilas = ilas;
      loss = rw (faults, alignments) loss;
      octets = octets;
    }
