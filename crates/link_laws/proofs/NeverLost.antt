-- A lane that reads the sequence and the data as they were sent is not lost: no fault, and each
-- alignment character is accepted.
use Rattle.std.proofs.Common.{◌≡◌, ℕ, zero, suc, ◌+◌, ◌-◌, ◌/◌, ◌%◌, ◌<◌, ◌≤◌, ◌==◌, nat_le, nat_lt, if◌then◌else◌, not, ◌&&◌, Bool, true, false, List, [], ◌∷◌, length, take, count_by, get_or, replicate, Option, Some, None, refl, sym, subst, ap, ap₂, ◌∙◌, arith}
use Rattle.std.proofs.lemmas.Bool.{cond-true, cond-false, le-ltb, lt-ltb, or_from}
use Rattle.link_params.specs.declared.fields.Params.{Params}
use Rattle.link_params.specs.Numbers.{period}
use Rattle.code_8b10b.specs.declared.character.Char.{Char}
use Rattle.code_8b10b.specs.declared.character.Char.TheVariants.{Data, Control}
use Rattle.code_8b10b.specs.declared.character.Reading.{Reading}
use Rattle.code_8b10b.specs.declared.character.Reading.TheVariants.{Char as Read, Invalid}
use Rattle.code_8b10b.specs.Commas.{begins}
use Rattle.char_replace.specs.Replacement.{ends_multiframe}
use Rattle.char_replace.specs.Restoring.{is_accepted, is_bad_char}
use Rattle.ilas.specs.Sequence.{ilas_char}
use Rattle.link_params.specs.Config.{config_octets}
use Rattle.std.specs.List.{slice_index}
use Rattle.lane_b.specs.Loss.{accepted_or_misplaced, alignment_at, alignments_from, faults_from, has_four_faults, has_four_misplaced, ilas_length, is_accepted_since, is_alignment, is_fault, is_lost, is_wrong_in_ilas, some_rest, stands_in_ilas, with_option}
use Rattle.link_laws.proofs.IlasGood.{allowed-lanes}

-- ---- lists

count-none : (n m : ℕ) → count_by (λ (b : Bool). b) (take n (replicate m false)) ≡ 0
count-none zero m = refl
count-none (suc n) zero = refl
count-none (suc n) (suc m) = count-none n m

no-four : (m : ℕ) → some_rest (λ rest. nat_le 4 (count_by (λ (b : Bool). b) (take 16 rest)))
    (replicate m false) ≡ false
unfolding some_rest
no-four zero = refl
no-four (suc m) = or_from _ _ (ap (nat_le 4) (count-none 16 (suc m))) (no-four m)

no-misplaced : (m : ℕ) → some_rest (begins (false ∷ false ∷ false ∷ false ∷ [])) (replicate m true)
    ≡ false
unfolding some_rest begins
no-misplaced zero = refl
no-misplaced (suc m) = no-misplaced m

faults-none : (rs : List Reading) (p : Params) (x : ℕ)
    → ((i : ℕ) → i < length rs → is_fault p (x + i) (get_or rs i Invalid) ≡ false)
    → faults_from p x rs ≡ replicate (length rs) false
unfolding faults_from
faults-none [] p x none = refl
faults-none (r ∷ rs) p x none =
    let z : x + 0 ≡ x = omega arith in
    ap₂ (λ (b : Bool) (l : List Bool). b ∷ l) (sym (ap (λ k. is_fault p k r) z)
    ∙ none 0 (omega arith))
    (faults-none rs p (suc x) (λ i lt. let e : suc x + i ≡ x + suc i = omega arith in
    ap (λ k. is_fault p k (get_or rs i Invalid)) e ∙ none (suc i) (omega arith)))

-- no alignment character is misplaced
abbrev pub IsPlaced : Option Bool → Type 0
IsPlaced None = Unit {0}
IsPlaced (Some b) = b ≡ true

with-true : (o : Option Bool) (m : ℕ) → IsPlaced o
    → (k : ℕ) × (with_option o (replicate m true) ≡ replicate k true)
with-true None m e = (m, refl)
with-true (Some b) m e = (suc m, ap {B = List Bool} (λ c. c ∷ replicate m true) e)

alignments-true : (rs : List Reading) (p : Params) (x : ℕ)
    → ((i : ℕ) → i < length rs → IsPlaced (alignment_at p (x + i) (get_or rs i Invalid)))
    → (k : ℕ) × (alignments_from p x rs ≡ replicate k true)
unfolding alignments_from
alignments-true [] p x all = (0, refl)
alignments-true (r ∷ rs) p x all =
    let z : x + 0 ≡ x = omega arith in
    let later = alignments-true rs p (suc x) (λ i lt. let e : x + suc i ≡ suc x + i = omega arith in
    subst (λ k. IsPlaced (alignment_at p k (get_or rs i Invalid))) e
    (all (suc i) (omega arith))) in
    let here : IsPlaced (alignment_at p x r) = subst (λ k. IsPlaced (alignment_at p k r)) z
    (all 0 (omega arith)) in
    let both = with-true (alignment_at p x r) later.0 here in
    (both.0, ap (with_option (alignment_at p x r)) later.1 ∙ both.1)

pub not-lost : (rs : List Reading) (p : Params)
    → ((i : ℕ) → i < length rs → is_fault p i (get_or rs i Invalid) ≡ false)
    → ((i : ℕ) → i < length rs → IsPlaced (alignment_at p i (get_or rs i Invalid)))
    → is_lost p rs ≡ false
unfolding is_lost
not-lost rs p faultless placed =
    let faults =
    faults-none rs p 0 (λ i lt. let z : 0 + i ≡ i = omega arith in
    ap (λ k. is_fault p k (get_or rs i Invalid)) z ∙ faultless i lt) in
    let aligned = alignments-true rs p 0 (λ i lt. let z : i ≡ 0 + i = omega arith in
    subst (λ k. IsPlaced (alignment_at p k (get_or rs i Invalid))) z (placed i lt)) in
    or_from (has_four_faults (faults_from p 0 rs)) (has_four_misplaced (alignments_from p 0 rs))
    (ap (some_rest (λ rest. nat_le 4 (count_by (λ (b : Bool). b) (take 16 rest)))) faults
    ∙ no-four (length rs))
    (ap (some_rest (begins (false ∷ false ∷ false ∷ false ∷ []))) aligned.1
    ∙ no-misplaced aligned.0)

-- ---- the places

-- in the sequence
pub ilas-faultless : (p : Params) (lane x : ℕ) → x < ilas_length p
    → is_fault p x (Read (ilas_char p lane x)) ≡ false
ilas-faultless p lane x inside =
    cond-true (nat_lt x (ilas_length p)) (is_wrong_in_ilas p x (Read (ilas_char p lane x)))
    (is_bad_char p (x - ilas_length p) (Read (ilas_char p lane x)))
    (lt-ltb x (ilas_length p) inside)
    ∙ ap not (allowed-lanes p lane x)

placed-of : (accepted misplaced : Bool) → (misplaced ≡ true → accepted ≡ true)
    → IsPlaced (accepted_or_misplaced accepted misplaced)
placed-of true misplaced so = refl
placed-of false false so = tt
placed-of false true so = let bad : false ≡ true = so refl in absurd (cc)

five-stands : (a b c d : Bool) (p : Params) (x v w : ℕ) → (b ≡ true → ends_multiframe p x ≡ true)
    → is_alignment
    (if a then Control 0x1C else
    (if b then Control 0x7C else (if c then Control 0x9C else (if d then Data v else Data w))))
    ≡ true
    → stands_in_ilas p x
    (if a then Control 0x1C else
    (if b then Control 0x7C else (if c then Control 0x9C else (if d then Data v else Data w))))
    ≡ true
five-stands true b c d p x v w ends e = let bad : false ≡ true = e in absurd (cc)
five-stands false true c d p x v w ends e = let is = ends refl in rw is refl
five-stands false false true d p x v w ends e = let bad : false ≡ true = e in absurd (cc)
five-stands false false false true p x v w ends e = let bad : false ≡ true = e in absurd (cc)
five-stands false false false false p x v w ends e = let bad : false ≡ true = e in absurd (cc)

ilas-stands : (p : Params) (lane x : ℕ) → is_alignment (ilas_char p lane x) ≡ true
    → stands_in_ilas p x (ilas_char p lane x) ≡ true
unfolding ilas_char
ilas-stands p lane x e =
    let n : ℕ = period p in
    five-stands (x % n == 0) (x % n + 1 == n) ((x / n == 1) && (x % n == 1))
    ((x / n == 1) && nat_le (x % n) 15) p x
    (slice_index (config_octets p lane) (x % n - 2)) (x % 256) (λ ends. ends) e

pub ilas-placed : (p : Params) (lane x : ℕ) → x < ilas_length p
    → IsPlaced (alignment_at p x (Read (ilas_char p lane x)))
ilas-placed p lane x inside =
    let c : Char = ilas_char p lane x in
    let here : is_accepted_since p x c ≡ stands_in_ilas p x c = cond-true (nat_lt x (ilas_length p))
    (stands_in_ilas p x c) (is_accepted p (x - ilas_length p) c)
    (lt-ltb x (ilas_length p) inside) in
    placed-of (is_accepted_since p x c) (is_alignment c) (λ e. here ∙ ilas-stands p lane x e)

-- in the data
pub data-faultless : (p : Params) (x : ℕ) (c : Char) → ilas_length p ≤ x
    → is_bad_char p (x - ilas_length p) (Read c) ≡ false → is_fault p x (Read c) ≡ false
data-faultless p x c past good =
    cond-false (nat_lt x (ilas_length p)) (is_wrong_in_ilas p x (Read c))
    (is_bad_char p (x - ilas_length p) (Read c)) (le-ltb x (ilas_length p) past) ∙ good

not-not : (b : Bool) → not b ≡ false → b ≡ true
not-not true e = refl
not-not false e = let bad : true ≡ false = e in absurd (cc)

good-accepted : (p : Params) (x : ℕ) (c : Char) → is_bad_char p x (Read c) ≡ false
    → is_alignment c ≡ true → is_accepted p x c ≡ true
good-accepted p x (Data o) good e = let bad : false ≡ true = e in absurd (cc)
good-accepted p x (Control o) good e = not-not (is_accepted p x (Control o)) good

pub data-placed : (p : Params) (x : ℕ) (c : Char) → ilas_length p ≤ x
    → is_bad_char p (x - ilas_length p) (Read c) ≡ false → IsPlaced (alignment_at p x (Read c))
data-placed p x c past good =
    let here : is_accepted_since p x c ≡ is_accepted p (x - ilas_length p) c =
    cond-false (nat_lt x (ilas_length p)) (stands_in_ilas p x c)
    (is_accepted p (x - ilas_length p) c) (le-ltb x (ilas_length p) past) in
    placed-of (is_accepted_since p x c) (is_alignment c)
    (λ e. here ∙ good-accepted p (x - ilas_length p) c good e)
