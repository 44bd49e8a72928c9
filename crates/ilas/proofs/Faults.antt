-- Faults of a list of readings, and of one more.
use Rattle.std.proofs.Common.{◌≡◌, ℕ, suc, ◌+◌, ◌-◌, ◌==◌, ◌≤◌, nat_le, nat_lt, ◌&&◌, true, false, List, [], ◌∷◌, ◌++◌, length, take, drop, map, Option, Some, None, refl, sym, ◌∙◌, ap, ap₂, inl, inr, arith, add-zero, eqb-true, length-drop}
use Rattle.std.proofs.lemmas.Bool.{cases_Bool}
use Rattle.std.proofs.lemmas.List.{take-append-le, drop-append-le}
use Rattle.link_params.specs.declared.fields.Params.{Params}
use Rattle.link_params.specs.declared.ilas_state.IlasCause.{IlasCause}
use Rattle.link_params.specs.declared.ilas_state.IlasState.{IlasState}
use Rattle.link_params.specs.declared.ilas_state.IlasState.TheVariants.{Idle, Going, Done, Fault}
use Rattle.link_params.specs.Numbers.{period}
use Rattle.code_8b10b.specs.declared.character.Reading.{Reading}
use Rattle.code_8b10b.specs.declared.character.Reading.TheVariants.{Char as Read, Disparity, Invalid}
use Rattle.ilas.specs.Sequence.{ilas_char}
use Rattle.ilas.specs.Checked.{cause_at, config_cause, config_read, fault_or, first_fault, is_allowed}
use Rattle.ilas.specs.kept.Checks.{has_fault, stays}
use Rattle.code_8b10b.specs.Reads.{octet_of_char, octet_read}

pub config_cause-same : (p : Params) (lane : ℕ) (rs others : List Reading) (i o : ℕ) → (i ≡ 13 → config_read p rs ≡ config_read p others)
    → config_cause p lane rs i o ≡ config_cause p lane others i o
config_cause-same p lane rs others i o same = elim (cases_Bool (i == 13)) [
  | inl here ↦ let e = same (eqb-true i 13 here) in rw (here, e) refl
  | inr apart ↦ rw apart refl
]

pub cause_at-same : (p : Params) (lane : ℕ) (rs others : List Reading) (x : ℕ) (r : Reading) → (x ≡ period p + 15 → config_read p rs ≡ config_read p others)
    → cause_at p lane rs x r ≡ cause_at p lane others x r
unfolding cause_at
cause_at-same p lane rs others x Invalid same = refl
cause_at-same p lane rs others x (Disparity c) same = refl
cause_at-same p lane rs others x (Read c) same = elim (cases_Bool (is_allowed (ilas_char p lane x) c)) [
  | inr wrong ↦ rw wrong refl
  | inl allowed ↦ elim (cases_Bool (nat_le (period p + 2) x && nat_lt x (period p + 2 + 14))) [
    | inr outside ↦ rw (allowed, outside) refl
    | inl inside ↦ rw (allowed, inside) (config_cause-same p lane rs others (x - (period p + 2)) (octet_of_char c) (λ e. same (omega arith)))
  ]
]

-- later readings change no configuration octet
pub config_read-append : (p : Params) (rs more : List Reading) → period p + 16 ≤ length rs → config_read p (rs ++ more) ≡ config_read p rs
config_read-append p rs more long =
    let split = drop-append-le (period p + 2) rs more (omega arith) in
    let room : 14 ≤ length (drop (period p + 2) rs) = omega (arith, length-drop (period p + 2) rs) in
    ap (λ xs. map octet_read (take 14 xs)) split ∙ ap (map octet_read) (take-append-le 14 (drop (period p + 2) rs) more room)

pub first_fault-append : (p : Params) (lane : ℕ) (rs : List Reading) (x : ℕ) (xs ys : List Reading) (s : IlasState)
    → first_fault p lane rs x (xs ++ ys) s ≡ first_fault p lane rs x xs (first_fault p lane rs (x + length xs) ys s)
unfolding first_fault
first_fault-append p lane rs x [] ys s = rw add-zero refl
first_fault-append p lane rs x (r ∷ xs) ys s =
    let e : suc x + length xs ≡ x + length (r ∷ xs) = omega arith in
    ap (fault_or x (cause_at p lane rs x r))
    (first_fault-append p lane rs (suc x) xs ys s ∙ ap (λ n. first_fault p lane rs (suc x) xs (first_fault p lane rs n ys s)) e)

pub first_fault-same : (p : Params) (lane : ℕ) (rs more : List Reading) (x : ℕ) (xs : List Reading) (s : IlasState) → x + length xs ≤ length rs
    → first_fault p lane (rs ++ more) x xs s ≡ first_fault p lane rs x xs s
unfolding first_fault
first_fault-same p lane rs more x [] s room = refl
first_fault-same p lane rs more x (r ∷ xs) s room =
    ap₂ (fault_or x) (cause_at-same p lane (rs ++ more) rs x r (λ e. config_read-append p rs more (omega arith)))
    (first_fault-same p lane rs more (suc x) xs s (omega arith))

-- the fault of one reading more
pub first_fault-more : (p : Params) (lane : ℕ) (rs : List Reading) (r : Reading) (s : IlasState)
    → first_fault p lane (rs ++ r ∷ []) 0 (rs ++ r ∷ []) s ≡ first_fault p lane rs 0 rs (fault_or (length rs) (cause_at p lane (rs ++ r ∷ []) (length rs) r) s)
unfolding first_fault
first_fault-more p lane rs r s =
    let e : 0 + length rs ≡ length rs = omega arith in
    let all : List Reading = rs ++ r ∷ [] in
    first_fault-append p lane all 0 rs (r ∷ []) s
    ∙ ap (λ n. first_fault p lane all 0 rs (first_fault p lane all n (r ∷ []) s)) e
    ∙ first_fault-same p lane rs (r ∷ []) 0 rs (fault_or (length rs) (cause_at p lane all (length rs) r) s) (omega arith)

pub stays-fault : (state a b : IlasState) → has_fault state ≡ true → stays state a ≡ stays state b
stays-fault (Fault x cause) a b e = refl
stays-fault Idle a b e = cc
stays-fault Going a b e = cc
stays-fault Done a b e = cc

pub stays-self : (state later : IlasState) → has_fault state ≡ true → stays state later ≡ state
stays-self (Fault x cause) later e = refl
stays-self Idle later e = cc
stays-self Going later e = cc
stays-self Done later e = cc

pub stays-going : (state later : IlasState) → has_fault state ≡ false → stays state later ≡ later
stays-going (Fault x cause) later e = cc
stays-going Idle later e = refl
stays-going Going later e = refl
stays-going Done later e = refl

pub fault_or-stays : (x : ℕ) (cause : Option IlasCause) (base later : IlasState) → has_fault base ≡ false → fault_or x cause later ≡ stays (fault_or x cause base) later
fault_or-stays x (Some cause) base later e = refl
fault_or-stays x None base later e = sym (stays-going base later e)
