-- A check with one reading more.
use Rattle.std.proofs.Common.{◌≡◌, ◌≢◌, ℕ, ◌+◌, ◌-◌, ◌*◌, ◌==◌, ◌<◌, Bool, true, false, if◌then◌else◌, List, [], ◌∷◌, ◌++◌, length, take, take_all, Option, Some, None, refl, sym, ◌∙◌, ap, inl, inr, arith, length-append, eq-eqb, ne_eqb}
use Rattle.std.proofs.lemmas.Bool.{cases_lt}
use Rattle.std.proofs.lemmas.List.{take-append-le}
use Rattle.link_params.specs.declared.fields.Params.{Params}
use Rattle.link_params.specs.declared.ilas_state.IlasCause.{IlasCause}
use Rattle.link_params.specs.declared.ilas_state.IlasState.{IlasState}
use Rattle.link_params.specs.declared.ilas_state.IlasState.TheVariants.{Going, Done}
use Rattle.link_params.specs.Numbers.{period}
use Rattle.code_8b10b.specs.declared.character.Reading.{Reading}
use Rattle.ilas.specs.Checked.{cause_at, config_read, fault_or, first_fault, ilas_state}
use Rattle.ilas.specs.kept.Checks.{Checker, HasChecked, has_fault, stays, kept}
use Rattle.ilas.proofs.Faults.{first_fault-more, stays-fault, stays-self, stays-going, fault_or-stays}
use Rattle.ilas.proofs.Readings.{kept-more, kept-all}

-- the readings of the sequence
abbrev taken : Params → List Reading → List Reading
taken p rs = take (4 * period p) rs

state-is : (p : Params) (lane : ℕ) (rs : List Reading) (r : Reading)
    → ilas_state p lane (rs ++ r ∷ []) ≡ first_fault p lane (taken p (rs ++ r ∷ [])) 0 (taken p (rs ++ r ∷ [])) (if length (taken p (rs ++ r ∷ [])) == 4 * period p then Done else Going)
unfolding ilas_state
state-is p lane [] r = refl
state-is p lane (x ∷ rs) r = refl

-- a fault stays with one reading more
first-fault : (p : Params) (lane : ℕ) (rs : List Reading) (r : Reading) (state : IlasState) → has_fault state ≡ true
    → ((later : IlasState) → first_fault p lane (taken p rs) 0 (taken p rs) later ≡ stays state later)
    → (later : IlasState) → first_fault p lane (taken p (rs ++ r ∷ [])) 0 (taken p (rs ++ r ∷ [])) later ≡ stays state later
first-fault p lane rs r state fault h later =
    let n : ℕ = 4 * period p in
    elim (cases_lt (length rs) n) [
      | inl short ↦
          let more : take n (rs ++ r ∷ []) ≡ rs ++ r ∷ [] = take_all n (rs ++ r ∷ []) (omega (arith, length-append rs (r ∷ []))) in
          let all : take n rs ≡ rs = take_all n rs (omega arith) in
          let next : IlasState = fault_or (length rs) (cause_at p lane (rs ++ r ∷ []) (length rs) r) later in
          let was = rw all at (h next) in
          rw more (first_fault-more p lane rs r later ∙ was ∙ stays-fault state next later fault)
      | inr past ↦ rw (take-append-le n rs (r ∷ []) past) (h later)
    ]

pub answer-fault : (now : Checker) (p : Params) (lane : ℕ) (rs : List Reading) (r : Reading) → HasChecked now p lane rs → has_fault now.state ≡ true
    → now.state ≡ ilas_state p lane (rs ++ r ∷ [])
answer-fault now p lane rs r h fault =
    sym (state-is p lane rs r ∙ first-fault p lane rs r now.state fault h.first _ ∙ stays-self now.state _ fault)

pub checked-fault : (now : Checker) (p : Params) (lane : ℕ) (rs : List Reading) (r : Reading) → HasChecked now p lane rs → has_fault now.state ≡ true
    → HasChecked now p lane (rs ++ r ∷ [])
checked-fault now p lane rs r h fault = record {
  params = h.params;
  of_lane = h.of_lane;
  first = first-fault p lane rs r now.state fault h.first;
  goes_on = λ e. let no : true ≡ false = sym fault ∙ e in cc;
}

-- the first fault with one reading more, where there was none
first-going : (now : Checker) (p : Params) (lane : ℕ) (rs : List Reading) (r : Reading) → HasChecked now p lane rs → has_fault now.state ≡ false
    → (later : IlasState) → first_fault p lane (taken p (rs ++ r ∷ [])) 0 (taken p (rs ++ r ∷ [])) later
    ≡ fault_or (length rs) (cause_at p lane (rs ++ r ∷ []) (length rs) r) later
first-going now p lane rs r h fault later =
    let n : ℕ = 4 * period p in
    let on = h.goes_on fault in
    let short : length rs < n = omega arith in
    let more : take n (rs ++ r ∷ []) ≡ rs ++ r ∷ [] = take_all n (rs ++ r ∷ []) (omega (arith, length-append rs (r ∷ []))) in
    let all : take n rs ≡ rs = take_all n rs (omega arith) in
    let next : IlasState = fault_or (length rs) (cause_at p lane (rs ++ r ∷ []) (length rs) r) later in
    let was = rw all at (h.first next) in
    rw more (first_fault-more p lane rs r later ∙ was ∙ stays-going now.state next fault)

-- the state with one reading more, as the code gives it
abbrev pub next : Params → ℕ → List Reading → Reading → IlasState
next p lane rs r = fault_or (length rs) (cause_at p lane (rs ++ r ∷ []) (length rs) r) (if length rs == 4 * period p - 1 then Done else Going)

ends-alike : (x n : ℕ) → x < n → (x + 1 == n) ≡ (x == n - 1)
ends-alike x n lt = elim (cases_lt (x + 1) n) [
  | inl below ↦ rw (ne_eqb (x + 1) n (λ e. omega arith), ne_eqb x (n - 1) (λ e. omega arith)) refl
  | inr past ↦ rw (eq-eqb (x + 1) n (omega arith), eq-eqb x (n - 1) (omega arith)) refl
]

pub answer-going : (now : Checker) (p : Params) (lane : ℕ) (rs : List Reading) (r : Reading) → HasChecked now p lane rs → has_fault now.state ≡ false
    → next p lane rs r ≡ ilas_state p lane (rs ++ r ∷ [])
answer-going now p lane rs r h fault =
    let n : ℕ = 4 * period p in
    let on = h.goes_on fault in
    let short : length rs < n = omega arith in
    let long : length (rs ++ r ∷ []) ≡ length rs + 1 = length-append rs (r ∷ []) in
    let more : take n (rs ++ r ∷ []) ≡ rs ++ r ∷ [] = take_all n (rs ++ r ∷ []) (omega arith) in
    let end : (length (take n (rs ++ r ∷ [])) == n) ≡ (length rs == n - 1) = ap (λ xs. length xs == n) more ∙ ap (λ x. x == n) long ∙ ends-alike (length rs) n short in
    sym (state-is p lane rs r ∙ first-going now p lane rs r h fault _ ∙ ap (λ (b : Bool). fault_or (length rs) (cause_at p lane (rs ++ r ∷ []) (length rs) r) (if b then Done else Going)) end)

base-is : (b : Bool) → has_fault (if b then Done else Going) ≡ false
base-is true = refl
base-is false = refl

not-fault : (x : ℕ) (cause : Option IlasCause) (base : IlasState) → has_fault (fault_or x cause base) ≡ false → fault_or x cause base ≡ base
not-fault x (Some cause) base e = cc
not-fault x None base e = refl

pub checked-going : (now later : Checker) (p : Params) (lane : ℕ) (rs : List Reading) (r : Reading) → HasChecked now p lane rs → has_fault now.state ≡ false
    → length now.octets ≡ 14 → later.params ≡ now.params → later.lane ≡ now.lane → later.place ≡ now.place + 1 → later.state ≡ next p lane rs r
    → later.octets ≡ kept now.octets (length rs) (period p + 2) r → later.state ≢ Done → HasChecked later p lane (rs ++ r ∷ [])
checked-going now later p lane rs r h fault fourteen params of_lane place state octets more =
    let n : ℕ = 4 * period p in
    let on = h.goes_on fault in
    let long : length (rs ++ r ∷ []) ≡ length rs + 1 = length-append rs (r ∷ []) in
    let base : IlasState = if length rs == n - 1 then Done else Going in
    let cause : Option IlasCause = cause_at p lane (rs ++ r ∷ []) (length rs) r in
    let old : take (length rs - (period p + 2)) now.octets ≡ config_read p rs = rw on.place at on.octets in
    record {
      params = params ∙ h.params;
      of_lane = of_lane ∙ h.of_lane;
      first = λ s. first-going now p lane rs r h fault s ∙ fault_or-stays (length rs) cause base s (base-is (length rs == n - 1)) ∙ ap (λ t. stays t s) (sym state);
      goes_on = λ fine.
          let is_base : later.state ≡ base = state ∙ not-fault (length rs) cause base (rw state at fine) in
          record {
            place = place ∙ ap (λ x. x + 1) on.place ∙ sym long;
            more = elim (cases_lt (length rs + 1) n) [
              | inl below ↦ omega arith
              | inr past ↦
                  let last : (length rs == n - 1) ≡ true = eq-eqb (length rs) (n - 1) (omega arith) in
                  absurd (more (rw last at is_base))
            ];
            octets = rw (place, on.place, octets) (kept-more p rs r now.octets fourteen old);
          };
    }

-- what the code keeps, in terms of the readings
pub octets-next : (now : Checker) (p : Params) (lane : ℕ) (rs : List Reading) (r : Reading) (n : ℕ) (octets : List ℕ) → HasChecked now p lane rs → has_fault now.state ≡ false
    → n ≡ period now.params → octets ≡ kept now.octets now.place (n + 2) r → octets ≡ kept now.octets (length rs) (period p + 2) r
octets-next now p lane rs r n octets h fault size e =
    let on = h.goes_on fault in
    let q : n ≡ period p = size ∙ ap period h.params in
    e ∙ ap (λ x. kept now.octets x (n + 2) r) on.place ∙ ap (λ m. kept now.octets (length rs) (m + 2) r) q

-- the state that the code gives
pub state-next : (now : Checker) (p : Params) (lane : ℕ) (rs : List Reading) (r : Reading) (n : ℕ) (octets : List ℕ) (cause : Option IlasCause)
    → HasChecked now p lane rs → has_fault now.state ≡ false → length now.octets ≡ 14 → n ≡ period now.params → octets ≡ kept now.octets now.place (n + 2) r
    → ((readings : List Reading) → (now.place ≡ period now.params + 15 → config_read now.params readings ≡ octets) → cause ≡ cause_at now.params now.lane readings now.place r)
    → fault_or now.place cause (if now.place == 4 * n - 1 then Done else Going) ≡ next p lane rs r
state-next now p lane rs r n octets cause h fault fourteen size e why =
    let on = h.goes_on fault in
    let q : n ≡ period p = size ∙ ap period h.params in
    let old : take (length rs - (period p + 2)) now.octets ≡ config_read p rs = rw on.place at on.octets in
    let is = octets-next now p lane rs r n octets h fault size e in
    let read : now.place ≡ period now.params + 15 → config_read now.params (rs ++ r ∷ []) ≡ octets = λ last.
    let there : length rs ≡ period p + 15 = rw (h.params, on.place) at last in
    ap (λ s. config_read s (rs ++ r ∷ [])) h.params ∙ kept-all p rs r now.octets fourteen old there ∙ sym is in
    rw (why (rs ++ r ∷ []) read, h.params, h.of_lane, on.place, q) refl
