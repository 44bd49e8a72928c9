-- The first edge, and phases from it.
use Rattle.std.proofs.Common.{◌≡◌, ℕ, zero, suc, ◌+◌, ◌-◌, ◌%◌, ◌<◌, ◌≤◌, ◌&&◌, nat_lt, if◌then◌else◌, Bool, true, false, List, [], ◌∷◌, ◌++◌, length, get_or, Option, Some, None, ◌⊎◌, inl, inr, refl, sym, ap, ◌∙◌, length-append, arith}
use Rattle.std.specs.Option.{option_and_then, option_map}
use Rattle.std.proofs.Math.Nat.{mod-add-mod, mod-eq_of_lt}
use Rattle.std.proofs.lemmas.Bool.{cases_Bool, cases_lt}
use Rattle.std.proofs.lemmas.Bool.Decides.{nat_tests}
use Rattle.std.proofs.lemmas.List.{get_or_append_left, get_or_past, get_or_push}
use Rattle.jesd_base.specs.Search.{first_from, IsLeast}
use Rattle.sysref_clock.specs.Clocks.{first_edge, phase_after, off_after}
use Rattle.sysref_clock.specs.laws.ClockLaws.{IsFirstEdge, PhaseIsOfFirst, NextPhase}

-- ---- the first edge

least_later : (test : ℕ → Bool) (p x : ℕ) → test p ≡ false → IsLeast test (suc p) x → IsLeast test p x
least_later test p x h later =
    let f = later.from in
    record {
      from = omega arith;
      passes = later.passes;
      least = λ y low high. elim (cases_lt p y) [
        | inl above ↦ later.least y (omega arith) high
        | inr here ↦ let e : y ≡ p = omega arith in rw e h
      ];
    }

none_later : (test : ℕ → Bool) (n p : ℕ) → test p ≡ false → ((y : ℕ) → suc p ≤ y → y < suc p + n → test y ≡ false)
    → (y : ℕ) → p ≤ y → y < p + suc n → test y ≡ false
none_later test n p h later y low high = elim (cases_lt p y) [
  | inl above ↦ later y (omega arith) (omega arith)
  | inr here ↦ let e : y ≡ p = omega arith in rw e h
]

-- the search ends at the least number that passes, or none passes
search_cases : (test : ℕ → Bool) (n p : ℕ) → ((x : ℕ) × (first_from test n p ≡ Some x) × IsLeast test p x × (x < p + n))
    ⊎ ((first_from test n p ≡ None) × ((y : ℕ) → p ≤ y → y < p + n → test y ≡ false))
unfolding first_from
search_cases test zero p = inr (refl, λ y low high. absurd (omega arith))
search_cases test (suc n) p = elim (cases_Bool (test p)) [
  | inl here ↦ inl (p, rw here refl, record { from = omega arith; passes = here; least = λ y low high. absurd (omega arith) }, omega arith)
  | inr apart ↦ elim (search_cases test n (suc p)) [
    | inl later ↦ inl (later.0, rw apart later.1, least_later test p later.0 apart later.2, let b = later.3 in omega arith)
    | inr none ↦ inr (rw apart none.0, none_later test n p apart none.1)
  ]
]

-- there is a first edge, or no edge
edge_cases : (edges : List Bool) → ((x : ℕ) × (first_edge edges ≡ Some x) × IsFirstEdge edges x × (x < length edges))
    ⊎ ((first_edge edges ≡ None) × ((y : ℕ) → get_or edges y false ≡ false))
edge_cases edges = elim (search_cases (λ i. get_or edges i false) (length edges) 0) [
  | inl f ↦
      let least = f.2 in
      inl (f.0, f.1, record { comes = least.passes; first = λ y lt. least.least y (omega arith) lt }, let b = f.3 in omega arith)
  | inr none ↦ inr (
    none.0,
    λ y. elim (cases_lt y (length edges)) [
      | inl inside ↦ none.1 y (omega arith) (omega arith)
      | inr past ↦ get_or_past edges y false past
    ],
  )
]

one_first : (edges : List Bool) (x y : ℕ) → IsFirstEdge edges x → IsFirstEdge edges y → x ≡ y
one_first edges x y a b = elim (cases_lt x y) [
  | inl less ↦ let e : true ≡ false = sym a.comes ∙ b.first x less in cc
  | inr no_less ↦ elim (cases_lt y x) [
    | inl less ↦ let e : true ≡ false = sym b.comes ∙ a.first y less in cc
    | inr same ↦ omega arith
  ]
]

first_edge-is : (edges : List Bool) (x : ℕ) → IsFirstEdge edges x → first_edge edges ≡ Some x
first_edge-is edges x h = elim (edge_cases edges) [
  | inl f ↦ f.1 ∙ ap Some (one_first edges f.0 x f.2 h)
  | inr none ↦ let e : true ≡ false = sym h.comes ∙ none.1 x in cc
]

first_edge-none : (edges : List Bool) → ((y : ℕ) → get_or edges y false ≡ false) → first_edge edges ≡ None
first_edge-none edges nowhere = elim (edge_cases edges) [
  | inl f ↦ let least = f.2 in let e : true ≡ false = sym least.comes ∙ nowhere f.0 in cc
  | inr none ↦ none.0
]

-- ---- phases

phase_after-first : (period : ℕ) (edges : List Bool) (x : ℕ) → IsFirstEdge edges x → phase_after period edges ≡ Some ((length edges - 1 - x) % period)
unfolding phase_after
phase_after-first period edges x h = ap (option_map (λ y. (length edges - 1 - y) % period)) (first_edge-is edges x h)

phase_after-none : (period : ℕ) (edges : List Bool) → ((y : ℕ) → get_or edges y false ≡ false) → phase_after period edges ≡ None
unfolding phase_after
phase_after-none period edges none = ap (option_map (λ y. (length edges - 1 - y) % period)) (first_edge-none edges none)

pub no_edge : (period : ℕ) (edges : List Bool) → phase_after period edges ≡ None → (y : ℕ) → get_or edges y false ≡ false
no_edge period edges e = elim (edge_cases edges) [
  | inl f ↦ let is = phase_after-first period edges f.0 f.2 in cc
  | inr none ↦ none.1
]

pub phase_is_of_first : PhaseIsOfFirst
phase_is_of_first period edges = (phase_after-first period edges, no_edge period edges, phase_after-none period edges)

length-push : (edges : List Bool) (edge : Bool) → length (edges ++ edge ∷ []) ≡ length edges + 1
length-push edges edge = length-append edges (edge ∷ [])

first-push : (edges : List Bool) (edge : Bool) (x : ℕ) → IsFirstEdge edges x → x < length edges → IsFirstEdge (edges ++ edge ∷ []) x
first-push edges edge x h lt = record {
  comes = get_or_append_left edges (edge ∷ []) false x lt ∙ h.comes;
  first = λ y less. get_or_append_left edges (edge ∷ []) false y (omega arith) ∙ h.first y less;
}

pub next_phase : NextPhase
next_phase period edges edge p some e = elim (edge_cases edges) [
  | inl f ↦
      let x : ℕ = f.0 in
      let lt : x < length edges = f.3 in
      let d : ℕ = length edges - 1 - x in
      let was : phase_after period edges ≡ Some (d % period) = phase_after-first period edges x f.2 in
      let is : d % period ≡ p = cc in
      let l = length-push edges edge in
      let more : length (edges ++ edge ∷ []) - 1 - x ≡ d + 1 = omega arith in
      phase_after-first period (edges ++ edge ∷ []) x (first-push edges edge x f.2 lt)
      ∙ ap (λ n. Some (n % period)) more
      ∙ ap Some (sym (mod-add-mod d period 1))
      ∙ ap (λ n. Some ((n + 1) % period)) is
  | inr none ↦ let was = phase_after-none period edges none.1 in cc
]

pub first_phase : (period : ℕ) (edges : List Bool) → 0 < period → phase_after period edges ≡ None → phase_after period (edges ++ true ∷ []) ≡ Some 0
first_phase period edges some e =
    let x : ℕ = length edges in
    let none = no_edge period edges e in
    let first : IsFirstEdge (edges ++ true ∷ []) x = record {
      comes = get_or_push edges true false x refl;
      first = λ y less. get_or_append_left edges (true ∷ []) false y less ∙ none y;
    } in
    let l = length-push edges true in
    let zero : length (edges ++ true ∷ []) - 1 - x ≡ 0 = omega arith in
    phase_after-first period (edges ++ true ∷ []) x first ∙ ap (λ n. Some (n % period)) zero ∙ ap Some (mod-eq_of_lt some)

pub still_none : (period : ℕ) (edges : List Bool) → phase_after period edges ≡ None → phase_after period (edges ++ false ∷ []) ≡ None
still_none period edges e =
    let none = no_edge period edges e in
    phase_after-none period (edges ++ false ∷ []) (λ y. elim (cases_lt y (length edges)) [
      | inl inside ↦ get_or_append_left edges (false ∷ []) false y inside ∙ none y
      | inr past ↦ elim (cases_lt (length edges) y) [
        | inl after ↦ let l = length-push edges false in get_or_past (edges ++ false ∷ []) y false (omega arith)
        | inr here ↦ get_or_push edges false false y (omega arith)
      ]
    ])

-- what is told of an edge at this phase
pub off_at : Option ℕ → Bool → Option ℕ
off_at phase edge = option_and_then (λ p. if edge && nat_lt 0 p then Some p else None) phase

off_after-push : (period : ℕ) (edges : List Bool) (edge : Bool) → off_after period (edges ++ edge ∷ []) ≡ off_at (phase_after period (edges ++ edge ∷ [])) edge
unfolding off_after off_at
off_after-push period edges edge =
    let l = length-push edges edge in
    ap (off_at (phase_after period (edges ++ edge ∷ []))) (get_or_push edges edge false (length (edges ++ edge ∷ []) - 1) (omega arith))

pub off_after-is : (phase : Option ℕ) (period : ℕ) (edges : List Bool) (edge : Bool) → phase ≡ phase_after period (edges ++ edge ∷ []) → off_at phase edge ≡ off_after period (edges ++ edge ∷ [])
off_after-is phase period edges edge e = ap (λ o. off_at o edge) e ∙ sym (off_after-push period edges edge)

pub off_at-some : (p : ℕ) → 0 < p → off_at (Some p) true ≡ Some p
unfolding off_at
off_at-some p some = grind (arith, nat_tests)

pub off_at-zero : (edge : Bool) → off_at (Some 0) edge ≡ None
unfolding off_at
off_at-zero true = refl
off_at-zero false = refl

pub off_at-no_edge : (phase : Option ℕ) → off_at phase false ≡ None
unfolding off_at
off_at-no_edge None = refl
off_at-no_edge (Some p) = refl

pub off_at-none : (edge : Bool) → off_at None edge ≡ None
unfolding off_at
off_at-none edge = refl

pub no_phase : (period : ℕ) → phase_after period [] ≡ None
unfolding phase_after first_from
no_phase period = refl
