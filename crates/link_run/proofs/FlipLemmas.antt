-- Ascending lists of bits.
use Rattle.std.proofs.Common.{◌≡◌, ◌≢◌, ◌<◌, ◌≤◌, ℕ, zero, suc, ◌+◌, ◌%◌, ◌==◌, Bool, true, false, List, [], ◌∷◌, length, get_or, take, refl, sym, ap, ap₂, ◌∙◌, subst, inl, inr, arith, nat_le, nat_lt}
use Rattle.std.specs.Prelude.{All, count_by, filter, not, ◌&&◌, ◌||◌, slice_index, Ok, Err}
use Rattle.std.specs.List.{insert, remove}
use Rattle.std.specs.List.Sorted.{IsStrictlyIncreasing, IsBinarySearchResult}
use Rattle.std.specs.Ordering.{nat_cmp}
use Rattle.std.proofs.lemmas.Bool.{cases_Bool, cases_lt, cases_order, eq-eqb, ne_eqb, eqb-true, lt-ltb, le-ltb, le-leb, lt-leb, or_from, and_left, and_right}
use Rattle.std.proofs.lemmas.List.{get_or_default, take_all}
use Rattle.std.proofs.lemmas.List.Folds.{list_any_none}
use Rattle.std.proofs.lemmas.List.Sorted.{searched}
use Rattle.std.proofs.lemmas.List.Sums.{count_by_more_yes, count_by_more_no}
use Rattle.std.proofs.lemmas.Map.Keys.{sorted_from_strictly_increasing, non_decreasing_from_sorted}
use Rattle.jesd_base.specs.Bits.{add}
use Rattle.line_model.specs.LineBits.{is_flipped}
use Rattle.scenario.specs.declared.plan.Flip.{Flip}
use Rattle.scenario.specs.Plans.{Plan, numbers_from}
use Rattle.link_model.specs.Carried.{covers, inverted_bits, is_inverted}

-- strictly ascending, from at least a
abbrev Ascends : List ℕ → ℕ → Type 0
Ascends [] a = Unit {0}
Ascends (x ∷ xs) a = (a ≤ x) × Ascends xs (suc x)

ascends-from : (xs : List ℕ) (a : ℕ) → (0 < length xs → a ≤ get_or xs 0 0) → IsStrictlyIncreasing xs
    → Ascends xs a
ascends-from [] a least up = tt
ascends-from (x ∷ xs) a least up = (
  least (omega arith),
  ascends-from xs (suc x) (λ some. omega (arith, up 0 (omega arith)))
      (λ k below. let e : suc k + 1 ≡ suc (k + 1) = omega arith in
      subst (λ n. slice_index xs k < slice_index (x ∷ xs) n) e (up (suc k) (omega arith))),
)

ascending : (xs : List ℕ) → IsStrictlyIncreasing xs → Ascends xs 0
ascending xs up = ascends-from xs 0 (λ some. omega arith) up

first-from : (xs : List ℕ) (a : ℕ) → Ascends xs a → 0 < length xs → a ≤ get_or xs 0 0
first-from [] a h some = absurd (omega arith)
first-from (x ∷ xs) a h some = h.0

increasing-from : (xs : List ℕ) (a : ℕ) → Ascends xs a → (k : ℕ) → k + 1 < length xs
    → slice_index xs k < slice_index xs (k + 1)
increasing-from [] a h k below = absurd (omega arith)
increasing-from (x ∷ xs) a h zero below = let f = first-from xs (suc x) h.1 (omega arith) in
    omega arith
increasing-from (x ∷ xs) a h (suc k) below =
    let e : suc (k + 1) ≡ suc k + 1 = omega arith in
    subst (λ n. slice_index xs k < slice_index (x ∷ xs) n) e
    (increasing-from xs (suc x) h.1 k (omega arith))

raised : (xs : List ℕ) (a b : ℕ) → Ascends xs a → (0 < length xs → b ≤ get_or xs 0 0) → Ascends xs b
raised [] a b h least = tt
raised (x ∷ xs) a b h least = (least (omega arith), h.1)

none-below : (xs : List ℕ) (a i : ℕ) → Ascends xs a → i < a → is_flipped xs i ≡ false
none-below [] a i h low = refl
none-below (x ∷ xs) a i h low =
    let from = h.0 in
    or_from (x == i) (is_flipped xs i) (ne_eqb x i (λ same. omega arith))
    (none-below xs (suc x) i h.1 (omega arith))

at-least : (xs : List ℕ) (a k : ℕ) → Ascends xs a → k < length xs → a ≤ get_or xs k 0
at-least [] a k h below = absurd (omega arith)
at-least (x ∷ xs) a zero h below = h.0
at-least (x ∷ xs) a (suc k) h below = let from = h.0 in
    let g = at-least xs (suc x) k h.1 (omega arith) in omega arith

-- ---- one bit comes or goes

or-exchanged : (a b c : Bool) → (a || (b || c)) ≡ (b || (a || c))
or-exchanged true true c = refl
or-exchanged true false c = refl
or-exchanged false b c = refl

insert-has : (xs : List ℕ) (at y i : ℕ)
    → is_flipped (insert xs at y) i ≡ ((y == i) || is_flipped xs i)
insert-has [] zero y i = refl
insert-has [] (suc at) y i = refl
insert-has (x ∷ xs) zero y i = refl
insert-has (x ∷ xs) (suc at) y i = ap (λ b. (x == i) || b) (insert-has xs at y i)
    ∙ or-exchanged (x == i) (y == i) (is_flipped xs i)

insert-ascends : (xs : List ℕ) (at a y : ℕ) → Ascends xs a → at ≤ length xs → a ≤ y
    → ((k : ℕ) → k < at → get_or xs k 0 < y)
    → ((k : ℕ) → at ≤ k → k < length xs → y < get_or xs k 0) → Ascends (insert xs at y) a
insert-ascends [] zero a y h within from below above = (from, tt)
insert-ascends [] (suc at) a y h within from below above = absurd (omega arith)
insert-ascends (x ∷ xs) zero a y h within from below above =
    (from, (omega (arith, above 0 (omega arith) (omega arith)), h.1))
insert-ascends (x ∷ xs) (suc at) a y h within from below above = (
  h.0,
  insert-ascends xs at (suc x) y h.1 (omega arith) (omega (arith, below 0 (omega arith)))
      (λ k low. below (suc k) (omega arith))
      (λ k low high. above (suc k) (omega arith) (omega arith)),
)

remove-ascends : (xs : List ℕ) (at a : ℕ) → Ascends xs a → Ascends (remove xs at) a
remove-ascends [] zero a h = tt
remove-ascends [] (suc at) a h = tt
remove-ascends (x ∷ xs) zero a h = let from = h.0 in
    raised xs (suc x) a h.1 (λ some. let f = first-from xs (suc x) h.1 some in omega arith)
remove-ascends (x ∷ xs) (suc at) a h = (h.0, remove-ascends xs at (suc x) h.1)

remove-has : (xs : List ℕ) (at i a : ℕ) → Ascends xs a → at < length xs
    → is_flipped (remove xs at) i ≡ add (get_or xs at 0 == i) (is_flipped xs i)
remove-has [] at i a h below = absurd (omega arith)
remove-has (x ∷ xs) zero i a h below = elim (cases_Bool (x == i)) [
  | inl holds ↦ let e = eqb-true x i holds in rw holds (none-below xs (suc x) i h.1 (omega arith))
  | inr fails ↦ rw fails refl
]
remove-has (x ∷ xs) (suc at) i a h below =
    ap (λ b. (x == i) || b) (remove-has xs at i (suc x) h.1 (omega arith)) ∙ moved (is_flipped xs i)
  where
    moved : (b : Bool) → ((x == i) || add (get_or xs at 0 == i) b) ≡ add (get_or xs at 0 == i)
        ((x == i) || b)
    moved b = elim (cases_Bool (get_or xs at 0 == i)) [
      | inl holds ↦
          let e = eqb-true (get_or xs at 0) i holds in
          let l = at-least xs (suc x) at h.1 (omega arith) in
          let fails : (x == i) ≡ false = ne_eqb x i (λ same. omega arith) in
          rw (holds, fails) refl
      | inr fails ↦ rw fails refl
    ]

rising : (xs : List ℕ) → IsStrictlyIncreasing xs → (i j : ℕ) → i ≤ j → j < length xs
    → get_or xs i 0 ≤ get_or xs j 0
rising xs up i j le below = non_decreasing_from_sorted xs (sorted_from_strictly_increasing xs up) i
    j 0 le below

pub removed : (xs seen new : List ℕ) (at y : ℕ) → seen ≡ xs → IsStrictlyIncreasing xs
    → at < length seen
    → IsBinarySearchResult (λ v. nat_cmp v y) seen (Ok at) → new ≡ remove xs at
    → (IsStrictlyIncreasing new) × ((i : ℕ) → is_flipped new i ≡ add (y == i) (is_flipped xs i))
removed xs seen new at y same up within found is =
    let within' : at < length xs = rw (← same) within in
    let found' : IsBinarySearchResult (λ v. nat_cmp v y) xs (Ok at) = rw (← same) found in
    let r = searched xs y (Ok at) found' (rising xs up) in (
      subst IsStrictlyIncreasing (sym is)
          (increasing-from (remove xs at) 0 (remove-ascends xs at 0 (ascending xs up))),
      λ i. ap (λ l. is_flipped l i) is ∙ remove-has xs at i 0 (ascending xs up) within'
          ∙ ap (λ v. add (v == i) (is_flipped xs i)) r.1,
    )

pub inserted : (xs seen new : List ℕ) (at y : ℕ) → seen ≡ xs → IsStrictlyIncreasing xs
    → IsBinarySearchResult (λ v. nat_cmp v y) seen (Err at) → new ≡ insert xs at y
    → (IsStrictlyIncreasing new) × ((i : ℕ) → is_flipped new i ≡ add (y == i) (is_flipped xs i))
inserted xs seen new at y same up found is =
    let found' : IsBinarySearchResult (λ v. nat_cmp v y) xs (Err at) = rw (← same) found in
    let r = searched xs y (Err at) found' (rising xs up) in
    let new_one : is_flipped xs y ≡ false =
    list_any_none (λ f. f == y) xs (λ k d below. absent r.1 r.2 k d below) in (
      subst IsStrictlyIncreasing (sym is)
          (increasing-from (insert xs at y) 0
          (insert-ascends xs at 0 y (ascending xs up) r.0 (omega arith) r.1 r.2)),
      λ i. ap (λ l. is_flipped l i) is ∙ insert-has xs at y i ∙ elim (cases_Bool (y == i)) [
        | inl holds ↦ let none : is_flipped xs i ≡ false = rw (← eqb-true y i holds) new_one in
            rw (holds, none) refl
        | inr fails ↦ rw fails refl
      ],
    )
  where
    absent : ((k : ℕ) → k < at → get_or xs k 0 < y)
        → ((k : ℕ) → at ≤ k → k < length xs → y < get_or xs k 0)
        → (k d : ℕ) → k < length xs → (get_or xs k d == y) ≡ false
    absent low high k d below =
        let e : get_or xs k d ≡ get_or xs k 0 = get_or_default xs k d 0 below in
        elim (cases_lt k at) [
          | inl before ↦ let l = low k before in ne_eqb (get_or xs k d) y (λ same. omega arith)
          | inr after ↦ let l = high k after below in ne_eqb (get_or xs k d) y (λ same. omega arith)
        ]

-- ---- the bits of a flip

-- the bits from first to before end have changed
pub record HasToggled (old new : List ℕ) (first end : ℕ) : Type 0 where
  pub ascending : IsStrictlyIncreasing new
  pub members : (i : ℕ) → is_flipped new i ≡ add (nat_le first i && nat_lt i end) (is_flipped old i)

pub toggled-none : (old : List ℕ) (first : ℕ) → IsStrictlyIncreasing old
    → HasToggled old old first first
toggled-none old first up = record {
  ascending = up;
  members = λ i. elim (cases_lt i first) [
    | inl low ↦ rw (lt-leb first i low) refl
    | inr high ↦ rw (le-leb first i high, le-ltb i first high) refl
  ];
}

pub toggled-more : (old mid new : List ℕ) (first at : ℕ)
    → HasToggled old mid first at → first ≤ at → IsStrictlyIncreasing new
    → ((i : ℕ) → is_flipped new i ≡ add (at == i) (is_flipped mid i))
    → HasToggled old new first (at + 1)
toggled-more old mid new first at h from up is = record {
  ascending = up;
  members = λ i. is i ∙ ap (add (at == i)) (h.members i) ∙ elim (cases_order at i) [
    | inl same ↦
        rw (
          eq-eqb at i same,
          le-leb first i (omega arith),
          le-ltb i at (omega arith),
          lt-ltb i (at + 1) (omega arith),
        ) refl
    | inr other ↦ elim other [
      | inl above ↦
          rw (
            ne_eqb at i (λ e. omega arith),
            le-ltb i at (omega arith),
            le-ltb i (at + 1) (omega arith),
          ) refl
      | inr below ↦
          rw (
            ne_eqb at i (λ e. omega arith),
            lt-ltb i at (omega arith),
            lt-ltb i (at + 1) (omega arith),
          ) refl
    ]
  ];
}

-- ---- all flips

-- these are the bits that an odd number of the first n flips cover
pub record HasInverted (flips : List Flip) (lane n : ℕ) (bits : List ℕ) : Type 0 where
  pub ascending : IsStrictlyIncreasing bits
  pub members : (i : ℕ) → is_flipped bits i ≡ (count_by (covers lane i) (take n flips) % 2 == 1)

pub inverted-none : (flips : List Flip) (lane : ℕ) (bits : List ℕ) → bits ≡ []
    → HasInverted flips lane 0 bits
inverted-none flips lane bits none =
    rw none (record { ascending = λ k below. absurd (omega arith); members = λ i. refl })

odd-more : (n : ℕ) → ((n + 1) % 2 == 1) ≡ not (n % 2 == 1)
odd-more n = elim (cases_lt (n % 2) 1) [
  | inl even ↦ let e : n % 2 ≡ 0 = omega arith in
      let o : (n + 1) % 2 ≡ 1 = omega arith in rw (e, o) refl
  | inr odd ↦ let e : n % 2 ≡ 1 = omega arith in
      let o : (n + 1) % 2 ≡ 0 = omega arith in rw (e, o) refl
]

count-more : (p : Flip → Bool) (flips : List Flip) (n : ℕ) (d : Flip) → n < length flips
    → (count_by p (take (n + 1) flips) % 2 == 1) ≡ add (p (get_or flips n d))
    (count_by p (take n flips) % 2 == 1)
count-more p flips n d below = elim (cases_Bool (p (get_or flips n d))) [
  | inl holds ↦ ap (λ x. x % 2 == 1) (count_by_more_yes p flips n d below holds)
      ∙ odd-more (count_by p (take n flips))
      ∙ sym (ap (λ b. add b (count_by p (take n flips) % 2 == 1)) holds)
  | inr fails ↦ ap (λ x. x % 2 == 1) (count_by_more_no p flips n d below fails)
      ∙ sym (ap (λ b. add b (count_by p (take n flips) % 2 == 1)) fails)
]

pub inverted-other : (flips : List Flip) (lane n : ℕ) (bits : List ℕ) (d : Flip) → n < length flips
    → (get_or flips n d).lane ≢ lane
    → HasInverted flips lane n bits → HasInverted flips lane (n + 1) bits
inverted-other flips lane n bits d below other h = record {
  ascending = h.ascending;
  members = λ i. h.members i ∙ sym (count-more (covers lane i) flips n d below
      ∙ ap (λ b. add b (count_by (covers lane i) (take n flips) % 2 == 1))
      (and_left ((get_or flips n d).lane == lane) _ (ne_eqb (get_or flips n d).lane lane other)));
}

pub inverted-more : (flips : List Flip) (lane n : ℕ) (bits new : List ℕ) (d : Flip)
    → n < length flips → (get_or flips n d).lane ≡ lane
    → IsStrictlyIncreasing new
    → ((i : ℕ)
    → is_flipped new i ≡ add (nat_le (get_or flips n d).first i
    && nat_lt i ((get_or flips n d).first + (get_or flips n d).count)) (is_flipped bits i))
    → HasInverted flips lane n bits → HasInverted flips lane (n + 1) new
inverted-more flips lane n bits new d below here up is h = record {
  ascending = up;
  members = λ i. is i
      ∙ ap (add (nat_le f.first i && nat_lt i (f.first + f.count))) (h.members i)
      ∙ sym (count-more (covers lane i) flips n d below
      ∙ ap (λ b. add (b && (nat_le f.first i && nat_lt i (f.first + f.count)))
      (count_by (covers lane i) (take n flips) % 2 == 1)) (eq-eqb f.lane lane here));
}
  where
    f : Flip
    f = get_or flips n d

filtered : (n a : ℕ) (xs : List ℕ) (test : ℕ → Bool) → Ascends xs a
    → ((i : ℕ) → a ≤ i → is_flipped xs i ≡ test i)
    → ((i : ℕ) → a + n ≤ i → test i ≡ false) → xs ≡ filter test (numbers_from a n)
unfolding numbers_from
filtered zero a [] test h same above = refl
filtered zero a (x ∷ xs) test h same above =
    let from = h.0 in
    let holds : ((x == x) || is_flipped xs x) ≡ true =
    ap (λ b. b || is_flipped xs x) (eq-eqb x x refl) in
    let fails : true ≡ false = sym holds ∙ same x h.0 ∙ above x (omega arith) in
    absurd (cc fails)
filtered (suc n) a [] test h same above =
    rw (sym (same a (omega arith)))
    (filtered n (suc a) [] test tt (λ i low. same i (omega arith))
    (λ i low. above i (omega arith)))
filtered (suc n) a (x ∷ xs) test h same above = elim (cases_lt a x) [
  | inl later ↦
      let up : Ascends (x ∷ xs) (suc a) = (omega arith, h.1) in
      let fails : test a ≡ false = sym (same a (omega arith))
      ∙ none-below (x ∷ xs) (suc a) a up (omega arith) in
      rw fails (filtered n (suc a) (x ∷ xs) test up (λ i low. same i (omega arith))
      (λ i low. above i (omega arith)))
  | inr first ↦
      let from = h.0 in
      let e : x ≡ a = omega arith in
      let holds : test a ≡ true = sym (same a (omega arith))
      ∙ ap (λ b. b || is_flipped xs a) (eq-eqb x a e) in
      let up : Ascends xs (suc a) = rw (← e) h.1 in
      let rest = filtered n (suc a) xs test up
      (λ i low. sym (ap (λ b. b || is_flipped xs i) (ne_eqb x i (λ same. omega arith)))
      ∙ same i (omega arith))
      (λ i low. above i (omega arith)) in
      rw holds (ap₂ {C = List ℕ} (λ y l. y ∷ l) e rest)
]

count-none : {X : Type 0} (p : X → Bool) (xs : List X) → All (λ x. p x ≡ false) xs
    → count_by p xs ≡ 0
count-none p [] none = refl
count-none p (x ∷ xs) none =
    rw (none 0 x (omega arith)) (count-none p xs (λ k d below. none (suc k) d (omega arith)))

pub inverted-all : (flips : List Flip) (lane n m : ℕ) (bits : List ℕ) (s : Plan) → length flips ≤ m
    → HasInverted flips lane m bits
    → s.flips ≡ flips → All (λ f. f.first + f.count ≤ n) flips → bits ≡ inverted_bits s lane n
unfolding inverted_bits
inverted-all flips lane n m bits s all h same within =
    filtered n 0 bits (is_inverted s lane) (ascending bits h.ascending)
    (λ i low. h.members i ∙ ap (λ (l : List Flip). count_by (covers lane i) l % 2 == 1)
    (take_all m flips all ∙ sym same))
    (λ i high. ap (λ (l : List Flip). count_by (covers lane i) l % 2 == 1) same
    ∙ ap (λ x. x % 2 == 1)
    (count-none (covers lane i) flips
    (λ k d below. past i (get_or flips k d) (within k d below) (omega arith))))
  where
    past : (i : ℕ) (f : Flip) → f.first + f.count ≤ n → n ≤ i → covers lane i f ≡ false
    past i f end high =
        and_right (f.lane == lane) _
        (and_right (nat_le f.first i) _ (le-ltb i (f.first + f.count) (omega arith)))
