-- Lanes that are each in one field alone are an order of the lanes.
use Rattle.std.proofs.Common.{◌≡◌, ◌∙◌, ◌⊎◌, ℕ, zero, suc, ◌+◌, ◌≤◌, ◌<◌, ◌==◌, nat_lt, not, Bool, true, false, ◌&&◌, ◌||◌, if◌then◌else◌, List, [], ◌∷◌, ◌++◌, drop, fold, get_or, length, map, take, Some, None, inl, inr, refl, sym, ap, ap₂, append_assoc, append-nil, length-append, arith}
use Rattle.std.specs.List.{list_all, list_any}
use Rattle.std.proofs.lemmas.Bool.{and_from, and_parts, cases_Bool, cases_lt, eq-eqb, eqb-true, lt-ltb, ltb-true, ne_eqb}
use Rattle.std.proofs.lemmas.List.{length-map}
use Rattle.std.proofs.lemmas.List.Sums.{fold_push}
use Rattle.scenario.specs.Check.{lowest}
use Rattle.scenario.specs.Plans.{is_inverted_lane, lanes_or, numbers_from, inverted_lanes}
use Rattle.scenario.specs.Limits.{is_order}
use Rattle.scenario.specs.Reads.{are_lanes, numbers_in_fields}
use Rattle.scenario.specs.Text.{Text}
use Rattle.scenario.specs.declared.stage.Polarity.{Polarity}

-- whether a lane is one of these
abbrev pub is_in : List ℕ → ℕ → Bool
is_in lanes lane = list_any (λ x. x == lane) lanes

abbrev one_if : Bool → ℕ
one_if true = 1
one_if false = 0

-- how many of the n lanes from a on are among these
abbrev hits : ℕ → ℕ → List ℕ → ℕ
hits zero a lanes = 0
hits (suc n) a lanes = one_if (is_in lanes a) + hits n (suc a) lanes

one-hit : (b : Bool) → one_if b ≤ 1
one-hit true = omega arith
one-hit false = omega arith

hits-most : (n a : ℕ) (lanes : List ℕ) → hits n a lanes ≤ n
hits-most zero a lanes = omega arith
hits-most (suc n) a lanes =
    let here = one-hit (is_in lanes a) in let later = hits-most n (suc a) lanes in omega arith

-- where there are as many, all are
hits-all : (n a : ℕ) (lanes : List ℕ) → hits n a lanes ≡ n
    → list_all (is_in lanes) (numbers_from a n) ≡ true
unfolding numbers_from
hits-all zero a lanes e = refl
hits-all (suc n) a lanes e =
    let most = hits-most n (suc a) lanes in
    elim (cases_Bool (is_in lanes a)) [
      | inl good ↦
          let one : one_if (is_in lanes a) ≡ 1 = ap one_if good in
          and_from (is_in lanes a) _ good (hits-all n (suc a) lanes (omega arith))
      | inr miss ↦
          let none : one_if (is_in lanes a) ≡ 0 = ap one_if miss in absurd (omega arith)
    ]

or-false : (b : Bool) → (b || false) ≡ b
or-false true = refl
or-false false = refl

or-assoc : (a b c : Bool) → (a || (b || c)) ≡ ((a || b) || c)
or-assoc true b c = refl
or-assoc false b c = refl

in-push : (lanes : List ℕ) (x lane : ℕ) → is_in (lanes ++ x ∷ []) lane ≡ (is_in lanes lane || (x == lane))
in-push [] x lane = or-false (x == lane)
in-push (y ∷ lanes) x lane =
    ap (λ (b : Bool). (y == lane) || b) (in-push lanes x lane)
    ∙ or-assoc (y == lane) (is_in lanes lane) (x == lane)

in-other : (lanes : List ℕ) (x lane : ℕ) → (x ≡ lane → ⊥) → is_in (lanes ++ x ∷ []) lane ≡ is_in lanes lane
in-other lanes x lane apart =
    in-push lanes x lane ∙ ap (λ (b : Bool). is_in lanes lane || b) (ne_eqb x lane apart)
    ∙ or-false (is_in lanes lane)

in-same : (lanes : List ℕ) (x : ℕ) → is_in lanes x ≡ false → is_in (lanes ++ x ∷ []) x ≡ true
in-same lanes x none =
    in-push lanes x x ∙ ap (λ (b : Bool). b || (x == x)) none ∙ eq-eqb x x refl

-- a lane before all of these changes nothing
hits-before : (n a : ℕ) (lanes : List ℕ) (x : ℕ) → x < a → hits n a (lanes ++ x ∷ []) ≡ hits n a lanes
hits-before zero a lanes x below = refl
hits-before (suc n) a lanes x below =
    ap₂ (λ (b : Bool) (k : ℕ). one_if b + k)
    (in-other lanes x a (λ same. omega arith)) (hits-before n (suc a) lanes x (omega arith))

-- a new one counts once
hits-more : (n a : ℕ) (lanes : List ℕ) (x : ℕ) → a ≤ x → x < a + n → is_in lanes x ≡ false
    → hits n a (lanes ++ x ∷ []) ≡ suc (hits n a lanes)
hits-more zero a lanes x from to none = absurd (omega arith)
hits-more (suc n) a lanes x from to none = elim (cases_lt a x) [
  | inl behind ↦
      let later = hits-more n (suc a) lanes x (omega arith) (omega arith) none in
      ap₂ (λ (b : Bool) (k : ℕ). one_if b + k)
      (in-other lanes x a (λ same. omega arith)) later ∙ omega arith
  | inr here ↦
      let same : x ≡ a = omega arith in
      let not_in : is_in lanes a ≡ false = ap (is_in lanes) (sym same) ∙ none in
      let now : is_in (lanes ++ x ∷ []) a ≡ true =
      ap (is_in (lanes ++ x ∷ [])) (sym same) ∙ in-same lanes x none in
      let later = hits-before n (suc a) lanes x (omega arith) in
      let before : one_if (is_in lanes a) ≡ 0 = ap one_if not_in in
      let after : one_if (is_in (lanes ++ x ∷ []) a) ≡ 1 = ap one_if now in
      omega arith
]

-- each of these is below l, and none of those before it
not-true : (b : Bool) → not b ≡ true → b ≡ false
not-true true e = let bad : false ≡ true = e in absurd (cc)
not-true false e = refl

lanes-hit : (xs : List ℕ) (l : ℕ) (before : List ℕ) (i : ℕ) → lowest i (are_lanes l before xs) ≡ None
    → hits l 0 before ≡ length before
    → (hits l 0 (before ++ xs) ≡ length (before ++ xs)) × (list_all (λ x. nat_lt x l) xs ≡ true)
lanes-hit [] l before i e had = (
  ap (hits l 0) (append-nil before) ∙ had ∙ sym (ap length (append-nil before)),
  refl,
)
lanes-hit (x ∷ xs) l before i e had =
    let test : Bool = nat_lt x l && not (is_in before x) in
    elim (cases_Bool test) [
      | inr miss ↦ let bad : Some i ≡ None = rw miss at e in absurd (cc)
      | inl good ↦
          let parts = and_parts (nat_lt x l) (not (is_in before x)) good in
          let below = lane-below x l parts.0 in
          let none = not-true (is_in before x) parts.1 in
          let more = hits-more l 0 before x (omega arith) (omega arith) none in
          let long = length-append before (x ∷ []) in
          let rest : lowest (i + 1) (are_lanes l (before ++ x ∷ []) xs) ≡ None = rw good at e in
          let k = lanes-hit xs l (before ++ x ∷ []) (i + 1) rest (omega arith) in
          let same = append_assoc before (x ∷ []) xs in (
            ap (hits l 0) (sym same) ∙ k.0 ∙ ap length same,
            and_from (nat_lt x l) _ parts.0 k.1,
          )
    ]
  where
    lane-below : (x l : ℕ) → nat_lt x l ≡ true → x < l
    lane-below x l e = ltb-true x l e

no-hits : (n a : ℕ) → hits n a [] ≡ 0
no-hits zero a = refl
no-hits (suc n) a = ap (λ (k : ℕ). 0 + k) (no-hits n (suc a))

pub order-of-lanes : (l : ℕ) (lanes : List ℕ) → length lanes ≡ l
    → lowest 1 (are_lanes l [] lanes) ≡ None
    → is_order l lanes ≡ true
unfolding is_order
order-of-lanes l lanes long e =
    let k = lanes-hit lanes l [] 1 e (no-hits l 0) in
    and_from _ _ (and_from _ _ (eq-eqb (length lanes) l long) k.1)
    (hits-all l 0 lanes (k.0 ∙ long))

pub length-fields : (n i : ℕ) (ts : List Text) → length (numbers_in_fields i n ts) ≡ n
length-fields zero i ts = refl
length-fields (suc n) i ts = ap suc (length-fields n (i + 1) ts)

-- ---- the lanes in their order

length-numbers : (n a : ℕ) → length (numbers_from a n) ≡ n
unfolding numbers_from
length-numbers zero a = refl
length-numbers (suc n) a = ap suc (length-numbers n (suc a))

below-numbers : (n a l : ℕ) → a + n ≤ l → list_all (λ x. nat_lt x l) (numbers_from a n) ≡ true
unfolding numbers_from
below-numbers zero a l within = refl
below-numbers (suc n) a l within =
    and_from (nat_lt a l) _ (lt-ltb a l (omega arith)) (below-numbers n (suc a) l (omega arith))

in-numbers : (n a x : ℕ) → a ≤ x → x < a + n → is_in (numbers_from a n) x ≡ true
unfolding numbers_from
in-numbers zero a x from to = absurd (omega arith)
in-numbers (suc n) a x from to = elim (cases_lt a x) [
  | inl behind ↦
      ap (λ (b : Bool). b || is_in (numbers_from (suc a) n) x) (ne_eqb a x (λ same. omega arith))
      ∙ in-numbers n (suc a) x (omega arith) (omega arith)
  | inr here ↦
      ap (λ (b : Bool). b || is_in (numbers_from (suc a) n) x) (eq-eqb a x (omega arith))
]

all-in : (n a : ℕ) (lanes : List ℕ) → ((x : ℕ) → a ≤ x → x < a + n → is_in lanes x ≡ true)
    → list_all (is_in lanes) (numbers_from a n) ≡ true
unfolding numbers_from
all-in zero a lanes each = refl
all-in (suc n) a lanes each =
    and_from (is_in lanes a) _ (each a (omega arith) (omega arith))
    (all-in n (suc a) lanes (λ x from to. each x (omega arith) (omega arith)))

pub order-numbers : (l : ℕ) → is_order l (numbers_from 0 l) ≡ true
unfolding is_order
order-numbers l =
    and_from _ _
    (and_from _ _ (eq-eqb (length (numbers_from 0 l)) l (length-numbers l 0))
    (below-numbers l 0 l (omega arith)))
    (all-in l 0 (numbers_from 0 l) (λ x from to. in-numbers l 0 x from to))

pub order-or : (l : ℕ) (lanes : List ℕ) → (lanes ≡ []) ⊎ (is_order l lanes ≡ true)
    → is_order l (lanes_or l lanes) ≡ true
order-or l [] is = order-numbers l
order-or l (x ∷ xs) (inr is) = is
order-or l (x ∷ xs) (inl is) = let bad : x ∷ xs ≡ [] = is in absurd (cc)

pub length-inverted : (l : ℕ) (polarities : List Polarity) → length (inverted_lanes l polarities) ≡ l
unfolding inverted_lanes
length-inverted l polarities =
    length-map (numbers_from 0 l) (is_inverted_lane polarities) ∙ length-numbers l 0

-- ---- an order names no lane twice

-- a lane more in front counts once at most
hits-past : (n a x : ℕ) (lanes : List ℕ) → x < a → hits n a (x ∷ lanes) ≡ hits n a lanes
hits-past zero a x lanes below = refl
hits-past (suc n) a x lanes below =
    ap₂ (λ (b : Bool) (k : ℕ). one_if (b || is_in lanes a) + k)
    (ne_eqb x a (λ same. omega arith)) (hits-past n (suc a) x lanes (omega arith))

hits-front : (n a x : ℕ) (lanes : List ℕ) → hits n a (x ∷ lanes) ≤ suc (hits n a lanes)
hits-front zero a x lanes = omega arith
hits-front (suc n) a x lanes = elim (cases_Bool (x == a)) [
  | inl same ↦
      let at : x ≡ a = eqb-true x a same in
      let later = hits-past n (suc a) x lanes (omega arith) in
      let here = one-hit ((x == a) || is_in lanes a) in
      omega arith
  | inr other ↦
      let later = hits-front n (suc a) x lanes in
      let here : one_if ((x == a) || is_in lanes a) ≡ one_if (is_in lanes a) =
      ap (λ (b : Bool). one_if (b || is_in lanes a)) other in
      omega arith
]

hits-length : (n a : ℕ) (lanes : List ℕ) → hits n a lanes ≤ length lanes
hits-length n a [] = let none = no-hits n a in omega arith
hits-length n a (x ∷ lanes) =
    let front = hits-front n a x lanes in
    let rest = hits-length n a lanes in
    omega arith

-- one that is among them counts no more
in-again : (x lane : ℕ) (lanes : List ℕ) → is_in lanes x ≡ true
    → ((x == lane) || is_in lanes lane) ≡ is_in lanes lane
in-again x lane lanes among = elim (cases_Bool (x == lane)) [
  | inl same ↦
      let there : is_in lanes lane ≡ true = ap (is_in lanes) (sym (eqb-true x lane same)) ∙ among in
      ap (λ (b : Bool). b || is_in lanes lane) same ∙ sym there
  | inr other ↦ ap (λ (b : Bool). b || is_in lanes lane) other
]

hits-again : (n a x : ℕ) (lanes : List ℕ) → is_in lanes x ≡ true
    → hits n a (x ∷ lanes) ≡ hits n a lanes
hits-again zero a x lanes among = refl
hits-again (suc n) a x lanes among =
    ap₂ (λ (b : Bool) (k : ℕ). one_if b + k) (in-again x a lanes among)
    (hits-again n (suc a) x lanes among)

in-at : (lanes : List ℕ) (i x : ℕ) → i < length lanes → x ≡ get_or lanes i 0
    → is_in lanes x ≡ true
in-at [] i x inside same = absurd (omega arith)
in-at (y ∷ lanes) zero x inside same =
    ap (λ (b : Bool). b || is_in lanes x) (eq-eqb y x (sym same))
in-at (y ∷ lanes) (suc i) x inside same =
    ap (λ (b : Bool). (y == x) || b) (in-at lanes i x (omega arith) same) ∙ or-true (y == x)
  where
    or-true : (b : Bool) → (b || true) ≡ true
    or-true true = refl
    or-true false = refl

apart : (n a : ℕ) (lanes : List ℕ) → hits n a lanes ≡ length lanes → (i j : ℕ) → i < j
    → j < length lanes → get_or lanes i 0 ≡ get_or lanes j 0 → ⊥
apart n a [] e i j before inside same = absurd (omega arith)
apart n a (x ∷ lanes) e i zero before inside same = absurd (omega arith)
apart n a (x ∷ lanes) e zero (suc j) before inside same =
    let again = hits-again n a x lanes (in-at lanes j x (omega arith) same) in
    let most = hits-length n a lanes in
    absurd (omega arith)
apart n a (x ∷ lanes) e (suc i) (suc j) before inside same =
    let front = hits-front n a x lanes in
    let most = hits-length n a lanes in
    apart n a lanes (omega arith) i j (omega arith) (omega arith) same

all-hit : (n a : ℕ) (lanes : List ℕ) → list_all (is_in lanes) (numbers_from a n) ≡ true
    → hits n a lanes ≡ n
unfolding numbers_from
all-hit zero a lanes all = refl
all-hit (suc n) a lanes all =
    let parts = and_parts (is_in lanes a) _ all in
    let here : one_if (is_in lanes a) ≡ 1 = ap one_if parts.0 in
    let later = all-hit n (suc a) lanes parts.1 in
    omega arith

pub order-distinct : (l : ℕ) (lanes : List ℕ) → is_order l lanes ≡ true → (i j : ℕ) → i < l
    → j < l → get_or lanes i 0 ≡ get_or lanes j 0 → i ≡ j
unfolding is_order
order-distinct l lanes e i j low high same =
    let whole = and_parts ((length lanes == l) && list_all (λ x. nat_lt x l) lanes) _ e in
    let first = and_parts (length lanes == l) (list_all (λ x. nat_lt x l) lanes) whole.0 in
    let long : length lanes ≡ l = eqb-true (length lanes) l first.0 in
    let all : hits l 0 lanes ≡ length lanes = all-hit l 0 lanes whole.1 ∙ sym long in
    elim (cases_lt i j) [
      | inl before ↦ absurd (apart l 0 lanes all i j before (omega arith) same)
      | inr past ↦ elim (cases_lt j i) [
        | inl before ↦ absurd (apart l 0 lanes all j i before (omega arith) (sym same))
        | inr here ↦ omega arith
      ]
    ]

-- ---- lanes one by one

numbers-suc : (n a : ℕ) → numbers_from a n ++ (a + n) ∷ [] ≡ numbers_from a (suc n)
unfolding numbers_from
numbers-suc zero a = let e : a + 0 ≡ a = omega arith in ap (λ (x : ℕ). x ∷ []) e
numbers-suc (suc n) a =
    let e : a + suc n ≡ suc a + n = omega arith in
    ap (λ (x : ℕ). a ∷ (numbers_from (suc a) n ++ x ∷ [])) e
    ∙ ap (λ (xs : List ℕ). a ∷ xs) (numbers-suc n (suc a))

pub numbers-push : (n a : ℕ) → numbers_from a n ++ (a + n) ∷ [] ≡ numbers_from a (n + 1)
numbers-push n a = let e : suc n ≡ n + 1 = omega arith in numbers-suc n a ∙ ap (numbers_from a) e

map-push : {A B : Type 0} (f : A → B) → (xs : List A) (x : A)
    → map f (xs ++ x ∷ []) ≡ map f xs ++ f x ∷ []
map-push f [] x = refl
map-push {A} {B} f (y ∷ xs) x = ap (λ (ys : List B). f y ∷ ys) (map-push f xs x)

pub inverted-push : (n : ℕ) (polarities : List Polarity)
    → inverted_lanes n polarities ++ is_inverted_lane polarities n ∷ [] ≡ inverted_lanes (n + 1) polarities
unfolding inverted_lanes
inverted-push n polarities =
    sym (map-push (is_inverted_lane polarities) (numbers_from 0 n) n)
    ∙ ap (map (is_inverted_lane polarities))
    (let e : n ≡ 0 + n = omega arith in
    ap (λ (x : ℕ). numbers_from 0 n ++ x ∷ []) e ∙ numbers-push n 0)

take-push : {A : Type 0} (xs : List A) (n : ℕ) (d : A) → n < length xs
    → take (suc n) xs ≡ take n xs ++ get_or xs n d ∷ []
take-push [] n d below = absurd (omega arith)
take-push (x ∷ xs) zero d below = refl
take-push {A} (x ∷ xs) (suc n) d below =
    ap (λ (ys : List A). x ∷ ys) (take-push xs n d (omega arith))

drop-head : {A : Type 0} (xs : List A) (n : ℕ) (d : A) → n < length xs
    → drop n xs ≡ get_or xs n d ∷ drop (suc n) xs
drop-head [] n d below = absurd (omega arith)
drop-head (x ∷ xs) zero d below = refl
drop-head (x ∷ xs) (suc n) d below = drop-head xs n d (omega arith)

-- a lane of a record is checked, and then those behind it
pub lanes-step : (l at d : ℕ) (lanes : List ℕ) → at < length lanes
    → lowest (at + 1) (are_lanes l (take at lanes) (drop at lanes))
    ≡ (if nat_lt (get_or lanes at d) l && not (is_in (take at lanes) (get_or lanes at d))
    then lowest (at + 1 + 1) (are_lanes l (take (at + 1) lanes) (drop (at + 1) lanes))
    else Some (at + 1))
lanes-step l at d lanes below =
    let x : ℕ = get_or lanes at d in
    let e : suc at ≡ at + 1 = omega arith in
    ap (λ (xs : List ℕ). lowest (at + 1) (are_lanes l (take at lanes) xs))
    (drop-head lanes at d below)
    ∙ ap (λ (ys : List ℕ). if nat_lt x l && not (is_in (take at lanes) x)
    then lowest (at + 1 + 1) (are_lanes l ys (drop (suc at) lanes)) else Some (at + 1))
    (sym (take-push lanes at d below))
    ∙ ap (λ (k : ℕ). if nat_lt x l && not (is_in (take at lanes) x)
    then lowest (at + 1 + 1) (are_lanes l (take k lanes) (drop k lanes)) else Some (at + 1)) e

abbrev pub inverted_by : ℕ → Bool → Polarity → Bool
inverted_by lane before polarity = if polarity.lane == lane then polarity.inverted else before

pub inverted-more : (polarities : List Polarity) (n lane : ℕ) (d : Polarity) → n < length polarities
    → inverted_by lane (is_inverted_lane (take n polarities) lane) (get_or polarities n d)
    ≡ is_inverted_lane (take (n + 1) polarities) lane
inverted-more polarities n lane d below =
    sym (fold_push (inverted_by lane) false (take n polarities) (get_or polarities n d))
    ∙ ap (λ (xs : List Polarity). is_inverted_lane xs lane) (sym (take-push polarities n d below))
    ∙ ap (λ (k : ℕ). is_inverted_lane (take k polarities) lane)
    (let e : suc n ≡ n + 1 = omega arith in e)

pub order-length : (l : ℕ) (lanes : List ℕ) → is_order l lanes ≡ true → length lanes ≡ l
unfolding is_order
order-length l lanes e =
    let whole = and_parts ((length lanes == l) && list_all (λ x. nat_lt x l) lanes) _ e in
    eqb-true (length lanes) l
    (and_parts (length lanes == l) (list_all (λ x. nat_lt x l) lanes) whole.0).0
