-- Scrambling in parts.
use Rattle.std.proofs.Common.{◌≡◌, ℕ, zero, suc, ◌-◌, ◌<◌, ◌≤◌, Bool, true, false, List, [], ◌∷◌, ◌++◌, length, take, drop, get_or, reverse, refl, sym, ap, ap₂, ◌∙◌, append_assoc, length-append, length-take, arith, lit≤}
use Rattle.std.proofs.lemmas.List.{take-append-drop, take-take, reverse-append, length-reverse}
use Rattle.jesd_base.specs.Bits.{add, ones, zeros}
use Rattle.lane_scramble.specs.Scrambling.{back, scrambled, descrambled, start15, start58}
use Rattle.lane_scramble.specs.laws.ScrambleLaws.{DescrambledAgain, OnlyLastMatter, GoesInParts, ForgetsEarlier, KeepLength, PartBefore}

add-twice : (x y : Bool) → add (add x y) y ≡ x
add-twice true true = refl
add-twice true false = refl
add-twice false true = refl
add-twice false false = refl

pub descrambled_again : DescrambledAgain
unfolding scrambled descrambled
descrambled_again a b past [] = refl
descrambled_again a b past (x ∷ xs) =
    let t : Bool = add (back past a) (back past b) in
    ap₂ {C = List Bool} (λ y r. y ∷ r) (add-twice x t) (descrambled_again a b (add x t ∷ past) xs)

length-scrambled : (a b : ℕ) (past xs : List Bool) → length (scrambled a b past xs) ≡ length xs
unfolding scrambled
length-scrambled a b past [] = refl
length-scrambled a b past (x ∷ xs) = ap suc (length-scrambled a b (add x (add (back past a) (back past b)) ∷ past) xs)

length-descrambled : (a b : ℕ) (past xs : List Bool) → length (descrambled a b past xs) ≡ length xs
unfolding descrambled
length-descrambled a b past [] = refl
length-descrambled a b past (x ∷ xs) = ap suc (length-descrambled a b (x ∷ past) xs)

pub keep_length : KeepLength
keep_length a b past xs = (length-scrambled a b past xs, length-descrambled a b past xs)

get-front : (v p : List Bool) (k : ℕ) → k < length v → get_or (v ++ p) k false ≡ get_or v k false
get-front [] p k lt = absurd (omega arith)
get-front (x ∷ v) p zero lt = refl
get-front (x ∷ v) p (suc k) lt = get-front v p k (omega arith)

back-front : (v p : List Bool) (k : ℕ) → 0 < k → k ≤ length v → back (v ++ p) k ≡ back v k
back-front v p k some within = get-front v p (k - 1) (omega arith)

scrambled-front : (a b : ℕ) (v p xs : List Bool) → 0 < a → 0 < b → a ≤ length v → b ≤ length v → scrambled a b (v ++ p) xs ≡ scrambled a b v xs
unfolding scrambled
scrambled-front a b v p [] pa pb la lb = refl
scrambled-front a b v p (x ∷ xs) pa pb la lb =
    let t : Bool = add x (add (back v a) (back v b)) in
    rw (back-front v p a pa la, back-front v p b pb lb) (ap {B = List Bool} (λ r. t ∷ r) (scrambled-front a b (t ∷ v) p xs pa pb (omega arith) (omega arith)))

descrambled-front : (a b : ℕ) (v p xs : List Bool) → 0 < a → 0 < b → a ≤ length v → b ≤ length v → descrambled a b (v ++ p) xs ≡ descrambled a b v xs
unfolding descrambled
descrambled-front a b v p [] pa pb la lb = refl
descrambled-front a b v p (x ∷ xs) pa pb la lb =
    rw (back-front v p a pa la, back-front v p b pb lb) (ap {B = List Bool} (λ r. add x (add (back v a) (back v b)) ∷ r) (descrambled-front a b (x ∷ v) p xs pa pb (omega arith) (omega arith)))

pub only_last_matter : OnlyLastMatter
only_last_matter a b n past xs pa pb la lb within =
    let parts : take n past ++ drop n past ≡ past = take-append-drop n past in
    let long : length (take n past) ≡ n = length-take n past ∙ omega arith in (
      ap (λ p. scrambled a b p xs) (sym parts) ∙ scrambled-front a b (take n past) (drop n past) xs pa pb (omega arith) (omega arith),
      ap (λ p. descrambled a b p xs) (sym parts) ∙ descrambled-front a b (take n past) (drop n past) xs pa pb (omega arith) (omega arith),
    )

scrambled-append : (a b : ℕ) (past xs ys : List Bool) → scrambled a b past (xs ++ ys) ≡ scrambled a b past xs ++ scrambled a b (reverse (scrambled a b past xs) ++ past) ys
unfolding scrambled
scrambled-append a b past [] ys = refl
scrambled-append a b past (x ∷ xs) ys =
    let t : Bool = add x (add (back past a) (back past b)) in
    let z : List Bool = scrambled a b (t ∷ past) xs in
    let e : reverse z ++ (t ∷ past) ≡ reverse (t ∷ z) ++ past = sym (append_assoc (reverse z) (t ∷ []) past) ∙ ap (λ r. r ++ past) (sym (reverse-append (t ∷ []) z)) in
    ap {B = List Bool} (λ r. t ∷ r) (scrambled-append a b (t ∷ past) xs ys ∙ ap (λ p. z ++ scrambled a b p ys) e)

descrambled-append : (a b : ℕ) (past xs ys : List Bool) → descrambled a b past (xs ++ ys) ≡ descrambled a b past xs ++ descrambled a b (reverse xs ++ past) ys
unfolding descrambled
descrambled-append a b past [] ys = refl
descrambled-append a b past (x ∷ xs) ys =
    let e : reverse xs ++ (x ∷ past) ≡ reverse (x ∷ xs) ++ past = sym (append_assoc (reverse xs) (x ∷ []) past) ∙ ap (λ r. r ++ past) (sym (reverse-append (x ∷ []) xs)) in
    ap {B = List Bool} (λ r. add x (add (back past a) (back past b)) ∷ r) (descrambled-append a b (x ∷ past) xs ys ∙ ap (λ p. descrambled a b (x ∷ past) xs ++ descrambled a b p ys) e)

pub goes_in_parts : GoesInParts
goes_in_parts a b past xs ys = (scrambled-append a b past xs ys, descrambled-append a b past xs ys)

drop-front : (xs ys : List Bool) → drop (length xs) (xs ++ ys) ≡ ys
drop-front [] ys = refl
drop-front (x ∷ xs) ys = drop-front xs ys

after : (a b : ℕ) (past xs ys : List Bool) → 0 < a → 0 < b → a ≤ length xs → b ≤ length xs
    → drop (length xs) (descrambled a b past (xs ++ ys)) ≡ descrambled a b (reverse xs) ys
after a b past xs ys pa pb la lb =
    let d : List Bool = descrambled a b past xs in
    let r = length-reverse xs in
    ap (drop (length xs)) (descrambled-append a b past xs ys)
    ∙ ap (λ n. drop n (d ++ descrambled a b (reverse xs ++ past) ys)) (sym (length-descrambled a b past xs))
    ∙ drop-front d (descrambled a b (reverse xs ++ past) ys)
    ∙ descrambled-front a b (reverse xs) past ys pa pb (omega arith) (omega arith)

pub forgets_earlier : ForgetsEarlier
forgets_earlier a b n past other xs ys pa pb la lb within =
    after a b past xs ys pa pb (omega arith) (omega arith) ∙ sym (after a b other xs ys pa pb (omega arith) (omega arith))

pub part_before : PartBefore
part_before a b past before own pa pb la lb =
    let s : List Bool = reverse (scrambled a b past before) in
    let l : length s ≡ length before = length-reverse (scrambled a b past before) ∙ length-scrambled a b past before in
    sym (descrambled-front a b s past (scrambled a b (s ++ past) own) pa pb (omega arith) (omega arith)) ∙ descrambled_again a b (s ++ past) own

-- what comes next, after earlier bits of which the last n are kept
pub scrambled-next : (a b n : ℕ) (start taken now xs : List Bool) → 0 < a → 0 < b → a ≤ n → b ≤ n → n ≤ length start
    → now ≡ take n (reverse (scrambled a b start taken) ++ start)
    → scrambled a b start (taken ++ xs) ≡ scrambled a b start taken ++ scrambled a b now xs
scrambled-next a b n start taken now xs pa pb la lb within is =
    let past : List Bool = reverse (scrambled a b start taken) ++ start in
    let long : n ≤ length past = omega (arith, length-append (reverse (scrambled a b start taken)) start) in
    scrambled-append a b start taken xs
    ∙ ap (λ r. scrambled a b start taken ++ r) ((only_last_matter a b n past xs pa pb la lb long).0 ∙ ap (λ p. scrambled a b p xs) (sym is))

pub descrambled-next : (a b n : ℕ) (start taken now ys : List Bool) → 0 < a → 0 < b → a ≤ n → b ≤ n → n ≤ length start
    → now ≡ take n (reverse taken ++ start)
    → descrambled a b start (taken ++ ys) ≡ descrambled a b start taken ++ descrambled a b now ys
descrambled-next a b n start taken now ys pa pb la lb within is =
    let past : List Bool = reverse taken ++ start in
    let long : n ≤ length past = omega (arith, length-append (reverse taken) start) in
    descrambled-append a b start taken ys
    ∙ ap (λ r. descrambled a b start taken ++ r) ((only_last_matter a b n past ys pa pb la lb long).1 ∙ ap (λ p. descrambled a b p ys) (sym is))

-- the last n of what came before are enough for the last n after more
last-more : (n : ℕ) (ys past : List Bool) → take n (ys ++ take n past) ≡ take n (ys ++ past)
last-more zero ys past = refl
last-more (suc n) [] past = take-take (suc n) (suc n) past (omega arith)
last-more (suc n) (y ∷ ys) past =
    ap {B = List Bool} (λ r. y ∷ r) (
    sym (last-more n ys (take (suc n) past))
    ∙ ap (λ p. take n (ys ++ p)) (take-take n (suc n) past (omega arith))
    ∙ last-more n ys past)

-- the last n bits after more, the latest first
pub last-next : (n : ℕ) (start came now more : List Bool) → now ≡ take n (reverse came ++ start)
    → take n (reverse more ++ now) ≡ take n (reverse (came ++ more) ++ start)
last-next n start came now more is =
    ap (λ p. take n (reverse more ++ p)) is
    ∙ last-more n (reverse more) (reverse came ++ start)
    ∙ ap (take n) (sym (append_assoc (reverse more) (reverse came) start) ∙ ap (λ p. p ++ start) (sym (reverse-append came more)))

pub start15-long : 15 ≤ length start15
unfolding ones zeros start15
start15-long = lit≤ tt

pub start58-long : 58 ≤ length start58
unfolding ones start58
start58-long = lit≤ tt
