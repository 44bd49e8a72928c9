-- Bits of words: windows of two words in a row, and scrambling by whole words.
use Rattle.std.proofs.Common.{◌≡◌, ℕ, zero, suc, ◌+◌, ◌-◌, ◌/◌, ◌%◌, ◌^◌, ◌<◌, ◌≤◌, ◌==◌, Bool, false, List, [], ◌∷◌, ◌++◌, length, take, get_or, reverse, refl, sym, ap, ap₂, ◌∙◌, inl, inr, arith}
use Rattle.std.specs.Int.{bit_at}
use Rattle.std.proofs.lemmas.Bool.{cases_lt}
use Rattle.std.proofs.lemmas.List.{reverse-append, length-reverse, get_or_append_left, get_or_at, take_at}
use Rattle.std.proofs.lemmas.Nat.{shr-shr}
use Rattle.jesd_base.specs.Bits.{add, bits}
use Rattle.lane_scramble.specs.Scrambling.{back, scrambled, descrambled}

-- the bit of a number at a place, counted from the lowest
abbrev pub at : ℕ → ℕ → Bool
at v i = bit_at v i == 1

-- the low n bits of a number, the lowest first
abbrev pub lowest : ℕ → ℕ → List Bool
lowest n v = reverse (bits n v)

pub length-bits : (n v : ℕ) → length (bits n v) ≡ n
unfolding bits
length-bits zero v = refl
length-bits (suc n) v = ap suc (length-bits n v)

pub length-lowest : (n v : ℕ) → length (lowest n v) ≡ n
length-lowest n v = length-reverse (bits n v) ∙ length-bits n v

pub at-shifted : (v k i : ℕ) → at (v / 2 ^ k) i ≡ at v (k + i)
at-shifted v k i = ap (λ t. t % 2 == 1) (shr-shr v k i)

pub get_or-lowest : (n v i : ℕ) → i < n → get_or (lowest n v) i false ≡ at v i
unfolding bits
get_or-lowest zero v i within = absurd (omega arith)
get_or-lowest (suc n) v i within =
    let parts : lowest (suc n) v ≡ lowest n v ++ (at v n ∷ []) = reverse-append (at v n ∷ []) (bits n v) in
    elim (cases_lt i n) [
      | inl below ↦
          ap (λ l. get_or l i false) parts
          ∙ get_or_append_left (lowest n v) (at v n ∷ []) false i (omega (arith, length-lowest n v))
          ∙ get_or-lowest n v i below
      | inr here ↦
          let e : i ≡ n = omega arith in
          rw e (ap (λ l. get_or l n false) parts ∙ get_or_at (lowest n v) (at v n) [] false n (length-lowest n v))
    ]

-- the bits of a number in two parts
pub bits-parts : (m n v : ℕ) → bits (m + n) v ≡ bits m (v / 2 ^ n) ++ bits n v
unfolding bits
bits-parts zero n v = let e : 0 + n ≡ n = omega arith in ap (λ k. bits k v) e
bits-parts (suc m) n v =
    let e : suc m + n ≡ suc (m + n) = omega arith in
    let c : n + m ≡ m + n = omega arith in
    ap (λ k. bits k v) e
    ∙ ap₂ {C = List Bool} (λ b r. b ∷ r) (sym (at-shifted v n m ∙ ap (at v) c)) (bits-parts m n v)

pub lowest-parts : (m n v : ℕ) → lowest (m + n) v ≡ lowest n v ++ lowest m (v / 2 ^ n)
lowest-parts m n v = ap reverse (bits-parts m n v) ∙ reverse-append (bits m (v / 2 ^ n)) (bits n v)

pub take-lowest : (m n v : ℕ) → take n (lowest (m + n) v) ≡ lowest n v
take-lowest m n v = ap (take n) (lowest-parts m n v) ∙ take_at (lowest n v) (lowest m (v / 2 ^ n)) n (length-lowest n v)

-- one more earlier bit
lowest-more : (m n v : ℕ) → lowest (suc m) (v / 2 ^ n) ≡ at v n ∷ lowest m (v / 2 ^ suc n)
unfolding bits
lowest-more m n v =
    let w : ℕ = v / 2 ^ n in
    let one : m + 1 ≡ suc m = omega arith in
    let next : n + 1 ≡ suc n = omega arith in
    let none : n + 0 ≡ n = omega arith in
    ap (λ k. lowest k w) (sym one)
    ∙ lowest-parts m 1 w
    ∙ ap₂ {C = List Bool} (λ b r. b ∷ r) (at-shifted v n 0 ∙ ap (at v) none) (ap (lowest m) (shr-shr v n 1 ∙ ap (λ k. v / 2 ^ k) next))

back-lowest : (m n v k : ℕ) → 0 < k → k ≤ m → back (lowest m (v / 2 ^ suc n)) k ≡ at v (n + k)
back-lowest m n v k some within =
    let e : suc n + (k - 1) ≡ n + k = omega arith in
    get_or-lowest m (v / 2 ^ suc n) (k - 1) (omega arith) ∙ at-shifted v (suc n) (k - 1) ∙ ap (at v) e

-- v is the earlier bits and then n bits: each of these is the sum of x's and the two that came a and b places before
pub record IsSum (a b n v x : ℕ) : Type 0 where
  pub each : (i : ℕ) → i < n → at v i ≡ add (at x i) (add (at v (i + a)) (at v (i + b)))

is-sum-less : (a b n v x : ℕ) → IsSum a b (suc n) v x → IsSum a b n v x
is-sum-less a b n v x h = record { each = λ i lt. h.each i (omega arith) }

-- a word is scrambled where it is such a sum
pub scrambled-word : (a b n m v x : ℕ) → 0 < a → 0 < b → a ≤ m → b ≤ m → IsSum a b n v x
    → scrambled a b (lowest m (v / 2 ^ n)) (bits n x) ≡ bits n v
unfolding bits scrambled
scrambled-word a b zero m v x pa pb la lb h = refl
scrambled-word a b (suc n) m v x pa pb la lb h =
    let p : List Bool = lowest m (v / 2 ^ suc n) in
    let y : Bool = add (at x n) (add (back p a) (back p b)) in
    let first : y ≡ at v n =
    ap₂ {C = Bool} (λ s t. add (at x n) (add s t)) (back-lowest m n v a pa la) (back-lowest m n v b pb lb) ∙ sym (h.each n (omega arith)) in
    let rest : scrambled a b (y ∷ p) (bits n x) ≡ bits n v =
    ap (λ l. scrambled a b l (bits n x)) (ap (λ s. s ∷ p) first ∙ sym (lowest-more m n v))
    ∙ scrambled-word a b n (suc m) v x pa pb (omega arith) (omega arith) (is-sum-less a b n v x h) in
    ap₂ {C = List Bool} (λ s r. s ∷ r) first rest

-- v is the earlier bits and then n bits: x has at each of their places the sum of it and the two that came a and b places before
pub record IsSumBack (a b n v x : ℕ) : Type 0 where
  pub each : (i : ℕ) → i < n → at x i ≡ add (at v i) (add (at v (i + a)) (at v (i + b)))

is-sum-back-less : (a b n v x : ℕ) → IsSumBack a b (suc n) v x → IsSumBack a b n v x
is-sum-back-less a b n v x h = record { each = λ i lt. h.each i (omega arith) }

pub descrambled-word : (a b n m v x : ℕ) → 0 < a → 0 < b → a ≤ m → b ≤ m → IsSumBack a b n v x
    → descrambled a b (lowest m (v / 2 ^ n)) (bits n v) ≡ bits n x
unfolding bits descrambled
descrambled-word a b zero m v x pa pb la lb h = refl
descrambled-word a b (suc n) m v x pa pb la lb h =
    let p : List Bool = lowest m (v / 2 ^ suc n) in
    let first : add (at v n) (add (back p a) (back p b)) ≡ at x n =
    ap₂ {C = Bool} (λ s t. add (at v n) (add s t)) (back-lowest m n v a pa la) (back-lowest m n v b pb lb) ∙ sym (h.each n (omega arith)) in
    let rest : descrambled a b (at v n ∷ p) (bits n v) ≡ bits n x =
    ap (λ l. descrambled a b l (bits n v)) (sym (lowest-more m n v))
    ∙ descrambled-word a b n (suc m) v x pa pb (omega arith) (omega arith) (is-sum-back-less a b n v x h) in
    ap₂ {C = List Bool} (λ s r. s ∷ r) first rest
