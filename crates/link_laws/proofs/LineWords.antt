-- What a line that is not disturbed does to the bits that are sent: they come d bits later, after d
-- bits that are 0.
use Rattle.std.proofs.Common.{◌≡◌, ℕ, zero, suc, ◌+◌, ◌-◌, ◌<◌, ◌≤◌, ◌==◌, nat_lt, Bool, true, false, List, [], ◌∷◌, ◌++◌, length, map, filter, drop, take, get_or, replicate, inl, inr, refl, sym, ap, ap₂, ◌∙◌, length-append, arith}
use Rattle.std.proofs.Math.Seq.{drop-cons}
use Rattle.std.proofs.lemmas.Bool.{cases_Bool, ne_eqb, cases_lt, lt-ltb, le-ltb, or_from, cond-true, cond-false}
use Rattle.std.proofs.lemmas.List.{get_or-append_right, get_or-replicate, get_or_append_left, length-map, length-replicate}
use Rattle.jesd_base.specs.Bits.{add}
use Rattle.line_model.specs.LineBits.{is_flipped, line_bit, line_word, numbers_from}

-- the bits of a line: d zero bits, and then what was sent
abbrev pub line : ℕ → List Bool → List Bool
line d sent = replicate d false ++ sent

pub length-line : (d : ℕ) (sent : List Bool) → length (line d sent) ≡ d + length sent
length-line d sent = length-append (replicate d false) sent
    ∙ ap (λ n. n + length sent) (length-replicate d false)

add-none : (b : Bool) → add b false ≡ b
add-none true = refl
add-none false = refl

bit-carried : (sent : List Bool) (flips : List ℕ) (d i : ℕ) → (d ≤ i → is_flipped flips i ≡ false)
    → line_bit sent flips d false i ≡ get_or (line d sent) i false
bit-carried sent flips d i none = elim (cases_lt i d) [
  | inl early ↦
      let long = length-replicate d false in
      cond-true (nat_lt i d) false (add (get_or sent (i - d) false) (is_flipped flips i))
      (lt-ltb i d early)
      ∙ sym (get_or_append_left (replicate d false) sent false i (omega arith)
      ∙ get_or-replicate d i false false early)
  | inr late ↦
      cond-false (nat_lt i d) false (add (get_or sent (i - d) false) (is_flipped flips i))
      (le-ltb i d late)
      ∙ ap (add (get_or sent (i - d) false)) (none late) ∙ add-none (get_or sent (i - d) false)
      ∙ sym (get_or-append_right (replicate d false) sent d i false (length-replicate d false) late)
]

bits-carried : (n a : ℕ) (sent : List Bool) (flips : List ℕ) (d : ℕ) → a + n ≤ length (line d sent)
    → ((i : ℕ) → a ≤ i → i < a + n → d ≤ i → is_flipped flips i ≡ false)
    → map (line_bit sent flips d false) (numbers_from a n) ≡ take n (drop a (line d sent))
unfolding numbers_from
bits-carried zero a sent flips d inside none = refl
bits-carried (suc n) a sent flips d inside none =
    let rest = bits-carried n (suc a) sent flips d (omega arith)
    (λ i low up. none i (omega arith) (omega arith)) in
    let here = bit-carried sent flips d a (none a (omega arith) (omega arith)) in
    ap₂ (λ (b : Bool) (l : List Bool). b ∷ l) here rest
    ∙ sym (ap (take (suc n)) (drop-cons (line d sent) a false (omega arith)))

-- the word of a tick
pub word-carried : (w : ℕ) (sent : List Bool) (flips : List ℕ) (d : ℕ) → w ≤ length sent
    → ((i : ℕ) → length sent - w ≤ i → i < length sent → d ≤ i → is_flipped flips i ≡ false)
    → line_word w sent flips d false ≡ take w (drop (length sent - w) (line d sent))
unfolding line_word
word-carried w sent flips d some none =
    let long = length-line d sent in
    bits-carried w (length sent - w) sent flips d (omega arith)
    (λ i low up. none i low (omega arith))

pub flipped-filter : (l : List ℕ) (f : ℕ → Bool) (i : ℕ) → f i ≡ false
    → is_flipped (filter f l) i ≡ false
flipped-filter [] f i none = refl
flipped-filter (x ∷ l) f i none = elim (cases_Bool (f x)) [
  | inr out ↦ rw out (flipped-filter l f i none)
  | inl kept ↦
      rw kept
      (or_from (x == i) (is_flipped (filter f l) i)
      (ne_eqb x i (λ same. let e : f x ≡ f i = ap f same in absurd (cc)))
      (flipped-filter l f i none))
]

length-numbers : (n a : ℕ) → length (numbers_from a n) ≡ n
unfolding numbers_from
length-numbers zero a = refl
length-numbers (suc n) a = ap suc (length-numbers n (suc a))

pub length-word : (w : ℕ) (sent : List Bool) (flips : List ℕ) (d : ℕ) (dead : Bool)
    → length (line_word w sent flips d dead) ≡ w
unfolding line_word
length-word w sent flips d dead = length-map (numbers_from (length sent - w) w)
    (line_bit sent flips d dead) ∙ length-numbers w (length sent - w)
