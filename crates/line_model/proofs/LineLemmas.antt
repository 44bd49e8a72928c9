-- The ring of words, the flips, and the received word.
use Rattle.std.proofs.Common.{◌≡◌, ◌≢◌, ℕ, zero, suc, ◌+◌, ◌-◌, ◌*◌, ◌/◌, ◌%◌, ◌^◌, ◌<◌, ◌≤◌, ◌==◌, Bool, true, false, List, ◌∷◌, ◌++◌, map, length, get_or, take, set, refl, sym, ap, ap₂, ◌∙◌, inl, inr, length-append, length-set, arith}
use Rattle.std.specs.Prelude.{bit_or, bit_xor, ◌||◌, ◌⊎◌, max, if◌then◌else◌, nat_lt}
use Rattle.std.specs.Int.{bit_at}
use Rattle.std.proofs.lemmas.Bool.{cases_lt, cases_Bool, eq-eqb, ne_eqb, lt-ltb, le-ltb}
use Rattle.std.proofs.lemmas.Nat.{mod-pow-add, or_shifted, or_mod, shl-shr, shr-shr, shr_below, mod-mul-add, pow_pos, pow_below, div-add-mod'}
use Rattle.std.proofs.lemmas.Nat.Bits.{bit_at_or, bit_at_xor, bit_at-lt, bit_at-zero, bit_at-pow_same, bit_at-pow_other, bit_at_cat_low, bit_at_above}
use Rattle.std.proofs.lemmas.List.{get_or-set_same, get_or-set_other, take_all}
use Rattle.std.proofs.lemmas.List.Folds.{list_any_more}
use Rattle.std.proofs.Math.Nat.{mod-eq_of_lt, mul-mod_left, mod-lt}
use Rattle.std.proofs.Math.Pow.{mod-mod-pow}
use Rattle.jesd_base.specs.Bits.{add, bits, value}
use Rattle.jesd_base.specs.laws.BitLaws.{BitsLength, ValueOfBits, BitsOfValue, ValueBelow, ValueOfAppend}
use Rattle.line_model.specs.LineBits.{Settings, numbers_from, is_flipped, line_bit, line_word}
use Rattle.line_model.specs.kept.Lines.{Kept, HasCarried, Ring, Counted, arrived}

-- ---- the ring

next-word : (v w word : ℕ) → word < 2 ^ w → (v * 2 ^ w + word) / 2 ^ (w * 0) % 2 ^ w ≡ word
next-word v w word low =
    let z : w * 0 ≡ 0 = omega arith in
    let one : (v * 2 ^ w + word) / 2 ^ 0 ≡ v * 2 ^ w + word = omega arith in
    ap (λ k. (v * 2 ^ w + word) / 2 ^ k % 2 ^ w) z ∙ ap (λ x. x % 2 ^ w) one ∙ mod-mul-add v (2 ^ w) word low

shifted : (v w word : ℕ) → word < 2 ^ w → (v * 2 ^ w + word) / 2 ^ w ≡ v
shifted v w word low =
    let d = div-add-mod' (v * 2 ^ w + word) (2 ^ w) in
    let m = mod-mul-add v (2 ^ w) word low in
    let p = pow_pos w in
    let e : (v * 2 ^ w + word) / 2 ^ w * 2 ^ w ≡ v * 2 ^ w = omega arith in
    sym (shl-shr ((v * 2 ^ w + word) / 2 ^ w) w) ∙ ap (λ x. x / 2 ^ w) e ∙ shl-shr v w

old-word : (v w word i j : ℕ) → word < 2 ^ w → j ≡ suc i → v / 2 ^ (w * i) % 2 ^ w ≡ (v * 2 ^ w + word) / 2 ^ (w * j) % 2 ^ w
old-word v w word i j low is =
    let up : w + w * i ≡ w * suc i = omega arith in
    ap (λ x. x / 2 ^ (w * i) % 2 ^ w) (sym (shifted v w word low))
    ∙ ap (λ x. x % 2 ^ w) (shr-shr (v * 2 ^ w + word) w (w * i))
    ∙ ap (λ n. (v * 2 ^ w + word) / 2 ^ n % 2 ^ w) (up ∙ ap (λ n. w * n) (sym is))

pub ring-put : (words : List ℕ) (at to w v word : ℕ) → word < 2 ^ w → at < length words
    → (at + 1 < length words → to ≡ at + 1) → (at + 1 ≡ length words → to ≡ 0)
    → Ring words at w v → Ring (set words at word) to w (v * 2 ^ w + word)
ring-put words at to w v word low within step around r = record {
  newer = λ k below. elim (cases_lt (at + 1) n) [
    | inl inside ↦ let t = step inside in newer k (omega arith) (omega arith)
    | inr last ↦ let t = around (omega arith) in absurd (omega arith)
  ];
  older = λ k above inside. elim (cases_lt (at + 1) n) [
    | inl more ↦
        let t = step more in
        let len = length-set words at word in
        let e : k ≢ at = λ same. omega arith in
        get_or-set_other words at k word 0 e ∙ r.older k (omega arith) (omega arith)
        ∙ old-word v w word (at + n - 1 - k) (to + length (set words at word) - 1 - k) low (omega arith)
    | inr last ↦
        let t = around (omega arith) in
        let len = length-set words at word in
        let turn : to + length (set words at word) - 1 - k ≡ at + 1 - 1 - k = omega arith in
        old k (omega arith) ∙ ap (λ j. (v * 2 ^ w + word) / 2 ^ (w * j) % 2 ^ w) (sym turn)
  ];
}
  where
    n : ℕ
    n = length words

    old : (k : ℕ) → k < at + 1 → get_or (set words at word) k 0 ≡ (v * 2 ^ w + word) / 2 ^ (w * (at + 1 - 1 - k)) % 2 ^ w
    old k below = elim (cases_lt k at) [
      | inl before ↦
          let e : k ≢ at = λ same. omega arith in
          get_or-set_other words at k word 0 e ∙ r.newer k before ∙ old-word v w word (at - 1 - k) (at + 1 - 1 - k) low (omega arith)
      | inr here ↦
          let e : k ≡ at = omega arith in
          let z : at + 1 - 1 - k ≡ 0 = omega arith in
          ap (λ x. get_or (set words at word) x 0) e ∙ get_or-set_same words at word 0 within
          ∙ sym (next-word v w word low) ∙ ap (λ j. (v * 2 ^ w + word) / 2 ^ (w * j) % 2 ^ w) (sym z)
    ]

    newer : (k : ℕ) → k < at + 1 → to ≡ at + 1 → get_or (set words at word) k 0 ≡ (v * 2 ^ w + word) / 2 ^ (w * (to - 1 - k)) % 2 ^ w
    newer k below is = old k below ∙ ap (λ j. (v * 2 ^ w + word) / 2 ^ (w * (j - 1 - k)) % 2 ^ w) (sym is)

-- ---- two words joined

low-of-both : (x r s w : ℕ) → s + r ≡ w → x % 2 ^ w / 2 ^ r ≡ x / 2 ^ r % 2 ^ s
low-of-both x r s w whole =
    let b = mod-lt x (pow_pos r) in
    let d = shifted (x / 2 ^ r % 2 ^ s) r (x % 2 ^ r) b in
    ap (λ n. x % 2 ^ n / 2 ^ r) (sym whole) ∙ ap (λ y. y / 2 ^ r) (mod-pow-add x s r) ∙ d

pub joined-is : (l t w rest : ℕ) → w ≤ 66 → rest < w → t < 2 ^ w
    → bit_or (l * 2 ^ (w - rest) % 2 ^ 128) (t / 2 ^ rest) % 2 ^ w ≡ l % 2 ^ rest * 2 ^ (w - rest) + t / 2 ^ rest
joined-is l t w rest most within small =
    let s : ℕ = w - rest in
    let whole : rest + s ≡ w = omega arith in
    let turned : s + rest ≡ w = omega arith in
    let wide : 128 - w + w ≡ 128 = omega arith in
    let up : l * 2 ^ s % 2 ^ w ≡ l % 2 ^ rest * 2 ^ s =
    ap (λ n. l * 2 ^ s % 2 ^ n) (sym whole)
    ∙ mod-pow-add (l * 2 ^ s) rest s
    ∙ ap₂ (λ a b. a % 2 ^ rest * 2 ^ s + b) (shl-shr l s) (mul-mod_left l (2 ^ s))
    ∙ omega arith in
    let below : t / 2 ^ rest < 2 ^ s = shr_below t s rest (rw turned small) in
    let less : 2 ^ s ≤ 2 ^ w = ordered s w (omega arith) in
    let first : l * 2 ^ s % 2 ^ 128 % 2 ^ w ≡ l % 2 ^ rest * 2 ^ s =
    ap (λ n. l * 2 ^ s % 2 ^ n % 2 ^ w) (sym wide) ∙ mod-mod-pow (l * 2 ^ s) (128 - w) w ∙ up in
    or_mod (l * 2 ^ s % 2 ^ 128) (t / 2 ^ rest) w
    ∙ ap₂ bit_or first (mod-eq_of_lt (omega arith))
    ∙ or_shifted (l % 2 ^ rest) s (t / 2 ^ rest) below
  where
    ordered : (a b : ℕ) → a ≤ b → 2 ^ a ≤ 2 ^ b
    ordered a b le = elim (cases_lt a b) [
      | inl lt ↦ let p : 2 ^ a < 2 ^ b = pow_below a b lt in omega arith
      | inr ge ↦ let e : a ≡ b = omega arith in rw e (omega arith)
    ]

-- the word that ends d bits before the end of all bits, from the two words in which it lies
pub carried-is : (v w whole rest d : ℕ) → rest < w → whole * w + rest ≡ d
    → (v / 2 ^ (w * (whole + 1)) % 2 ^ w) % 2 ^ rest * 2 ^ (w - rest) + v / 2 ^ (w * whole) % 2 ^ w / 2 ^ rest ≡ v / 2 ^ d % 2 ^ w
carried-is v w whole rest d within is =
    let s : ℕ = w - rest in
    let x : ℕ = v / 2 ^ (w * whole) in
    let turned : s + rest ≡ w = omega arith in
    let front : rest + s ≡ w = omega arith in
    let next : w * whole + w ≡ w * (whole + 1) = omega arith in
    let all : w * whole + rest ≡ d = omega arith in
    let a : v / 2 ^ (w * (whole + 1)) ≡ x / 2 ^ w = sym (shr-shr v (w * whole) w ∙ ap (λ n. v / 2 ^ n) next) in
    let b : x / 2 ^ w % 2 ^ w % 2 ^ rest ≡ x / 2 ^ w % 2 ^ rest = ap (λ n. x / 2 ^ w % 2 ^ n % 2 ^ rest) (sym turned) ∙ mod-mod-pow (x / 2 ^ w) s rest in
    let c : x / 2 ^ w ≡ x / 2 ^ rest / 2 ^ s = sym (shr-shr x rest s ∙ ap (λ n. x / 2 ^ n) front) in
    ap₂ (λ h l. h % 2 ^ w % 2 ^ rest * 2 ^ s + l) a (low-of-both x rest s w turned)
    ∙ ap (λ h. h * 2 ^ s + x / 2 ^ rest % 2 ^ s) (b ∙ ap (λ y. y % 2 ^ rest) c)
    ∙ sym (mod-pow-add (x / 2 ^ rest) rest s)
    ∙ ap (λ n. x / 2 ^ rest % 2 ^ n) front
    ∙ ap (λ y. y % 2 ^ w) (shr-shr v (w * whole) rest ∙ ap (λ n. v / 2 ^ n) all)

-- ---- flips

one-of-two : (x : ℕ) → x < 2 → (x ≡ 0) ⊎ (x ≡ 1)
one-of-two x low = elim (cases_lt x 1) [ inl a ↦ inl (omega arith) | inr b ↦ inr (omega arith) ]

max-is : (x y : ℕ) → x < 2 → y < 2 → (max x y == 1) ≡ ((x == 1) || (y == 1))
max-is x y a b = elim (one-of-two x a) [
  | inl p ↦ elim (one-of-two y b) [ inl q ↦ rw (p, q) refl | inr q ↦ rw (p, q) refl ]
  | inr p ↦ elim (one-of-two y b) [ inl q ↦ rw (p, q) refl | inr q ↦ rw (p, q) refl ]
]

sum-is : (x y : ℕ) → x < 2 → y < 2 → ((x + y) % 2 == 1) ≡ add (y == 1) (x == 1)
sum-is x y a b = elim (one-of-two x a) [
  | inl p ↦ elim (one-of-two y b) [ inl q ↦ rw (p, q) refl | inr q ↦ rw (p, q) refl ]
  | inr p ↦ elim (one-of-two y b) [ inl q ↦ rw (p, q) refl | inr q ↦ rw (p, q) refl ]
]

or-is : (x y r : ℕ) → (bit_at (bit_or x y) r == 1) ≡ ((bit_at x r == 1) || (bit_at y r == 1))
or-is x y r = ap (λ t. t == 1) (bit_at_or x y r) ∙ max-is (bit_at x r) (bit_at y r) (bit_at-lt x r) (bit_at-lt y r)

xor-is : (x y r : ℕ) → (bit_at (bit_xor x y) r == 1) ≡ add (bit_at y r == 1) (bit_at x r == 1)
xor-is x y r = ap (λ t. t == 1) (bit_at_xor x y r) ∙ sum-is (bit_at x r) (bit_at y r) (bit_at-lt x r) (bit_at-lt y r)

one-bit : (s : ℕ) → s < 128 → 1 * 2 ^ s % 2 ^ 128 ≡ 2 ^ s
one-bit s low =
    let p : 2 ^ s < 2 ^ 128 = pow_below s 128 low in
    let q : 1 * 2 ^ s ≡ 2 ^ s = omega arith in
    ap (λ x. x % 2 ^ 128) q ∙ mod-eq_of_lt p

pub flip-below : (s w : ℕ) → s < w → w ≤ 66 → 1 * 2 ^ s % 2 ^ 128 < 2 ^ w
flip-below s w low most = let p : 2 ^ s < 2 ^ w = pow_below s w low in rw (one-bit s (omega arith)) p

later : (d i : ℕ) (b : Bool) → d ≤ i → arrived d i b ≡ b
later d i b le = ap (λ t. if t then false else b) (le-ltb i d le)

early : (d i : ℕ) (b : Bool) → i < d → arrived d i b ≡ false
early d i b lt = ap (λ t. if t then false else b) (lt-ltb i d lt)

pub flip-none : (f e w d p : ℕ) → w ≤ e → f < d → (bit_at 0 p == 1) ≡ arrived d (e - 1 - p) (f == (e - 1 - p))
flip-none f e w d p long low = ap (λ t. t == 1) (bit_at-zero p) ∙ elim (cases_lt (e - 1 - p) d) [
  | inl before ↦ sym (early d (e - 1 - p) _ before)
  | inr after ↦ sym (later d (e - 1 - p) _ after ∙ ne_eqb f (e - 1 - p) (λ same. omega arith))
]

pub flip-is : (f e w d p : ℕ) → w ≤ 66 → w ≤ e → f < e → e ≤ f + w → d ≤ f → p < w
    → (bit_at (1 * 2 ^ (e - 1 - f) % 2 ^ 128) p == 1) ≡ arrived d (e - 1 - p) (f == (e - 1 - p))
flip-is f e w d p most long below above after within =
    let s : ℕ = e - 1 - f in
    ap (λ x. bit_at x p == 1) (one-bit s (omega arith)) ∙ elim (cases_lt p s) [
      | inl low ↦ other (λ same. omega arith) (λ same. omega arith)
      | inr high ↦ elim (cases_lt s p) [
        | inl up ↦ elim (cases_lt (e - 1 - p) f) [
          | inl less ↦ other (λ same. omega arith) (λ same. omega arith)
          | inr more ↦ absurd (omega arith)
        ]
        | inr down ↦
            let same : p ≡ s = omega arith in
            let i : f ≡ e - 1 - p = omega arith in
            ap (λ x. bit_at (2 ^ s) x == 1) same ∙ ap (λ t. t == 1) (bit_at-pow_same s)
            ∙ sym (later d (e - 1 - p) (f == (e - 1 - p)) (omega arith) ∙ eq-eqb f (e - 1 - p) i)
      ]
    ]
  where
    other : p ≢ (e - 1 - f) → f ≢ (e - 1 - p) → (bit_at (2 ^ (e - 1 - f)) p == 1) ≡ arrived d (e - 1 - p) (f == (e - 1 - p))
    other a b = ap (λ t. t == 1) (bit_at-pow_other (e - 1 - f) p a) ∙ elim (cases_lt (e - 1 - p) d) [
      | inl before ↦ sym (early d (e - 1 - p) _ before)
      | inr past ↦ sym (later d (e - 1 - p) _ past ∙ ne_eqb f (e - 1 - p) b)
    ]

arrived-or : (d i : ℕ) (x y : Bool) → (arrived d i x || arrived d i y) ≡ arrived d i (x || y)
arrived-or d i x y = elim (cases_Bool (nat_lt i d)) [
  | inl set_bit ↦ rw set_bit refl
  | inr clear ↦ rw clear refl
]

pub mask-step : (flips : List ℕ) (k d i p mask b : ℕ) → k < length flips
    → (bit_at mask p == 1) ≡ arrived d i (is_flipped (take k flips) i)
    → (bit_at b p == 1) ≡ arrived d i (get_or flips k 0 == i)
    → (bit_at (bit_or mask b) p == 1) ≡ arrived d i (is_flipped (take (k + 1) flips) i)
mask-step flips k d i p mask b within before here =
    or-is mask b p ∙ ap₂ {C = Bool} (λ x y. x || y) before here
    ∙ arrived-or d i (is_flipped (take k flips) i) (get_or flips k 0 == i)
    ∙ ap (arrived d i) (sym (list_any_more (λ f. f == i) flips k 0 within))

any-later : (flips : List ℕ) (i k : ℕ) → ((j : ℕ) → k ≤ j → j < length flips → i < get_or flips j 0)
    → (n : ℕ) → k + n ≤ length flips → is_flipped (take (k + n) flips) i ≡ is_flipped (take k flips) i
any-later flips i k high zero within = let e : k + 0 ≡ k = omega arith in ap (λ x. is_flipped (take x flips) i) e
any-later flips i k high (suc n) within =
    let e : k + suc n ≡ (k + n) + 1 = omega arith in
    let h = high (k + n) (omega arith) (omega arith) in
    let no : (get_or flips (k + n) 0 == i) ≡ false = ne_eqb (get_or flips (k + n) 0) i (λ same. omega arith) in
    ap (λ x. is_flipped (take x flips) i) e
    ∙ list_any_more (λ f. f == i) flips (k + n) 0 (omega arith)
    ∙ ap₂ {C = Bool} (λ x y. x || y) (any-later flips i k high n (omega arith)) no
    ∙ or-none (is_flipped (take k flips) i)
  where
    or-none : (x : Bool) → (x || false) ≡ x
    or-none true = refl
    or-none false = refl

-- the flips before k are all that are at or below i
pub flipped-before : (flips : List ℕ) (i k : ℕ) → k ≤ length flips → ((j : ℕ) → k ≤ j → j < length flips → i < get_or flips j 0)
    → is_flipped (take k flips) i ≡ is_flipped flips i
flipped-before flips i k most high =
    let e : k + (length flips - k) ≡ length flips = omega arith in
    sym (any-later flips i k high (length flips - k) (omega arith))
    ∙ ap (λ x. is_flipped (take x flips) i) e ∙ ap (λ l. is_flipped l i) (take_all (length flips) flips (omega arith))

-- flips from one index to another that are below i
pub passed-more : (flips : List ℕ) (i k : ℕ) → is_flipped (take k flips) i ≡ false
    → (n : ℕ) → k + n ≤ length flips → ((j : ℕ) → k ≤ j → j < k + n → get_or flips j 0 < i) → is_flipped (take (k + n) flips) i ≡ false
passed-more flips i k none zero within low = let e : k + 0 ≡ k = omega arith in ap (λ x. is_flipped (take x flips) i) e ∙ none
passed-more flips i k none (suc n) within low =
    let e : k + suc n ≡ (k + n) + 1 = omega arith in
    let h = low (k + n) (omega arith) (omega arith) in
    let no : (get_or flips (k + n) 0 == i) ≡ false = ne_eqb (get_or flips (k + n) 0) i (λ same. omega arith) in
    ap (λ x. is_flipped (take x flips) i) e
    ∙ list_any_more (λ f. f == i) flips (k + n) 0 (omega arith)
    ∙ ap₂ {C = Bool} (λ x y. x || y) (passed-more flips i k none n (omega arith) (λ j a b. low j a (omega arith))) no

-- what the flips of a tick are
pub record Passes (flips : List ℕ) (next to end : ℕ) : Type 0 where
  pub least : next ≤ to
  pub most : to ≤ length flips
  pub below : (k : ℕ) → next ≤ k → k < to → get_or flips k 0 < end
  pub above : (k : ℕ) → to ≤ k → k < length flips → end ≤ get_or flips k 0
  pub small : to < length flips → end < 2 ^ 64

pub counts-on : (flips : List ℕ) (next to first w n after : ℕ) → Passes flips next to (first + w) → Counted flips next first n
    → (first + w ≤ 2 ^ 64 → after ≡ first + w) → Counted flips to after (n + w)
counts-on flips next to first w n after p c clamp = record {
  passed = λ i high. elim (cases_lt next (length flips)) [
    | inl more ↦
        let least = p.least in
        let most = p.most in
        let f = c.count more in
        let e : next + (to - next) ≡ to = omega arith in
        ap (λ x. is_flipped (take x flips) i) (sym e)
        ∙ passed-more flips i next (c.passed i (omega arith)) (to - next) (omega arith)
        (λ j a b. let l = p.below j a (omega arith) in omega arith)
    | inr none ↦
        let least = p.least in
        let most = p.most in
        let e : to ≡ next = omega arith in
        ap (λ x. is_flipped (take x flips) i) e ∙ c.passed i (omega arith)
  ];
  count = λ more.
      let least = p.least in
      let small = p.small more in
      let f = c.count (omega arith) in
      let a = clamp (omega arith) in
      omega arith;
}

pub mask-is : (flips : List ℕ) (next to first w n d mask : ℕ) → Passes flips next to (first + w) → Counted flips next first n
    → (next ≡ to → mask ≡ 0)
    → (((i : ℕ) → first + w ≤ i + w → is_flipped (take next flips) i ≡ false)
    → (p : ℕ) → p < w → (bit_at mask p == 1) ≡ arrived d (first + w - 1 - p) (is_flipped (take to flips) (first + w - 1 - p)))
    → (p : ℕ) → p < w → (bit_at mask p == 1) ≡ arrived d (n + w - 1 - p) (is_flipped flips (n + w - 1 - p))
mask-is flips next to first w n d mask ps c none is p within = elim (cases_lt next (length flips)) [
  | inl more ↦
      let f = c.count more in
      is (λ i high. c.passed i (omega arith)) p within
      ∙ ap (arrived d (first + w - 1 - p)) (flipped-before flips (first + w - 1 - p) to ps.most (λ j a b. let h = ps.above j a b in omega arith))
      ∙ ap (λ x. arrived d (x + w - 1 - p) (is_flipped flips (x + w - 1 - p))) f
  | inr past ↦
      let least = ps.least in
      let most = ps.most in
      let i : ℕ = n + w - 1 - p in
      let z : mask ≡ 0 = none (omega arith) in
      let no : is_flipped flips i ≡ false = ap (λ l. is_flipped l i) (sym (take_all next flips past)) ∙ c.passed i (omega arith) in
      ap (λ x. bit_at x p == 1) z ∙ ap (λ t. t == 1) (bit_at-zero p) ∙ sym (ap (arrived d i) no ∙ arrived-none i)
]
  where
    arrived-none : (i : ℕ) → arrived d i false ≡ false
    arrived-none i = elim (cases_lt i d) [ inl lt ↦ early d i false lt | inr le ↦ later d i false le ]

-- ---- the received word

bits-by : (f : ℕ → Bool) (w a x : ℕ) → ((p : ℕ) → p < w → (bit_at x p == 1) ≡ f (a + w - 1 - p)) → bits w x ≡ map f (numbers_from a w)
unfolding bits numbers_from
bits-by f zero a x h = refl
bits-by f (suc n) a x h =
    let top : a + suc n - 1 - n ≡ a = omega arith in
    ap₂ {C = List Bool} (λ b r. b ∷ r) (h n (omega arith) ∙ ap f top)
    (bits-by f n (suc a) x (λ p low. let e : a + suc n - 1 - p ≡ suc a + n - 1 - p = omega arith in h p (omega arith) ∙ ap f e))

get-bit : (n x k : ℕ) → k < n → get_or (bits n x) k false ≡ (bit_at x (n - 1 - k) == 1)
unfolding bits
get-bit zero x k low = absurd (omega arith)
get-bit (suc n) x zero low = let e : n ≡ suc n - 1 - 0 = omega arith in ap (λ m. bit_at x m == 1) e
get-bit (suc n) x (suc k) low = let e : n - 1 - k ≡ suc n - 1 - suc k = omega arith in get-bit n x k (omega arith) ∙ ap (λ m. bit_at x m == 1) e

low-bit : (x w p : ℕ) → p < w → bit_at (x % 2 ^ w) p ≡ bit_at x p
low-bit x w p low = sym (bit_at_cat_low (x / 2 ^ w) w (x % 2 ^ w) p low) ∙ ap (λ y. bit_at y p) (div-add-mod' x (2 ^ w))

-- what a step does
pub record Stepped (old put new : Kept) (word mask carried : ℕ) : Type 0 where
  pub low : word < 2 ^ old.set.width
  pub put_set : put.set ≡ old.set
  pub put_next : put.next ≡ old.next
  pub put_first : put.first ≡ old.first
  pub put_words : (w v : ℕ) → word < 2 ^ w → Ring old.words old.at w v → Ring put.words put.at w (v * 2 ^ w + word)
  pub new_set : new.set ≡ put.set
  pub new_words : new.words ≡ put.words
  pub new_at : new.at ≡ put.at
  pub counts : (n : ℕ) → Counted put.set.flips put.next put.first n → Counted new.set.flips new.next new.first (n + put.set.width)
  pub mask_is : (n : ℕ) → Counted put.set.flips put.next put.first n → (p : ℕ) → p < put.set.width
      → (bit_at mask p == 1) ≡ arrived put.set.delay (n + put.set.width - 1 - p) (is_flipped put.set.flips (n + put.set.width - 1 - p))
  pub carried_is : (v : ℕ) → Ring new.words new.at new.set.width v → carried ≡ v / 2 ^ new.set.delay % 2 ^ new.set.width

module _ (length_of : BitsLength) (of_bits : ValueOfBits) (of_value : BitsOfValue) (value_below : ValueBelow) (value_append : ValueOfAppend) where
  pub new-value : (sent : List Bool) (w word : ℕ) → word < 2 ^ w → value (sent ++ bits w word) ≡ value sent * 2 ^ w + word
  new-value sent w word low =
      value_append sent (bits w word)
      ∙ ap₂ {C = ℕ} (λ n x. value sent * 2 ^ n + x) (length_of w word) (of_bits w word ∙ mod-eq_of_lt low)

  pub new-length : (sent : List Bool) (w word : ℕ) → length (sent ++ bits w word) ≡ length sent + w
  new-length sent w word = length-append sent (bits w word) ∙ ap (λ n. length sent + n) (length_of w word)

  carried-bit : (xs : List Bool) (w d p : ℕ) → p < w → w ≤ length xs
      → (bit_at (value xs / 2 ^ d % 2 ^ w) p == 1) ≡ arrived d (length xs - 1 - p) (get_or xs (length xs - 1 - p - d) false)
  carried-bit xs w d p low long =
      let n : ℕ = length xs in
      let i : ℕ = n - 1 - p in
      ap (λ t. t == 1) (low-bit (value xs / 2 ^ d) w p low ∙ ap (λ y. y % 2) (shr-shr (value xs) d p)) ∙ elim (cases_lt i d) [
        | inl before ↦
            ap (λ t. t == 1) (bit_at_above (value xs) n (d + p) (value_below xs) (omega arith)) ∙ sym (early d i _ before)
        | inr after ↦
            let e : n - 1 - (i - d) ≡ d + p = omega arith in
            sym (later d i _ after ∙ ap (λ l. get_or l (i - d) false) (sym (of_value xs)) ∙ get-bit n (value xs) (i - d) (omega arith)
            ∙ ap (λ m. bit_at (value xs) m == 1) e)
      ]

  both-bits : (d i : ℕ) (x y : Bool) → add (arrived d i x) (arrived d i y) ≡ (let carried = add x y in if false || nat_lt i d then false else carried)
  both-bits d i x y = elim (cases_Bool (nat_lt i d)) [
    | inl set_bit ↦ rw set_bit refl
    | inr clear ↦ rw clear refl
  ]

  pub received : (sent : List Bool) (flips : List ℕ) (w word d mask carried : ℕ) → word < 2 ^ w
      → carried ≡ (value sent * 2 ^ w + word) / 2 ^ d % 2 ^ w
      → ((p : ℕ) → p < w → (bit_at mask p == 1) ≡ arrived d (length sent + w - 1 - p) (is_flipped flips (length sent + w - 1 - p)))
      → bits w (bit_xor mask carried) ≡ line_word w (sent ++ bits w word) flips d false
  unfolding line_word
  received sent flips w word d mask carried low is m =
      let xs : List Bool = sent ++ bits w word in
      let l = new-length sent w word in
      bits-by (line_bit xs flips d false) w (length xs - w) (bit_xor mask carried) (λ p below.
      let i : length xs - w + w - 1 - p ≡ length xs - 1 - p = omega arith in
      let j : length sent + w - 1 - p ≡ length xs - 1 - p = omega arith in
      let c : carried ≡ value xs / 2 ^ d % 2 ^ w = is ∙ ap (λ v. v / 2 ^ d % 2 ^ w) (sym (new-value sent w word low)) in
      xor-is mask carried p
      ∙ ap₂ {C = Bool} add (ap (λ x. bit_at x p == 1) c ∙ carried-bit xs w d p below (omega arith))
      (m p below ∙ ap (λ k. arrived d k (is_flipped flips k)) j)
      ∙ both-bits d (length xs - 1 - p) (get_or xs (length xs - 1 - p - d) false) (is_flipped flips (length xs - 1 - p))
      ∙ ap (line_bit xs flips d false) (sym i))

  module _ (old put new : Kept) (word mask carried : ℕ) (s : Settings) (sent : List Bool) (t : Stepped old put new word mask carried) (h : HasCarried old s sent) where
    set_put : put.set ≡ s
    set_put = t.put_set ∙ h.keeps_settings

    set_new : new.set ≡ s
    set_new = t.new_set ∙ set_put

    low_word : word < 2 ^ s.width
    low_word = rw (← ap (λ (k : Settings). k.width) h.keeps_settings) t.low

    ring : Ring new.words new.at s.width (value sent * 2 ^ s.width + word)
    ring = rw (t.new_words, t.new_at) (t.put_words s.width (value sent) low_word h.keeps_words)

    counted : Counted put.set.flips put.next put.first (length sent)
    counted = rw (ap (λ (k : Settings). k.flips) set_put, t.put_next, t.put_first) h.keeps_flips

    pub step-answers : s.dead ≡ false → bits s.width (bit_xor mask carried) ≡ line_word s.width (sent ++ bits s.width word) s.flips s.delay s.dead
    step-answers alive =
        let v : ℕ = value sent * 2 ^ s.width + word in
        let n : ℕ = length sent in
        received sent s.flips s.width word s.delay mask carried low_word
        (t.carried_is v (rw (ap (λ (k : Settings). k.width) set_new) ring) ∙ ap (λ (k : Settings). v / 2 ^ k.delay % 2 ^ k.width) set_new)
        (λ p below. t.mask_is n counted p (rw (ap (λ (k : Settings). k.width) set_put) below)
        ∙ ap (λ (k : Settings). arrived k.delay (n + k.width - 1 - p) (is_flipped k.flips (n + k.width - 1 - p))) set_put)
        ∙ ap (line_word s.width (sent ++ bits s.width word) s.flips s.delay) (sym alive)

    pub step-goes-on : HasCarried new s (sent ++ bits s.width word)
    step-goes-on = record {
      keeps_settings = set_new;
      keeps_ticks = ap (λ n. n % s.width) (new-length sent s.width word ∙ whole) ∙ mul-mod_left (length sent / s.width + 1) s.width;
      keeps_words = rw (new-value sent s.width word low_word) ring;
      keeps_flips = rw (new-length sent s.width word) (rw (ap (λ (k : Settings). k.flips) set_new, ap (λ (k : Settings). k.width) set_put) at (t.counts (length sent) counted));
    }
      where
        whole : length sent + s.width ≡ (length sent / s.width + 1) * s.width
        whole =
            let d = div-add-mod' (length sent) s.width in
            let z = h.keeps_ticks in
            omega arith

pub nothing : (xs : List Bool) (flips : List ℕ) (w d : ℕ) → bits w 0 ≡ line_word w xs flips d true
unfolding line_word
nothing xs flips w d = bits-by (line_bit xs flips d true) w (length xs - w) 0 (λ p low. ap (λ t. t == 1) (bit_at-zero p))
