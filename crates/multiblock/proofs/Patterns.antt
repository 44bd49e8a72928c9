-- A pattern of bits, and what a hunt keeps of it.
use Rattle.std.proofs.Common.{◌≡◌, ℕ, zero, suc, ◌+◌, ◌-◌, ◌*◌, ◌/◌, ◌%◌, ◌^◌, ◌<◌, ◌≤◌, ◌==◌, Bool, true, false, List, [], ◌∷◌, ◌++◌, take, drop, get_or, refl, sym, ap, ap₂, ◌∙◌, arith}
use Rattle.std.specs.Prelude.{not, ◌&&◌, Option, Some, None, option_map, max}
use Rattle.std.specs.Int.{bit_at}
use Rattle.std.proofs.lemmas.Bool.{and_right}
use Rattle.std.proofs.Common.{bit_and}
use Rattle.multiblock.proofs.Masks.{and-is}
use Rattle.std.proofs.lemmas.Nat.{shr-shr}
use Rattle.std.proofs.lemmas.Nat.Bits.{bit_at_cat_low}
use mathlib.Core.Bool.{beq}
use Rattle.jesd_base.specs.Bits.{bits, add}
use Rattle.jesd_base.specs.Search.{first_from}
use Rattle.block_66b.specs.Blocks.{header}
use Rattle.block_66b.specs.declared.sync_bit.SyncBit.{SyncBit}
use Rattle.multiblock.specs.SyncWords.{same_bits, pilot}
use Rattle.multiblock.specs.Places.{headers, pieces, pattern_size, good, have_pilots, ends_at, remainder_of, pattern}
use Rattle.multiblock.specs.kept.Hunts.{Kept, aged, is_good, sync_bit, all_good, pilot_at, all_words, ends_of, remainder_at}

-- ---- bits

pub drop-bits : (a n m v : ℕ) → n ≡ a + m → drop a (bits n v) ≡ bits m v
unfolding bits
drop-bits zero n m v e = ap (λ k. bits k v) (let s : n ≡ m = omega arith in s)
drop-bits (suc a) zero m v e = absurd (omega arith)
drop-bits (suc a) (suc n) m v e = drop-bits a n m v (omega arith)

-- ---- headers

-- the sync bits of the last n blocks, first the oldest
unfoldable sent : (ℕ → Bool) → ℕ → List Bool
sent sync zero = []
sent sync (suc n) = let more = sent sync n in sync n ∷ more

good-more : (a b : Bool) (xs : List Bool) (hs : List SyncBit)
    → good (header (a ∷ b ∷ xs) ∷ hs) ≡ elim (add a b) as (λ t. Option (List Bool)) [ true ↦ option_map (λ bs. b ∷ bs) (good hs) | false ↦ None ]
unfolding good header
good-more true true xs hs = refl
good-more true false xs hs = refl
good-more false true xs hs = refl
good-more false false xs hs = refl

-- the sync bits, where all headers are good
abbrev kept : Bool → List Bool → Option (List Bool)
kept true bs = Some bs
kept false bs = None

kept-more : (t u b : Bool) (bs : List Bool) → elim t as (λ x. Option (List Bool)) [ true ↦ option_map (λ bs. b ∷ bs) (kept u bs) | false ↦ None ] ≡ kept (t && u) (b ∷ bs)
kept-more true true b bs = refl
kept-more true false b bs = refl
kept-more false u b bs = refl

record Heads (good sync : ℕ → Bool) (n r v : ℕ) : Type 0 where
  goods : (j : ℕ) → j < n → good j ≡ add (bit_at v (66 * j + 65 + r) == 1) (bit_at v (66 * j + 64 + r) == 1)
  syncs : (j : ℕ) → j < n → sync j ≡ (bit_at v (66 * j + 64 + r) == 1)

block-bits : (n r v : ℕ) → bits (66 * suc n + r) v ≡ (bit_at v (66 * n + 65 + r) == 1) ∷ (bit_at v (66 * n + 64 + r) == 1) ∷ bits (66 * n + 64 + r) v
unfolding bits
block-bits n r v = ap (λ k. bits k v) (let e : 66 * suc n + r ≡ suc (suc (66 * n + 64 + r)) = omega arith in e)
    ∙ ap (λ k. (bit_at v k == 1) ∷ (bit_at v (66 * n + 64 + r) == 1) ∷ bits (66 * n + 64 + r) v) (let e : suc (66 * n + 64 + r) ≡ 66 * n + 65 + r = omega arith in e)

good-headers : (good_at sync : ℕ → Bool) (n r v : ℕ) → Heads good_at sync n r v
    → good (headers n (bits (66 * n + r) v)) ≡ kept (all_good good_at 0 n) (sent sync n)
unfolding headers good all_good sent
good-headers good_at sync zero r v h = refl
good-headers good_at sync (suc n) r v h =
    let a : Bool = bit_at v (66 * n + 65 + r) == 1 in
    let b : Bool = bit_at v (66 * n + 64 + r) == 1 in
    let rest : List Bool = bits (66 * n + 64 + r) v in
    let later : drop 66 (bits (66 * suc n + r) v) ≡ bits (66 * n + r) v = drop-bits 66 (66 * suc n + r) (66 * n + r) v (omega arith) in
    let here : header (bits (66 * suc n + r) v) ≡ header (a ∷ b ∷ rest) = ap header (block-bits n r v) in
    let zero_more : n + 0 ≡ n = omega arith in
    ap₂ {C = Option (List Bool)} (λ x l. good (x ∷ headers n l)) here later
    ∙ good-more a b rest (headers n (bits (66 * n + r) v))
    ∙ ap (λ o. elim (add a b) as (λ t. Option (List Bool)) [ true ↦ option_map (λ bs. b ∷ bs) o | false ↦ None ])
    (good-headers good_at sync n r v (record { goods = λ j lt. h.goods j (omega arith); syncs = λ j lt. h.syncs j (omega arith) }))
    ∙ kept-more (add a b) (all_good good_at 0 n) b (sent sync n)
    ∙ ap₂ {C = Option (List Bool)} (λ t s. kept (t && all_good good_at 0 n) (s ∷ sent sync n))
    (sym (h.goods n (omega arith)) ∙ ap good_at (sym zero_more)) (sym (h.syncs n (omega arith)))

-- ---- words

-- n sync bits from the one of this age on, first the oldest
unfoldable part : (ℕ → Bool) → ℕ → ℕ → List Bool
part sync a zero = []
part sync a (suc n) = let more = part sync a n in sync (n + a) ∷ more

sent-more : (sync : ℕ → Bool) (a n : ℕ) → sent sync (n + a) ≡ part sync a n ++ sent sync a
unfolding sent part
sent-more sync a zero = ap (sent sync) (let e : 0 + a ≡ a = omega arith in e)
sent-more sync a (suc n) = ap (sent sync) (let e : suc n + a ≡ suc (n + a) = omega arith in e) ∙ ap (λ l. sync (n + a) ∷ l) (sent-more sync a n)

words : (ℕ → Bool) → ℕ → List (List Bool)
words sync n = pieces n 32 (sent sync (32 * n))

words-none : (sync : ℕ → Bool) → words sync 0 ≡ []
unfolding words pieces
words-none sync = refl

first-word : (sync : ℕ → Bool) (a : ℕ) (rest : List Bool) → (take 32 (part sync a 32 ++ rest) ≡ part sync a 32) × (drop 32 (part sync a 32 ++ rest) ≡ rest)
unfolding part
first-word sync a rest = (refl, refl)

words-more : (sync : ℕ → Bool) (n : ℕ) → words sync (suc n) ≡ part sync (32 * n) 32 ∷ words sync n
unfolding words pieces
words-more sync n =
    let w = first-word sync (32 * n) (sent sync (32 * n)) in
    ap (λ l. take 32 l ∷ pieces n 32 (drop 32 l)) (ap (sent sync) (let e : 32 * suc n ≡ 32 + 32 * n = omega arith in e) ∙ sent-more sync (32 * n) 32)
    ∙ ap₂ {C = List (List Bool)} (λ x y. x ∷ pieces n 32 y) w.0 w.1

same-pilot : (a b c d e : Bool) → same_bits (a ∷ b ∷ c ∷ d ∷ e ∷ []) pilot ≡ (e && (not d && (not c && (not b && not a))))
unfolding same_bits pilot
same-pilot true true true true true = refl
same-pilot true true true true false = refl
same-pilot true true true false true = refl
same-pilot true true true false false = refl
same-pilot true true false true true = refl
same-pilot true true false true false = refl
same-pilot true true false false true = refl
same-pilot true true false false false = refl
same-pilot true false true true true = refl
same-pilot true false true true false = refl
same-pilot true false true false true = refl
same-pilot true false true false false = refl
same-pilot true false false true true = refl
same-pilot true false false true false = refl
same-pilot true false false false true = refl
same-pilot true false false false false = refl
same-pilot false true true true true = refl
same-pilot false true true true false = refl
same-pilot false true true false true = refl
same-pilot false true true false false = refl
same-pilot false true false true true = refl
same-pilot false true false true false = refl
same-pilot false true false false true = refl
same-pilot false true false false false = refl
same-pilot false false true true true = refl
same-pilot false false true true false = refl
same-pilot false false true false true = refl
same-pilot false false true false false = refl
same-pilot false false false true true = refl
same-pilot false false false true false = refl
same-pilot false false false false true = refl
same-pilot false false false false false = refl

word-pilot : (sync : ℕ → Bool) (a : ℕ) → same_bits (drop 27 (part sync a 32)) pilot ≡ pilot_at sync a
unfolding part
word-pilot sync a = same-pilot (sync (4 + a)) (sync (3 + a)) (sync (2 + a)) (sync (1 + a)) (sync (0 + a))
    ∙ ap (λ t. sync t && (not (sync (1 + a)) && (not (sync (2 + a)) && (not (sync (3 + a)) && not (sync (4 + a)))))) (let e : 0 + a ≡ a = omega arith in e)

word-end : (sync : ℕ → Bool) (a : ℕ) → get_or (part sync a 32) 22 false ≡ sync (9 + a)
unfolding part
word-end sync a = refl

and-assoc : (x y z : Bool) → (x && (y && z)) ≡ ((x && y) && z)
and-assoc true y z = refl
and-assoc false y z = refl

and-four : (g p a q : Bool) → ((g && p) && (a && q)) ≡ ((g && a) && (p && q))
and-four true true a q = refl
and-four true false true q = refl
and-four true false false q = refl
and-four false p a q = refl

all-good-more : (good : ℕ → Bool) (a n : ℕ) → all_good good 0 (n + a) ≡ (all_good good a n && all_good good 0 a)
unfolding all_good
all-good-more good a zero = ap (all_good good 0) (let e : 0 + a ≡ a = omega arith in e)
all-good-more good a (suc n) =
    ap (all_good good 0) (let e : suc n + a ≡ suc (n + a) = omega arith in e)
    ∙ ap₂ {C = Bool} (λ x y. good x && y) (let e : n + a + 0 ≡ n + a = omega arith in e) (all-good-more good a n)
    ∙ and-assoc (good (n + a)) (all_good good a n) (all_good good 0 a)

words-are : (good sync : ℕ → Bool) (n : ℕ) → all_words good sync n ≡ (all_good good 0 (32 * n) && have_pilots (words sync n))
unfolding all_words all_good have_pilots
words-are good sync zero = sym (ap have_pilots (words-none sync))
words-are good sync (suc n) =
    let a : ℕ = 32 * n in
    ap (λ t. (all_good good a 32 && pilot_at sync a) && t) (words-are good sync n)
    ∙ and-four (all_good good a 32) (pilot_at sync a) (all_good good 0 a) (have_pilots (words sync n))
    ∙ ap₂ {C = Bool} (λ x y. x && y)
    (sym (all-good-more good a 32) ∙ ap (all_good good 0) (let e : 32 + 32 * n ≡ 32 * suc n = omega arith in e))
    (ap (λ t. t && have_pilots (words sync n)) (sym (word-pilot sync a)) ∙ sym (ap have_pilots (words-more sync n)))

ends-are : (e m j : ℕ) (sync : ℕ → Bool) (n : ℕ) → ends_at e m j (words sync n) ≡ ends_of e m sync j n
unfolding ends_at ends_of
ends-are e m j sync zero = ap (ends_at e m j) (words-none sync)
ends-are e m j sync (suc n) =
    ap (ends_at e m j) (words-more sync n)
    ∙ ap₂ {C = Bool} (λ x y. not (add x (j % e == m)) && y) (word-end sync (32 * n)) (ends-are e m (suc j) sync n)

-- ---- the pattern

abbrev pub where_true : Bool → Option ℕ → Option ℕ
where_true true o = o
where_true false o = None

remainder-by : (e : ℕ) (ws : List (List Bool)) (b : Bool) → have_pilots ws ≡ b → remainder_of e ws ≡ where_true (have_pilots ws) (first_from (λ m. ends_at e m 0 ws) e 0)
unfolding remainder_of
remainder-by e ws true h = ap (λ b. elim b as (λ x. Option ℕ) [ true ↦ first_from (λ m. ends_at e m 0 ws) e 0 | false ↦ None ]) h ∙ sym (ap (λ b. where_true b (first_from (λ m. ends_at e m 0 ws) e 0)) h)
remainder-by e ws false h = ap (λ b. elim b as (λ x. Option ℕ) [ true ↦ first_from (λ m. ends_at e m 0 ws) e 0 | false ↦ None ]) h ∙ sym (ap (λ b. where_true b (first_from (λ m. ends_at e m 0 ws) e 0)) h)

kept-pattern : (e n : ℕ) (t : Bool) (sync : List Bool)
    → elim (kept t sync) as (λ o. Option ℕ) [ None ↦ None | Some bs ↦ remainder_of e (pieces n 32 bs) ]
    ≡ where_true (t && have_pilots (pieces n 32 sync)) (first_from (λ m. ends_at e m 0 (pieces n 32 sync)) e 0)
kept-pattern e n false sync = refl
kept-pattern e n true sync = remainder-by e (pieces n 32 sync) (have_pilots (pieces n 32 sync)) refl

pattern-of : (e : ℕ) (good_at sync : ℕ → Bool) (r v : ℕ) → Heads good_at sync (32 * pattern_size e) r v
    → pattern e (bits (66 * (32 * pattern_size e) + r) v)
    ≡ where_true (all_words good_at sync (pattern_size e)) (first_from (λ m. ends_of e m sync 0 (pattern_size e)) e 0)
unfolding pattern words
pattern-of e good_at sync r v h =
    let n : ℕ = pattern_size e in
    ap (λ o. elim o as (λ o. Option ℕ) [ None ↦ None | Some bs ↦ remainder_of e (pieces n 32 bs) ]) (good-headers good_at sync (32 * n) r v h)
    ∙ kept-pattern e n (all_good good_at 0 (32 * n)) (sent sync (32 * n))
    ∙ ap₂ {C = Option ℕ} where_true (sym (words-are good_at sync n)) (λ i. first_from (λ m. ends-are e m 0 sync n i) e 0)

-- ---- the ring

low-bit : (x r : ℕ) → r < 68 → bit_at (x % 2 ^ 68) r ≡ bit_at x r
low-bit x r low = sym (bit_at_cat_low (x / 2 ^ 68) 68 (x % 2 ^ 68) r low) ∙ ap (λ t. bit_at t r) (let e : x / 2 ^ 68 * 2 ^ 68 + x % 2 ^ 68 ≡ x = omega arith in e)

head-bit : (v j r : ℕ) → r < 68 → bit_at (v / 2 ^ (66 * j + 64) % 2 ^ 68) r ≡ bit_at v (66 * j + 64 + r)
head-bit v j r low = low-bit (v / 2 ^ (66 * j + 64)) r low ∙ ap (λ t. t % 2) (shr-shr v (66 * j + 64) r)

ring-heads : (now : Kept) (n r v : ℕ) → n ≤ 1024 → r < 66 → ((j : ℕ) → j < 1024 → aged now j ≡ v / 2 ^ (66 * j + 64) % 2 ^ 68)
    → Heads (is_good now r) (sync_bit now r) n r v
ring-heads now n r v most low h = record {
  goods = λ j lt.
      ap₂ {C = Bool} (λ x y. add (bit_at x (1 + r) == 1) (bit_at y r == 1)) (h j (omega arith)) (h j (omega arith))
      ∙ ap₂ {C = Bool} (λ x y. add (x == 1) (y == 1)) (head-bit v j (1 + r) (omega arith) ∙ (let e : 66 * j + 64 + (1 + r) ≡ 66 * j + 65 + r = omega arith in ap (bit_at v) e)) (head-bit v j r (omega arith));
  syncs = λ j lt. ap (λ x. bit_at x r == 1) (h j (omega arith)) ∙ ap (λ x. x == 1) (head-bit v j r (omega arith));
}

pub pattern-kept : (now : Kept) (r v : ℕ) → now.e ≤ 32 → r < 66 → ((j : ℕ) → j < 1024 → aged now j ≡ v / 2 ^ (66 * j + 64) % 2 ^ 68)
    → pattern now.e (bits (66 * (32 * pattern_size now.e) + r) v)
    ≡ where_true (all_words (is_good now r) (sync_bit now r) (pattern_size now.e)) (remainder_at now r)
pattern-kept now r v most low h =
    pattern-of now.e (is_good now r) (sync_bit now r) r v (ring-heads now (32 * pattern_size now.e) r v (let m : 32 * max 4 now.e ≤ 1024 = omega arith in m) low h)

-- ---- steps of the loops

pub ends-step : (e m : ℕ) (sync : ℕ → Bool) (j n : ℕ) → j < n
    → ends_of e m sync j (n - j) ≡ (not (add (sync (9 + 32 * (n - 1 - j))) (j % e == m)) && ends_of e m sync (j + 1) (n - (j + 1)))
unfolding ends_of
ends-step e m sync j n low =
    let k : ℕ = n - 1 - j in
    let s : n - j ≡ suc k = omega arith in
    let t : k ≡ n - (j + 1) = omega arith in
    let u : suc j ≡ j + 1 = omega arith in
    ap (ends_of e m sync j) s ∙ ap₂ {C = Bool} (λ x y. not (add (sync (9 + 32 * k)) (j % e == m)) && ends_of e m sync x y) u t

pub differ : (x y p : Bool) → not (beq x y) ≡ true → false ≡ (not (add x y) && p)
differ true true p h = absurd (grind arith)
differ true false p h = refl
differ false true p h = refl
differ false false p h = absurd (grind arith)

pub agree : (x y p : Bool) → not (beq x y) ≡ false → (not (add x y) && p) ≡ p
agree true true p h = refl
agree true false p h = absurd (grind arith)
agree false true p h = absurd (grind arith)
agree false false p h = refl

pub words-step : (now : Kept) (r n phases mask : ℕ) → (bit_at mask r == 1) ≡ (all_good (is_good now r) (32 * n) 32 && pilot_at (sync_bit now r) (32 * n))
    → (bit_at phases r == 1) ≡ all_words (is_good now r) (sync_bit now r) n
    → (bit_at (bit_and phases mask) r == 1) ≡ all_words (is_good now r) (sync_bit now r) (n + 1)
unfolding all_words
words-step now r n phases mask m p =
    and-is phases mask r ∙ ap₂ {C = Bool} (λ x y. x && y) m p
    ∙ ap (all_words (is_good now r) (sync_bit now r)) (let e : suc n ≡ n + 1 = omega arith in e)

pub words-none-of : (good sync : ℕ → Bool) (more n : ℕ) → all_words good sync n ≡ false → all_words good sync (more + n) ≡ false
unfolding all_words
words-none-of good sync zero n h = ap (all_words good sync) (let e : 0 + n ≡ n = omega arith in e) ∙ h
words-none-of good sync (suc more) n h =
    ap (all_words good sync) (let e : suc more + n ≡ suc (more + n) = omega arith in e)
    ∙ and_right (all_good good (32 * (more + n)) 32 && pilot_at sync (32 * (more + n))) _ (words-none-of good sync more n h)

pub no-words : (good sync : ℕ → Bool) (n all : ℕ) → n ≤ all → all_words good sync n ≡ false → all_words good sync all ≡ false
no-words good sync n all le h = ap (all_words good sync) (let e : all ≡ (all - n) + n = omega arith in e) ∙ words-none-of good sync (all - n) n h
