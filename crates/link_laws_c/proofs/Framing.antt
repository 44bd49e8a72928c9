-- A lane that reads true multiblocks from a bit on: the pattern stands there with the true
-- remainder alone, and the place is never lost.
use Rattle.std.proofs.Common.{◌≡◌, ℕ, zero, suc, ◌+◌, ◌-◌, ◌*◌, ◌/◌, ◌%◌, ◌==◌, ◌<◌, ◌≤◌, ◌&&◌, not, Bool, true, false, List, [], ◌∷◌, map, length, drop, take, get_or, count_by, Option, Some, None, inl, inr, refl, sym, ap, ◌∙◌, eq-eqb, mod-eq_of_lt, arith}
use Rattle.std.proofs.lemmas.Bool.{cases_Bool, eqb-true}
use Rattle.std.proofs.lemmas.List.{drop-drop, ext_get_or, get_or-map, get_or-take, get_or-drop, length-map, length-drop, length-take}
use Rattle.jesd_base.specs.Bits.{add}
use Rattle.jesd_base.specs.Search.{IsLeast, first_from}
use Rattle.jesd_base.proofs.BitLemmas.{finds_least, finds_none}
use Rattle.block_66b.specs.declared.sync_bit.SyncBit.{SyncBit}
use Rattle.block_66b.specs.declared.sync_bit.SyncBit.TheVariants.{Zero, One, Bad}
use Rattle.block_66b.specs.Blocks.{header}
use Rattle.multiblock.specs.SyncWords.{pilot, same_bits}
use Rattle.multiblock.specs.Places.{Place, ends_at, good, have_pilots, headers, pattern, pattern_size, pieces, remainder_of, span}
use Rattle.multiblock.proofs.SyncLemmas.{same-are, same-self}
use Rattle.lane_c.specs.Loss.{all_carry, carries, count_last, first_loss, headers_after, is_bad, is_misplaced, loses, misplaced, misplaced_from, pattern_end}
use Rattle.link_laws_c.proofs.HeaderLists.{ReadsGood, good-of, good-reads, header_of, headers-get, headers-length, pieces-get, pieces-length}

-- the sync bits of multiblocks: each ends in the pilot, and those of one remainder have the end bit
pub record IsForm (e r : ℕ) (sync : ℕ → Bool) : Type 0 where
  pub below : r < e
  pub pilots : (j i : ℕ) → i < 5 → sync (32 * j + (27 + i)) ≡ get_or pilot i false
  pub ends : (j : ℕ) → sync (32 * j + 22) ≡ (j % e == r)

-- each whole block from bit f on, but the first, has the header that carries the sync bit of its
-- number
abbrev pub CarriesSync : List Bool → ℕ → (ℕ → Bool) → Type 0
CarriesSync bs f sync = (n : ℕ) → 0 < n → f + 66 * suc n ≤ length bs
    → header (drop (f + 66 * n) bs) ≡ header_of (sync n)

-- ---- what a pattern that stands says

pub header-same : (a b : Bool) → header_of a ≡ header_of b → a ≡ b
header-same true true e = refl
header-same false false e = refl
header-same true false e = let bad : One ≡ Zero = e in cc
header-same false true e = let bad : Zero ≡ One = e in cc

pub record Stands (e : ℕ) (bs : List Bool) (m : ℕ) : Type 0 where
  pub sync : List Bool
  pub reads : good (headers (32 * pattern_size e) bs) ≡ Some sync
  pub pilots : have_pilots (pieces (pattern_size e) 32 sync) ≡ true
  pub least : first_from (λ r. ends_at e r 0 (pieces (pattern_size e) 32 sync)) e 0 ≡ Some m

none-some : {A : Type 0} (x : A) → None ≡ Some x → ⊥
none-some x e = grind arith

remainder-parts : (e m : ℕ) (ws : List (List Bool)) (b : Bool) → have_pilots ws ≡ b
    → remainder_of e ws ≡ Some m
    → (have_pilots ws ≡ true) × (first_from (λ r. ends_at e r 0 ws) e 0 ≡ Some m)
unfolding remainder_of
remainder-parts e m ws true h is = (
  h,
  sym
      (ap (λ c. elim c as (λ b. Option ℕ) [
        | true ↦ first_from (λ r. ends_at e r 0 ws) e 0
        | false ↦
            None
      ]) h) ∙ is,
)
remainder-parts e m ws false h is =
    absurd
    (none-some m
    (sym
    (ap (λ c. elim c as (λ b. Option ℕ) [
      | true ↦ first_from (λ r. ends_at e r 0 ws) e 0
      | false ↦
          None
    ]) h) ∙ is))

abbrev after_good : ℕ → Option (List Bool) → Option ℕ
after_good e o =
    elim o as (λ o. Option ℕ) [
      | None ↦ None
      | Some sync ↦
          remainder_of e (pieces (pattern_size e) 32 sync)
    ]

stands-at : (e m : ℕ) (bs : List Bool) (o : Option (List Bool))
    → good (headers (32 * pattern_size e) bs) ≡ o → after_good e o ≡ Some m → Stands e bs m
stands-at e m bs None h is = absurd (none-some m is)
stands-at e m bs (Some sync) h is =
    let ws : List (List Bool) = pieces (pattern_size e) 32 sync in
    let parts = remainder-parts e m ws (have_pilots ws) refl is in
    record { sync = sync; reads = h; pilots = parts.0; least = parts.1 }

pub stands-of : (e m : ℕ) (bs : List Bool) → pattern e bs ≡ Some m → Stands e bs m
unfolding pattern
stands-of e m bs is = stands-at e m bs (good (headers (32 * pattern_size e) bs)) refl is

not-add : (a b : Bool) → not (add a b) ≡ true → a ≡ b
not-add true true e = refl
not-add false false e = refl
not-add true false e = let bad : false ≡ true = e in cc
not-add false true e = let bad : false ≡ true = e in cc

not-add-same : (a b : Bool) → a ≡ b → not (add a b) ≡ true
not-add-same true true e = refl
not-add-same false false e = refl
not-add-same true false e = let bad : true ≡ false = e in cc
not-add-same false true e = let bad : false ≡ true = e in cc

both-true : (a b : Bool) → (a && b) ≡ true → (a ≡ true) × (b ≡ true)
both-true true true e = (refl, refl)
both-true true false e = let bad : false ≡ true = e in absurd (cc)
both-true false b e = let bad : false ≡ true = e in absurd (cc)

and-true : (a b : Bool) → a ≡ true → b ≡ true → (a && b) ≡ true
and-true a b x y = rw (x, y) refl

ends-each : (ws : List (List Bool)) (e r j k : ℕ) → ends_at e r j ws ≡ true → k < length ws
    → get_or (get_or ws k []) 22 false ≡ ((j + k) % e == r)
unfolding ends_at
ends-each [] e r j k all inside = absurd (omega arith)
ends-each (w ∷ ws) e r j zero all inside =
    let parts = both-true (not (add (get_or w 22 false) (j % e == r))) (ends_at e r (suc j) ws)
    all in
    let z : j ≡ j + 0 = omega arith in
    not-add (get_or w 22 false) (j % e == r) parts.0 ∙ ap (λ (n : ℕ). n % e == r) z
ends-each (w ∷ ws) e r j (suc k) all inside =
    let parts = both-true (not (add (get_or w 22 false) (j % e == r))) (ends_at e r (suc j) ws)
    all in
    let z : suc j + k ≡ j + suc k = omega arith in
    ends-each ws e r (suc j) k parts.1 (omega arith) ∙ ap (λ (n : ℕ). n % e == r) z

ends-all : (ws : List (List Bool)) (e r j : ℕ)
    → ((k : ℕ) → k < length ws → get_or (get_or ws k []) 22 false ≡ ((j + k) % e == r))
    → ends_at e r j ws ≡ true
unfolding ends_at
ends-all [] e r j each = refl
ends-all (w ∷ ws) e r j each =
    let z : j + 0 ≡ j = omega arith in
    and-true (not (add (get_or w 22 false) (j % e == r))) (ends_at e r (suc j) ws)
    (not-add-same (get_or w 22 false) (j % e == r)
    (each 0 (omega arith) ∙ ap (λ (n : ℕ). n % e == r) z))
    (ends-all ws e r (suc j) (λ k inside. let y : j + suc k ≡ suc j + k = omega arith in
    each (suc k) (omega arith) ∙ ap (λ (n : ℕ). n % e == r) y))

pub size-over : (e : ℕ) → e ≤ pattern_size e
size-over e = omega arith

pub pilot-first : (w : List Bool) (ws : List (List Bool)) → have_pilots (w ∷ ws) ≡ true → (i : ℕ)
    → get_or w (27 + i) false ≡ get_or pilot i false
unfolding have_pilots
pilot-first w ws is i =
    let first = (both-true (same_bits (drop 27 w) pilot) (have_pilots ws) is).0 in
    sym (get_or-drop 27 w i false) ∙ ap (λ (l : List Bool). get_or l i false)
    (same-are (drop 27 w) pilot first)

-- the first multiblock of a pattern that stands ends in the pilot
pub pilot-read : (e m : ℕ) (bs : List Bool) (st : Stands e bs m) → (i : ℕ) → i < 5
    → get_or st.sync (27 + i) false ≡ get_or pilot i false
unfolding pieces
pilot-read e m bs st i low =
    let v : ℕ = pattern_size e in
    let ws : List (List Bool) = pieces (v - 1) 32 (drop 32 st.sync) in
    let one : v ≡ suc (v - 1) = omega arith in
    let first : have_pilots (take 32 st.sync ∷ ws) ≡ true =
    sym (ap (λ (n : ℕ). have_pilots (pieces n 32 st.sync)) one) ∙ st.pilots in
    sym (get_or-take 32 st.sync (27 + i) false (omega arith))
    ∙ pilot-first (take 32 st.sync) ws first i

-- the sync bits of a pattern that stands, where the headers carry these
sync-read : (e f m n : ℕ) (bs : List Bool) (sync : ℕ → Bool) (st : Stands e (drop f bs) m)
    → CarriesSync bs f sync → f + span e ≤ length bs
    → 0 < n → n < 32 * pattern_size e → get_or st.sync n false ≡ sync n
sync-read e f m n bs sync st carries whole some below =
    let all : ℕ = 32 * pattern_size e in
    let r : ReadsGood (headers all (drop f bs)) st.sync =
    good-reads (headers all (drop f bs)) st.sync st.reads in
    let long = headers-length all (drop f bs) in
    header-same (get_or st.sync n false) (sync n)
    (sym (r.each n (omega arith)) ∙ headers-get all n (drop f bs) Bad below
    ∙ ap header (drop-drop (66 * n) f bs) ∙ carries n some (omega arith))

-- a pattern that stands where true multiblocks are read has the true remainder
pub remainder-true : (e r f m : ℕ) (bs : List Bool) (sync : ℕ → Bool) → CarriesSync bs f sync
    → IsForm e r sync → f + span e ≤ length bs
    → pattern e (drop f bs) ≡ Some m → m ≡ r
remainder-true e r f m bs sync carries form whole is =
    let st : Stands e (drop f bs) m = stands-of e m (drop f bs) is in
    let below = form.below in
    let over = size-over e in
    let v : ℕ = pattern_size e in
    let ws : List (List Bool) = pieces v 32 st.sync in
    let count = pieces-length v 32 st.sync in
    let found = (finds_least (λ x. ends_at e x 0 ws) e 0 m).0 st.least in
    let passes = found.0.passes in
    let at_r : get_or (get_or ws r []) 22 false ≡ ((0 + r) % e == m) =
    ends-each ws e m 0 r passes (omega arith) in
    let place : r * 32 + 22 ≡ 32 * r + 22 = omega arith in
    let read : get_or (get_or ws r []) 22 false ≡ sync (32 * r + 22) =
    ap (λ (w : List Bool). get_or w 22 false) (pieces-get v 32 r st.sync [] (omega arith))
    ∙ get_or-take 32 (drop (r * 32) st.sync) 22 false (omega arith)
    ∙ get_or-drop (r * 32) st.sync 22 false
    ∙ ap (λ (n : ℕ). get_or st.sync n false) place
    ∙ sync-read e f m (32 * r + 22) bs sync st carries whole (omega arith) (omega arith) in
    let own : r % e ≡ r = mod-eq_of_lt below in
    let is_end : (r % e == r) ≡ true = eq-eqb (r % e) r own in
    let z : 0 + r ≡ r = omega arith in
    let hit : ((0 + r) % e == m) ≡ true = sym at_r ∙ read ∙ form.ends r ∙ is_end in
    sym (sym own ∙ ap (λ (n : ℕ). n % e) (sym z) ∙ eqb-true ((0 + r) % e) m hit)

-- ---- never lost

count-of : List Bool → ℕ
count-of bs = count_by (λ b. b) bs

count-none : (bs : List Bool) → ((i : ℕ) → i < length bs → get_or bs i true ≡ false)
    → count_by (λ (b : Bool). b) bs ≡ 0
count-none [] each = refl
count-none (b ∷ bs) each =
    let first : b ≡ false = each 0 (omega arith) in
    rw first (count-none bs (λ i inside. each (suc i) (omega arith)))

last-none : (k n : ℕ) (bs : List Bool) → ((i : ℕ) → i < length bs → get_or bs i true ≡ false)
    → count_last k n bs ≡ 0
last-none k n bs each =
    let front : List Bool = take n bs in
    let few = length-take n bs in
    let rest = length-drop (n - k) front in
    count-none (drop (n - k) front) (λ i inside.
    get_or-drop (n - k) front i true ∙ get_or-take n bs (n - k + i) true (omega arith)
    ∙ each (n - k + i) (omega arith))

loses-none : (e n : ℕ) (bad wrong : List Bool)
    → ((i : ℕ) → i < length bad → get_or bad i true ≡ false)
    → ((i : ℕ) → i < length wrong → get_or wrong i true ≡ false)
    → loses e bad wrong n ≡ false
unfolding loses
loses-none e n bad wrong no_bad no_wrong =
    rw (last-none 64 n bad no_bad, last-none (4 * pattern_size e) (n / 32) wrong no_wrong) refl

is-bad-of : (b : Bool) → is_bad (header_of b) ≡ false
is-bad-of true = refl
is-bad-of false = refl

carries-of : (b : Bool) → carries (header_of b) b ≡ true
carries-of true = refl
carries-of false = refl

all-carry : (hs : List SyncBit) (bs : List Bool) → length hs ≡ length bs
    → ((i : ℕ) → i < length bs → get_or hs i Bad ≡ header_of (get_or bs i false))
    → all_carry hs bs ≡ true
unfolding all_carry
all-carry [] [] same each = refl
all-carry [] (b ∷ bs) same each = absurd (omega arith)
all-carry (h ∷ hs) [] same each = absurd (omega arith)
all-carry (h ∷ hs) (b ∷ bs) same each =
    let first : h ≡ header_of b = each 0 (omega arith) in
    and-true (carries h b) (all_carry hs bs) (ap (λ (x : SyncBit). carries x b) first
    ∙ carries-of b) (all-carry hs bs (omega arith) (λ i inside. each (suc i) (omega arith)))

-- a multiblock with a true end bit and pilot is not misplaced
well-placed : (end : Bool) (word : List SyncBit) → length word ≡ 32
    → get_or word 22 Bad ≡ header_of end
    → ((i : ℕ) → i < 5 → get_or word (27 + i) Bad ≡ header_of (get_or pilot i false))
    → is_misplaced end word ≡ false
unfolding is_misplaced pilot all_carry
well-placed end word long at_end at_pilot =
    let rest = length-drop 27 word in
    let last : (i : ℕ) → i < 5 → get_or (drop 27 word) i Bad ≡ header_of (get_or pilot i false) =
    λ i inside. get_or-drop 27 word i Bad ∙ at_pilot i inside in
    let five : length pilot ≡ 5 = refl in
    let tail : all_carry (drop 27 word) pilot ≡ true = all-carry (drop 27 word) pilot (omega arith)
    (λ i inside. last i (omega arith)) in
    let head : carries (get_or word 22 Bad) end ≡ true = ap (λ (x : SyncBit). carries x end) at_end
    ∙ carries-of end in
    ap not (all-both (get_or word 22 Bad) (drop 27 word) end pilot head tail)
  where
    all-both : (h : SyncBit) (hs : List SyncBit) (b : Bool) (bs : List Bool) → carries h b ≡ true
        → all_carry hs bs ≡ true → all_carry (h ∷ hs) (b ∷ bs) ≡ true
    all-both h hs b bs x y = and-true (carries h b) (all_carry hs bs) x y

misplaced-none : (ws : List (List SyncBit)) (e r j : ℕ)
    → ((k : ℕ) → k < length ws → is_misplaced ((j + k) % e == r) (get_or ws k []) ≡ false)
    → (i : ℕ) → i < length (misplaced_from e r j ws)
    → get_or (misplaced_from e r j ws) i true ≡ false
unfolding misplaced_from
misplaced-none [] e r j each i inside = absurd (omega arith)
misplaced-none (w ∷ ws) e r j each zero inside = let z : j ≡ j + 0 = omega arith in
    ap (λ (n : ℕ). is_misplaced (n % e == r) w) z ∙ each 0 (omega arith)
misplaced-none (w ∷ ws) e r j each (suc i) inside =
    misplaced-none ws e r (suc j) (λ k under. let y : suc j + k ≡ j + suc k = omega arith in
    ap (λ (n : ℕ). is_misplaced (n % e == r) (get_or ws k [])) y ∙ each (suc k) (omega arith)) i
    (omega arith)

-- the place is never lost
pub never-lost : (e r f : ℕ) (bs : List Bool) (sync : ℕ → Bool) → CarriesSync bs f sync
    → IsForm e r sync → first_loss e bs (record { first = f; remainder = r }) ≡ None
unfolding first_loss
never-lost e r f bs sync carries form =
    let p : Place = record { first = f; remainder = r } in
    let v : ℕ = pattern_size e in
    let at_end : ℕ = pattern_end e p in
    let k : ℕ = (length bs - at_end) / 66 in
    let rest : List Bool = drop at_end bs in
    let after : List SyncBit = headers_after e bs p in
    let long : length after ≡ k = headers-length k rest in
    let head : (i : ℕ) → i < k → get_or after i Bad ≡ header_of (sync (32 * v + i)) = λ i inside.
    let place : at_end + 66 * i ≡ f + 66 * (32 * v + i) = omega arith in
    headers-get k i rest Bad inside ∙ ap header (drop-drop (66 * i) at_end bs)
    ∙ ap (λ (n : ℕ). header (drop n bs)) place
    ∙ carries (32 * v + i) (omega arith) (omega arith) in
    let ws : List (List SyncBit) = pieces (length after / 32) 32 after in
    let count = pieces-length (length after / 32) 32 after in
    let no_bad : (i : ℕ) → i < length (map is_bad after) → get_or (map is_bad after) i true
    ≡ false = λ i inside.
    let same = length-map after is_bad in
    get_or-map is_bad after i Bad true (omega arith) ∙ ap is_bad (head i (omega arith))
    ∙ is-bad-of (sync (32 * v + i)) in
    let no_wrong : (i : ℕ) → i < length (misplaced e p after) → get_or (misplaced e p after) i true
    ≡ false = misplaced-none ws e r v (λ j under.
    let word : List SyncBit = take 32 (drop (j * 32) after) in
    let is : get_or ws j [] ≡ word = pieces-get (length after / 32) 32 j after [] (omega arith) in
    let left = length-drop (j * 32) after in
    let size : length word ≡ 32 = length-take 32 (drop (j * 32) after) ∙ omega arith in
    let item : (i : ℕ) → i < 32 → get_or word i Bad ≡ header_of (sync (32 * (v + j) + i)) =
    λ i inside.
    let place : 32 * v + (j * 32 + i) ≡ 32 * (v + j) + i = omega arith in
    get_or-take 32 (drop (j * 32) after) i Bad inside ∙ get_or-drop (j * 32) after i Bad
    ∙ head (j * 32 + i) (omega arith) ∙ ap (λ (n : ℕ). header_of (sync n)) place in
    ap (is_misplaced ((v + j) % e == r)) is
    ∙ well-placed ((v + j) % e == r) word size
    (item 22 (omega arith) ∙ ap header_of (form.ends (v + j)))
    (λ i inside. item (27 + i) (omega arith) ∙ ap header_of (form.pilots (v + j) i inside))) in
    (finds_none (loses e (map is_bad after) (misplaced e p after)) (length after) 1).1
    (λ y low up. loses-none e y (map is_bad after) (misplaced e p after) no_bad no_wrong)

-- ---- the pattern stands

first-true : (ws : List (List Bool)) → ((k : ℕ) → k < length ws → drop 27 (get_or ws k []) ≡ pilot)
    → have_pilots ws ≡ true
unfolding have_pilots
first-true [] each = refl
first-true (w ∷ ws) each =
    and-true (same_bits (drop 27 w) pilot) (have_pilots ws)
    (ap (λ (l : List Bool). same_bits l pilot) (each 0 (omega arith)) ∙ same-self pilot)
    (first-true ws (λ k inside. each (suc k) (omega arith)))

remainder-is : (e r : ℕ) (ws : List (List Bool)) → have_pilots ws ≡ true
    → first_from (λ m. ends_at e m 0 ws) e 0 ≡ Some r → remainder_of e ws ≡ Some r
unfolding remainder_of
remainder-is e r ws h is =
    ap (λ c. elim c as (λ b. Option ℕ) [
      | true ↦ first_from (λ m. ends_at e m 0 ws) e 0
      | false ↦
          None
    ]) h ∙ is

pattern-is : (e r : ℕ) (bs sync : List Bool) → good (headers (32 * pattern_size e) bs) ≡ Some sync
    → remainder_of e (pieces (pattern_size e) 32 sync) ≡ Some r → pattern e bs ≡ Some r
unfolding pattern
pattern-is e r bs sync reads is = ap (after_good e) reads ∙ is

pilot-long : length pilot ≡ 5
unfolding pilot
pilot-long = refl

-- where all headers from bit f on, its own among them, carry the sync bits of multiblocks, the
-- pattern stands
pub pattern-stands : (e r f : ℕ) (bs : List Bool) (sync : ℕ → Bool) → IsForm e r sync
    → f + span e ≤ length bs
    → ((n : ℕ) → f + 66 * suc n ≤ length bs → header (drop (f + 66 * n) bs) ≡ header_of (sync n))
    → pattern e (drop f bs) ≡ Some r
pattern-stands e r f bs sync form whole carries =
    let v : ℕ = pattern_size e in
    let over = size-over e in
    let below = form.below in
    let hs : List SyncBit = headers (32 * v) (drop f bs) in
    let long = headers-length (32 * v) (drop f bs) in
    let head : (n : ℕ) → n < length hs → get_or hs n Bad ≡ header_of (sync n) = λ n inside.
    headers-get (32 * v) n (drop f bs) Bad (omega arith) ∙ ap header (drop-drop (66 * n) f bs)
    ∙ carries n (omega arith) in
    let are = good-of hs sync head in
    let bits : List Bool = are.0 in
    let r_good : ReadsGood hs bits = good-reads hs bits are.1 in
    let bits_long = r_good.long in
    let read : (n : ℕ) → n < 32 * v → get_or bits n false ≡ sync n = λ n inside.
    header-same (get_or bits n false) (sync n) (sym (r_good.each n (omega arith))
    ∙ head n (omega arith)) in
    let ws : List (List Bool) = pieces v 32 bits in
    let count = pieces-length v 32 bits in
    let item : (k i : ℕ) → k < v → i < 32 → get_or (get_or ws k []) i false ≡ sync (32 * k + i) =
    λ k i low inside.
    let place : k * 32 + i ≡ 32 * k + i = omega arith in
    ap (λ (w : List Bool). get_or w i false) (pieces-get v 32 k bits [] low)
    ∙ get_or-take 32 (drop (k * 32) bits) i false inside ∙ get_or-drop (k * 32) bits i false
    ∙ ap (λ (n : ℕ). get_or bits n false) place ∙ read (32 * k + i) (omega arith) in
    let size : (k : ℕ) → k < v → length (get_or ws k []) ≡ 32 = λ k low.
    let left = length-drop (k * 32) bits in
    ap length (pieces-get v 32 k bits [] low) ∙ length-take 32 (drop (k * 32) bits) ∙ omega arith in
    let pilots : have_pilots ws ≡ true = first-true ws (λ k inside.
    let w : List Bool = get_or ws k [] in
    let w_long = size k (omega arith) in
    let rest = length-drop 27 w in
    let five = pilot-long in
    ext_get_or false (drop 27 w) pilot (omega arith) (λ i under.
    get_or-drop 27 w i false ∙ item k (27 + i) (omega arith) (omega arith)
    ∙ form.pilots k i (omega arith))) in
    let ends : (k : ℕ) → k < length ws → get_or (get_or ws k []) 22 false ≡ (k % e == r) =
    λ k inside. item k 22 (omega arith) (omega arith) ∙ form.ends k in
    let own : r % e ≡ r = mod-eq_of_lt below in
    let least : IsLeast (λ m. ends_at e m 0 ws) 0 r = record {
      from = omega arith;
      passes = ends-all ws e r 0 (λ k inside. let z : k ≡ 0 + k = omega arith in ends k inside
          ∙ ap (λ (n : ℕ). n % e == r) z);
      least = λ y low up. elim (cases_Bool (ends_at e y 0 ws)) [
        | inr fails ↦ fails
        | inl all ↦
            let z : 0 + r ≡ r = omega arith in
            let at_r : get_or (get_or ws r []) 22 false ≡ ((0 + r) % e == y) =
            ends-each ws e y 0 r all (omega arith) in
            let hit : ((0 + r) % e == y) ≡ true = sym at_r ∙ ends r (omega arith)
            ∙ eq-eqb (r % e) r own in
            let same : r ≡ y = sym own ∙ ap (λ (n : ℕ). n % e) (sym z)
            ∙ eqb-true ((0 + r) % e) y hit in
            absurd (omega arith)
      ];
    } in
    pattern-is e r (drop f bs) bits are.1
    (remainder-is e r ws pilots
    ((finds_least (λ m. ends_at e m 0 ws) e 0 r).1 least (omega arith)))
