-- Headers and pieces of a list of bits, by their numbers.
use Rattle.std.proofs.Common.{◌≡◌, ℕ, zero, suc, ◌+◌, ◌*◌, ◌<◌, Bool, true, false, if◌then◌else◌, List, [], ◌∷◌, length, drop, take, get_or, Option, Some, None, option_map, refl, sym, ap, ◌∙◌, suc-mul, zero-mul, arith}
use Rattle.std.proofs.lemmas.List.{drop-drop}
use Rattle.block_66b.specs.declared.sync_bit.SyncBit.{SyncBit}
use Rattle.block_66b.specs.declared.sync_bit.SyncBit.TheVariants.{Zero, One, Bad}
use Rattle.block_66b.specs.Blocks.{header}
use Rattle.multiblock.specs.Places.{good, headers, pieces}

-- the header that carries a sync bit
abbrev pub header_of : Bool → SyncBit
header_of b = if b then One else Zero

pub headers-length : (n : ℕ) (bs : List Bool) → length (headers n bs) ≡ n
unfolding headers
headers-length zero bs = refl
headers-length (suc n) bs = ap suc (headers-length n (drop 66 bs))

pub headers-get : (n i : ℕ) (bs : List Bool) (d : SyncBit) → i < n
    → get_or (headers n bs) i d ≡ header (drop (66 * i) bs)
unfolding headers
headers-get zero i bs d below = absurd (omega arith)
headers-get (suc n) zero bs d below = refl
headers-get (suc n) (suc i) bs d below =
    let e : 66 + 66 * i ≡ 66 * suc i = omega arith in
    headers-get n i (drop 66 bs) d (omega arith)
    ∙ ap header (drop-drop (66 * i) 66 bs ∙ ap (λ (m : ℕ). drop m bs) e)

pub pieces-length : {A : Type 0} (n size : ℕ) (xs : List A) → length (pieces n size xs) ≡ n
unfolding pieces
pieces-length zero size xs = refl
pieces-length (suc n) size xs = ap suc (pieces-length n size (drop size xs))

pub pieces-get : {A : Type 0} (n size i : ℕ) (xs : List A) (d : List A) → i < n
    → get_or (pieces n size xs) i d ≡ take size (drop (i * size) xs)
unfolding pieces
pieces-get zero size i xs d below = absurd (omega arith)
pieces-get (suc n) size zero xs d below = let z : 0 ≡ 0 * size = sym (zero-mul size) in
    ap (λ (m : ℕ). take size (drop m xs)) z
pieces-get {A} (suc n) size (suc i) xs d below =
    let m = suc-mul i size in
    let e : size + i * size ≡ suc i * size = omega (arith, m) in
    pieces-get n size i (drop size xs) d (omega arith)
    ∙ ap (take size) (drop-drop (i * size) size xs ∙ ap (λ (m : ℕ). drop m xs) e)

-- ---- good headers

none-some : {A : Type 0} (x : A) → None ≡ Some x → ⊥
none-some x e = grind arith

some-same : {A : Type 0} (x y : A) → Some x ≡ Some y → x ≡ y
some-same x y e = cc

pub record ReadsGood (hs : List SyncBit) (sync : List Bool) : Type 0 where
  pub long : length sync ≡ length hs
  pub each : (n : ℕ) → n < length hs → get_or hs n Bad ≡ header_of (get_or sync n false)

more-good : (b : Bool) (hs : List SyncBit) (o : Option (List Bool)) (sync : List Bool)
    → ((more : List Bool) → o ≡ Some more → ReadsGood hs more)
    → option_map (λ bs. b ∷ bs) o ≡ Some sync → ReadsGood (header_of b ∷ hs) sync
more-good b hs None sync rest is = absurd (none-some sync is)
more-good b hs (Some more) sync rest is =
    let same : b ∷ more ≡ sync = some-same (b ∷ more) sync is in
    let r = rest more refl in
    let l = r.long in
    record {
      long = ap length (sym same) ∙ omega arith;
      each = λ n inside. each n inside ∙ ap (λ (l : List Bool). header_of (get_or l n false)) same;
    }
  where
    each : (n : ℕ) → n < length (header_of b ∷ hs)
        → get_or (header_of b ∷ hs) n Bad ≡ header_of (get_or (b ∷ more) n false)
    each zero inside = refl
    each (suc n) inside = (rest more refl).each n (omega arith)

pub good-reads : (hs : List SyncBit) (sync : List Bool) → good hs ≡ Some sync → ReadsGood hs sync
unfolding good
good-reads [] sync is = let same : [] ≡ sync = some-same [] sync is in
    record { long = ap length (sym same); each = λ n inside. absurd (omega arith) }
good-reads (Bad ∷ hs) sync is = absurd (none-some sync is)
good-reads (One ∷ hs) sync is = more-good true hs (good hs) sync (λ more e. good-reads hs more e) is
good-reads (Zero ∷ hs) sync is = more-good false hs (good hs) sync (λ more e. good-reads hs more e)
    is

good-more : (b : Bool) (hs : List SyncBit) (more : List Bool) → good hs ≡ Some more
    → good (header_of b ∷ hs) ≡ Some (b ∷ more)
unfolding good
good-more true hs more e = ap (option_map (λ bs. true ∷ bs)) e
good-more false hs more e = ap (option_map (λ bs. false ∷ bs)) e

-- headers that all carry a sync bit are good
pub good-of : (hs : List SyncBit) (sync : ℕ → Bool)
    → ((n : ℕ) → n < length hs → get_or hs n Bad ≡ header_of (sync n))
    → (bs : List Bool) × (good hs ≡ Some bs)
unfolding good
good-of [] sync each = ([], refl)
good-of (x ∷ hs) sync each =
    let rest = good-of hs (λ n. sync (suc n)) (λ n inside. each (suc n) (omega arith)) in
    let first : x ≡ header_of (sync 0) = each 0 (omega arith) in (
      sync 0 ∷ rest.0,
      ap (λ (y : SyncBit). good (y ∷ hs)) first
          ∙ good-more (sync 0) hs rest.0 rest.1,
    )
