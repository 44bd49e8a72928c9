-- Octets of a frame behind the numbers of the lanes.
use Rattle.std.proofs.Common.{◌≡◌, ℕ, zero, suc, ◌+◌, ◌-◌, ◌*◌, ◌/◌, ◌^◌, ◌<◌, ◌≤◌, List, [], ◌∷◌, All, fold, length, map, take, drop, get_or, slice_index, slice_set, refl, sym, ap, ap₂, ◌∙◌, arith, drop-cons}
use Rattle.std.proofs.Math.Nat.{add-div_right, mul_assoc, mul_comm, mul-le-mul_right, pow-le-pow_right, pow-suc, suc-mul}
use Rattle.std.proofs.Math.Seq.{take-add}
use Rattle.std.proofs.lemmas.List.{ext_get_or, get_or-map, length-drop, length-map, length-take-le, take_all}
use Rattle.std.proofs.lemmas.List.Elements.{All-from_get_or, All-get_or}
use Rattle.std.proofs.lemmas.List.Sums.{fold-append}
use Rattle.std.proofs.lemmas.Nat.{pow-add}
use Rattle.scenario.specs.Plans.{numbers_from}
use Rattle.link_model.proofs.NumberLists.{get_or-numbers, length-numbers, map-numbers}
use Rattle.link_run.specs.kept.Handed.{with_frames, with_octet, with_octets}

-- ---- octets behind one number

-- a number with an octet behind it
abbrev pub behind : ℕ → ℕ → ℕ
behind v octet = v * 256 + octet

one-power : (m n : ℕ) → m * 256 * 256 ^ n ≡ m * 256 ^ suc n
one-power m n = mul_assoc m 256 (256 ^ n)
    ∙ ap (λ (p : ℕ). m * p) (mul_comm 256 (256 ^ n) ∙ sym (pow-suc 256 n))

pub fold-below : (xs : List ℕ) (v m : ℕ) → v < m → ((k : ℕ) → get_or xs k 0 < 256)
    → fold behind v xs < m * 256 ^ length xs
fold-below [] v m small octets = omega arith
fold-below (x ∷ xs) v m small octets =
    let first = octets 0 in
    let more = fold-below xs (v * 256 + x) (m * 256) (omega arith) (λ k. octets (suc k)) in
    let power = one-power m (length xs) in
    omega arith

octet-in : (xs : List ℕ) (i k : ℕ) → ((k : ℕ) → get_or xs k 0 < 256) → get_or (take i xs) k 0 < 256
octet-in [] zero k octets = octets k
octet-in [] (suc i) k octets = octets k
octet-in (x ∷ xs) zero k octets = omega arith
octet-in (x ∷ xs) (suc i) zero octets = octets 0
octet-in (x ∷ xs) (suc i) (suc k) octets = octet-in xs i k (λ k. octets (suc k))

-- there is room for an octet more behind those before place i
pub fold-fits : (octets : List ℕ) (number i : ℕ) → length octets ≤ 8 → i < length octets
    → number < 256 ^ (8 - length octets) → ((k : ℕ) → get_or octets k 0 < 256)
    → fold behind number (take i octets) < 72057594037927936
fold-fits octets number i few inside small each =
    let below = fold-below (take i octets) number (256 ^ (8 - length octets)) small
    (λ k. octet-in octets i k each) in
    let long : length (take i octets) ≡ i = length-take-le i octets (omega arith) in
    let power = pow-add 256 (8 - length octets) i in
    let same : 256 ^ (8 - length octets) * 256 ^ length (take i octets)
    ≡ 256 ^ (8 - length octets) * 256 ^ i =
    ap (λ (n : ℕ). 256 ^ (8 - length octets) * 256 ^ n) long in
    let some : 0 < 256 = omega arith in
    let seven : 8 - length octets + i ≤ 7 = omega arith in
    let most : 256 ^ (8 - length octets + i) ≤ 256 ^ 7 = pow-le-pow_right some seven in
    omega arith

-- ---- the same for each lane

-- octets of a lane stand in the frame
pub in-frame : (l f lane at n : ℕ) → lane < l → at + n ≤ f → lane * f + at + n ≤ l * f
in-frame l f lane at n below inside =
    let m : suc lane * f ≤ l * f = mul-le-mul_right f below in
    omega arith

-- the first `lane` of these numbers were changed so
pub record Changed (change : ℕ → ℕ → ℕ) (before now : List ℕ) (lane : ℕ) : Type 0 where
  pub long : length now ≡ length before
  pub done : (k : ℕ) → k < lane → slice_index now k ≡ change k (slice_index before k)
  pub rest : (k : ℕ) → lane ≤ k → slice_index now k ≡ slice_index before k

-- all were
pub changed-all : (change : ℕ → ℕ → ℕ) (before now : List ℕ) (lane : ℕ)
    → Changed change before now lane → length before ≤ lane
    → now ≡ map (λ k. change k (get_or before k 0)) (numbers_from 0 (length before))
changed-all change before now lane h all =
    let many = h.long in
    let f : ℕ → ℕ = λ k. change k (get_or before k 0) in
    let numbers = length-numbers (length before) 0 in
    let mapped = length-map (numbers_from 0 (length before)) f in
    ext_get_or 0 now (map f (numbers_from 0 (length before))) (omega arith) (λ i below.
    let same : 0 + i ≡ i = omega arith in
    h.done i (omega arith)
    ∙ sym (get_or-map f (numbers_from 0 (length before)) i 0 0 (omega arith)
    ∙ ap f (get_or-numbers (length before) i 0 0 (omega arith) ∙ same)))

-- ---- octet by octet

-- lane by lane: n octets from octet `at` of a frame on
abbrev pub lane_octets : List ℕ → ℕ → ℕ → ℕ → ℕ → List ℕ
lane_octets octets size at n lane = take n (drop (lane * size + at) octets)

pub length-with_octet : (octets : List ℕ) (size at : ℕ) (handed : List ℕ)
    → length (with_octet octets size at handed) ≡ length handed
length-with_octet octets size at handed =
    length-map (numbers_from 0 (length handed))
    (λ lane. get_or handed lane 0 * 256 + slice_index octets (lane * size + at))
    ∙ length-numbers (length handed) 0

at-with_octet : (octets : List ℕ) (size at lane : ℕ) (handed : List ℕ) → lane < length handed
    → get_or (with_octet octets size at handed) lane 0
    ≡ get_or handed lane 0 * 256 + slice_index octets (lane * size + at)
at-with_octet octets size at lane handed inside =
    let numbers = length-numbers (length handed) 0 in
    let same : 0 + lane ≡ lane = omega arith in
    let f : ℕ → ℕ = λ k. get_or handed k 0 * 256 + slice_index octets (k * size + at) in
    get_or-map f (numbers_from 0 (length handed)) lane 0 0 (omega arith)
    ∙ ap f (get_or-numbers (length handed) lane 0 0 inside ∙ same)

next-octet : (octets : List ℕ) (size at n lane : ℕ) → lane * size + at < length octets
    → lane_octets octets size at (suc n) lane
    ≡ slice_index octets (lane * size + at) ∷ lane_octets octets size (suc at) n lane
next-octet octets size at n lane inside =
    let on : suc (lane * size + at) ≡ lane * size + suc at = omega arith in
    ap (take (suc n)) (drop-cons octets (lane * size + at) 0 inside)
    ∙ ap (λ (p : ℕ). slice_index octets (lane * size + at) ∷ take n (drop p octets)) on

map-same : (handed : List ℕ)
    → handed ≡ map (λ lane. get_or handed lane 0) (numbers_from 0 (length handed))
map-same handed = changed-all (λ k v. v) handed handed (length handed) (record {
  long = refl;
  done = λ k below. refl;
  rest = λ k above. refl;
}) (omega arith)

pub with_octets-are : (octets : List ℕ) (size at n : ℕ) (handed : List ℕ)
    → ((lane : ℕ) → lane < length handed → lane * size + at + n ≤ length octets)
    → with_octets octets size at n handed
    ≡ map (λ lane. fold behind (get_or handed lane 0) (lane_octets octets size at n lane))
    (numbers_from 0 (length handed))
with_octets-are octets size at zero handed inside = map-same handed
with_octets-are octets size at (suc n) handed inside =
    let next : List ℕ = with_octet octets size at handed in
    let long = length-with_octet octets size at handed in
    with_octets-are octets size (suc at) n next (λ lane below.
    let room = inside lane (omega arith) in omega arith)
    ∙ ap (λ (l : ℕ).
    map (λ lane. fold behind (get_or next lane 0) (lane_octets octets size (suc at) n lane))
    (numbers_from 0 l)) long
    ∙ map-numbers
    (λ lane. fold behind (get_or next lane 0) (lane_octets octets size (suc at) n lane))
    (λ lane. fold behind (get_or handed lane 0) (lane_octets octets size at (suc n) lane))
    (length handed) 0 (λ lane below.
    let room = inside lane (omega arith) in
    ap (λ (v : ℕ). fold behind v (lane_octets octets size (suc at) n lane))
    (at-with_octet octets size at lane handed (omega arith))
    ∙ sym (ap (fold behind (get_or handed lane 0))
    (next-octet octets size at n lane (omega arith))))

-- one lane alone
pub with_octets-one : (octets : List ℕ) (size at n v : ℕ) (handed : List ℕ) → length handed ≡ 1
    → at + n ≤ length octets → v ≡ fold behind (get_or handed 0 0) (take n (drop at octets))
    → slice_set handed 0 v ≡ with_octets octets size at n handed
unfolding numbers_from
with_octets-one octets size at n v (x ∷ []) one inside is =
    let first : at ≡ 0 * size + at = omega arith in
    ap (λ (w : ℕ). w ∷ []) (is
    ∙ ap (λ (p : ℕ). fold behind x (take n (drop p octets))) first)
    ∙ sym (with_octets-are octets size at n (x ∷ []) (λ lane below.
    let only : lane ≡ 0 = omega arith in rw only (omega arith)))
with_octets-one octets size at n v [] one inside is = absurd (omega arith)
with_octets-one octets size at n v (x ∷ y ∷ xs) one inside is = absurd (omega arith)

with_octet-below : (octets : List ℕ) (size at m : ℕ) (handed : List ℕ)
    → ((k : ℕ) → get_or octets k 0 < 256) → All (λ v. v < m) handed
    → All (λ v. v < m * 256) (with_octet octets size at handed)
with_octet-below octets size at m handed each small =
    let long = length-with_octet octets size at handed in
    All-from_get_or (λ v. v < m * 256) (with_octet octets size at handed) 0 (λ lane below.
    let octet = each (lane * size + at) in
    let number = All-get_or (λ v. v < m) handed lane 0 (omega arith) small in
    rw (at-with_octet octets size at lane handed (omega arith)) (omega arith))

pub with_octets-below : (octets : List ℕ) (size at n m : ℕ) (handed : List ℕ)
    → ((k : ℕ) → get_or octets k 0 < 256) → All (λ v. v < m) handed
    → All (λ v. v < m * 256 ^ n) (with_octets octets size at n handed)
with_octets-below octets size at zero m handed each small = λ k d inside.
    let below = small k d inside in
    omega arith
with_octets-below octets size at (suc n) m handed each small = λ k d inside.
    let next : List ℕ = with_octet octets size at handed in
    let below = with_octets-below octets size (suc at) n (m * 256) next each
    (with_octet-below octets size at m handed each small) k d inside in
    let power = one-power m n in
    omega arith

-- ---- frame by frame

length-with_octets : (octets : List ℕ) (size at n : ℕ) (handed : List ℕ)
    → length (with_octets octets size at n handed) ≡ length handed
length-with_octets octets size at zero handed = refl
length-with_octets octets size at (suc n) handed =
    length-with_octets octets size (suc at) n (with_octet octets size at handed)
    ∙ length-with_octet octets size at handed

pub length-with_frames : (octets : List ℕ) (size all n : ℕ) (handed : List ℕ)
    → length (with_frames octets size all n handed) ≡ length handed
length-with_frames octets size all zero handed = refl
length-with_frames octets size all (suc n) handed =
    length-with_octets (take all (drop (n * all) octets)) size 0 size
    (with_frames octets size all n handed)
    ∙ length-with_frames octets size all n handed

octet-behind : (xs : List ℕ) (i k : ℕ) → ((k : ℕ) → get_or xs k 0 < 256)
    → get_or (drop i xs) k 0 < 256
octet-behind xs zero k octets = octets k
octet-behind [] (suc i) k octets = octets k
octet-behind (x ∷ xs) (suc i) k octets = octet-behind xs i k (λ k. octets (suc k))

pub with_frames-below : (octets : List ℕ) (size all n m : ℕ) (handed : List ℕ)
    → ((k : ℕ) → get_or octets k 0 < 256) → All (λ v. v < m) handed
    → All (λ v. v < m * 256 ^ (n * size)) (with_frames octets size all n handed)
with_frames-below octets size all zero m handed each small = λ k d inside.
    let below = small k d inside in
    let none : 0 * size ≡ 0 = omega arith in
    let one : 256 ^ (0 * size) ≡ 1 = ap (λ (k : ℕ). 256 ^ k) none in
    rw one (omega arith)
with_frames-below octets size all (suc n) m handed each small = λ k d inside.
    let chunk : List ℕ = take all (drop (n * all) octets) in
    let below = with_octets-below chunk size 0 size (m * 256 ^ (n * size))
    (with_frames octets size all n handed)
    (λ k. octet-in (drop (n * all) octets) all k
    (λ k. octet-behind octets (n * all) k each))
    (with_frames-below octets size all n m handed each small) k d inside in
    let next = suc-mul n size in
    let power : m * 256 ^ (suc n * size) ≡ m * 256 ^ (n * size) * 256 ^ size =
    ap (λ (k : ℕ). m * 256 ^ k) next ∙ ap (λ (p : ℕ). m * p) (pow-add 256 (n * size) size)
    ∙ sym (mul_assoc m (256 ^ (n * size)) (256 ^ size)) in
    omega arith

-- one lane alone
pub with_frames-one : (octets : List ℕ) (size n x : ℕ) → n * size ≤ length octets
    → with_frames octets size size n (x ∷ []) ≡ fold behind x (take (n * size) octets) ∷ []
with_frames-one octets size zero x inside =
    let none : 0 ≡ 0 * size = omega arith in
    ap (λ (k : ℕ). fold behind x (take k octets) ∷ []) none
with_frames-one octets size (suc n) x inside =
    let next = suc-mul n size in
    let chunk : List ℕ = take size (drop (n * size) octets) in
    let left = length-drop (n * size) octets in
    let long : length chunk ≡ size =
    length-take-le size (drop (n * size) octets) (omega arith) in
    let before : ℕ = fold behind x (take (n * size) octets) in
    let all : fold behind x (take (suc n * size) octets) ≡ fold behind before (take size chunk) =
    ap (λ (k : ℕ). fold behind x (take k octets)) next
    ∙ ap (fold behind x) (take-add (n * size) size octets)
    ∙ fold-append behind x (take (n * size) octets) chunk
    ∙ sym (ap (fold behind before) (take_all size chunk (omega arith))) in
    ap (with_octets chunk size 0 size) (with_frames-one octets size n x (omega arith))
    ∙ sym (with_octets-one chunk size 0 size (fold behind x (take (suc n * size) octets))
    (before ∷ []) refl (omega arith) all)

-- behind the frames of the first `from` octets
pub frame-added : (octets : List ℕ) (size all from k : ℕ) (before handed next : List ℕ) → 0 < all
    → from ≡ from / all * all → k ≡ all → handed ≡ with_frames octets size all (from / all) before
    → next ≡ with_octets (take k (drop from octets)) size 0 size handed
    → next ≡ with_frames octets size all ((from + all) / all) before
frame-added octets size all from k before handed next some whole long was is =
    let one : suc (from / all) ≡ from / all + 1 = omega arith in
    is
    ∙ ap₂ (λ (m i : ℕ). with_octets (take m (drop i octets)) size 0 size handed) long whole
    ∙ ap (with_octets (take all (drop (from / all * all) octets)) size 0 size) was
    ∙ ap (λ (m : ℕ). with_frames octets size all m before) (one ∙ sym (add-div_right from some))

pub whole-added : (from all : ℕ) → 0 < all → from ≡ from / all * all
    → from + all ≡ (from + all) / all * all
whole-added from all some whole =
    let one : from / all + 1 ≡ suc (from / all) = omega arith in
    let next = suc-mul (from / all) all in
    sym (ap (λ (k : ℕ). k * all) (add-div_right from some ∙ one) ∙ next
    ∙ ap (λ (k : ℕ). k + all) (sym whole))

-- another frame is within the octets
pub frame-within : (i n size : ℕ) → i < n → i * size + size ≤ n * size
frame-within i n size more =
    let within : suc i * size ≤ n * size = mul-le-mul_right size more in
    let next = suc-mul i size in
    omega arith
