-- Ramps and repeated frames.
use Rattle.std.proofs.Common.{◌≡◌, ℕ, zero, suc, ◌+◌, ◌-◌, ◌*◌, ◌/◌, ◌%◌, ◌^◌, ◌<◌, ◌≤◌, ◌∙◌, List, [], ◌∷◌, length, map, take, drop, get_or, Option, Some, None, inl, inr, IsTrue, bit_and, refl, sym, ap, ap₂, arith, get_or-drop, get_or-take}
use Rattle.std.proofs.Math.Nat.{mod-add-mod, mul-le-mul_left, mul-le-mul_right, div-add-mod}
use Rattle.std.proofs.Math.Pow.{mod-mod-pow}
use Rattle.std.proofs.lemmas.Nat.{and_mask, mod_below, mul-mod_second, one_shl}
use Rattle.std.proofs.lemmas.List.{drop-take, length-take-le, length-drop}
use Rattle.std.proofs.lemmas.Slice.{between-put_mid, take-put_mid_below}
use borrow.Rule.Slice.PartMut.{put_mid}
use Rattle.std.proofs.lemmas.Bool.{cases_lt}
use Rattle.std.specs.Option.{ForSome}
use Rattle.link_params.specs.declared.fields.Params.{Params}
use Rattle.link_params.specs.Links.{Link}
use Rattle.scenario.specs.declared.scenario_type.Scenario.{Scenario}
use Rattle.scenario.specs.Limits.{has_words}
use Rattle.scenario.specs.Plans.{Plan, Source, Frames, Ramp, frame_of_source, numbers_from, plan_of, plan_with, source_frame, source_in}
use Rattle.scenario.specs.Reads.{word_limit}

from-items : (xs : List ℕ) (f : ℕ → ℕ) (b : ℕ)
    → ((k : ℕ) → k < length xs → get_or xs k 0 ≡ f (b + k))
    → xs ≡ map f (numbers_from b (length xs))
unfolding numbers_from
from-items [] f b each = refl
from-items (x ∷ xs) f b each =
    let e : b + 0 ≡ b = omega arith in
    let some : 0 < suc (length xs) = omega arith in
    let more : xs ≡ map f (numbers_from (suc b) (length xs)) = from-items xs f (suc b) (λ k lt.
    let e : b + suc k ≡ suc b + k = omega arith in
    let within : suc k < suc (length xs) = omega arith in
    each (suc k) within ∙ ap f e) in
    ap₂ (λ (y : ℕ) (ys : List ℕ). y ∷ ys) (each 0 some ∙ ap f e) more

-- a list by its items
pub listed : (xs : List ℕ) (f : ℕ → ℕ) → ((k : ℕ) → k < length xs → get_or xs k 0 ≡ f k)
    → xs ≡ map f (numbers_from 0 (length xs))
listed xs f each = from-items xs f 0 (λ k lt. let e : k ≡ 0 + k = omega arith in each k lt ∙ ap f e)

pub map-same : (xs : List ℕ) (f g : ℕ → ℕ) → ((k : ℕ) → f k ≡ g k) → map f xs ≡ map g xs
map-same [] f g each = refl
map-same (x ∷ xs) f g each = ap₂ (λ (y : ℕ) (ys : List ℕ). y ∷ ys) (each x) (map-same xs f g each)

-- a shorter modulus after 2^64
pub mod-below : (x bits : ℕ) → bits ≤ 32 → x % 2 ^ 64 % 2 ^ bits ≡ x % 2 ^ bits
mod-below x bits le =
    let e : 64 ≡ (64 - bits) + bits = omega arith in
    ap (λ w. x % 2 ^ w % 2 ^ bits) e ∙ mod-mod-pow x (64 - bits) bits

-- the low bits of a value that was taken modulo 2^64
pub masked : (value x bits : ℕ) → bits ≤ 32 → value ≡ x % 2 ^ 64
    → bit_and value (1 * 2 ^ bits % 2 ^ 64 - 1) ≡ x % 2 ^ bits
masked value x bits le is =
    let lt : bits < 64 = omega arith in
    ap (λ m. bit_and value (m - 1)) (one_shl bits 64 lt) ∙ and_mask value bits
    ∙ ap (λ v. v % 2 ^ bits) is ∙ mod-below x bits le

-- one step more of a ramp
pub ramp-next : (first step k w : ℕ)
    → ((first + step * k) % w + step) % w ≡ (first + step * (k + 1)) % w
ramp-next first step k w =
    let e : first + step * k + step ≡ first + step * (k + 1) = omega arith in
    mod-add-mod (first + step * k) w step ∙ ap (λ x. x % w) e

ramp-mod : (start step p k w : ℕ) → ((start + (step * (p % w)) % w) % w + step * k) % w
    ≡ (start + step * (p + k)) % w
ramp-mod start step p k w =
    let q : ℕ = (step * p) % w in
    let e : start + q + step * k ≡ q + (start + step * k) = omega arith in
    let f : step * p + (start + step * k) ≡ start + step * (p + k) = omega arith in
    ap (λ r. ((start + r) % w + step * k) % w) (mul-mod_second step p w)
    ∙ mod-add-mod (start + q) w (step * k)
    ∙ ap (λ x. x % w) e
    ∙ mod-add-mod (step * p) w (start + step * k)
    ∙ ap (λ x. x % w) f

-- a word of a ramp whose first word was taken modulo 2^64
pub ramp-word : (start step p k bits : ℕ) → bits ≤ 32
    → ((start + (step * (p % 2 ^ 64)) % 2 ^ 64) % 2 ^ 64 + step * k) % 2 ^ bits
    ≡ (start + step * (p + k)) % 2 ^ bits
ramp-word start step p k bits le =
    sym (mod-below ((start + (step * (p % 2 ^ 64)) % 2 ^ 64) % 2 ^ 64 + step * k) bits le)
    ∙ ap (λ x. x % 2 ^ bits) (ramp-mod start step p k (2 ^ 64))
    ∙ mod-below (start + step * (p + k)) bits le

-- some words in whole frames are at least one frame
pub some-frames : (size len : ℕ) → len % size ≡ 0 → 1 ≤ len → (size ≤ len) × (0 < len / size)
some-frames size len whole some =
    let e : size * (len / size) + len % size ≡ len = div-add-mod len size in
    elim (cases_lt (len / size) 1) [
      | inl few ↦ let none : len / size ≡ 0 = omega arith in
          let z : size * (len / size) ≡ size * 0 = ap (λ q. size * q) none in absurd (omega arith)
      | inr many ↦ let m : size * 1 ≤ size * (len / size) = mul-le-mul_left size many in
          (omega arith, omega arith)
    ]

-- a frame that is counted by division lies within
pub frame-within : (frame size len : ℕ) → frame < len / size → frame * size + size ≤ len
frame-within frame size len lt =
    let m : (frame + 1) * size ≤ len / size * size =
    mul-le-mul_right size (let h : frame + 1 ≤ len / size = omega arith in h) in
    let e : size * (len / size) + len % size ≡ len = div-add-mod len size in
    omega arith

-- the words of a frame that repeats
pub repeated : (frames : List ℕ) (size n : ℕ) → 0 < length frames / size
    → take size (drop (n % (length frames / size) * size) frames)
    ≡ map (λ k. get_or frames (n % (length frames / size) * size + k) 0) (numbers_from 0 size)
repeated frames size n some =
    let at : ℕ = n % (length frames / size) * size in
    let within : at + size ≤ length frames = frame-within (n % (length frames / size)) size
    (length frames) (mod_below n (length frames / size) some) in
    let rest : size ≤ length (drop at frames) = rw length-drop (omega arith) in
    let len : length (take size (drop at frames)) ≡ size =
    length-take-le size (drop at frames) rest in
    listed (take size (drop at frames)) (λ k. get_or frames (at + k) 0)
    (λ k lt. let below : k < size = omega arith in get_or-take size (drop at frames) k 0 below
    ∙ get_or-drop at frames k 0)
    ∙ ap (λ m. map (λ k. get_or frames (at + k) 0) (numbers_from 0 m)) len

-- what a plan keeps of its scenario
pub record Kept (s : Scenario) (plan : Plan) : Type 0 where
  pub params : plan.link.params ≡ s.shape
  pub source : plan.source ≡ source_in s.input
  pub words : IsTrue (has_words s.input)

plan-with : (link : Option Link) (s : Scenario) (plan : Plan)
    → ForSome link (λ k. k.params ≡ s.shape) → ForSome link (λ k. IsTrue (has_words s.input))
    → plan_with link s ≡ Some plan → Kept s plan
plan-with None s plan same some is = absurd (cc)
plan-with (Some k) s plan same some is = let e : k.params ≡ s.shape = same k refl in
    record { params = cc; source = cc; words = some k refl }

pub plan-kept : (s : Scenario) (plan : Plan) → plan_of s ≡ Some plan → Kept s plan
plan-kept s plan is = plan-with s.link s plan s.same_shape s.some_words is

-- the source frame of a plan is the frame of its source
pub frame-of : (plan : Plan) (p : Params) (source : Source) (n : ℕ) → plan.link.params ≡ p
    → plan.source ≡ source
    → source_frame plan n ≡ frame_of_source p source n
unfolding source_frame
frame-of plan p source n params is = ap₂ (λ (q : Params) (t : Source). frame_of_source q t n) params
    is

-- the words of a frame, as the frame of a plan
pub as-planned : (s : Scenario) (n : ℕ) (words : List ℕ)
    → words ≡ frame_of_source s.shape (source_in s.input) n
    → (plan : Plan) → plan_of s ≡ Some plan → words ≡ source_frame plan n
as-planned s n words is plan read =
    let kept = plan-kept s plan read in is
    ∙ sym (frame-of plan s.shape (source_in s.input) n kept.params kept.source)

-- ---- several frames, one after the other

-- the words of frame i, of `size` words, after they were written
pub frame-written : (xs ys : List ℕ) (size i k : ℕ) → i * size ≤ length xs → length ys ≡ size
    → take size (drop (i * size) (put_mid (i * size) k xs ys)) ≡ ys
frame-written xs ys size i k within len =
    let at : ℕ = i * size in
    let e : size ≡ at + size - at = omega arith in
    ap (λ m. take m (drop at (put_mid at k xs ys))) e
    ∙ between-put_mid at k xs ys (at + size) within (len ∙ e)

-- and those of a frame before it
pub frame-stays : (xs ys : List ℕ) (size i j k : ℕ) → i * size ≤ length xs → j < i
    → take size (drop (j * size) (put_mid (i * size) k xs ys)) ≡ take size (drop (j * size) xs)
frame-stays xs ys size i j k within lt =
    let h : (j + 1) * size ≤ i * size =
    mul-le-mul_right size (let q : j + 1 ≤ i = omega arith in q) in
    sym (drop-take (j * size) size (put_mid (i * size) k xs ys))
    ∙ ap (drop (j * size))
    (take-put_mid_below (i * size) k xs ys (j * size + size) (omega arith) within)
    ∙ drop-take (j * size) size xs

at-number : (f : ℕ → ℕ) (b n k : ℕ) → k < n → get_or (map f (numbers_from b n)) k 0 ≡ f (b + k)
unfolding numbers_from
at-number f b zero k lt = absurd (omega arith)
at-number f b (suc n) zero lt = let e : b ≡ b + 0 = omega arith in ap f e
at-number f b (suc n) (suc k) lt =
    let e : suc b + k ≡ b + suc k = omega arith in
    at-number f (suc b) n k (omega arith) ∙ ap f e

-- a part of a list by its items
part-listed : (xs : List ℕ) (f h : ℕ → ℕ) (at size : ℕ)
    → xs ≡ map f (numbers_from 0 (length xs)) → at + size ≤ length xs
    → ((k : ℕ) → f (at + k) ≡ h k) → take size (drop at xs) ≡ map h (numbers_from 0 size)
part-listed xs f h at size is within same =
    let rest : size ≤ length (drop at xs) = rw length-drop (omega arith) in
    let len : length (take size (drop at xs)) ≡ size = length-take-le size (drop at xs) rest in
    listed (take size (drop at xs)) h
    (λ k lt. let below : k < size = omega arith in
    let in_all : at + k < length xs = omega arith in
    let e : 0 + (at + k) ≡ at + k = omega arith in
    get_or-take size (drop at xs) k 0 below
    ∙ get_or-drop at xs k 0
    ∙ ap (λ l. get_or l (at + k) 0) is
    ∙ at-number f 0 (length xs) (at + k) in_all
    ∙ ap f e
    ∙ same k)
    ∙ ap (λ m. map h (numbers_from 0 m)) len

-- the frames of a ramp
pub ramp-frames : (p : Params) (start step n bits count : ℕ) (words : List ℕ) → bits ≡ p.n + p.cs
    → words ≡ map (λ k. (start + step * (n * (p.m * p.s) + k)) % 2 ^ bits)
    (numbers_from 0 (length words))
    → length words ≡ count * (p.m * p.s) → (i : ℕ) → i < count
    → take (p.m * p.s) (drop (i * (p.m * p.s)) words) ≡ frame_of_source p (Ramp start step) (n + i)
ramp-frames p start step n bits count words b is len i lt =
    let size : ℕ = p.m * p.s in
    let h : (i + 1) * size ≤ count * size =
    mul-le-mul_right size (let q : i + 1 ≤ count = omega arith in q) in
    part-listed words (λ k. (start + step * (n * size + k)) % 2 ^ bits)
    (λ k. (start + step * ((n + i) * size + k)) % word_limit p) (i * size) size is (omega arith)
    (λ k. let e : n * size + (i * size + k) ≡ (n + i) * size + k = omega arith in
    ap₂ (λ x w. (start + step * x) % 2 ^ w) e b)

-- the frames of frames that repeat
pub repeated-frames : (p : Params) (frames words : List ℕ) (n count : ℕ)
    → 0 < length frames / (p.m * p.s)
    → ((i : ℕ) → i < count → take (p.m * p.s) (drop (i * (p.m * p.s)) words)
    ≡ take (p.m * p.s)
    (drop ((n + i) % (length frames / (p.m * p.s)) * (p.m * p.s)) frames))
    → (i : ℕ) → i < count
    → take (p.m * p.s) (drop (i * (p.m * p.s)) words) ≡ frame_of_source p (Frames frames) (n + i)
repeated-frames p frames words n count some each i lt =
    each i lt ∙ repeated frames (p.m * p.s) (n + i) some
