-- The frames of a session in order, where each tick delivers the numbers that follow those before
-- it.
use Rattle.std.proofs.Common.{◌≡◌, ℕ, zero, suc, ◌+◌, ◌-◌, ◌<◌, ◌≤◌, List, [], ◌∷◌, ◌++◌, length, map, drop, slice_get, Some, inl, inr, refl, sym, ap, ap₂, ◌∙◌, append-nil, length-append, arith}
use Rattle.std.specs.List.{flat_map}
use Rattle.std.proofs.lemmas.Bool.{cases_lt}
use Rattle.std.proofs.lemmas.List.{drop-append-le, drop_all, length-map}
use Rattle.std.proofs.lemmas.List.Concat.{flat_map-append}
use Rattle.link_params.specs.Lanes.{LaneKind}
use Rattle.scenario.specs.Plans.{Plan, numbers_from}
use Rattle.link_model.specs.Moments.{Delivered, History, Moment}
use Rattle.link_model.specs.Run.{run}
use Rattle.link_model.proofs.NumberLists.{length-numbers}
use Rattle.link_model.specs.Sessions.{at}
use Rattle.link_model.proofs.RunTicks.{length-run, run-suc}

pub get-left : {A : Type 0} (xs ys : List A) (k : ℕ) → k < length xs
    → slice_get (xs ++ ys) k ≡ slice_get xs k
get-left [] ys k below = absurd (omega arith)
get-left (x ∷ xs) ys zero below = refl
get-left (x ∷ xs) ys (suc k) below = get-left xs ys k (omega arith)

pub get-right : {A : Type 0} (xs ys : List A) (n k : ℕ) → length xs ≡ n
    → slice_get (xs ++ ys) (n + k) ≡ slice_get ys k
get-right [] ys zero k long = let z : 0 + k ≡ k = omega arith in ap (slice_get ys) z
get-right [] ys (suc n) k long = absurd (omega arith)
get-right (x ∷ xs) ys zero k long = absurd (omega arith)
get-right (x ∷ xs) ys (suc n) k long = let e : suc n + k ≡ suc (n + k) = omega arith in
    ap (slice_get (x ∷ (xs ++ ys))) e ∙ get-right xs ys n k (omega arith)

pub get-number : {A : Type 0} (m a i : ℕ) (f : ℕ → A) → i < m
    → slice_get (map f (numbers_from a m)) i ≡ Some (f (a + i))
unfolding numbers_from
get-number zero a i f below = absurd (omega arith)
get-number (suc m) a zero f below = let z : a ≡ a + 0 = omega arith in ap (λ x. Some (f x)) z
get-number (suc m) a (suc i) f below = let e : suc a + i ≡ a + suc i = omega arith in
    get-number m (suc a) i f (omega arith) ∙ ap (λ x. Some (f x)) e

-- first: the session's first tick; r: the tick of its release; whole n: the frames that n entries
-- give; frame u k: frame k as tick u gives it
module _ (kind : LaneKind) (s : Plan) (first r t : ℕ) (whole : ℕ → ℕ) (frame : ℕ → ℕ → Delivered)
    (from : first ≤ r)
    (begins : whole 0 ≡ 0) (grows : (n : ℕ) → whole n ≤ whole (suc n))
    (none : (u : ℕ) → first ≤ u → u < r → (at kind s u).delivered ≡ [])
    (each : (k : ℕ) → r + k ≤ t
    → (at kind s (r + k)).delivered ≡ map (frame (r + k))
    (numbers_from (whole k) (whole (suc k) - whole k))) where
  abbrev so_far : ℕ → List Delivered
  so_far u = flat_map (λ (m : Moment). m.delivered) (drop first (run kind s u))

  so-far-suc : (u : ℕ) → first ≤ u → so_far (suc u) ≡ so_far u ++ (at kind s u).delivered
  so-far-suc u low =
      let of : Moment → List Delivered = λ m. m.delivered in
      let l = length-run kind s u in
      ap (λ (x : History). flat_map of (drop first x)) (run-suc kind s u)
      ∙ ap (flat_map of) (drop-append-le first (run kind s u) (at kind s u ∷ []) (omega arith))
      ∙ flat_map-append of (drop first (run kind s u)) (at kind s u ∷ [])
      ∙ ap (λ (x : List Delivered). so_far u ++ x) (append-nil (at kind s u).delivered)

  before-release : (k : ℕ) → first + k ≤ r → so_far (first + k) ≡ []
  before-release zero end =
      let same : first + 0 ≡ first = omega arith in
      let l = length-run kind s first in
      ap so_far same ∙ ap (flat_map (λ (m : Moment). m.delivered))
      (drop_all first (run kind s first) (omega arith))
  before-release (suc k) end =
      let same : first + suc k ≡ suc (first + k) = omega arith in
      ap so_far same ∙ so-far-suc (first + k) (omega arith) ∙ ap₂ (λ (x y : List Delivered). x ++ y)
      (before-release k (omega arith)) (none (first + k) (omega arith) (omega arith))

  -- how many there are once k ticks of the release's session have given
  pub count-so-far : (k : ℕ) → r + k ≤ t + 1 → length (so_far (r + k)) ≡ whole k
  count-so-far zero end =
      let same : first + (r - first) ≡ r + 0 = omega arith in
      ap length (sym (ap so_far same) ∙ before-release (r - first) (omega arith)) ∙ sym begins
  count-so-far (suc k) end =
      let same : r + suc k ≡ suc (r + k) = omega arith in
      let up = grows k in
      let before = count-so-far k (omega arith) in
      let more : length (at kind s (r + k)).delivered ≡ whole (suc k) - whole k =
      ap length (each k (omega arith))
      ∙ length-map (numbers_from (whole k) (whole (suc k) - whole k)) (frame (r + k))
      ∙ length-numbers (whole (suc k) - whole k) (whole k) in
      ap (λ u. length (so_far u)) same ∙ ap length (so-far-suc (r + k) (omega arith))
      ∙ length-append (so_far (r + k)) (at kind s (r + k)).delivered ∙ omega arith

  -- and which each of them is
  pub record GivenIn (k i : ℕ) : Type 0 where
    pub tick : ℕ
    pub before : tick < k
    pub low : whole tick ≤ i
    pub high : i < whole (suc tick)
    pub is : slice_get (so_far (r + k)) i ≡ Some (frame (r + tick) i)

  pub frame-so-far : (k i : ℕ) → r + k ≤ t + 1 → i < whole k → GivenIn k i
  frame-so-far zero i end below = let z = begins in absurd (omega arith)
  frame-so-far (suc k) i end below =
      let same : r + suc k ≡ suc (r + k) = omega arith in
      let count = count-so-far k (omega arith) in
      let longer : so_far (r + suc k) ≡ so_far (r + k) ++ (at kind s (r + k)).delivered =
      ap so_far same ∙ so-far-suc (r + k) (omega arith) in
      elim (cases_lt i (whole k)) [
        | inl early ↦
            let g = frame-so-far k i (omega arith) early in
            let b = g.before in
            record {
              tick = g.tick;
              before = omega arith;
              low = g.low;
              high = g.high;
              is = ap (λ l. slice_get l i) longer
                  ∙ get-left (so_far (r + k)) (at kind s (r + k)).delivered i (omega arith)
                  ∙ g.is;
            }
        | inr late ↦
            let at_place : whole k + (i - whole k) ≡ i = omega arith in
            record {
              tick = k;
              before = omega arith;
              low = late;
              high = below;
              is = ap (λ l. slice_get l i) longer
                  ∙ sym (ap (slice_get (so_far (r + k) ++ (at kind s (r + k)).delivered))
                  at_place)
                  ∙ get-right (so_far (r + k)) (at kind s (r + k)).delivered (whole k)
                  (i - whole k) count
                  ∙ ap (λ l. slice_get l (i - whole k)) (each k (omega arith))
                  ∙ get-number (whole (suc k) - whole k) (whole k) (i - whole k) (frame (r + k))
                  (omega arith)
                  ∙ ap (λ x. Some (frame (r + k) x)) at_place;
            }
      ]
