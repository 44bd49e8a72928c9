-- The octet times at which the frames of a session entered: one every F octets from where data
-- begins.
use Rattle.std.proofs.Common.{◌≡◌, ℕ, zero, suc, ◌+◌, ◌-◌, ◌*◌, ◌/◌, ◌<◌, ◌≤◌, ◌%◌, ◌==◌, if◌then◌else◌, Bool, true, false, List, [], ◌∷◌, ◌++◌, map, filter, slice_get, Option, Some, None, option_map, inl, inr, refl, sym, ap, ◌∙◌, append-nil, length-append, arith}
use Rattle.std.specs.List.{flat_map}
use Rattle.std.proofs.Math.Nat.{mul-le-mul_right}
use Rattle.std.proofs.lemmas.Bool.{cases_Bool, cases_lt, eq-eqb}
use Rattle.std.proofs.lemmas.List.Concat.{flat_map-append}
use Rattle.std.proofs.lemmas.Nat.{div-mul-add, mod-mul-add}
use Rattle.std.proofs.lemmas.Option.{slice_get-map, slice_get_within}
use Rattle.link_params.specs.declared.fields.Params.{Params}
use Rattle.link_params.specs.Laws.{broken_law, is_b}
use Rattle.link_params.specs.Lanes.{LaneKind}
use Rattle.link_params.specs.Numbers.{octets_per_tick, period}
use Rattle.sample_map.proofs.PlaceLemmas.{group-lt}
use Rattle.scenario.specs.Plans.{Plan, numbers_from}
use Rattle.link_model.specs.Moments.{Moment}
use Rattle.link_model.specs.Sends.{beginnings, begins_frame, data_place, frames_before}
use Rattle.link_model.specs.Run.{run}
use Rattle.link_model.specs.Sessions.{at, entered_by}
use Rattle.link_model.proofs.RunTicks.{run-longer, run-suc}
use Rattle.link_laws.proofs.FramesEnter.{begun-before, begun-more, begun_in, entered-at, first_frame, same-places}
use Rattle.link_laws.proofs.FramesHanded.{begun-up-to}
use Rattle.link_laws.proofs.InOrder.{get-left, get-right}

-- an octet that begins a frame: those begun before it are as many as its frame's number
begun-here : (f x : ℕ) → 0 < f → (x % f == 0) ≡ true → begun_in f x ≡ x / f
begun-here f x some here =
    let up = begun-up-to f x some in
    let more = begun-more f x some in
    let one : (if x % f == 0 then 1 else 0) ≡ suc zero =
    ap (λ (b : Bool). let n : ℕ = if b then 1 else 0 in n) here in
    omega arith

-- an octet inside a frame begins none
begun-inside : (f x : ℕ) → 0 < f → (x % f == 0) ≡ false → begun_in f (x + 1) ≡ begun_in f x
begun-inside f x some inside =
    let more = begun-more f x some in
    let none : (if x % f == 0 then 1 else 0) ≡ zero =
    ap (λ (b : Bool). let n : ℕ = if b then 1 else 0 in n) inside in
    omega arith

-- of a tick's octets that begin a frame, the one of frame k; y: the octets of data before the tick
frame-begins : (n : ℕ) (p : Params) (x y a k i : ℕ) → 0 < p.f
    → ((j : ℕ) → (octets_per_tick p * x + j) % p.f ≡ (y + j) % p.f)
    → y + i ≡ k * p.f → a ≤ i → i < a + n
    → slice_get (filter (begins_frame p x) (numbers_from a n)) (k - begun_in p.f (y + a)) ≡ Some i
unfolding numbers_from
frame-begins zero p x y a k i some same is low high = absurd (omega arith)
frame-begins (suc n) p x y a k i some same is low high =
    let test : begins_frame p x a ≡ ((y + a) % p.f == 0) = ap (λ (m : ℕ). m == 0) (same a) in
    let next : y + suc a ≡ y + a + 1 = omega arith in
    let at_next = ap (begun_in p.f) next in
    elim (cases_Bool ((y + a) % p.f == 0)) [
      | inl here ↦
          let list : filter (begins_frame p x) (numbers_from a (suc n)) ≡ a
          ∷ filter (begins_frame p x) (numbers_from (suc a) n) = rw (test ∙ here) refl in
          let count = begun-here p.f (y + a) some here in
          let count_next = begun-up-to p.f (y + a) some in
          elim (cases_lt a i) [
            | inr first ↦
                let e : i ≡ a = omega arith in
                let q : y + a ≡ k * p.f + 0 = omega arith in
                let quotient : (y + a) / p.f ≡ k = ap (λ (m : ℕ). m / p.f) q
                ∙ div-mul-add k p.f 0 some in
                let none : k - begun_in p.f (y + a) ≡ 0 = omega arith in
                ap (λ l. slice_get l (k - begun_in p.f (y + a))) list
                ∙ ap (slice_get (a ∷ filter (begins_frame p x) (numbers_from (suc a) n))) none
                ∙ ap Some (sym e)
            | inl later ↦
                let less : (y + a) / p.f < k = group-lt (y + a) p.f k some (omega arith) in
                let down : k - begun_in p.f (y + a) ≡ suc (k - begun_in p.f (y + suc a)) =
                omega arith in
                ap (λ l. slice_get l (k - begun_in p.f (y + a))) list
                ∙ ap (slice_get (a ∷ filter (begins_frame p x) (numbers_from (suc a) n))) down
                ∙ frame-begins n p x y (suc a) k i some same is (omega arith) (omega arith)
          ]
      | inr apart ↦
          let list : filter (begins_frame p x) (numbers_from a (suc n)) ≡ filter (begins_frame p x)
          (numbers_from (suc a) n) = rw (test ∙ apart) refl in
          let count = begun-inside p.f (y + a) some apart in
          let down : k - begun_in p.f (y + a) ≡ k - begun_in p.f (y + suc a) = omega arith in
          let later : a < i = elim (cases_lt a i) [
            | inl l ↦ l
            | inr first ↦
                let q : y + a ≡ k * p.f + 0 = omega arith in
                let zero_left : (y + a) % p.f ≡ 0 = ap (λ (m : ℕ). m % p.f) q
                ∙ mod-mul-add k p.f 0 some in
                let bad = eq-eqb ((y + a) % p.f) 0 zero_left in
                absurd (cc)
          ] in
          ap (λ l. slice_get l (k - begun_in p.f (y + a))) list
          ∙ ap (slice_get (filter (begins_frame p x) (numbers_from (suc a) n))) down
          ∙ frame-begins n p x y (suc a) k i some same is (omega arith) (omega arith)
    ]

-- what a tick adds stands behind what the ticks before it gave
entered-there : (kind : LaneKind) (s : Plan) (t u n m o : ℕ) → u ≤ t
    → frames_before (run kind s u) ≡ n → slice_get (at kind s u).entered m ≡ Some o
    → slice_get (entered_by kind s t) (n + m) ≡ Some o
entered-there kind s t u n m o up count is =
    let of : Moment → List ℕ = λ (x : Moment). x.entered in
    let before : List ℕ = flat_map of (run kind s u) in
    let here : List ℕ = (at kind s u).entered in
    let l = run-longer (t - u) kind s (suc u) in
    let end : suc u + (t - u) ≡ t + 1 = omega arith in
    let inside = slice_get_within here m o is in
    let one : flat_map of (run kind s (suc u)) ≡ before ++ here =
    ap (flat_map of) (run-suc kind s u) ∙ flat_map-append of (run kind s u) (at kind s u ∷ [])
    ∙ ap (λ (x : List ℕ). before ++ x) (append-nil here) in
    let all : entered_by kind s t ≡ (before ++ here) ++ flat_map of l.0 =
    ap (λ (x : ℕ). flat_map of (run kind s x)) (sym end) ∙ ap (flat_map of) l.1
    ∙ flat_map-append of (run kind s (suc u)) l.0
    ∙ ap (λ (x : List ℕ). x ++ flat_map of l.0) one in
    let long = length-append before here in
    ap (λ (x : List ℕ). slice_get x (n + m)) all
    ∙ get-left (before ++ here) (flat_map of l.0) (n + m) (omega arith)
    ∙ get-right before here n m count ∙ is

pub octets-some : (p : Params) → 0 < octets_per_tick p
octets-some p = elim (cases_Bool (is_b p.mode)) [
  | inl b ↦ let one : octets_per_tick p ≡ 1 = rw b refl in omega arith
  | inr c ↦ let eight : octets_per_tick p ≡ 8 = rw c refl in omega arith
]

-- data from tick d on
module _ (kind : LaneKind) (s : Plan) (d t : ℕ) (legal : broken_law s.link.params ≡ None)
    (some : 0 < s.link.params.f)
    (places : (j : ℕ) → d + j ≤ t
    → data_place (at kind s (d + j)).order ≡ Some (j % period s.link.params)) where
  -- frame k of the data
  pub frame-entered : (k : ℕ) → octets_per_tick s.link.params * d + k * s.link.params.f
      < (t + 1) * octets_per_tick s.link.params
      → slice_get (entered_by kind s t) (first_frame kind s d t legal some places + k)
      ≡ Some (octets_per_tick s.link.params * d + k * s.link.params.f)
  frame-entered k before_end =
      let p = s.link.params in
      let c : ℕ = octets_per_tick p in
      let o : ℕ = k * p.f in
      let j : ℕ = o / c in
      let i : ℕ = o % c in
      let c_some = octets-some p in
      let parts : c * j + i ≡ o = omega arith in
      let small : i < c = omega arith in
      let u : ℕ = d + j in
      let in_run : u < t + 1 = elim (cases_lt u (t + 1)) [
        | inl below ↦ below
        | inr past ↦ let m : (t + 1) * c ≤ (d + j) * c = mul-le-mul_right c past in
            absurd (omega arith)
      ] in
      let place = places j (omega arith) in
      let time : ℕ → ℕ = λ n. c * u + n in
      let begins = frame-begins c p (j % period p) (c * j) 0 k i some (λ n. same-places p j n legal)
      parts (omega arith) (omega arith) in
      let start : c * j + 0 ≡ c * j = omega arith in
      let first : ℕ = first_frame kind s d t legal some places in
      let begun : ℕ = begun_in p.f (c * j) in
      let few : begun < k + 1 = group-lt (c * j + (p.f - 1)) p.f (k + 1) some (omega arith) in
      let index : first + begun + (k - begun) ≡ first + k = omega arith in
      let at_time : c * u + i ≡ c * d + o = omega arith in
      ap (slice_get (entered_by kind s t)) (sym index)
      ∙ entered-there kind s t u (first + begun) (k - begun) (c * u + i) (omega arith)
      (begun-before kind s d t legal some places j (omega arith))
      (ap (λ l. slice_get l (k - begun))
      (entered-at kind s u ∙ ap (λ (x : Option ℕ). map time (beginnings p x)) place)
      ∙ slice_get-map time (filter (begins_frame p (j % period p)) (numbers_from 0 c)) (k - begun)
      ∙ ap (λ (x : ℕ). option_map time
      (slice_get (filter (begins_frame p (j % period p)) (numbers_from 0 c)) (k - begun_in p.f x)))
      (sym start)
      ∙ ap (option_map time) begins)
      ∙ ap Some at_time
