-- What lanes are handed in a tick, octet by octet and frame by frame.
use Rattle.std.proofs.Common.{◌≡◌, ℕ, zero, suc, ◌+◌, ◌-◌, ◌*◌, ◌/◌, ◌%◌, ◌^◌, ◌==◌, ◌<◌, ◌≤◌, Bool, if◌then◌else◌, List, [], ◌∷◌, ◌++◌, All, map, fold, filter, replicate, length, get_or, slice_index, Some, None, inl, inr, refl, sym, ap, ap₂, subst, ◌∙◌, arith}
use Rattle.std.proofs.Math.Nat.{add-mul, mod-eq_of_lt, mul_assoc, mul_comm, mul-add-mod_self_right, mul-mod_left, pow-le-pow_right, suc-mul}
use Rattle.std.proofs.lemmas.Bool.{cases_Bool, ne_eqb}
use Rattle.std.proofs.lemmas.List.{get_or-map, get_or-replicate, length-replicate}
use Rattle.std.proofs.lemmas.List.Elements.{All-from_get_or}
use Rattle.std.proofs.lemmas.List.Sums.{fold_push}
use Rattle.std.proofs.lemmas.Nat.{div-add-mod', pow-add}
use Rattle.link_params.specs.declared.fields.Params.{Params}
use Rattle.link_params.specs.Numbers.{octets_per_tick}
use Rattle.sample_map.specs.Frames.{frame_of}
use Rattle.scenario.specs.declared.scenario_type.Scenario.{Scenario}
use Rattle.scenario.specs.Plans.{Plan, numbers_from, plan_of, source_frame}
use Rattle.link_model.specs.Sends.{beginnings, begins_frame, handed_to, octet_of}
use Rattle.link_model.proofs.NumberLists.{get_or-numbers, length-numbers, map-numbers, numbers-more}
use Rattle.link_run.specs.kept.Handed.{Hands, begun_in, octets_to, with_frames, with_octet, with_octets}
use Rattle.link_run.specs.kept.Seen.{Fed, HasFed}
use Rattle.link_run.proofs.FrameOctets.{length-with_octet, with_frames-below}

filter-push : (f : ℕ → Bool) (xs : List ℕ) (x : ℕ)
    → length (filter f (xs ++ x ∷ [])) ≡ length (filter f xs) + (if f x then 1 else 0)
filter-push f [] x = elim (cases_Bool (f x)) [ inl t ↦ rw t refl | inr e ↦ rw e refl ]
filter-push f (y ∷ ys) x = elim (cases_Bool (f y)) [
  | inl t ↦ let more = filter-push f ys x in
      let one : suc (length (filter f ys) + (if f x then 1 else 0))
      ≡ suc (length (filter f ys)) + (if f x then 1 else 0) = omega arith in
      rw t (ap suc more ∙ one)
  | inr e ↦ let more = filter-push f ys x in rw e more
]

begun-more : (p : Params) (x j : ℕ)
    → begun_in p x (suc j) ≡ begun_in p x j + (if begins_frame p x j then 1 else 0)
begun-more p x j =
    let last : 0 + j ≡ j = omega arith in
    ap (λ l. length (filter (begins_frame p x) l)) (numbers-more j 0)
    ∙ filter-push (begins_frame p x) (numbers_from 0 j) (0 + j)
    ∙ ap (λ (k : ℕ). begun_in p x j + (if begins_frame p x k then 1 else 0)) last

octets-more : (s : Plan) (n x j lane : ℕ)
    → octets_to s n x (suc j) lane ≡ 256 * octets_to s n x j lane + octet_of s n x lane j
octets-more s n x j lane =
    let last : 0 + j ≡ j = omega arith in
    ap (fold (λ v i. 256 * v + octet_of s n x lane i) 0) (numbers-more j 0)
    ∙ fold_push (λ v i. 256 * v + octet_of s n x lane i) 0 (numbers_from 0 j) (0 + j)
    ∙ ap (λ (k : ℕ). 256 * octets_to s n x j lane + octet_of s n x lane k) last

octet-is : (s : Plan) (n x lane j : ℕ)
    → slice_index
    (frame_of s.link.params (source_frame s (n + begun_in s.link.params x (suc j) - 1)))
    (lane * s.link.params.f + (octets_per_tick s.link.params * x + j) % s.link.params.f)
    ≡ octet_of s n x lane j
octet-is s n x lane j =
    let one : suc j ≡ j + 1 = omega arith in
    ap (λ (k : ℕ). slice_index
    (frame_of s.link.params (source_frame s (n + begun_in s.link.params x k - 1)))
    (lane * s.link.params.f + (octets_per_tick s.link.params * x + j) % s.link.params.f)) one

added : (n b o e m : ℕ) → o ≡ e → m ≡ b + e → n + b + o ≡ n + m
added n b o e m same is = omega arith

mod-of : (q f r : ℕ) → r < f → (q * f + r) % f ≡ r
mod-of q f r below = mul-add-mod_self_right q f r ∙ mod-eq_of_lt below

-- the next octet
pub hands-more : (scenario : Scenario) (old now later : Fed) (x j at : ℕ) (handed next : List ℕ)
    → Hands scenario old now x j handed
    → ((s : Plan) → plan_of scenario ≡ Some s → s.link.params ≡ old.params) → old.frames ≡ 0
    → at ≡ (octets_per_tick old.params * x + j) % old.params.f
    → later.params ≡ now.params → later.frames ≡ now.frames → later.begun ≤ now.begun + 1
    → length next ≡ length handed
    → next ≡ with_octet later.octets later.params.f at handed
    → ((s : Plan) (n : ℕ) → plan_of scenario ≡ Some s → HasFed now s n
    → HasFed later s (n + (if at == 0 then 1 else 0)))
    → Hands scenario old later x (j + 1) next
hands-more scenario old now later x j at handed next h shape part at_is same same_frames count long
    next_is fed =
    let few = h.count in
    let wide = h.lanes in
    subst (λ k. Hands scenario old later x k next) (let one : suc j ≡ j + 1 = omega arith in one) (
    let begins : (s : Plan) → plan_of scenario ≡ Some s
    → (at == 0) ≡ begins_frame s.link.params x j =
    λ s is. ap (λ (k : ℕ). k == 0) at_is ∙ sym (ap (λ (q : Params). begins_frame q x j) (shape s is)) in
    let fed_now : (s : Plan) (n : ℕ) → plan_of scenario ≡ Some s → HasFed old s n
    → HasFed later s (n + begun_in s.link.params x (suc j)) = λ s n is was.
    let more = begun-more s.link.params x j in
    let now_fed = fed s (n + begun_in s.link.params x j) is (h.fed s n is was) in
    let one : (if at == 0 then 1 else 0) ≡ (if begins_frame s.link.params x j then 1 else 0) =
    ap (λ (b : Bool). if b then 1 else 0) (begins s is) in
    let sum : n + begun_in s.link.params x j + (if at == 0 then 1 else 0)
    ≡ n + begun_in s.link.params x (suc j) =
    added n (begun_in s.link.params x j) (if at == 0 then 1 else 0)
    (if begins_frame s.link.params x j then 1 else 0) (begun_in s.link.params x (suc j)) one more in
    subst (HasFed later s) sum now_fed in
    record {
      params = same ∙ h.params;
      frames = same_frames ∙ h.frames;
      count = omega arith;
      lanes = long ∙ wide;
      fed = fed_now;
      handed_is = λ s n is was.
          let f = fed_now s n is was in
          let sizes : later.params.f ≡ s.link.params.f =
          ap (λ (q : Params). q.f) (same ∙ h.params ∙ sym (shape s is)) in
          let before = h.handed_is s n is was in
          let at_now : at ≡ (octets_per_tick s.link.params * x + j) % s.link.params.f =
          at_is ∙ sym (ap (λ (q : Params). (octets_per_tick q * x + j) % q.f) (shape s is)) in
          next_is
          ∙ ap (λ (l : ℕ). map
          (λ lane. get_or handed lane 0 * 256 + slice_index later.octets (lane * later.params.f + at))
          (numbers_from 0 l)) (wide ∙ sym (ap (λ (q : Params). q.l) (shape s is)))
          ∙ map-numbers
          (λ lane. get_or handed lane 0 * 256 + slice_index later.octets (lane * later.params.f + at))
          (octets_to s n x (suc j)) s.link.params.l 0 (λ lane below.
          let inside : lane < s.link.params.l = omega arith in
          let numbers = length-numbers s.link.params.l 0 in
          let same_lane : 0 + lane ≡ lane = omega arith in
          let was_number : get_or handed lane 0 ≡ octets_to s n x j lane =
          ap (λ (l : List ℕ). get_or l lane 0) before
          ∙ get_or-map (octets_to s n x j) (numbers_from 0 s.link.params.l) lane 0 0 (omega arith)
          ∙ ap (octets_to s n x j) (get_or-numbers s.link.params.l lane 0 0 inside ∙ same_lane) in
          let octet : slice_index later.octets (lane * later.params.f + at)
          ≡ octet_of s n x lane j =
          ap (λ (k : ℕ). slice_index later.octets (lane * k + at)) sizes
          ∙ ap (λ (k : ℕ). slice_index later.octets (lane * s.link.params.f + k)) at_now
          ∙ ap (λ (l : List ℕ). slice_index l
          (lane * s.link.params.f + (octets_per_tick s.link.params * x + j) % s.link.params.f))
          (f.frame (same_frames ∙ h.frames ∙ part))
          ∙ octet-is s n x lane j in
          let turned : get_or handed lane 0 * 256 ≡ 256 * octets_to s n x j lane = omega arith in
          ap₂ (λ (a b : ℕ). a + b) turned octet ∙ sym (octets-more s n x j lane));
    })

-- the octets that follow in a frame
hands-on : (scenario : Scenario) (old now : Fed) (x j at n q : ℕ) (handed : List ℕ)
    → Hands scenario old now x j handed
    → ((s : Plan) → plan_of scenario ≡ Some s → s.link.params ≡ old.params) → old.frames ≡ 0
    → suc at + n ≤ old.params.f
    → octets_per_tick old.params * x + j ≡ q * old.params.f + suc at
    → Hands scenario old now x (j + n) (with_octets now.octets now.params.f (suc at) n handed)
hands-on scenario old now x j at zero q handed h shape part inside is =
    let none : j ≡ j + 0 = omega arith in
    subst (λ k. Hands scenario old now x k handed) none h
hands-on scenario old now x j at (suc n) q handed h shape part inside is =
    let next : List ℕ = with_octet now.octets now.params.f (suc at) handed in
    let place : suc at ≡ (octets_per_tick old.params * x + j) % old.params.f =
    sym (ap (λ (k : ℕ). k % old.params.f) is ∙ mod-of q old.params.f (suc at) (omega arith)) in
    let one : Hands scenario old now x (j + 1) next =
    hands-more scenario old now now x j (suc at) handed next h shape part place refl refl
    (omega arith)
    (length-with_octet now.octets now.params.f (suc at) handed) refl
    (λ s k plan was. let none : k ≡ k + 0 = omega arith in
    subst (HasFed now s)
    (none ∙ sym (ap (λ (b : Bool). k + (if b then 1 else 0))
    (ne_eqb (suc at) 0 (λ e. omega arith))))
    was) in
    let all : j + 1 + n ≡ j + suc n = omega arith in
    subst (λ k. Hands scenario old now x k
    (with_octets now.octets now.params.f (suc at) (suc n) handed)) all
    (hands-on scenario old now x (j + 1) (suc at) n q next one shape part (omega arith)
    (omega arith))

-- the next octets, all of one frame
pub hands-run : (scenario : Scenario) (old now later : Fed) (x j at n : ℕ) (handed next : List ℕ)
    → Hands scenario old now x j handed
    → ((s : Plan) → plan_of scenario ≡ Some s → s.link.params ≡ old.params) → old.frames ≡ 0
    → at ≡ (octets_per_tick old.params * x + j) % old.params.f
    → 1 ≤ n → at + n ≤ old.params.f
    → later.params ≡ now.params → later.frames ≡ now.frames → later.begun ≤ now.begun + 1
    → next ≡ with_octets later.octets later.params.f at n handed
    → ((s : Plan) (n : ℕ) → plan_of scenario ≡ Some s → HasFed now s n
    → HasFed later s (n + (if at == 0 then 1 else 0)))
    → Hands scenario old later x (j + n) next
hands-run scenario old now later x j at zero handed next h shape part place some in_frame same
    same_frames count is fed =
    absurd (omega arith)
hands-run scenario old now later x j at (suc n) handed next h shape part place some in_frame same
    same_frames count is fed =
    let first : List ℕ = with_octet later.octets later.params.f at handed in
    let t : ℕ = octets_per_tick old.params * x + j in
    let whole : t / old.params.f * old.params.f + t % old.params.f ≡ t =
    div-add-mod' t old.params.f in
    let one : Hands scenario old later x (j + 1) first =
    hands-more scenario old now later x j at handed first h shape part place same same_frames count
    (length-with_octet later.octets later.params.f at handed) refl fed in
    let all : j + 1 + n ≡ j + suc n = omega arith in
    let on = hands-on scenario old later x (j + 1) at n (t / old.params.f) first one shape part
    (omega arith) (omega arith) in
    subst (λ (l : List ℕ). Hands scenario old later x (j + suc n) l) (sym is)
    (subst (λ k. Hands scenario old later x k
    (with_octets later.octets later.params.f at (suc n) handed)) all on)

-- where the first octet stands in its frame
pub first-place : (p q : Params) (x size per_tick : ℕ) → size ≡ p.f → per_tick ≡ octets_per_tick p
    → p ≡ q → per_tick * x % size ≡ (octets_per_tick q * x + 0) % q.f
first-place p q x size per_tick size_is tick_is same =
    let none : octets_per_tick p * x ≡ octets_per_tick p * x + 0 = omega arith in
    ap₂ (λ (a b : ℕ). a % b) (ap (λ (k : ℕ). k * x) tick_is ∙ none) size_is
    ∙ ap (λ (r : Params). (octets_per_tick r * x + 0) % r.f) same

-- with whole frames in each tick one begins behind each
pub whole-place : (frames f o x k : ℕ) → frames * f ≡ o → 0 ≡ (o * x + k * f) % f
whole-place frames f o x k whole =
    let turned : o * x ≡ frames * x * f = ap (λ (n : ℕ). n * x) (sym whole)
    ∙ mul_assoc frames f x ∙ ap (λ (n : ℕ). frames * n) (mul_comm f x)
    ∙ sym (mul_assoc frames x f) in
    let sum : (frames * x + k) * f ≡ o * x + k * f = add-mul (frames * x) k f
    ∙ ap (λ (n : ℕ). n + k * f) (sym turned) in
    sym (mul-mod_left (frames * x + k) f) ∙ ap (λ (n : ℕ). n % f) sum

-- behind the last octet of a frame another one begins
pub frame-ends : (t n f at : ℕ) → 0 < f → at ≡ t % f → at + n ≡ f → 0 ≡ (t + n) % f
frame-ends t n f at some is end =
    let whole : t / f * f + t % f ≡ t = div-add-mod' t f in
    let more = suc-mul (t / f) f in
    let sum : suc (t / f) * f ≡ t + n = omega arith in
    sym (mul-mod_left (suc (t / f)) f) ∙ ap (λ (k : ℕ). k % f) sum

zeros-are : (f : ℕ → ℕ) (n a : ℕ) → ((k : ℕ) → f k ≡ 0) → replicate n 0 ≡ map f (numbers_from a n)
unfolding numbers_from
zeros-are f zero a z = refl
zeros-are f (suc n) a z = ap₂ (λ (x : ℕ) (l : List ℕ). x ∷ l) (sym (z a)) (zeros-are f n (suc a) z)

abbrev zeros : ℕ → List ℕ
zeros n = replicate n 0

zero-at : (n i : ℕ) → i < length (zeros n) → get_or (zeros n) i 0 < 256 ^ 0
zero-at n i below =
    let z : ℕ = 0 in
    let long : length (zeros n) ≡ n = length-replicate n z in
    let is : get_or (zeros n) i z ≡ z = get_or-replicate n i z z (omega arith) in
    omega arith

-- before the first octet
pub hands-none : (scenario : Scenario) (old : Fed) (x n : ℕ)
    → ((s : Plan) → plan_of scenario ≡ Some s → s.link.params ≡ old.params) → n ≡ old.params.l
    → Hands scenario old old x 0 (replicate n 0)
unfolding numbers_from
hands-none scenario old x n shape is = record {
  params = refl;
  frames = refl;
  count = omega arith;
  lanes = length-replicate n 0 ∙ is;
  fed = λ s k plan was. let none : k ≡ k + 0 = omega arith in subst (HasFed old s) none was;
  handed_is = λ s k plan was.
      ap (λ (m : ℕ). replicate m 0) (is ∙ sym (ap (λ (q : Params). q.l) (shape s plan)))
      ∙ zeros-are (octets_to s k x 0) s.link.params.l 0 (λ lane. refl);
}

-- after the last one
pub handed-all : (scenario : Scenario) (old now : Fed) (x j : ℕ) (handed : List ℕ)
    → Hands scenario old now x j handed
    → ((s : Plan) → plan_of scenario ≡ Some s → s.link.params ≡ old.params)
    → j ≡ octets_per_tick old.params
    → (s : Plan) (n : ℕ) → plan_of scenario ≡ Some s → HasFed old s n
    → handed ≡ map (handed_to s n (Some x)) (numbers_from 0 s.link.params.l)
unfolding handed_to
handed-all scenario old now x j handed h shape all s n is was =
    h.handed_is s n is was
    ∙ ap (λ (k : ℕ). map (octets_to s n x k) (numbers_from 0 s.link.params.l))
    (all ∙ sym (ap octets_per_tick (shape s is)))

pub fed-all : (scenario : Scenario) (old now : Fed) (x j : ℕ) (handed : List ℕ)
    → Hands scenario old now x j handed
    → ((s : Plan) → plan_of scenario ≡ Some s → s.link.params ≡ old.params)
    → j ≡ octets_per_tick old.params
    → (s : Plan) (n : ℕ) → plan_of scenario ≡ Some s → HasFed old s n
    → HasFed now s (n + length (beginnings s.link.params (Some x)))
fed-all scenario old now x j handed h shape all s n is was =
    subst (λ k. HasFed now s (n + begun_in s.link.params x k))
    (all ∙ sym (ap octets_per_tick (shape s is))) (h.fed s n is was)

-- no data
pub handed-none : (s : Plan) (n l : ℕ) → l ≡ s.link.params.l
    → replicate l 0 ≡ map (handed_to s n None) (numbers_from 0 s.link.params.l)
unfolding handed_to
handed-none s n l is = ap (λ (m : ℕ). replicate m 0) is
    ∙ zeros-are (handed_to s n None) s.link.params.l 0 (λ lane. refl)

-- no octet was handed: each number is below 1
pub small-none : (n : ℕ) → All (λ v. v < 256 ^ 0) (replicate n 0)
small-none n = All-from_get_or (λ v. v < 256 ^ 0) (zeros n) 0 (λ i below. zero-at n i below)

-- there is room for n octets more
pub small-room : (j n : ℕ) (handed : List ℕ) → j + n ≤ 8 → All (λ v. v < 256 ^ j) handed
    → All (λ v. v < 256 ^ (8 - n)) handed
small-room j n handed few small k d inside =
    let below = small k d inside in
    let some : 0 < 256 = omega arith in
    let room : j ≤ 8 - n = omega arith in
    let most : 256 ^ j ≤ 256 ^ (8 - n) = pow-le-pow_right some room in
    omega arith

-- n octets more
pub small-more : (j n : ℕ) (handed : List ℕ) → All (λ v. v < 256 ^ j * 256 ^ n) handed
    → All (λ v. v < 256 ^ (j + n)) handed
small-more j n handed small k d inside =
    let below = small k d inside in
    let power = pow-add 256 j n in
    omega arith

-- the octets of n frames behind zeros
pub small-frames : (octets : List ℕ) (size all n l : ℕ) (handed now : List ℕ)
    → ((k : ℕ) → get_or octets k 0 < 256) → handed ≡ replicate l 0
    → now ≡ with_frames octets size all n handed → All (λ v. v < 256 ^ (n * size)) now
small-frames octets size all n l handed now each none is k d inside =
    let below = with_frames-below octets size all n 1 (replicate l 0) each (small-none l) in
    let now_is : now ≡ with_frames octets size all n (replicate l 0) =
    is ∙ ap (with_frames octets size all n) none in
    let small : All (λ v. v < 1 * 256 ^ (n * size)) now =
    subst (λ (x : List ℕ). All (λ v. v < 1 * 256 ^ (n * size)) x) (sym now_is) below in
    let one = small k d inside in
    omega arith
