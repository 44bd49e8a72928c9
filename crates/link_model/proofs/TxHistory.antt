-- What the transmitter of a run observes and what goes into it, with a tick more.
use Rattle.std.proofs.Common.{◌≡◌, ℕ, zero, suc, ◌+◌, ◌-◌, ◌<◌, ◌≤◌, Bool, true, false, if◌then◌else◌, List, [], ◌∷◌, ◌++◌, length, map, replicate, take, drop, get_or, slice_index, inl, inr, refl, sym, ap, ap₂, ◌∙◌, add-one, append_assoc, append-nil, length-append, arith, flat_map}
use Rattle.std.proofs.lemmas.Bool.{cases_Bool}
use Rattle.std.proofs.lemmas.List.{length-map, length-replicate, length_push, map_push, get_or-take, get_or_append_left, get_or-map, drop-append-le, drop_all}
use Rattle.std.proofs.lemmas.List.Concat.{flat_map-append}
use Rattle.link_params.specs.Lanes.{LaneKind}
use Rattle.link_params.specs.declared.alarms.Device.{Device}
use Rattle.link_params.specs.declared.alarms.Device.TheVariants.{Tx}
use Rattle.bring_up.specs.Decisions.{is_hunting}
use Rattle.scenario.specs.Plans.{Plan, numbers_from}
use Rattle.link_model.proofs.NextMoment.{handed-next, lanes_of, next, order-next}
use Rattle.link_model.proofs.NumberLists.{get_or-numbers, length-numbers, map-numbers, numbers-to}
use Rattle.link_model.specs.kept.Before.{observed_before, reset_before, seen_of}
use Rattle.link_model.specs.Edges.{is_reset, last_reset, phase}
use Rattle.link_model.specs.Moments.{History, Moment}
use Rattle.link_model.specs.Orders.{Observed, tx_order}
use Rattle.link_model.specs.Sends.{data_place, frames_before, handed_to, observed, observed_at, order_of, seen_low}

-- ---- resets

pub last-reset : (s : Plan) (d : Device) (t : ℕ)
    → last_reset s d t ≡ (if is_reset s d t then t else reset_before s d t)
unfolding last_reset
last-reset s d zero = elim (cases_Bool (is_reset s d 0)) [ inl e ↦ rw e refl | inr e ↦ rw e refl ]
last-reset s d (suc t) = refl

pub last-reset-now : (s : Plan) (d : Device) (t : ℕ) → is_reset s d t ≡ true → last_reset s d t ≡ t
last-reset-now s d t e = last-reset s d t ∙ rw e refl

pub last-reset-before : (s : Plan) (d : Device) (t : ℕ) → is_reset s d t ≡ false
    → last_reset s d t ≡ reset_before s d t
last-reset-before s d t e = last-reset s d t ∙ rw e refl

pub last-reset-le : (s : Plan) (d : Device) (t : ℕ) → last_reset s d t ≤ t
unfolding last_reset
last-reset-le s d zero = omega arith
last-reset-le s d (suc t) = elim (cases_Bool (is_reset s d (suc t))) [
  | inl e ↦ rw e (omega arith)
  | inr e ↦ let before = last-reset-le s d t in rw e (omega arith)
]

pub reset-before-le : (s : Plan) (d : Device) (t : ℕ) → reset_before s d t ≤ t
reset-before-le s d zero = omega arith
reset-before-le s d (suc t) = let before = last-reset-le s d t in omega arith

pub length-more : (h : History) (m : Moment) → length (h ++ m ∷ []) ≡ suc (length h)
length-more h m = length_push h m ∙ add-one (length h)

pub reset-before-more : (s : Plan) (d : Device) (h : History) (m : Moment)
    → reset_before s d (length (h ++ m ∷ [])) ≡ last_reset s d (length h)
reset-before-more s d h m = ap (reset_before s d) (length-more h m)

-- the ticks since the last reset, with a tick more
pub drop-last-reset : (s : Plan) (d : Device) (h : History) (m : Moment)
    → drop (last_reset s d (length h)) (h ++ m ∷ []) ≡ drop (last_reset s d (length h)) h ++ m ∷ []
drop-last-reset s d h m = drop-append-le (last_reset s d (length h)) h (m ∷ [])
    (last-reset-le s d (length h))

pub drop-reset-before : (s : Plan) (d : Device) (h : History) (m : Moment)
    → drop (reset_before s d (length (h ++ m ∷ []))) (h ++ m ∷ [])
    ≡ drop (last_reset s d (length h)) h ++ m ∷ []
drop-reset-before s d h m = ap (λ k. drop k (h ++ m ∷ [])) (reset-before-more s d h m)
    ∙ drop-last-reset s d h m

-- in a tick with a reset there are none
pub drop-reset : (s : Plan) (d : Device) (h : History)
    → drop (last_reset s d (length h)) h
    ≡ (if is_reset s d (length h) then [] else drop (reset_before s d (length h)) h)
drop-reset s d h = elim (cases_Bool (is_reset s d (length h))) [
  | inl e ↦
      let past : length h ≤ last_reset s d (length h) = rw (last-reset-now s d (length h) e)
      (omega arith) in
      drop_all (last_reset s d (length h)) h past ∙ rw e refl
  | inr e ↦ ap (λ k. drop k h) (last-reset-before s d (length h) e) ∙ rw e refl
]

-- ---- what the transmitter observes

-- whether SYNC~ was low after each tick
abbrev pub lows : History → List Bool
lows h = map (λ m. is_hunting m.stage) h

pub lows-more : (h : History) (m : Moment) → lows (h ++ m ∷ []) ≡ lows h ++ is_hunting m.stage ∷ []
lows-more h m = map_push (λ m. is_hunting m.stage) h m

pub length-lows : (h : History) → length (lows h) ≡ length h
length-lows h = length-map h (λ m. is_hunting m.stage)

-- all levels that were and will be seen
abbrev pub levels : Plan → History → List Bool
levels s h = replicate (s.link.timing.sync_delay + 1) true ++ lows h

length-levels : (s : Plan) (h : History)
    → length (levels s h) ≡ s.link.timing.sync_delay + 1 + length h
length-levels s h = length-append (replicate (s.link.timing.sync_delay + 1) true) (lows h)
    ∙ ap₂ (λ a b. a + b) (length-replicate (s.link.timing.sync_delay + 1) true) (length-lows h)

levels-more : (s : Plan) (h : History) (m : Moment) → levels s (h ++ m ∷ []) ≡ levels s h
    ++ is_hunting m.stage ∷ []
levels-more s h m =
    ap (λ l. replicate (s.link.timing.sync_delay + 1) true ++ l) (lows-more h m)
    ∙ sym (append_assoc (replicate (s.link.timing.sync_delay + 1) true) (lows h)
    (is_hunting m.stage ∷ []))

seen-low-at : (s : Plan) (h : History) (x : ℕ) → x < length h + 1
    → get_or (seen_low s h) x true ≡ get_or (levels s h) x true
unfolding seen_low
seen-low-at s h x below = get_or-take (length h + 1) (levels s h) x true below

-- in each tick up to the one that comes they stay
pub seen-low-more : (s : Plan) (h : History) (m : Moment) (x : ℕ) → x ≤ length h
    → get_or (seen_low s (h ++ m ∷ [])) x true ≡ get_or (seen_low s h) x true
seen-low-more s h m x below =
    let long = length_push h m in
    let all = length-levels s h in
    seen-low-at s (h ++ m ∷ []) x (omega arith)
    ∙ ap (λ l. get_or l x true) (levels-more s h m)
    ∙ get_or_append_left (levels s h) (is_hunting m.stage ∷ []) true x (omega arith)
    ∙ sym (seen-low-at s h x (omega arith))

-- the level in the tick that comes, by the levels alone
pub seen-low-next : (s : Plan) (h : History)
    → get_or (seen_low s h) (length h) true ≡ get_or (seen_of s.link.timing.sync_delay (lows h))
    (length (lows h)) true
unfolding seen_low
seen-low-next s h = ap (λ (k : ℕ). get_or (take (k + 1) (levels s h)) k true) (sym (length-lows h))

pub observed-at-more : (s : Plan) (h : History) (m : Moment) (x : ℕ) → x ≤ length h
    → observed_at s (h ++ m ∷ []) x ≡ observed_at s h x
observed-at-more s h m x below =
    ap (λ (b : Bool). let o : Observed = record { phase = phase s Tx x; low = b } in o)
    (seen-low-more s h m x below)

-- the ticks since the reset, the one that comes at the end
pub observed-next : (s : Plan) (h : History)
    → observed s h ≡ (if is_reset s Tx (length h) then [] else observed_before s h)
    ++ observed_at s h (length h) ∷ []
unfolding observed observed_before numbers_from
observed-next s h =
    let t : ℕ = length h in
    let all : observed s h ≡ map (observed_at s h)
    (numbers_from (last_reset s Tx t) (t - last_reset s Tx t)) ++ observed_at s h t ∷ [] =
    ap (map (observed_at s h)) (numbers-to (last_reset s Tx t) t (last-reset-le s Tx t))
    ∙ map_push (observed_at s h) (numbers_from (last_reset s Tx t) (t - last_reset s Tx t)) t in
    elim (cases_Bool (is_reset s Tx t)) [
      | inl e ↦
          let none : t - t ≡ 0 = omega arith in
          all ∙ ap (λ (r : ℕ). map (observed_at s h) (numbers_from r (t - r)) ++ observed_at s h t
          ∷ []) (last-reset-now s Tx t e)
          ∙ ap (λ (k : ℕ). map (observed_at s h) (numbers_from t k) ++ observed_at s h t ∷ []) none
          ∙ rw e refl
      | inr e ↦
          all ∙ ap (λ (r : ℕ). map (observed_at s h) (numbers_from r (t - r)) ++ observed_at s h t
          ∷ []) (last-reset-before s Tx t e) ∙ rw e refl
    ]

pub observed-before-more : (s : Plan) (h : History) (m : Moment)
    → observed_before s (h ++ m ∷ []) ≡ observed s h
unfolding observed observed_before
observed-before-more s h m =
    let t : ℕ = length h in
    let r : ℕ = last_reset s Tx t in
    let low = last-reset-le s Tx t in
    let long : length (h ++ m ∷ []) ≡ t + 1 = length_push h m in
    ap₂ (λ (a b : ℕ). map (observed_at s (h ++ m ∷ [])) (numbers_from a (b - a)))
    (reset-before-more s Tx h m) long
    ∙ map-numbers (observed_at s (h ++ m ∷ [])) (observed_at s h) (t + 1 - r) r
    (λ x below. observed-at-more s h m x (omega arith))

-- ---- the frames that begin

pub frames-before-more : (h : History) (m : Moment)
    → frames_before (h ++ m ∷ []) ≡ frames_before h + length m.entered
frames-before-more h m =
    let one : flat_map (λ m. m.entered) (m ∷ []) ≡ m.entered = append-nil m.entered in
    ap length (flat_map-append (λ m. m.entered) h (m ∷ []))
    ∙ length-append (flat_map (λ m. m.entered) h) (flat_map (λ m. m.entered) (m ∷ []))
    ∙ ap (λ l. frames_before h + length l) one

-- the octets that each lane is handed
pub handed-lane : (k : LaneKind) (s : Plan) (h : History) (lane : ℕ) → lane < s.link.params.l
    → slice_index (next k s h).handed lane ≡ handed_to s (frames_before h)
    (data_place (next k s h).order) lane
handed-lane k s h lane below =
    let long = length-numbers s.link.params.l 0 in
    let f = handed_to s (frames_before h) (data_place (next k s h).order) in
    let zero_more : 0 + lane ≡ lane = omega arith in
    ap (λ l. get_or l lane 0) (handed-next k s h)
    ∙ get_or-map f (lanes_of s) lane 0 0 (omega arith)
    ∙ ap f (get_or-numbers s.link.params.l lane 0 0 below ∙ zero_more)

-- what the transmitter observes in the tick that comes, and what it orders
pub observed-at-next : (s : Plan) (h : History)
    → observed_at s h (length h) ≡ record {
      phase = phase s Tx (length h);
      low =
          get_or (seen_of s.link.timing.sync_delay (lows h)) (length (lows h)) true;
    }
observed-at-next s h =
    ap (λ (b : Bool). let o : Observed = record { phase = phase s Tx (length h); low = b } in o)
    (seen-low-next s h)

pub order-observed : (k : LaneKind) (s : Plan) (h : History)
    → (next k s h).order ≡ tx_order s.link.params
    ((if is_reset s Tx (length h) then [] else observed_before s h) ++ observed_at s h (length h)
    ∷ [])
unfolding order_of
order-observed k s h = order-next k s h ∙ ap (tx_order s.link.params) (observed-next s h)

-- ---- runs

pub observed-before-none : (s : Plan) → observed_before s [] ≡ []
unfolding observed_before numbers_from
observed-before-none s = refl
