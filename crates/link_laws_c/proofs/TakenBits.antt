-- The bits that a receiver lane takes in a run of 64b/66b lanes, bit by bit, and on a clean line
-- those that were sent.
use Rattle.std.proofs.Common.{◌≡◌, ℕ, zero, suc, ◌+◌, ◌-◌, ◌*◌, ◌/◌, ◌%◌, ◌==◌, nat_lt, ◌<◌, ◌≤◌, Bool, true, false, List, [], ◌∷◌, ◌++◌, filter, length, get_or, inl, inr, refl, sym, ap, ap₂, ◌∙◌, length-append, arith}
use Rattle.std.proofs.lemmas.Bool.{cases_Bool, cases_lt, eqb-true, le-ltb}
use Rattle.std.proofs.lemmas.List.{get_or-map, get_or_append_left}
use Rattle.std.proofs.Math.Seq.{get_or-append_right}
use Rattle.std.specs.List.{list_any}
use Rattle.jesd_base.specs.Bits.{add}
use Rattle.link_params.specs.Laws.{is_b}
use Rattle.link_params.specs.Numbers.{width}
use Rattle.line_model.specs.LineBits.{is_flipped, line_bit, line_word, numbers_from as line_numbers}
use Rattle.scenario.specs.Plans.{Plan, numbers_from}
use Rattle.link_model.specs.Carried.{delay_at, inverted_bits, is_dead, is_inverted, received, with_polarity}
use Rattle.link_model.specs.Moments.{History}
use Rattle.link_model.specs.Run.{moment, run}
use Rattle.link_model.specs.Sends.{sent_bits}
use Rattle.link_model.proofs.Depth.{word-size}
use Rattle.link_model.proofs.LaneHistory.{sent-bits-more}
use Rattle.link_model.proofs.NumberLists.{get_or-numbers, length-numbers}
use Rattle.lane_c.specs.Received.{lanes_c}
use Rattle.link_model.specs.Sessions.{at}
use Rattle.link_model.specs.Wiring.{has_inverted_polarity, wire_of}
use Rattle.link_laws.specs.Premises.{Clean, IsInverted, Undamaged, Untouched}
use Rattle.link_laws.proofs.Phases.{HasEdges}
use Rattle.link_laws.proofs.PlanRead.{delay-same}
use Rattle.link_model.proofs.RunTicks.{length-run, run-suc}
use Rattle.link_laws_c.proofs.SentBits.{length-sent, sent_at}

-- ---- numbers of a line

line-length : (n a : ℕ) → length (line_numbers a n) ≡ n
unfolding line_numbers
line-length zero a = refl
line-length (suc n) a = ap suc (line-length n (suc a))

line-number : (n i a d : ℕ) → i < n → get_or (line_numbers a n) i d ≡ a + i
unfolding line_numbers
line-number zero i a d below = absurd (omega arith)
line-number (suc n) zero a d below = omega arith
line-number (suc n) (suc i) a d below = line-number n i (suc a) d (omega arith) ∙ omega arith

-- ---- all bits that were sent

-- bit k of a lane, counted from the run's first
abbrev pub sent_bit : Plan → ℕ → ℕ → Bool
sent_bit s lane k = get_or (sent_at s lane (k / 66)) (k % 66) false

module _ (s : Plan) (lane : ℕ) (e : HasEdges s) (mode : is_b s.link.params.mode ≡ false)
    (below : lane < s.link.params.l) where
  bits-suc : (t : ℕ) → sent_bits (run lanes_c s (suc t)) lane ≡ sent_bits (run lanes_c s t) lane
      ++ sent_at s lane t
  bits-suc t = ap (λ (h : History). sent_bits h lane) (run-suc lanes_c s t)
      ∙ sent-bits-more (run lanes_c s t) (at lanes_c s t) lane

  pub length-bits : (t : ℕ) → length (sent_bits (run lanes_c s t) lane) ≡ 66 * t
  unfolding run
  length-bits zero = refl
  length-bits (suc t) =
      let old = length-bits t in
      let new = length-sent s lane t e mode below in
      ap length (bits-suc t) ∙ length-append (sent_bits (run lanes_c s t) lane) (sent_at s lane t)
      ∙ omega arith

  pub bit-sent : (t k : ℕ) → k < 66 * t → get_or (sent_bits (run lanes_c s t) lane) k false
      ≡ sent_bit s lane k
  bit-sent zero k inside = absurd (omega arith)
  bit-sent (suc t) k inside =
      let long = length-bits t in
      let front : List Bool = sent_bits (run lanes_c s t) lane in
      elim (cases_lt k (66 * t)) [
        | inl old ↦ ap (λ (l : List Bool). get_or l k false) (bits-suc t)
            ∙ get_or_append_left front (sent_at s lane t) false k (omega arith) ∙ bit-sent t k old
        | inr new ↦
            let tick : t ≡ k / 66 = omega arith in
            let place : k - length front ≡ k % 66 = omega arith in
            ap (λ (l : List Bool). get_or l k false) (bits-suc t)
            ∙ get_or-append_right front (sent_at s lane t) k false (omega arith)
            ∙ ap₂ (λ (q j : ℕ). get_or (sent_at s lane q) j false) tick place
      ]

-- ---- the bits that are taken

module _ (s : Plan) (lane : ℕ) (e : HasEdges s) (mode : is_b s.link.params.mode ≡ false)
    (below : lane < s.link.params.l) where
  -- the bits that were sent on the lane in the first q ticks
  abbrev line_to : ℕ → List Bool
  line_to q = sent_bits (run lanes_c s q) (wire_of s lane)

  -- the bits of tick q
  abbrev pub taken_word : ℕ → List Bool
  taken_word q = get_or (at lanes_c s q).taken lane []

  taken-of : (q : ℕ) → taken_word q ≡ received s lane q (line_to (suc q))
  unfolding moment
  taken-of q =
      let h : History = run lanes_c s q in
      let long = length-numbers s.link.params.l 0 in
      let f : ℕ → List Bool =
      λ l. received s l (length h)
      (sent_bits h (wire_of s l) ++ get_or (at lanes_c s q).sent (wire_of s l) []) in
      let same : 0 + lane ≡ lane = omega arith in
      get_or-map f (numbers_from 0 s.link.params.l) lane 0 [] (omega arith)
      ∙ ap f (get_or-numbers s.link.params.l lane 0 0 below ∙ same)
      ∙ ap₂ (λ (n : ℕ) (bs : List Bool). received s lane n bs) (length-run lanes_c s q)
      (sym (bits-suc s (wire_of s lane) e mode (e.wired lane below) q))

  wide : width s.link.params ≡ 66
  wide = rw mode refl

  -- the flips of the lane, as numbers of received bits
  abbrev flips : List ℕ
  flips = inverted_bits s lane (width s.link.params * s.ticks)

  received-is : (q : ℕ) (bs : List Bool) → has_inverted_polarity s lane ≡ false
      → received s lane q bs ≡ line_word 66 bs flips (delay_at s lane q) (is_dead s lane q)
  unfolding received
  received-is q bs polarity =
      ap (λ (b : Bool). with_polarity b
      (line_word (width s.link.params) bs flips (delay_at s lane q) (is_dead s lane q))) polarity
      ∙ ap (λ (w : ℕ). line_word w bs flips (delay_at s lane q) (is_dead s lane q)) wide

  pub length-taken : (q : ℕ) → length (taken_word q) ≡ 66
  length-taken q = word-size lanes_c s (run lanes_c s q) lane below ∙ wide

  taken-bit : (q j : ℕ) → has_inverted_polarity s lane ≡ false → j < 66
      → get_or (taken_word q) j false ≡ line_bit (line_to (suc q)) flips
      (delay_at s lane q) (is_dead s lane q) (66 * q + j)
  unfolding line_word
  taken-bit q j polarity inside =
      let bs : List Bool = line_to (suc q) in
      let f : ℕ → Bool = line_bit bs flips (delay_at s lane q) (is_dead s lane q) in
      let long = length-bits s (wire_of s lane) e mode (e.wired lane below) (suc q) in
      let count = line-length 66 (length bs - 66) in
      let number : length bs - 66 + j ≡ 66 * q + j = omega arith in
      ap (λ (l : List Bool). get_or l j false) (taken-of q ∙ received-is q bs polarity)
      ∙ get_or-map f (line_numbers (length bs - 66) 66) j 0 false (omega arith)
      ∙ ap f (line-number 66 j (length bs - 66) 0 inside ∙ number)

-- ---- a clean line

any-passes : (xs : List ℕ) (f : ℕ → Bool) (i : ℕ) → is_flipped (filter f xs) i ≡ true → f i ≡ true
any-passes [] f i is = let bad : false ≡ true = is in cc
any-passes (x ∷ xs) f i is = elim (cases_Bool (f x)) [
  | inr fails ↦ any-passes xs f i (let later : is_flipped (filter f xs) i ≡ true = rw fails at is in
      later)
  | inl passes ↦ elim (cases_Bool (x == i)) [
    | inl here ↦ ap f (sym (eqb-true x i here)) ∙ passes
    | inr apart ↦
        let all : is_flipped (x ∷ filter f xs) i ≡ true = rw passes at is in
        let later : is_flipped (filter f xs) i ≡ true = rw apart at all in
        any-passes xs f i later
  ]
]

flipped-inverted : (s : Plan) (lane n i : ℕ) → is_flipped (inverted_bits s lane n) i ≡ true
    → is_inverted s lane i ≡ true
unfolding inverted_bits
flipped-inverted s lane n i is = any-passes (numbers_from 0 n) (is_inverted s lane) i is

any-none : (n a lane : ℕ) (f : ℕ → Bool) → list_any f (numbers_from a n) ≡ false → a ≤ lane
    → lane < a + n → f lane ≡ false
unfolding numbers_from
any-none zero a lane f none low up = absurd (omega arith)
any-none (suc n) a lane f none low up = elim (cases_Bool (f a)) [
  | inl hit ↦ let all : list_any f (a ∷ numbers_from (suc a) n) ≡ false = none in
      let bad : true ≡ false = rw hit at all in absurd (cc)
  | inr fails ↦
      let all : list_any f (a ∷ numbers_from (suc a) n) ≡ false = none in
      let later : list_any f (numbers_from (suc a) n) ≡ false = rw fails at all in
      elim (cases_lt a lane) [
        | inl above ↦ any-none n (suc a) lane f later (omega arith) (omega arith)
        | inr here ↦ let same : lane ≡ a = omega arith in ap f same ∙ fails
      ]
]

add-none : (x : Bool) → add x false ≡ x
add-none true = refl
add-none false = refl

line-bit-clear : (sent : List Bool) (flips : List ℕ) (d i : ℕ) (dead : Bool) → dead ≡ false → d ≤ i
    → is_flipped flips i ≡ false
    → line_bit sent flips d dead i ≡ get_or sent (i - d) false
line-bit-clear sent flips d i dead alive late none =
    let lt : nat_lt i d ≡ false = le-ltb i d late in
    rw (alive, lt, none) (add-none (get_or sent (i - d) false))

-- a lane that is not dead, with an upright bit
pub alive-at : (s : Plan) (h t lane q : ℕ) → lane < s.link.params.l → Untouched s h t → h < q
    → q ≤ t → is_dead s lane q ≡ false
alive-at s h t lane q below c up low = any-none s.link.params.l 0 lane (λ l. is_dead s l q)
    (c.alive q up low) (omega arith) (omega arith)

-- bit j of tick q, where it is not inverted, is the bit that was sent d bits before it
pub bit-upright : (s : Plan) (lane h t q j : ℕ) → HasEdges s → is_b s.link.params.mode ≡ false
    → lane < s.link.params.l → has_inverted_polarity s lane ≡ false → Untouched s h t → h < q → q ≤ t → j < 66
    → delay_at s lane h ≤ 66 * q + j → (IsInverted s lane (66 * q + j) → ⊥)
    → get_or (get_or (at lanes_c s q).taken lane []) j false ≡ sent_bit s (wire_of s lane)
    (66 * q + j - delay_at s lane h)
bit-upright s lane h t q j e mode below polarity clear up low inside late upright_one =
    let i : ℕ = 66 * q + j in
    let same : delay_at s lane q ≡ delay_at s lane h =
    delay-same s lane h q (omega arith) (λ x a b. clear.no_event x a (omega arith)) in
    let tick : i / width s.link.params ≡ q = ap (λ (w : ℕ). i / w) (wide s lane e mode below)
    ∙ omega arith in
    let bits : List ℕ = flips s lane e mode below in
    let upright : is_flipped bits i ≡ false = elim (cases_Bool (is_flipped bits i)) [
      | inr upright ↦ upright
      | inl is ↦
          let there : delay_at s lane (i / width s.link.params) ≤ i = rw (tick, same) late in
          absurd
          (upright_one
          (record {
            of_link = below;
            sent = there;
            flipped =
                flipped-inverted s lane (width s.link.params * s.ticks) i is;
          }))
    ] in
    let sent : List Bool = sent_bits (run lanes_c s (suc q)) (wire_of s lane) in
    let late_now : delay_at s lane q ≤ i = rw same late in
    taken-bit s lane e mode below q j polarity inside
    ∙ line-bit-clear sent bits (delay_at s lane q) i (is_dead s lane q)
    (alive-at s h t lane q below clear up low) late_now upright
    ∙ ap (λ (d : ℕ). get_or sent (i - d) false) same
    ∙ bit-sent s (wire_of s lane) e mode (e.wired lane below) (suc q) (i - delay_at s lane h)
    (omega arith)

-- so is each bit of a clean line
pub bit-clean : (s : Plan) (lane h t q j : ℕ) → HasEdges s → is_b s.link.params.mode ≡ false
    → lane < s.link.params.l → Clean s h t → h < q → q ≤ t → j < 66
    → delay_at s lane h ≤ 66 * q + j → get_or (get_or (at lanes_c s q).taken lane []) j false
    ≡ sent_bit s (wire_of s lane) (66 * q + j - delay_at s lane h)
bit-clean s lane h t q j e mode below c up low inside late =
    let tick : (66 * q + j) / width s.link.params ≡ q =
    ap (λ (w : ℕ). (66 * q + j) / w) (wide s lane e mode below) ∙ omega arith in
    let comes : (h < (66 * q + j) / width s.link.params)
    × ((66 * q + j) / width s.link.params ≤ t) = rw tick (up, low) in
    bit-upright s lane h t q j e mode below (c.set_as_wired.polarity lane below) c.untouched up low inside
    late
    (λ is. c.upright lane (66 * q + j) comes is)

-- with one burst in a multiblock so is each bit of a header
pub bit-of-header : (s : Plan) (lane h t q j : ℕ) → HasEdges s → is_b s.link.params.mode ≡ false
    → lane < s.link.params.l → Undamaged s h t → h < q → q ≤ t → j < 66
    → delay_at s lane h ≤ 66 * q + j → (66 * q + j - delay_at s lane h) % 66 < 2
    → get_or (get_or (at lanes_c s q).taken lane []) j false ≡ sent_bit s (wire_of s lane)
    (66 * q + j - delay_at s lane h)
bit-of-header s lane h t q j e mode below (inl c) up low inside late early =
    bit-clean s lane h t q j e mode below c up low inside late
bit-of-header s lane h t q j e mode below (inr b) up low inside late early =
    let i : ℕ = 66 * q + j in
    let clear = b.untouched in
    let same : delay_at s lane q ≡ delay_at s lane h =
    delay-same s lane h q (omega arith) (λ x a c. clear.no_event x a (omega arith)) in
    let tick : i / width s.link.params ≡ q = ap (λ (w : ℕ). i / w) (wide s lane e mode below)
    ∙ omega arith in
    let own : i / 66 ≡ q = omega arith in
    let delay : delay_at s lane (i / 66) ≡ delay_at s lane h = ap (delay_at s lane) own ∙ same in
    let comes : (h < i / width s.link.params) × (i / width s.link.params ≤ t) = rw tick (up, low) in
    bit-upright s lane h t q j e mode below (b.set_as_wired.polarity lane below) clear up low inside late
    (λ is.
    let k = b.payload lane i comes is in
    let behind = (k.1).behind_header in
    absurd (omega (arith, behind, delay, early)))
