-- What a lane took in a session of 64b/66b lanes, tick by tick and bit by bit; on a clean line a
-- block that was sent whole is taken whole.
use Rattle.std.proofs.Common.{◌≡◌, ℕ, zero, suc, ◌+◌, ◌-◌, ◌*◌, ◌/◌, ◌%◌, ◌<◌, ◌≤◌, Bool, true, false, List, [], ◌∷◌, length, drop, take, get_or, inl, inr, refl, ap, ap₂, ◌∙◌, length-append, arith}
use Rattle.std.proofs.lemmas.Bool.{cases_lt}
use Rattle.std.proofs.lemmas.List.{ext_get_or, get_or-map, get_or_append_left, get_or-take, get_or-drop, length-map, length-drop, length-take}
use Rattle.std.proofs.Math.Seq.{get_or-append_right}
use Rattle.std.specs.List.{flat_map}
use Rattle.link_params.specs.Laws.{is_b}
use Rattle.link_params.specs.Lanes.{LaneKind, Taken}
use Rattle.scenario.specs.Plans.{Plan}
use Rattle.link_model.specs.Carried.{delay_at}
use Rattle.link_model.specs.Moments.{History, Moment}
use Rattle.link_model.specs.Run.{run}
use Rattle.link_model.specs.Receives.{taken_in}
use Rattle.block_66b.specs.Blocks.{header}
use Rattle.lane_c.specs.Received.{lanes_c}
use Rattle.link_model.specs.Sessions.{at, first_tick, taken_at}
use Rattle.link_model.specs.Wiring.{wire_of}
use Rattle.link_laws.specs.Premises.{Clean, Undamaged}
use Rattle.link_laws.proofs.Phases.{HasEdges}
use Rattle.link_model.proofs.RunTicks.{length-run, run-suc}
use Rattle.link_laws.proofs.SessionStages.{Goes}
use Rattle.link_laws.proofs.SessionTicks.{session-with}
use Rattle.link_laws_c.proofs.SentBits.{length-sent, sent_at}
use Rattle.link_laws_c.proofs.TakenBits.{bit-clean, bit-of-header, length-taken, sent_bit}
use Rattle.link_laws_c.proofs.SessionWords.{bits_at}

-- ---- a run by its ticks

pub run-get : (n : ℕ) (kind : LaneKind) (s : Plan) (i : ℕ) (d : Moment) → i < n
    → get_or (run kind s n) i d ≡ at kind s i
unfolding run
run-get zero kind s i d below = absurd (omega arith)
run-get (suc n) kind s i d below =
    let long = length-run kind s n in
    elim (cases_lt i n) [
      | inl old ↦ ap (λ (l : History). get_or l i d) (run-suc kind s n)
          ∙ get_or_append_left (run kind s n) (at kind s n ∷ []) d i (omega arith)
          ∙ run-get n kind s i d old
      | inr last ↦
          let z : i - length (run kind s n) ≡ 0 = omega arith in
          let same : n ≡ i = omega arith in
          ap (λ (l : History). get_or l i d) (run-suc kind s n) ∙ get_or-append_right (run kind s n)
          (at kind s n ∷ []) i d (omega arith)
          ∙ ap (λ (k : ℕ). get_or (at kind s n ∷ []) k d) z ∙ ap (at kind s) same
    ]

-- what a lane took in tick q
abbrev pub taken_one : Plan → ℕ → ℕ → Taken
taken_one s lane q =
    record { order = (at lanes_c s q).told; word = get_or (at lanes_c s q).taken lane [] }

module _ (s : Plan) (h t : ℕ) (g : Goes lanes_c s h t) (lane u : ℕ)
    (low : first_tick lanes_c s h ≤ u) (up : u ≤ t) where
  abbrev f : ℕ
  f = first_tick lanes_c s h

  taken-is : taken_at lanes_c s lane u ≡ taken_in (drop f (run lanes_c s (suc u))) lane
  taken-is = ap (λ (l : History). taken_in l lane) (session-with lanes_c s h t g u low up)

  pub length-taken-at : length (taken_at lanes_c s lane u) ≡ suc u - f
  length-taken-at =
      let l : History = drop f (run lanes_c s (suc u)) in
      let one : Moment → Taken = λ m. record { order = m.told; word = get_or m.taken lane [] } in
      ap length taken-is ∙ length-map l one ∙ length-drop f (run lanes_c s (suc u))
      ∙ ap (λ (n : ℕ). n - f) (length-run lanes_c s (suc u))

  pub taken-get : (i : ℕ) (d : Taken) → f + i ≤ u
      → get_or (taken_at lanes_c s lane u) i d ≡ taken_one s lane (f + i)
  taken-get i d inside =
      let l : History = drop f (run lanes_c s (suc u)) in
      let one : Moment → Taken = λ m. record { order = m.told; word = get_or m.taken lane [] } in
      let some : Moment = at lanes_c s 0 in
      let long : length l ≡ suc u - f = length-drop f (run lanes_c s (suc u))
      ∙ ap (λ (n : ℕ). n - f) (length-run lanes_c s (suc u)) in
      ap (λ (ts : List Taken). get_or ts i d) taken-is ∙ get_or-map one l i some d (omega arith)
      ∙ ap one (get_or-drop f (run lanes_c s (suc u)) i some
      ∙ run-get (suc u) lanes_c s (f + i) some (omega arith))

-- ---- the first two bits are the header

pub header-by-bits : (xs ys : List Bool) → 2 ≤ length xs → 2 ≤ length ys
    → get_or xs 0 false ≡ get_or ys 0 false → get_or xs 1 false ≡ get_or ys 1 false
    → header xs ≡ header ys
unfolding header
header-by-bits [] ys long also a b = absurd (omega arith)
header-by-bits (x ∷ []) ys long also a b = absurd (omega arith)
header-by-bits (x ∷ y ∷ xs) [] long also a b = absurd (omega arith)
header-by-bits (x ∷ y ∷ xs) (z ∷ []) long also a b = absurd (omega arith)
header-by-bits (x ∷ y ∷ xs) (z ∷ w ∷ ys) long also a b =
    ap₂ (λ (m n : Bool). header (m ∷ n ∷ xs)) a b ∙ same-front z w xs ys
  where
    same-front : (z w : Bool) (xs ys : List Bool) → header (z ∷ w ∷ xs) ≡ header (z ∷ w ∷ ys)
    same-front true true xs ys = refl
    same-front true false xs ys = refl
    same-front false true xs ys = refl
    same-front false false xs ys = refl

-- ---- bits of ticks of sixty-six bits

flat-length : (xs : List Taken)
    → ((i : ℕ) (d : Taken) → i < length xs → length (get_or xs i d).word ≡ 66)
    → length (flat_map (λ (x : Taken). x.word) xs) ≡ 66 * length xs
flat-length [] each = refl
flat-length (x ∷ xs) each =
    let one = each 0 x (omega arith) in
    let rest = flat-length xs (λ i d inside. each (suc i) d (omega arith)) in
    length-append x.word (flat_map (λ (x : Taken). x.word) xs) ∙ omega arith

flat-get : (xs : List Taken) (k : ℕ) (d : Taken)
    → ((i : ℕ) (d : Taken) → i < length xs → length (get_or xs i d).word ≡ 66) → k < 66 * length xs
    → get_or (flat_map (λ (x : Taken). x.word) xs) k false ≡ get_or (get_or xs (k / 66) d).word
    (k % 66) false
flat-get [] k d each inside = absurd (omega arith)
flat-get (x ∷ xs) k d each inside =
    let rest : List Bool = flat_map (λ (x : Taken). x.word) xs in
    let one = each 0 x (omega arith) in
    elim (cases_lt k 66) [
      | inl here ↦
          let tick : 0 ≡ k / 66 = omega arith in
          let place : k ≡ k % 66 = omega arith in
          get_or_append_left x.word rest false k (omega arith)
          ∙ ap₂ (λ (i j : ℕ). get_or (get_or (x ∷ xs) i d).word j false) tick place
      | inr later ↦
          let less : k - length x.word ≡ k - 66 = omega arith in
          let tick : suc ((k - 66) / 66) ≡ k / 66 = omega arith in
          let place : (k - 66) % 66 ≡ k % 66 = omega arith in
          get_or-append_right x.word rest k false (omega arith)
          ∙ ap (λ (n : ℕ). get_or rest n false) less
          ∙ flat-get xs (k - 66) d (λ i c under. each (suc i) c (omega arith)) (omega arith)
          ∙ ap₂ (λ (i j : ℕ). get_or (get_or (x ∷ xs) i d).word j false) tick place
    ]

module _ (s : Plan) (h t : ℕ) (g : Goes lanes_c s h t) (lane u : ℕ)
    (low : first_tick lanes_c s h ≤ u) (up : u ≤ t)
    (e : HasEdges s) (mode : is_b s.link.params.mode ≡ false) (below : lane < s.link.params.l) where
  words-long : (i : ℕ) (d : Taken) → i < length (taken_at lanes_c s lane u)
      → length (get_or (taken_at lanes_c s lane u) i d).word ≡ 66
  words-long i d inside =
      let n = length-taken-at s h t g lane u low up in
      ap (λ (x : Taken). length x.word) (taken-get s h t g lane u low up i d (omega arith))
      ∙ length-taken s lane e mode below (first_tick lanes_c s h + i)

  pub length-session-bits : length (bits_at lanes_c s lane u)
      ≡ 66 * (suc u - first_tick lanes_c s h)
  length-session-bits = flat-length (taken_at lanes_c s lane u) words-long
      ∙ ap (λ (n : ℕ). 66 * n) (length-taken-at s h t g lane u low up)

  -- bit x of the session is bit x % 66 of its tick x / 66
  pub bit-of-session : (x : ℕ) → x < 66 * (suc u - first_tick lanes_c s h)
      → get_or (bits_at lanes_c s lane u) x false
      ≡ get_or (get_or (at lanes_c s (first_tick lanes_c s h + x / 66)).taken lane [])
      (x % 66) false
  bit-of-session x inside =
      let n = length-taken-at s h t g lane u low up in
      let d : Taken = taken_one s lane 0 in
      flat-get (taken_at lanes_c s lane u) x d words-long (omega arith)
      ∙ ap (λ (y : Taken). get_or y.word (x % 66) false)
      (taken-get s h t g lane u low up (x / 66) d (omega arith))

  -- on a clean line the block that was sent in tick q is taken whole, d bits later
  pub block-taken : (x q : ℕ) → Clean s h t → 66 * (h + 1) ≤ 66 * first_tick lanes_c s h + x
      → x + 66 ≤ 66 * (suc u - first_tick lanes_c s h)
      → 66 * q + delay_at s lane h ≡ 66 * first_tick lanes_c s h + x
      → take 66 (drop x (bits_at lanes_c s lane u)) ≡ sent_at s (wire_of s lane) q
  block-taken x q clean after inside from =
      let bs : List Bool = bits_at lanes_c s lane u in
      let long = length-session-bits in
      let sent_long = length-sent s (wire_of s lane) q e mode (e.wired lane below) in
      let rest = length-drop x bs in
      let size : length (take 66 (drop x bs)) ≡ 66 = length-take 66 (drop x bs) ∙ omega arith in
      ext_get_or false (take 66 (drop x bs)) (sent_at s (wire_of s lane) q) (omega arith) (λ i under.
      let fst : ℕ = first_tick lanes_c s h in
      let p : ℕ = fst + (x + i) / 66 in
      let j : ℕ = (x + i) % 66 in
      let at_bit : 66 * p + j - delay_at s lane h ≡ 66 * q + i = omega arith in
      let tick : (66 * q + i) / 66 ≡ q = omega arith in
      let place : (66 * q + i) % 66 ≡ i = omega arith in
      get_or-take 66 (drop x bs) i false (omega arith) ∙ get_or-drop x bs i false
      ∙ bit-of-session (x + i) (omega arith)
      ∙ bit-clean s lane h t p j e mode below clean (omega arith) (omega arith) (omega arith)
      (omega arith)
      ∙ ap (sent_bit s (wire_of s lane)) at_bit ∙ ap₂ (λ (m n : ℕ). get_or (sent_at s (wire_of s lane) m) n false) tick
      place)

  -- of an undamaged line its header is taken
  pub header-taken : (x q : ℕ) → Undamaged s h t → 66 * (h + 1) ≤ 66 * first_tick lanes_c s h + x
      → x + 66 ≤ 66 * (suc u - first_tick lanes_c s h)
      → 66 * q + delay_at s lane h ≡ 66 * first_tick lanes_c s h + x
      → header (drop x (bits_at lanes_c s lane u)) ≡ header (sent_at s (wire_of s lane) q)
  header-taken x q whole after inside from =
      let bs : List Bool = bits_at lanes_c s lane u in
      let long = length-session-bits in
      let sent_long = length-sent s (wire_of s lane) q e mode (e.wired lane below) in
      let rest = length-drop x bs in
      let bit : (i : ℕ) → i < 2 → get_or (drop x bs) i false ≡ get_or (sent_at s (wire_of s lane) q) i false =
      λ i under.
      let p : ℕ = first_tick lanes_c s h + (x + i) / 66 in
      let j : ℕ = (x + i) % 66 in
      let at_bit : 66 * p + j - delay_at s lane h ≡ 66 * q + i = omega arith in
      let early : (66 * p + j - delay_at s lane h) % 66 < 2 = omega (arith, at_bit, under) in
      let tick : (66 * q + i) / 66 ≡ q = omega arith in
      let place : (66 * q + i) % 66 ≡ i = omega arith in
      get_or-drop x bs i false ∙ bit-of-session (x + i) (omega arith)
      ∙ bit-of-header s lane h t p j e mode below whole (omega arith) (omega arith) (omega arith)
      (omega arith) early
      ∙ ap (sent_bit s (wire_of s lane)) at_bit ∙ ap₂ (λ (m n : ℕ). get_or (sent_at s (wire_of s lane) m) n false) tick
      place in
      header-by-bits (drop x bs) (sent_at s (wire_of s lane) q) (omega arith) (omega arith)
      (bit 0 (omega arith)) (bit 1 (omega arith))
