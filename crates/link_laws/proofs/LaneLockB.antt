-- When an 8b/10b lane is locked: on a clean line within four periods after a hunt, as long as the
-- lanes are not armed.
use Rattle.std.proofs.Common.{◌≡◌, ◌⊎◌, ℕ, zero, suc, ◌+◌, ◌-◌, ◌*◌, ◌<◌, ◌≤◌, Bool, true, false, List, [], ◌∷◌, ◌++◌, length, drop, get_or, Option, Some, None, option_map, inl, inr, refl, sym, ap, ap₂, ◌∙◌, append_assoc, drop-drop, length-drop, arith}
use Rattle.std.specs.List.{flat_map}
use Rattle.std.proofs.lemmas.Bool.{cases_Bool, cases_lt, cond-true, or_left, or_right}
use Rattle.std.proofs.lemmas.List.{get_or-drop}
use Rattle.std.proofs.lemmas.List.Concat.{flat_map-append}
use Rattle.jesd_base.specs.Bits.{bits}
use Rattle.link_params.specs.declared.alarms.Device.TheVariants.{Tx}
use Rattle.link_params.specs.declared.fields.Mode.TheVariants.{B}
use Rattle.link_params.specs.declared.lane_report.LaneReport.{LaneReport}
use Rattle.link_params.specs.Laws.{is_b}
use Rattle.link_params.specs.Lanes.{Taken}
use Rattle.link_params.specs.Numbers.{period}
use Rattle.code_8b10b.specs.declared.character.Rd.{Rd}
use Rattle.code_8b10b.specs.declared.character.Rd.TheVariants.{Minus, Plus}
use Rattle.code_8b10b.specs.declared.character.Char.TheVariants.{Control}
use Rattle.code_8b10b.specs.declared.character.Reading.{Reading}
use Rattle.code_8b10b.specs.declared.character.Reading.TheVariants.{Invalid}
use Rattle.code_8b10b.specs.Code.{after, after_four, after_six, controls, fours, four_of_seven, sixes, spelling}
use Rattle.code_8b10b.specs.Reads.{char_at, control_at, data_at, place_in, reading, readings}
use Rattle.code_8b10b.specs.Commas.{begins, begins_lock, commas, least_place, other_commas, stands_at}
use Rattle.code_8b10b.proofs.Places.{begins-append, begins-self, finds_no_place}
use Rattle.lane_b.specs.Locking.{bits_taken, bits_to_start, from_other, is_comma, is_empty, lock, lock_at, since_start}
use Rattle.lane_b.specs.Received.{lanes_b, report_of}
use Rattle.lane_b.specs.Sent.{char_of}
use Rattle.lane_b.proofs.ChainLemmas.{is_empty-length, length-from_other, length-readings}
use Rattle.lane_b.proofs.PlaceLemmas.{least_place-from}
use Rattle.lane_b.proofs.SearchLemmas.{place-lock_at}
use Rattle.scenario.specs.Plans.{Plan}
use Rattle.link_model.specs.Sessions.{InSession, is_armed, report_at, taken_at}
use Rattle.link_model.specs.Wiring.{route_of, wire_of}
use Rattle.link_laws.specs.Premises.{Clean, Pattern}
use Rattle.link_laws.specs.LaneLaws.{LaneLock, lock_ticks}
use Rattle.link_laws.specs.Laws.{IsPlanRead}
use Rattle.link_laws.proofs.PlanRead.{arrival-below, numbers, reset-none}
use Rattle.link_laws.proofs.SessionStages.{first-high, first-low}
use Rattle.link_laws.proofs.Arming.{sees-low, unarmed-stage}
use Rattle.link_laws.proofs.OrdersB.{count-low, order-none}
use Rattle.link_laws.proofs.SentChars.{char_sent, handed_at, handed_by, rd-next, rd_sent, spells, word_sent}
use Rattle.link_laws.proofs.LineTicks.{length-words_to, word-at, words-from, words_to}
use Rattle.link_laws.proofs.CleanLine.{are-sent, arrival-is, bits-are, delay, first, goes-on, late, words-are}
use Rattle.link_laws.proofs.Grid.{IsOnGrid, on-grid}
use Rattle.link_laws.proofs.HeldLock.{search-all}
use Rattle.link_laws.proofs.LaneTicks.{are-tens}
use Rattle.link_laws.proofs.LaneStartB.{report-of}
use Rattle.link_laws.proofs.SetAsWired.{wired}

-- ---- readings

-- the first reading that is not of /K/
other-at : (rs : List Reading) → is_empty (from_other rs) ≡ false
    → is_comma (get_or rs (length rs - length (from_other rs)) Invalid) ≡ false
unfolding from_other
other-at [] e = let bad : true ≡ false = e in absurd (cc)
other-at (r ∷ rs) e = elim (cases_Bool (is_comma r)) [
  | inr other ↦
      let all : from_other (r ∷ rs) ≡ r ∷ rs = rw other refl in
      let n : length (r ∷ rs) - length (from_other (r ∷ rs)) ≡ 0 =
      (let k = ap length all in omega arith) in
      ap (λ i. is_comma (get_or (r ∷ rs) i Invalid)) n ∙ other
  | inl comma ↦
      let all : from_other (r ∷ rs) ≡ from_other rs = rw comma refl in
      let low = length-from_other rs in
      let n : length (r ∷ rs) - length (from_other (r ∷ rs))
      ≡ suc (length rs - length (from_other rs)) = (let k = ap length all in omega arith) in
      ap (λ i. is_comma (get_or (r ∷ rs) i Invalid)) n ∙ other-at rs (ap is_empty (sym all) ∙ e)
]

reading-at : (ws : List ℕ) (rd : Rd) (i : ℕ) → i < length ws
    → (r : Rd) × (get_or (readings rd ws) i Invalid ≡ reading r (get_or ws i 0))
unfolding readings
reading-at [] rd i lt = absurd (omega arith)
reading-at (w ∷ ws) rd zero lt = (rd, refl)
reading-at (w ∷ ws) rd (suc i) lt = reading-at ws (after rd w) i (omega arith)

-- /K/ is read as /K/, at either disparity
comma-minus : (r : Rd) → is_comma (reading r 0x0FA) ≡ true
unfolding reading char_at data_at control_at place_in after_six sixes fours four_of_seven controls
comma-minus Minus = refl
comma-minus Plus = refl

comma-plus : (r : Rd) → is_comma (reading r 0x305) ≡ true
unfolding reading char_at data_at control_at place_in after_six sixes fours four_of_seven controls
comma-plus Minus = refl
comma-plus Plus = refl

comma-word : (rd : Rd) (w : ℕ) → spelling rd (Control 0xBC) ≡ Some w → ((rd ≡ Minus) × (w ≡ 0x0FA))
    ⊎ ((rd ≡ Plus) × (w ≡ 0x305))
unfolding spelling controls
comma-word Minus w e = inl (refl, (let is : w ≡ 0x0FA = cc in is))
comma-word Plus w e = inr (refl, (let is : w ≡ 0x305 = cc in is))

comma-read : (rd r : Rd) (w : ℕ) → spelling rd (Control 0xBC) ≡ Some w
    → is_comma (reading r w) ≡ true
comma-read rd r w e = elim (comma-word rd w e) [
  | inl k ↦ ap (λ v. is_comma (reading r v)) k.1 ∙ comma-minus r
  | inr k ↦ ap (λ v. is_comma (reading r v)) k.1 ∙ comma-plus r
]

cases-rd : (rd : Rd) → (rd ≡ Minus) ⊎ (rd ≡ Plus)
cases-rd Minus = inl refl
cases-rd Plus = inr refl

after-minus : after Minus 0x0FA ≡ Plus
unfolding after after_six after_four
after-minus = refl

after-plus : after Plus 0x305 ≡ Minus
unfolding after after_six after_four
after-plus = refl

-- ---- four /K/

commas-list : flat_map (bits 10) (0x0FA ∷ 0x305 ∷ 0x0FA ∷ 0x305 ∷ []) ≡ commas
unfolding commas
commas-list = refl

other_commas-list : flat_map (bits 10) (0x305 ∷ 0x0FA ∷ 0x305 ∷ 0x0FA ∷ []) ≡ other_commas
unfolding other_commas
other_commas-list = refl

begins-commas : (more : List Bool) → begins_lock (commas ++ more) ≡ true
begins-commas more = or_left (begins commas (commas ++ more)) (begins other_commas (commas ++ more))
    (begins-append commas commas more (omega arith) ∙ begins-self commas)

begins-other : (more : List Bool) → begins_lock (other_commas ++ more) ≡ true
begins-other more = or_right (begins commas (other_commas ++ more))
    (begins other_commas (other_commas ++ more))
    (begins-append other_commas other_commas more (omega arith) ∙ begins-self other_commas)

map-none : (x : ℕ) (o : Option ℕ) → option_map (λ y. x + y) o ≡ None → o ≡ None
map-none x None e = refl
map-none x (Some y) e = cc

-- no place is found, so the forty bits stand nowhere
nowhere : (bs : List Bool) (x z : ℕ) → least_place x (drop x bs) ≡ None → x ≤ z
    → stands_at bs z ≡ false
unfolding stands_at
nowhere bs x z none low =
    let zero_none : least_place 0 (drop x bs) ≡ None = map-none x (least_place 0 (drop x bs))
    (sym (least_place-from x (drop x bs)) ∙ none) in
    let e : x + (z - x) ≡ z = omega arith in
    ap (λ n. begins_lock (drop n bs)) (sym e) ∙ sym (ap begins_lock (drop-drop (z - x) x bs))
    ∙ (finds_no_place (drop x bs)).0 zero_none (z - x)

module _ (s : Plan) (lane : ℕ) (read : IsPlanRead s) (mode : s.link.params.mode ≡ B)
    (below : lane < s.link.params.l)
    (h t : ℕ) (session : InSession lanes_b s h t) (clean : Clean s h t)
    (late_enough : h + 4 * period s.link.params ≤ t) (unarmed : is_armed lanes_b s t ≡ false) where
  abbrev f : ℕ
  f = first s lane read mode below h t session clean

  abbrev d : ℕ
  d = delay s lane read mode below h t session clean

  abbrev a : ℕ
  a = late s lane read mode below h t session clean

  abbrev w_at : ℕ → ℕ
  w_at n = word_sent s (wire_of s lane) read mode (wired s lane read below) n

  abbrev rd_at : ℕ → Rd
  rd_at n = rd_sent s (wire_of s lane) read mode (wired s lane read below) n

  -- from this tick on only /K/ is sent
  abbrev calm_from : ℕ
  calm_from = h + 1 + s.link.timing.sync_delay

  abbrev taken : List Taken
  taken = taken_at lanes_b s lane t

  record IsFar : Type 0 where
    begun : h ≤ f
    soon : f ≤ h + 1
    near : a < period s.link.params
    seen : s.link.timing.sync_delay < period s.link.params
    some : 17 ≤ period s.link.params

  is-far : IsFar
  is-far =
      let g = goes-on s lane read mode below h t session clean in
      let n = numbers s read in
      let near = arrival-below s lane h read in
      let same = arrival-is s lane read mode below h t session clean in
      record {
        begun = first-low lanes_b s h t g;
        soon = first-high lanes_b s h t g;
        near =
            omega arith;
        seen = n.sync_delay;
        some = n.some;
      }

  spelled-comma : (n : ℕ) → calm_from ≤ n → n ≤ t
      → spelling (rd_at n) (Control 0xBC) ≡ Some (w_at n)
  spelled-comma n from upto =
      let k = is-far in
      let soon = k.soon in
      let g = goes-on s lane read mode below h t session clean in
      let b : is_b s.link.params.mode ≡ true = ap is_b mode in
      let order =
      order-none lanes_b s b n
      (count-low lanes_b s b n
      (sees-low lanes_b s h t g t n (omega arith) (omega arith)
      (unarmed-stage lanes_b s h t g t unarmed) from (omega arith))) in
      let char : char_sent s (wire_of s lane) read mode (wired s lane read below) n ≡ Control 0xBC =
      ap (char_of s.link.params (wire_of s lane) (handed_by s (wire_of s lane) read mode (wired s lane read below) n
      ++ handed_at s (wire_of s lane) read mode (wired s lane read below) n ∷ [])) order in
      ap (spelling (rd_at n)) (sym char) ∙ spells s (wire_of s lane) read mode (wired s lane read below) n

  -- the words from tick q on, what the lane reads of them, and the first reading that is not of /K/
  abbrev words_since : ℕ → List ℕ
  words_since q = drop q (words_to s (wire_of s lane) read mode (wired s lane read below) (suc t - a))

  abbrev read_since : ℕ → List Reading
  read_since q = drop 1 (readings Minus (words_since q))

  abbrev other_place : ℕ → ℕ
  other_place q = length (read_since q) - length (from_other (read_since q))

  -- it is of a word from before then
  other-early : (q : ℕ) → q + a ≤ t → is_empty (from_other (read_since q)) ≡ false
      → q + (1 + other_place q) < calm_from
  other-early q inside other =
      let size = length-words_to s (wire_of s lane) read mode (wired s lane read below) (suc t - a) in
      let since = length-drop q (words_to s (wire_of s lane) read mode (wired s lane read below) (suc t - a)) in
      let count = length-readings (words_since q) Minus in
      let rest = length-drop 1 (readings Minus (words_since q)) in
      let some = is_empty-length (from_other (read_since q)) other in
      let fits = length-from_other (read_since q) in
      let at_word = reading-at (words_since q) Minus (1 + other_place q) (omega arith) in
      let word : get_or (words_since q) (1 + other_place q) 0 ≡ w_at (q + (1 + other_place q)) =
      get_or-drop q (words_to s (wire_of s lane) read mode (wired s lane read below) (suc t - a)) (1 + other_place q) 0
      ∙ word-at s (wire_of s lane) read mode (wired s lane read below) (suc t - a) (q + (1 + other_place q)) (omega arith) in
      let reads : get_or (read_since q) (other_place q) Invalid ≡ reading at_word.0
      (w_at (q + (1 + other_place q))) =
      get_or-drop 1 (readings Minus (words_since q)) (other_place q) Invalid ∙ at_word.1
      ∙ ap (reading at_word.0) word in
      let no_comma : is_comma (reading at_word.0 (w_at (q + (1 + other_place q)))) ≡ false =
      sym (ap is_comma reads) ∙ other-at (read_since q) other in
      elim (cases_lt (q + (1 + other_place q)) calm_from) [
        | inl early ↦ early
        | inr calm ↦
            let yes = comma-read (rd_at (q + (1 + other_place q))) at_word.0
            (w_at (q + (1 + other_place q)))
            (spelled-comma (q + (1 + other_place q)) calm (omega arith)) in
            absurd (cc)
      ]

  grid-of : (y : ℕ) → stands_at (bits_taken taken) y ≡ true
      → IsOnGrid s lane read mode below h t session clean t y
  grid-of y stands =
      let k = is-far in
      let soon = k.soon in
      let same = bits-are s lane read mode below h t session clean t (omega arith) (omega arith) in
      on-grid s lane read mode below h t session clean t y (omega arith) (omega arith)
      (sym (ap (λ bs. stands_at bs y) same) ∙ stands)

  read-is : (y q : ℕ) → 10 * f + (y + 30) ≡ d + 10 * q → q + a ≤ t
      → (lock_at (bits_taken taken) y).read ≡ read_since q
  unfolding lock_at
  read-is y q on inside =
      let k = is-far in
      let begun = k.begun in
      let soon = k.soon in
      ap (λ vs. drop 1 (readings Minus vs))
      (words-are s lane read mode below h t session clean t (y + 30) q (omega arith)
      (omega arith) (omega arith) (omega arith) on (omega arith))

  -- a lock that is dropped is dropped by a reading from before then
  dropped-early : (y : ℕ) → stands_at (bits_taken taken) y ≡ true
      → y + 40 ≤ length (bits_taken taken) → is_empty (since_start (lock_at (bits_taken taken) y))
      ≡ false
      → 10 * f + bits_to_start (lock_at (bits_taken taken) y) ≤ d + 10 * calm_from
  dropped-early y stands fits other =
      let grid = grid-of y stands in
      let on = grid.place in
      let inside = grid.inside in
      let is = read-is y grid.tick on (omega arith) in
      let early = other-early grid.tick (omega arith) (ap (λ l. is_empty (from_other l)) (sym is)
      ∙ other) in
      let at_place = place-lock_at (bits_taken taken) y in
      let size = ap length is in
      let since = ap (λ l. length (from_other l)) is in
      let left = length-from_other (read_since grid.tick) in
      omega arith

  -- the disparity turns with each /K/
  turns : (n : ℕ) → calm_from ≤ n → n < t → rd_at n ≡ Minus
      → (w_at n ≡ 0x0FA) × (rd_at (suc n) ≡ Plus)
  turns n from upto is =
      let next =
      rd-next s (wire_of s lane) read mode (wired s lane read below) n
      (reset-none s Tx (suc n)
      (clean.untouched.no_event (suc n) (omega arith) (omega arith))) in
      elim (comma-word (rd_at n) (w_at n) (spelled-comma n from (omega arith))) [
        | inl k ↦ (k.1, next ∙ ap₂ after is k.1 ∙ after-minus)
        | inr k ↦ let bad : Minus ≡ Plus = sym is ∙ k.0 in absurd (cc)
      ]

  turns-back : (n : ℕ) → calm_from ≤ n → n < t → rd_at n ≡ Plus
      → (w_at n ≡ 0x305) × (rd_at (suc n) ≡ Minus)
  turns-back n from upto is =
      let next =
      rd-next s (wire_of s lane) read mode (wired s lane read below) n
      (reset-none s Tx (suc n)
      (clean.untouched.no_event (suc n) (omega arith) (omega arith))) in
      elim (comma-word (rd_at n) (w_at n) (spelled-comma n from (omega arith))) [
        | inr k ↦ (k.1, next ∙ ap₂ after is k.1 ∙ after-plus)
        | inl k ↦ let bad : Plus ≡ Minus = sym is ∙ k.0 in absurd (cc)
      ]

  four-words : List ℕ
  four-words = w_at calm_from ∷ w_at (suc calm_from) ∷ w_at (suc (suc calm_from))
      ∷ w_at (suc (suc (suc calm_from))) ∷ []

  four-stand : (more : List Bool) → begins_lock (flat_map (bits 10) four-words ++ more) ≡ true
  unfolding four-words
  four-stand more =
      let k = is-far in
      let seen = k.seen in
      let some = k.some in
      elim (cases-rd (rd_at calm_from)) [
        | inl is ↦
            let one = turns calm_from (omega arith) (omega arith) is in
            let two = turns-back (suc calm_from) (omega arith) (omega arith) one.1 in
            let three = turns (suc (suc calm_from)) (omega arith) (omega arith) two.1 in
            let four = turns-back (suc (suc (suc calm_from))) (omega arith) (omega arith) three.1 in
            let all : four-words ≡ 0x0FA ∷ 0x305 ∷ 0x0FA ∷ 0x305 ∷ [] =
            rw (one.0, two.0, three.0, four.0) refl in
            ap (λ ws. begins_lock (flat_map (bits 10) ws ++ more)) all
            ∙ ap (λ bs. begins_lock (bs ++ more)) commas-list ∙ begins-commas more
        | inr is ↦
            let one = turns-back calm_from (omega arith) (omega arith) is in
            let two = turns (suc calm_from) (omega arith) (omega arith) one.1 in
            let three = turns-back (suc (suc calm_from)) (omega arith) (omega arith) two.1 in
            let four = turns (suc (suc (suc calm_from))) (omega arith) (omega arith) three.1 in
            let all : four-words ≡ 0x305 ∷ 0x0FA ∷ 0x305 ∷ 0x0FA ∷ [] =
            rw (one.0, two.0, three.0, four.0) refl in
            ap (λ ws. begins_lock (flat_map (bits 10) ws ++ more)) all
            ∙ ap (λ bs. begins_lock (bs ++ more)) other_commas-list ∙ begins-other more
      ]

  -- so the forty bits stand in what the lane took
  commas-stand : stands_at (bits_taken taken) (d + 10 * calm_from - 10 * f) ≡ true
  unfolding stands_at four-words
  commas-stand =
      let k = is-far in
      let begun = k.begun in
      let soon = k.soon in
      let seen = k.seen in
      let some = k.some in
      let near = k.near in
      let z : ℕ = d + 10 * calm_from - 10 * f in
      let n : ℕ = suc t - a in
      let sent = are-sent s lane read mode below h t session clean t z calm_from (omega arith)
      (omega arith) (omega arith) (omega arith) (omega arith) in
      let same = bits-are s lane read mode below h t session clean t (omega arith) (omega arith) in
      let later : List ℕ = drop (suc (suc (suc (suc calm_from))))
      (words_to s (wire_of s lane) read mode (wired s lane read below) n) in
      let four : drop calm_from (words_to s (wire_of s lane) read mode (wired s lane read below) n) ≡ four-words ++ later =
      words-from s (wire_of s lane) read mode (wired s lane read below) n calm_from (omega arith)
      ∙ ap (λ ws. w_at calm_from ∷ ws)
      (words-from s (wire_of s lane) read mode (wired s lane read below) n (suc calm_from) (omega arith)
      ∙ ap (λ ws. w_at (suc calm_from) ∷ ws)
      (words-from s (wire_of s lane) read mode (wired s lane read below) n (suc (suc calm_from)) (omega arith)
      ∙ ap (λ ws. w_at (suc (suc calm_from)) ∷ ws)
      (words-from s (wire_of s lane) read mode (wired s lane read below) n (suc (suc (suc calm_from))) (omega arith)))) in
      ap (λ bs. begins_lock (drop z bs)) same ∙ ap begins_lock sent.are
      ∙ ap (λ ws. begins_lock (flat_map (bits 10) ws ++ sent.rest)) four
      ∙ ap (λ bs. begins_lock (bs ++ sent.rest)) (flat_map-append (bits 10) four-words later)
      ∙ ap begins_lock
      (append_assoc (flat_map (bits 10) four-words) (flat_map (bits 10) later) sent.rest)
      ∙ four-stand (flat_map (bits 10) later ++ sent.rest)

  pub is-locked : (report_at lanes_b s lane t).locked ≡ true
  is-locked =
      let k = is-far in
      let begun = k.begun in
      let soon = k.soon in
      let tens = are-tens s lane read mode below h t session clean t (omega arith) (omega arith) in
      let Q : ℕ → Type 0 = λ x. 10 * f + x ≤ d + 10 * calm_from in
      let first_one : Q 0 = omega arith in
      let e = search-all taken Q tens first_one dropped-early in
      let low : 10 * f + e.0 ≤ d + 10 * calm_from = e.1 in
      let shown : (report_at lanes_b s lane t).locked
      ≡ (report_of s.link.params (route_of s lane) taken (lock taken)).locked =
      ap (λ (r : LaneReport). r.locked)
      (report-of s lane read mode below h t session clean t) in
      elim (e.2) [
        | inl y ↦ shown ∙ ap (λ o. (report_of s.link.params (route_of s lane) taken o).locked) y.1.is
        | inr seeking ↦
            let never = nowhere (bits_taken taken) e.0 (d + 10 * calm_from - 10 * f) seeking.least
            (omega arith) in
            let stands = commas-stand in
            absurd (cc)
      ]

-- the law of an 8b/10b lane's lock
pub lane-lock-b : (s : Plan) → IsPlanRead s → s.link.params.mode ≡ B → (pattern : Pattern)
    → LaneLock lanes_b pattern s
lane-lock-b s read mode pattern h lane t below session lone clean =
    let b : is_b s.link.params.mode ≡ true = ap is_b mode in
    let ticks : lock_ticks s.link ≡ 4 * period s.link.params =
    cond-true (is_b s.link.params.mode) (4 * period s.link.params)
    (s.link.timing.sysref_period + 8 * period s.link.params + 256) b in
    record {
      locks = λ from unarmed. is-locked s lane read mode below h t session clean
          (omega arith) unarmed;
      to_sender = λ c locked. let bad : true ≡ false = sym b ∙ c in absurd (cc);
    }
