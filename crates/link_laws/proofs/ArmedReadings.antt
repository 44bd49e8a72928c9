-- What an 8b/10b lane reads on a clean line from the arming of the lanes on: each character that is
-- sent, as it was sent.
use Rattle.std.proofs.Common.{◌≡◌, ℕ, zero, suc, ◌+◌, ◌-◌, ◌*◌, ◌<◌, ◌≤◌, true, false, List, [], ◌∷◌, ◌++◌, length, map, drop, get_or, Some, None, inl, inr, refl, sym, ap, ◌∙◌, length-append, length-drop, arith}
use Rattle.std.proofs.lemmas.Bool.{cases_Bool, cases_lt}
use Rattle.std.proofs.lemmas.List.{drop-append-le, get_or_append_left, get_or_push, map-append}
use Rattle.link_params.specs.declared.alarms.Device.TheVariants.{Tx}
use Rattle.link_params.specs.declared.fields.Mode.TheVariants.{B}
use Rattle.link_params.specs.declared.lane_report.LaneReport.{LaneReport}
use Rattle.link_params.specs.declared.orders.TxOrder.TheVariants.{Comma}
use Rattle.link_params.specs.Laws.{is_b}
use Rattle.link_params.specs.Lanes.{Taken}
use Rattle.link_params.specs.Numbers.{period}
use Rattle.bring_up.specs.declared.stage.Decision.TheVariants as decision
use Rattle.bring_up.specs.declared.stage.Stage.TheVariants as stage
use Rattle.code_8b10b.specs.declared.character.Rd.{Rd}
use Rattle.code_8b10b.specs.declared.character.Rd.TheVariants.{Minus, Plus}
use Rattle.code_8b10b.specs.declared.character.Char.{Char}
use Rattle.code_8b10b.specs.declared.character.Char.TheVariants.{Control}
use Rattle.code_8b10b.specs.declared.character.Reading.{Reading}
use Rattle.code_8b10b.specs.declared.character.Reading.TheVariants.{Char as Read}
use Rattle.code_8b10b.specs.Code.{after, after_six, after_four, spelling, controls}
use Rattle.code_8b10b.specs.Reads.{reading, readings}
use Rattle.code_8b10b.specs.Commas.{stands_at}
use Rattle.code_8b10b.proofs.Readings.{reads_spelling}
use Rattle.lane_b.specs.Locking.{Lock, bits_taken, from_other, is_comma_char, is_empty, lock, lock_at, order_at, since_start, tick_of_start}
use Rattle.lane_b.specs.Received.{lanes_b, report_b, report_of}
use Rattle.lane_b.specs.Sent.{char_of}
use Rattle.lane_b.specs.kept.Senders.{rd_after}
use Rattle.lane_b.proofs.ChainLemmas.{from_other-append_none, from_other-append_some, is_empty-nil, length-readings, rd_after-append, readings-append}
use Rattle.lane_b.proofs.SearchLemmas.{bits_to_start-inside, length-bits_taken}
use Rattle.scenario.specs.Plans.{Plan}
use Rattle.link_model.specs.Edges.{is_reset}
use Rattle.link_model.specs.Sessions.{InSession, at, first_tick, report_at, taken_at}
use Rattle.link_model.specs.Wiring.{route_of, wire_of}
use Rattle.link_laws.specs.Premises.{Clean}
use Rattle.link_laws.specs.Laws.{IsPlanRead}
use Rattle.link_laws.proofs.PlanRead.{arrival-below, has-edges, numbers, reset-none}
use Rattle.link_laws.proofs.Stages.{before, decision_at}
use Rattle.link_laws.proofs.SessionStages.{arm-late, first-low}
use Rattle.link_laws.proofs.Arming.{arms-hunting, sees-low, unarmed-before}
use Rattle.link_laws.proofs.OrdersB.{count-low, order-none}
use Rattle.link_laws.proofs.SentChars.{char_sent, handed_at, handed_by, rd-next, rd_sent, spells, word_sent}
use Rattle.link_laws.proofs.LineTicks.{length-words_to, word-small, words_to, words_to-suc}
use Rattle.link_laws.proofs.CleanLine.{arrival-is, bits-are, delay, first, goes-on, late, words-are}
use Rattle.link_laws.proofs.Grid.{IsOnGrid, on-grid}
use Rattle.link_laws.proofs.HeldLock.{IsHeld, and_neither, search-all}
use Rattle.link_laws.proofs.LaneTicks.{are-tens, armed-locked, length-took, order-is, report-is}
use Rattle.link_laws.proofs.SetAsWired.{wired}

never-empty : (cs : List Char) (c : Char) → is_empty (map Read (cs ++ c ∷ [])) ≡ false
never-empty [] c = refl
never-empty (x ∷ cs) c = refl

-- ---- /K/

both-minus : (w : ℕ) → 0x0FA ≡ w → (x y : Rd) → after x w ≡ after y w
unfolding after after_six after_four
both-minus w e Minus Minus = refl
both-minus w e Minus Plus = rw (← e) refl
both-minus w e Plus Minus = rw (← e) refl
both-minus w e Plus Plus = refl

both-plus : (w : ℕ) → 0x305 ≡ w → (x y : Rd) → after x w ≡ after y w
unfolding after after_six after_four
both-plus w e Minus Minus = refl
both-plus w e Minus Plus = rw (← e) refl
both-plus w e Plus Minus = rw (← e) refl
both-plus w e Plus Plus = refl

-- after the bits of /K/ the disparity is what they say
pub comma-after : (rd : Rd) (w : ℕ) → spelling rd (Control 0xBC) ≡ Some w → (x y : Rd)
    → after x w ≡ after y w
unfolding spelling controls after after_six after_four
comma-after Minus w e x y = let is : 0x0FA ≡ w = cc in both-minus w is x y
comma-after Plus w e x y = let is : 0x305 ≡ w = cc in both-plus w is x y

locked-some : (s : Plan) (lane : ℕ) (taken : List Taken)
    → (report_of s.link.params lane taken None).locked ≡ true → ⊥
locked-some s lane taken e = let bad : false ≡ true = e in absurd (cc)

module _ (s : Plan) (lane : ℕ) (read : IsPlanRead s) (mode : s.link.params.mode ≡ B)
    (below : lane < s.link.params.l)
    (h t : ℕ) (session : InSession lanes_b s h t) (clean : Clean s h t)
    (A : ℕ) (low : first_tick lanes_b s h ≤ A) (up : A < t)
    (arms : decision_at lanes_b s A ≡ decision.Arm) where
  abbrev f : ℕ
  f = first s lane read mode below h t session clean

  abbrev d : ℕ
  d = delay s lane read mode below h t session clean

  abbrev a : ℕ
  a = late s lane read mode below h t session clean

  abbrev taken : ℕ → List Taken
  taken u = taken_at lanes_b s lane u

  -- the arming comes late enough
  pub record IsLate : Type 0 where
    pub hunts : before lanes_b s A ≡ stage.Hunt
    pub far : h + 3 * period s.link.params ≤ A
    pub near : a < period s.link.params
    pub seen : s.link.timing.sync_delay < period s.link.params

  pub is-late : IsLate
  is-late =
      let g = goes-on s lane read mode below h t session clean in
      let k = arms-hunting lanes_b s A arms in
      let far = arm-late lanes_b s h t g A (has-edges s read) low (omega arith) k.0 arms in
      let begun = first-low lanes_b s h t g in
      let n = numbers s read in
      let near = arrival-below s lane h read in
      let same = arrival-is s lane read mode below h t session clean in
      record { hunts = k.0; far = omega arith; near = omega arith; seen = n.sync_delay }

  quiet : (x : ℕ) → h < x → x ≤ t → is_reset s Tx x ≡ false
  quiet x above upto = reset-none s Tx x (clean.untouched.no_event x above upto)

  -- ---- the lock at the arming

  report-locked : report_of s.link.params (route_of s lane) (taken A) (lock (taken A))
      ≡ report_at lanes_b s lane A
  unfolding report_b
  report-locked = sym (report-is s lane A below)

  held-at : (from : ℕ) × (y : ℕ) × IsHeld (taken A) from y
  held-at =
      let tens = are-tens s lane read mode below h t session clean A low (omega arith) in
      let k = search-all (taken A) (λ x. Unit {0}) tens tt (λ y stands fits other. tt) in
      elim (k.2) [
        | inl y ↦ (k.0, y.0, y.1)
        | inr seeking ↦
            let is = armed-locked s A lane arms below in
            absurd
            (locked-some s (route_of s lane) (taken A)
            (sym (ap (λ o. (report_of s.link.params (route_of s lane) (taken A) o).locked) seeking.is)
            ∙ ap (λ (r : LaneReport). r.locked) report-locked ∙ is))
      ]

  pub from : ℕ
  from = held-at.0

  pub place : ℕ
  place = held-at.1

  pub held : IsHeld (taken A) from place
  unfolding from place
  held = held-at.2

  -- all its readings are of /K/
  pub none-read : since_start (lock_at (bits_taken (taken A)) place) ≡ []
  none-read =
      let l : Lock = lock_at (bits_taken (taken A)) place in
      let tens = are-tens s lane read mode below h t session clean A low (omega arith) in
      let k = held in
      elim (cases_Bool (is_empty (since_start l))) [
        | inl none ↦ is_empty-nil (since_start l) none
        | inr some ↦
            let within = bits_to_start-inside (bits_taken (taken A)) place k.inside some in
            let high = within.1 in
            let least = within.0 in
            let long = length-bits_taken (taken A) tens in
            let count = length-took s lane read mode below h t session clean A low (omega arith) in
            let i : ℕ = tick_of_start l in
            let order = order-is s lane read mode below h t session clean A i low (omega arith)
            (omega arith) in
            let no_arm =
            unarmed-before lanes_b s h t (goes-on s lane read mode below h t session clean) A
            (f + i) low (omega arith) is-late.hunts (omega arith) (omega arith) in
            let unarmed : (order_at (taken A) i).armed ≡ false = ap (λ o. o.armed) order ∙ no_arm in
            elim (and_neither (is_empty (since_start l)) ((order_at (taken A) i).armed) k.held) [
              | inl e ↦ absurd (cc)
              | inr e ↦ absurd (cc)
            ]
      ]

  -- ---- the words from the fourth /K/ on

  pub grid : IsOnGrid s lane read mode below h t session clean A place
  grid =
      let k = held in
      let begun = first-low lanes_b s h t (goes-on s lane read mode below h t session clean) in
      let same = bits-are s lane read mode below h t session clean A low (omega arith) in
      on-grid s lane read mode below h t session clean A place (omega arith) (omega arith)
      (sym (ap (λ bs. stands_at bs place) same) ∙ k.stands)

  abbrev pub fourth : ℕ
  fourth = grid.tick

  abbrev w_at : ℕ → ℕ
  w_at n = word_sent s (wire_of s lane) read mode (wired s lane read below) n

  abbrev c_at : ℕ → Char
  c_at n = char_sent s (wire_of s lane) read mode (wired s lane read below) n

  abbrev words_since : ℕ → List ℕ
  words_since n = drop fourth (words_to s (wire_of s lane) read mode (wired s lane read below) n)

  -- what the lane has read once the word before tick n came
  abbrev pub read_to : ℕ → List Reading
  read_to n = drop 1 (readings Minus (words_since n))

  abbrev rd_to : ℕ → Rd
  rd_to n = rd_after Minus (words_since n)

  words_since-suc : (n : ℕ) → fourth ≤ n → words_since (suc n) ≡ words_since n ++ w_at n ∷ []
  words_since-suc n from =
      let long = length-words_to s (wire_of s lane) read mode (wired s lane read below) n in
      ap (drop fourth) (words_to-suc s (wire_of s lane) read mode (wired s lane read below) n)
      ∙ drop-append-le fourth (words_to s (wire_of s lane) read mode (wired s lane read below) n) (w_at n ∷ []) (omega arith)

  rd_to-suc : (n : ℕ) → fourth ≤ n → rd_to (suc n) ≡ after (rd_to n) (w_at n)
  unfolding rd_after
  rd_to-suc n from = ap (rd_after Minus) (words_since-suc n from)
      ∙ rd_after-append (words_since n) Minus (w_at n ∷ [])

  read_to-suc : (n : ℕ) → fourth < n → read_to (suc n) ≡ read_to n ++ reading (rd_to n) (w_at n)
      ∷ []
  unfolding readings
  read_to-suc n from =
      let long = length-words_to s (wire_of s lane) read mode (wired s lane read below) n in
      let rest = length-drop fourth (words_to s (wire_of s lane) read mode (wired s lane read below) n) in
      let count = length-readings (words_since n) Minus in
      ap (λ ws. drop 1 (readings Minus ws)) (words_since-suc n (omega arith))
      ∙ ap (drop 1) (readings-append (words_since n) Minus (w_at n ∷ []))
      ∙ drop-append-le 1 (readings Minus (words_since n)) (reading (rd_to n) (w_at n) ∷ [])
      (omega arith)

  pub length-read_to : (n : ℕ) → fourth < n → length (read_to n) ≡ n - fourth - 1
  length-read_to n from =
      let long = length-words_to s (wire_of s lane) read mode (wired s lane read below) n in
      let rest = length-drop fourth (words_to s (wire_of s lane) read mode (wired s lane read below) n) in
      let count = length-readings (words_since n) Minus in
      length-drop 1 (readings Minus (words_since n)) ∙ omega arith

  pub read-is : (u : ℕ) → A ≤ u → u ≤ t
      → (lock_at (bits_taken (taken u)) place).read ≡ read_to (suc u - a)
  unfolding lock_at
  read-is u from upto =
      let g = grid in
      let at_tick = g.place in
      let inside = g.inside in
      let begun = first-low lanes_b s h t (goes-on s lane read mode below h t session clean) in
      ap (λ ws. drop 1 (readings Minus ws))
      (words-are s lane read mode below h t session clean u (place + 30) fourth (omega arith)
      (omega arith) upto (omega arith) at_tick (omega arith))

  -- ---- from the tick on whose word comes first after the arming

  abbrev pub next : ℕ
  next = suc A - a

  pub sends-comma : (n : ℕ) → h + 1 + s.link.timing.sync_delay ≤ n
      → n ≤ A + s.link.timing.sync_delay → (at lanes_b s n).order ≡ Comma
  sends-comma n from upto =
      let b : is_b s.link.params.mode ≡ true = ap is_b mode in
      order-none lanes_b s b n
      (count-low lanes_b s b n
      (sees-low lanes_b s h t (goes-on s lane read mode below h t session clean) A n low
      (omega arith) is-late.hunts from upto))

  pub comma-char : (n : ℕ) → (at lanes_b s n).order ≡ Comma → c_at n ≡ Control 0xBC
  comma-char n e =
      ap (char_of s.link.params (wire_of s lane) (handed_by s (wire_of s lane) read mode (wired s lane read below) n
      ++ handed_at s (wire_of s lane) read mode (wired s lane read below) n ∷ [])) e

  -- the lane's disparity is the transmitter's
  rd-same : (k : ℕ) → next + k ≤ t → rd_to (next + k) ≡ rd_sent s (wire_of s lane) read mode (wired s lane read below) (next + k)
  rd-same zero upto =
      let l = is-late in
      let far = l.far in
      let near = l.near in
      let seen = l.seen in
      let g = grid in
      let inside = g.inside in
      let n : ℕ = A - a in
      let e : next + 0 ≡ suc n = omega arith in
      let char = comma-char n (sends-comma n (omega arith) (omega arith)) in
      let spelled = ap (spelling (rd_sent s (wire_of s lane) read mode (wired s lane read below) n)) (sym char)
      ∙ spells s (wire_of s lane) read mode (wired s lane read below) n in
      ap rd_to e ∙ rd_to-suc n (omega arith)
      ∙ comma-after (rd_sent s (wire_of s lane) read mode (wired s lane read below) n) (w_at n) spelled (rd_to n)
      (rd_sent s (wire_of s lane) read mode (wired s lane read below) n)
      ∙ sym (rd-next s (wire_of s lane) read mode (wired s lane read below) n (quiet (suc n) (omega arith) (omega arith)))
      ∙ sym (ap (λ q. rd_sent s (wire_of s lane) read mode (wired s lane read below) q) e)
  rd-same (suc k) upto =
      let l = is-late in
      let far = l.far in
      let near = l.near in
      let g = grid in
      let inside = g.inside in
      let n : ℕ = next + k in
      let e : next + suc k ≡ suc n = omega arith in
      ap rd_to e ∙ rd_to-suc n (omega arith)
      ∙ ap (λ rd. after rd (w_at n)) (rd-same k (omega arith))
      ∙ sym (rd-next s (wire_of s lane) read mode (wired s lane read below) n (quiet (suc n) (omega arith) (omega arith)))
      ∙ sym (ap (λ q. rd_sent s (wire_of s lane) read mode (wired s lane read below) q) e)

  -- each word is read as the character that was sent
  pub read-sent : (n : ℕ) → next ≤ n → n ≤ t → read_to (suc n) ≡ read_to n ++ Read (c_at n) ∷ []
  read-sent n from upto =
      let g = grid in
      let inside = g.inside in
      let k : ℕ = n - next in
      let e : next + k ≡ n = omega arith in
      let same : rd_to n ≡ rd_sent s (wire_of s lane) read mode (wired s lane read below) n = ap rd_to (sym e)
      ∙ rd-same k (omega arith) ∙ ap (λ q. rd_sent s (wire_of s lane) read mode (wired s lane read below) q) e in
      let reads =
      (reads_spelling (rd_sent s (wire_of s lane) read mode (wired s lane read below) n) (w_at n) (c_at n)
      (word-small s (wire_of s lane) read mode (wired s lane read below) n)).0 (spells s (wire_of s lane) read mode (wired s lane read below) n) in
      read_to-suc n (omega arith)
      ∙ ap (λ r. read_to n ++ r ∷ []) (ap (λ rd. reading rd (w_at n)) same ∙ reads)

  next-none : from_other (read_to next) ≡ []
  next-none = ap from_other (sym (read-is A (omega arith) (omega arith))) ∙ none-read

  one-comma : (c : Char) → is_comma_char c ≡ true → from_other (Read c ∷ []) ≡ []
  unfolding from_other
  one-comma c e = rw e refl

  one-other : (c : Char) → is_comma_char c ≡ false → from_other (Read c ∷ []) ≡ Read c ∷ []
  unfolding from_other
  one-other c e = rw e refl

  -- while only /K/ is sent the lane has not started
  pub none-until : (k : ℕ) → next + k ≤ t + 1
      → ((n : ℕ) → next ≤ n → n < next + k → (at lanes_b s n).order ≡ Comma)
      → from_other (read_to (next + k)) ≡ []
  none-until zero upto commas = let e : next + 0 ≡ next = omega arith in
      ap (λ n. from_other (read_to n)) e ∙ next-none
  none-until (suc k) upto commas =
      let n : ℕ = next + k in
      let e : next + suc k ≡ suc n = omega arith in
      let before = none-until k (omega arith) (λ q low up. commas q low (omega arith)) in
      let char = comma-char n (commas n (omega arith) (omega arith)) in
      ap (λ n. from_other (read_to n)) e ∙ ap from_other (read-sent n (omega arith) (omega arith))
      ∙ from_other-append_none (read_to n) (Read (c_at n) ∷ []) before
      ∙ one-comma (c_at n) (ap is_comma_char char)

  -- the characters of k ticks
  unfoldable pub chars_from : ℕ → ℕ → List Char
  chars_from g zero = []
  chars_from g (suc k) = chars_from g k ++ c_at (g + k) ∷ []

  pub length-chars : (g k : ℕ) → length (chars_from g k) ≡ k
  unfolding chars_from
  length-chars g zero = refl
  length-chars g (suc k) = let l = length-append (chars_from g k) (c_at (g + k) ∷ []) in
      let h = length-chars g k in omega arith

  -- once another character comes it has started: it reads that one and all later ones
  pub some-from : (g k : ℕ) → next ≤ g → g + k ≤ t → from_other (read_to g) ≡ []
      → is_comma_char (c_at g) ≡ false
      → from_other (read_to (g + suc k)) ≡ map Read (chars_from g (suc k))
  unfolding chars_from
  some-from g zero from upto none other =
      let e : g + 1 ≡ suc g = omega arith in
      let z : g + 0 ≡ g = omega arith in
      ap (λ n. from_other (read_to n)) e ∙ ap from_other (read-sent g from (omega arith))
      ∙ from_other-append_none (read_to g) (Read (c_at g) ∷ []) none ∙ one-other (c_at g) other
      ∙ ap (λ n. Read (c_at n) ∷ []) (sym z)
  some-from g (suc k) from upto none other =
      let n : ℕ = g + suc k in
      let e : g + suc (suc k) ≡ suc n = omega arith in
      let before = some-from g k from (omega arith) none other in
      let long = length-chars g (suc k) in
      let some : is_empty (from_other (read_to n)) ≡ false = ap is_empty before
      ∙ never-empty (chars_from g k) (c_at (g + k)) in
      ap (λ n. from_other (read_to n)) e ∙ ap from_other (read-sent n (omega arith) (omega arith))
      ∙ from_other-append_some (read_to n) (Read (c_at n) ∷ []) some
      ∙ ap (λ rs. rs ++ Read (c_at n) ∷ []) before
      ∙ sym (map-append Read (chars_from g k ++ c_at (g + k) ∷ []) (c_at n ∷ []))

  pub chars-some : (g k : ℕ) → is_empty (map Read (chars_from g (suc k))) ≡ false
  unfolding chars_from
  chars-some g k = never-empty (chars_from g k) (c_at (g + k))

  -- character j of them
  pub char-at : (g k j : ℕ) (c : Char) → j < k → get_or (chars_from g k) j c ≡ c_at (g + j)
  unfolding chars_from
  char-at g zero j c lt = absurd (omega arith)
  char-at g (suc k) j c lt =
      let long = length-chars g k in
      elim (cases_lt j k) [
        | inl early ↦ get_or_append_left (chars_from g k) (c_at (g + k) ∷ []) c j (omega arith)
            ∙ char-at g k j c early
        | inr last ↦ let same : k ≡ j = omega arith in
            get_or_push (chars_from g k) (c_at (g + k)) c j (omega arith)
            ∙ ap (λ n. c_at (g + n)) same
      ]
