-- What an 8b/10b receiver lane takes on a clean line: what was sent, as many bits later as its
-- delay.
use Rattle.std.proofs.Common.{◌≡◌, ℕ, zero, suc, ◌+◌, ◌-◌, ◌*◌, ◌/◌, ◌<◌, ◌≤◌, Bool, true, false, List, [], ◌∷◌, ◌++◌, length, drop, take, get_or, replicate, inl, inr, refl, sym, ap, ap₂, ◌∙◌, append_assoc, length-append, length-drop, drop-drop, arith}
use Rattle.std.proofs.Math.Seq.{take-add, drop-append-add, take-append-add}
use Rattle.std.specs.List.{flat_map}
use Rattle.std.proofs.lemmas.Bool.{cases_Bool, cases_lt}
use Rattle.std.proofs.lemmas.List.{drop-append-le, drop_all, drop-take, get_or-drop, get_or-take, take-append-le, append-nil, length-replicate, length-take}
use Rattle.std.proofs.lemmas.List.Concat.{flat_map-append}
use Rattle.jesd_base.specs.Bits.{bits}
use Rattle.link_params.specs.declared.fields.Mode.TheVariants.{B}
use Rattle.link_params.specs.Laws.{is_b}
use Rattle.link_params.specs.Lanes.{LaneKind, Taken}
use Rattle.link_params.specs.Numbers.{width}
use Rattle.line_model.specs.LineBits.{line_word}
use Rattle.lane_b.specs.Locking.{bits_taken, words_in}
use Rattle.lane_b.specs.Received.{lanes_b}
use Rattle.scenario.specs.Plans.{Plan, numbers_from}
use Rattle.link_model.specs.Carried.{delay_at, inverted_bits, is_dead, is_inverted, received, with_polarity}
use Rattle.link_model.specs.Run.{run}
use Rattle.link_model.specs.Sends.{sent_bits}
use Rattle.link_model.specs.Receives.{taken_in}
use Rattle.link_model.proofs.Depth.{word-size}
use Rattle.link_model.proofs.LaneHistory.{sent-bits-more, taken-in-more, taken-lane}
use Rattle.link_model.specs.Sessions.{InSession, at, first_tick, taken_at}
use Rattle.link_model.specs.Wiring.{wire_of}
use Rattle.link_laws.specs.Premises.{Clean, arrival}
use Rattle.link_laws.specs.Laws.{IsPlanRead}
use Rattle.link_model.proofs.RunTicks.{length-run, run-suc}
use Rattle.link_laws.proofs.SessionStages.{Goes, first-high}
use Rattle.link_laws.proofs.SessionTicks.{session-with}
use Rattle.link_laws.proofs.PlanRead.{delay-same}
use Rattle.link_laws.proofs.ReleaseTick.{goes}
use Rattle.link_laws.proofs.LineTicks.{are-words, are_words-drop, drop-word_bits, length-word_bits, length-words_to, none-of, sent-words, words_in-are, words_to, words_to-more}
use Rattle.link_laws.proofs.LineWords.{flipped-filter, length-line, line, word-carried}
use Rattle.link_laws.proofs.SetAsWired.{wired}

-- all bits that a lane took in the session of tick t, up to it
abbrev pub bits_at : LaneKind → Plan → ℕ → ℕ → List Bool
bits_at kind s lane t = flat_map (λ (x : Taken). x.word) (taken_at kind s lane t)

module _ (s : Plan) (lane : ℕ) (read : IsPlanRead s) (mode : s.link.params.mode ≡ B)
    (below : lane < s.link.params.l)
    (h t : ℕ) (session : InSession lanes_b s h t) (clean : Clean s h t) where
  pub goes-on : Goes lanes_b s h t
  goes-on = goes lanes_b s h t session (inl clean)

  -- the delay and the bits of the line up to tick n
  abbrev pub delay : ℕ
  delay = delay_at s lane h

  abbrev pub line_to : ℕ → List Bool
  line_to n = line delay (sent_bits (run lanes_b s n) (wire_of s lane))

  ten : width s.link.params ≡ 10
  ten = let b : is_b s.link.params.mode ≡ true = ap is_b mode in rw b refl

  length-sent : (n : ℕ) → length (sent_bits (run lanes_b s n) (wire_of s lane)) ≡ 10 * n
  length-sent n = ap length (sent-words s (wire_of s lane) read mode (wired s lane read below) n)
      ∙ length-word_bits (words_to s (wire_of s lane) read mode (wired s lane read below) n)
      ∙ ap (λ (k : ℕ). 10 * k) (length-words_to s (wire_of s lane) read mode (wired s lane read below) n)

  -- no bit of a tick is inverted
  upright : (y i : ℕ) → h < y → y ≤ t → 10 * y ≤ i → i < 10 * y + 10 → delay_at s lane y ≤ i
      → is_inverted s lane i ≡ false
  upright y i above up low high sent = elim (cases_Bool (is_inverted s lane i)) [
    | inr e ↦ e
    | inl e ↦
        let tick : i / width s.link.params ≡ y = (let w = ten in
        let q : i / 10 ≡ y = omega arith in ap (λ (k : ℕ). i / k) w ∙ q) in
        let due : delay_at s lane (i / width s.link.params) ≤ i = rw tick sent in
        absurd
        (clean.upright lane i (omega arith, omega arith)
        (record { of_link = below; sent = due; flipped = e }))
  ]

  alive : (y : ℕ) → h < y → y ≤ t → is_dead s lane y ≡ false
  alive y above up = none-of s.link.params.l 0 (λ l. is_dead s l y)
      (clean.untouched.alive y above up) lane (omega arith) (omega arith)

  pub delay-stays : (y : ℕ) → h ≤ y → y ≤ t → delay_at s lane y ≡ delay
  delay-stays y low up =
      delay-same s lane h y low (λ x a b. clean.untouched.no_event x a (omega arith))

  -- the word of a tick
  word-taken : (y : ℕ) → h < y → y ≤ t
      → get_or (at lanes_b s y).taken lane [] ≡ take 10 (drop (10 * y) (line_to (suc y)))
  unfolding received inverted_bits
  word-taken y above up =
      let sent : List Bool = sent_bits (run lanes_b s y) (wire_of s lane)
      ++ get_or (at lanes_b s y).sent (wire_of s lane) [] in
      let all : sent ≡ sent_bits (run lanes_b s (suc y)) (wire_of s lane) =
      sym (ap (λ r. sent_bits r (wire_of s lane)) (run-suc lanes_b s y)
      ∙ sent-bits-more (run lanes_b s y) (at lanes_b s y) (wire_of s lane)) in
      let long : length sent ≡ 10 * suc y = ap length all ∙ length-sent (suc y) in
      let tick = length-run lanes_b s y in
      let same = delay-stays y (omega arith) up in
      let flips = inverted_bits s lane (width s.link.params * s.ticks) in
      let front : length sent - 10 ≡ 10 * y = omega arith in
      taken-lane lanes_b s (run lanes_b s y) lane below
      ∙ ap (λ (n : ℕ). received s lane n sent) tick
      ∙ ap (λ (b : Bool). with_polarity b
      (line_word (width s.link.params) sent flips (delay_at s lane y) (is_dead s lane y)))
      (clean.set_as_wired.polarity lane below)
      ∙ ap (λ (w : ℕ). line_word w sent flips (delay_at s lane y) (is_dead s lane y)) ten
      ∙ ap₂ (λ (d : ℕ) (b : Bool). line_word 10 sent flips d b) same (alive y above up)
      ∙ word-carried 10 sent flips delay (omega arith)
      (λ i low high due. flipped-filter (numbers_from 0 (width s.link.params * s.ticks))
      (is_inverted s lane) i
      (upright y i above up (omega arith) (omega arith) (let k : delay_at s lane y ≤ i =
      rw same due in k)))
      ∙ ap (λ (n : ℕ). take 10 (drop n (line delay sent))) front
      ∙ ap (λ (x : List Bool). take 10 (drop (10 * y) (line delay x))) all

  line-suc : (n : ℕ) → (more : List Bool) × (line_to (suc n) ≡ line_to n ++ more)
  line-suc n =
      let m : List Bool = get_or (at lanes_b s n).sent (wire_of s lane) [] in (
        m,
        ap (line delay) (ap (λ r. sent_bits r (wire_of s lane)) (run-suc lanes_b s n)
            ∙ sent-bits-more (run lanes_b s n) (at lanes_b s n) (wire_of s lane))
            ∙ sym (append_assoc (replicate delay false) (sent_bits (run lanes_b s n) (wire_of s lane)) m),
      )

  length-line_to : (n : ℕ) → length (line_to n) ≡ delay + 10 * n
  length-line_to n = length-line delay (sent_bits (run lanes_b s n) (wire_of s lane))
      ∙ ap (λ (k : ℕ). delay + k) (length-sent n)

  abbrev pub first : ℕ
  first = first_tick lanes_b s h

  abbrev pub taken_before : ℕ → List Bool
  taken_before v = bits_taken (taken_in (drop first (run lanes_b s v)) lane)

  taken-one : (v : ℕ) → first ≤ v → taken_before (suc v) ≡ taken_before v
      ++ get_or (at lanes_b s v).taken lane []
  taken-one v low =
      let long = length-run lanes_b s v in
      let here : List Bool = get_or (at lanes_b s v).taken lane [] in
      let f : Taken → List Bool = λ x. x.word in
      ap (λ r. bits_taken (taken_in (drop first r) lane)) (run-suc lanes_b s v)
      ∙ ap (λ r. bits_taken (taken_in r lane))
      (drop-append-le first (run lanes_b s v) (at lanes_b s v ∷ []) (omega arith))
      ∙ ap bits_taken (taken-in-more (drop first (run lanes_b s v)) (at lanes_b s v) lane)
      ∙ flat_map-append f (taken_in (drop first (run lanes_b s v)) lane)
      ((record { order = (at lanes_b s v).told; word = here }) ∷ [])
      ∙ ap (λ (l : List Bool). taken_before v ++ l) (append-nil here)

  pub length-word_taken : (v : ℕ) → length (get_or (at lanes_b s v).taken lane []) ≡ 10
  length-word_taken v = word-size lanes_b s (run lanes_b s v) lane below ∙ ten

  pub length-taken : (v : ℕ) → v ≤ suc t → length (taken_before v) ≡ 10 * (v - first)
  length-taken zero up = let e : 10 * (0 - first) ≡ 0 = omega arith in
      let none : drop first (run lanes_b s 0) ≡ [] =
      drop_all first (run lanes_b s 0) (let l = length-run lanes_b s 0 in omega arith) in
      ap (λ r. length (bits_taken (taken_in r lane))) none ∙ sym e
  length-taken (suc v) up = elim (cases_lt v first) [
    | inl new ↦
        let e : 10 * (suc v - first) ≡ 0 = omega arith in
        let none : drop first (run lanes_b s (suc v)) ≡ [] = drop_all first (run lanes_b s (suc v))
        (let l = length-run lanes_b s (suc v) in omega arith) in
        ap (λ r. length (bits_taken (taken_in r lane))) none ∙ sym e
    | inr old ↦
        let l = length-append (taken_before v) (get_or (at lanes_b s v).taken lane []) in
        let before = length-taken v (omega arith) in
        let word = length-word_taken v in
        ap length (taken-one v old) ∙ omega arith
  ]

  -- from the tick after the hunt on they are the bits of the line
  since-hunt : (k : ℕ) → suc h + k ≤ suc t
      → drop (10 * suc h - 10 * first) (taken_before (suc h + k)) ≡ take (10 * k)
      (drop (10 * suc h) (line_to (suc h + k)))
  since-hunt zero up =
      let low = first-high lanes_b s h t goes-on in
      let long = length-taken (suc h + 0) (omega arith) in
      drop_all (10 * suc h - 10 * first) (taken_before (suc h + 0)) (omega arith)
  since-hunt (suc k) up =
      let v : ℕ = suc h + k in
      let e : suc h + suc k ≡ suc v = omega arith in
      let low = first-high lanes_b s h t goes-on in
      let long = length-taken v (omega arith) in
      let m = line-suc v in
      let size = length-line_to v in
      let rest = length-drop (10 * suc h) (line_to v) in
      let here = word-taken v (omega arith) (omega arith) in
      let more : 10 * suc k ≡ 10 * k + 10 = omega arith in
      let there : 10 * suc h + 10 * k ≡ 10 * v = omega arith in
      let old : take (10 * k) (drop (10 * suc h) (line_to (suc v))) ≡ take (10 * k)
      (drop (10 * suc h) (line_to v)) =
      ap (λ l. take (10 * k) (drop (10 * suc h) l)) m.1
      ∙ ap (take (10 * k)) (drop-append-le (10 * suc h) (line_to v) m.0 (omega arith))
      ∙ take-append-le (10 * k) (drop (10 * suc h) (line_to v)) m.0 (omega arith) in
      ap (λ (n : ℕ). drop (10 * suc h - 10 * first) (taken_before n)) e
      ∙ ap (drop (10 * suc h - 10 * first)) (taken-one v (omega arith))
      ∙ drop-append-le (10 * suc h - 10 * first) (taken_before v)
      (get_or (at lanes_b s v).taken lane []) (omega arith)
      ∙ ap₂ (λ (a b : List Bool). a ++ b) (since-hunt k (omega arith) ∙ sym old)
      (here
      ∙ sym (ap (take 10) (drop-drop (10 * k) (10 * suc h) (line_to (suc v))
      ∙ ap (λ (n : ℕ). drop n (line_to (suc v))) there)))
      ∙ sym (take-add (10 * k) 10 (drop (10 * suc h) (line_to (suc v))))
      ∙ ap (λ (n : ℕ). take n (drop (10 * suc h) (line_to (suc v)))) (sym more)
      ∙ sym (ap (λ (n : ℕ). take (10 * suc k) (drop (10 * suc h) (line_to n))) e)

  -- the lane's arrival, in ticks
  abbrev pub late : ℕ
  late = (delay + 9) / 10

  pub arrival-is : arrival s lane h ≡ late
  arrival-is = ap (λ (w : ℕ). (delay + (w - 1)) / w) ten

  abbrev words : ℕ → List ℕ
  words n = words_to s (wire_of s lane) read mode (wired s lane read below) n

  -- from a bit on that begins a word of tick q they are the words of q and the ticks after it, and
  -- less than ten bits
  pub record AreSent (u x q : ℕ) : Type 0 where
    pub rest : List Bool
    pub few : length rest < 10
    pub are : drop x (taken_before (suc u)) ≡ flat_map (bits 10) (drop q (words (suc u - late)))
        ++ rest

  pub are-sent : (u x q : ℕ) → h ≤ u → u ≤ t → 10 * suc h ≤ 10 * first + x
      → 10 * first + x ≡ delay + 10 * q → q + late ≤ suc u → AreSent u x q
  are-sent u x q low up from is inside =
      let k : ℕ = u - h in
      let x0 : ℕ = 10 * suc h - 10 * first in
      let e : ℕ = x - x0 in
      let m : ℕ = 10 * k - e in
      let n : ℕ = suc u - late in
      let r : ℕ = 10 * late - delay in
      let f = first-high lanes_b s h t goes-on in
      let end : suc h + k ≡ suc u = omega arith in
      let end_words : n + late ≡ suc u = omega arith in
      let in_x : x0 + e ≡ x = omega arith in
      let in_k : e + m ≡ 10 * k = omega arith in
      let at_q : 10 * suc h + e ≡ length (replicate delay false) + 10 * q =
      (let l = length-replicate delay false in omega arith) in
      let more = words_to-more s (wire_of s lane) read mode (wired s lane read below) n late in
      let sent : List Bool = sent_bits (run lanes_b s (suc u)) (wire_of s lane) in
      let own : List Bool = flat_map (bits 10) (drop q (words n)) in
      let later : List Bool = flat_map (bits 10) more.0 in
      let size : length own ≡ 10 * (n - q) = (let a = length-word_bits (drop q (words n)) in
      let b = length-drop q (words n) in
      let c = length-words_to s (wire_of s lane) read mode (wired s lane read below) n in omega arith) in
      let take_own : m ≡ length own + r = omega arith in
      let split : drop (10 * q) sent ≡ own ++ later =
      ap (drop (10 * q)) (sent-words s (wire_of s lane) read mode (wired s lane read below) (suc u))
      ∙ drop-word_bits q (words (suc u))
      ∙ ap (λ ws. flat_map (bits 10) (drop q ws)) (ap words (sym end_words) ∙ more.1)
      ∙ ap (flat_map (bits 10))
      (drop-append-le q (words n) more.0 (let c = length-words_to s (wire_of s lane) read mode (wired s lane read below) n in
      omega arith))
      ∙ flat_map-append (bits 10) (drop q (words n)) more.0 in
      let line_is : drop e (drop (10 * suc h) (line_to (suc u))) ≡ own ++ later =
      drop-drop e (10 * suc h) (line_to (suc u)) ∙ ap (λ j. drop j (line_to (suc u))) at_q
      ∙ drop-append-add (replicate delay false) sent (10 * q) ∙ split in
      let length_rest = length-take r later in
      record {
        rest = take r later;
        few = omega arith;
        are =
            ap (λ j. drop j (taken_before (suc u))) (sym in_x)
            ∙ sym (drop-drop e x0 (taken_before (suc u)))
            ∙ ap (drop e) (sym (ap (λ j. drop x0 (taken_before j)) end) ∙ since-hunt k (omega arith)
            ∙ ap (λ j. take (10 * k) (drop (10 * suc h) (line_to j))) end)
            ∙ ap (λ j. drop e (take j (drop (10 * suc h) (line_to (suc u))))) (sym in_k)
            ∙ drop-take e m (drop (10 * suc h) (line_to (suc u)))
            ∙ ap₂ (λ (j : ℕ) (l : List Bool). take j l) take_own line_is
            ∙ take-append-add own later r;
      }

  -- the bits that the lane took up to tick u
  pub bits-are : (u : ℕ) → first ≤ u → u ≤ t → bits_at lanes_b s lane u ≡ taken_before (suc u)
  bits-are u low up = ap (λ r. bits_taken (taken_in r lane))
      (session-with lanes_b s h t goes-on u low up)

  pub words-are : (u x q : ℕ) → h ≤ u → first ≤ u → u ≤ t → 10 * suc h ≤ 10 * first + x
      → 10 * first + x ≡ delay + 10 * q → q + late ≤ suc u
      → words_in (drop x (bits_at lanes_b s lane u)) ≡ drop q (words (suc u - late))
  words-are u x q low begun up from is inside =
      let k = are-sent u x q low up from is inside in
      ap (λ bs. words_in (drop x bs)) (bits-are u begun up) ∙ ap words_in k.are
      ∙ words_in-are (drop q (words (suc u - late))) k.rest
      (are_words-drop (words (suc u - late)) q (are-words s (wire_of s lane) read mode (wired s lane read below) (suc u - late)))
      k.few

  -- each bit from the tick after the hunt on is the line's
  pub bit-is : (u x : ℕ) → h ≤ u → u ≤ t → 10 * suc h ≤ 10 * first + x → 10 * first + x < 10 * suc u
      → get_or (taken_before (suc u)) x false ≡ get_or (line_to (suc u)) (10 * first + x) false
  bit-is u x low up from inside =
      let k : ℕ = u - h in
      let x0 : ℕ = 10 * suc h - 10 * first in
      let e : ℕ = x - x0 in
      let f = first-high lanes_b s h t goes-on in
      let end : suc h + k ≡ suc u = omega arith in
      let in_x : x0 + e ≡ x = omega arith in
      let at_x : 10 * suc h + e ≡ 10 * first + x = omega arith in
      ap (λ j. get_or (taken_before (suc u)) j false) (sym in_x)
      ∙ sym (get_or-drop x0 (taken_before (suc u)) e false)
      ∙ ap (λ l. get_or l e false) (sym (ap (λ j. drop x0 (taken_before j)) end)
      ∙ since-hunt k (omega arith) ∙ ap (λ j. take (10 * k) (drop (10 * suc h) (line_to j))) end)
      ∙ get_or-take (10 * k) (drop (10 * suc h) (line_to (suc u))) e false (omega arith)
      ∙ get_or-drop (10 * suc h) (line_to (suc u)) e false
      ∙ ap (λ j. get_or (line_to (suc u)) j false) at_x
