-- The bits that a transmitter lane sends in each tick of a run of 64b/66b lanes: a block of the
-- transmission, by the octets of all its ticks.
use Rattle.std.proofs.Common.{◌≡◌, ◌≢◌, ℕ, zero, suc, ◌+◌, ◌-◌, ◌*◌, ◌/◌, ◌%◌, ◌<◌, Bool, true, false, List, [], ◌∷◌, ◌++◌, length, drop, take, get_or, slice_index, replicate, None, inl, inr, refl, sym, ap, ap₂, ◌∙◌, append-nil, append_assoc, length-append, arith}
use Rattle.std.proofs.lemmas.List.{get_or-map, drop-append-le, take-append-le, length-map, length-drop, length-take}
use Rattle.std.proofs.lemmas.List.Concat.{flat_map-append}
use Rattle.std.specs.List.{flat_map}
use Rattle.jesd_base.specs.Bits.{bits, zeros}
use Rattle.jesd_base.proofs.BitLemmas.{zeros_length}
use Rattle.link_params.specs.declared.alarms.Device.TheVariants.{Tx}
use Rattle.link_params.specs.declared.fields.Mode.{Mode}
use Rattle.link_params.specs.declared.fields.Mode.TheVariants.{B, CCrc, CFec}
use Rattle.link_params.specs.declared.fields.Params.{Params}
use Rattle.link_params.specs.Laws.{is_b}
use Rattle.link_params.specs.Lanes.{Handed}
use Rattle.scenario.specs.Plans.{Plan, numbers_from}
use Rattle.lane_scramble.specs.Scrambling.{scrambled, start58}
use Rattle.lane_scramble.proofs.ScrambleLemmas.{goes_in_parts}
use Rattle.block_66b.specs.Blocks.{block}
use Rattle.lane_c.specs.Sent.{block_at, blocks, blocks_of, octets_sent, payload_of, sent_c, sync_of, word_of}
use Rattle.lane_c.specs.Received.{lanes_c}
use Rattle.lane_c.proofs.SentBlocks.{length-payload, sync-bit, word_of-stays}
use Rattle.link_model.specs.Edges.{edge_tick, phase}
use Rattle.link_model.specs.Moments.{History}
use Rattle.link_model.specs.Sends.{handed_since, last_of, sent_by}
use Rattle.link_model.specs.Run.{moment, run}
use Rattle.link_model.proofs.NumberLists.{get_or-numbers, length-numbers}
use Rattle.link_model.specs.Sessions.{at}
use Rattle.link_laws.specs.Premises.{GivesPhase}
use Rattle.link_laws.proofs.Phases.{HasEdges, edge-of-phase}
use Rattle.link_laws_c.proofs.SentTicks.{cases_some, handed_at, handed_by, octets-more, octets_from, sends-from}

-- the bits that a lane sends in tick q
abbrev pub sent_at : Plan → ℕ → ℕ → List Bool
sent_at s lane q = get_or (at lanes_c s q).sent lane []

sent-of : (s : Plan) (lane q : ℕ) → lane < s.link.params.l
    → sent_at s lane q ≡ sent_by lanes_c s (run lanes_c s q) (at lanes_c s q).order
    (slice_index (at lanes_c s q).handed lane) lane
unfolding moment
sent-of s lane q below =
    let h : History = run lanes_c s q in
    let long = length-numbers s.link.params.l 0 in
    let f : ℕ → List Bool = λ l. sent_by lanes_c s h (at lanes_c s q).order
    (slice_index (at lanes_c s q).handed l) l in
    let same : 0 + lane ≡ lane = omega arith in
    get_or-map f (numbers_from 0 s.link.params.l) lane 0 [] (omega arith)
    ∙ ap f (get_or-numbers s.link.params.l lane 0 0 below ∙ same)

-- the last of all words that the lane sends
sent-last : (s : Plan) (lane q : ℕ) → lane < s.link.params.l
    → sent_at s lane q ≡ last_of [] (sent_c s.link.params lane (handed_by s lane q))
unfolding sent_by
sent-last s lane q below = sent-of s lane q below

last-pushed : (xs : List (List Bool)) (x d : List Bool) → last_of d (xs ++ x ∷ []) ≡ x
unfolding last_of
last-pushed [] x d = refl
last-pushed (y ∷ xs) x d = last-pushed xs x y

pub not-b : (m : Mode) → is_b m ≡ false → m ≢ B
not-b B c is = let bad : true ≡ false = c in cc
not-b CCrc c is = let bad : CCrc ≡ B = is in cc
not-b CFec c is = let bad : CFec ≡ B = is in cc

-- ---- a block

-- block n of a transmission with these octets
abbrev pub block_of : Params → List ℕ → ℕ → List Bool
block_of p octets n = block (get_or (word_of p (payload_of octets) (n / 32)) (n % 32) false)
    (take 64 (drop (64 * n) (payload_of octets)))

last-block : (p : Params) (lane n : ℕ) (handed : List Handed) → p.mode ≢ B
    → length (octets_sent handed) ≡ suc n
    → last_of [] (sent_c p lane handed) ≡ block_of p (octets_sent handed) n
unfolding sent_c blocks_of blocks
last-block p lane n handed not_b long =
    let os : List ℕ = octets_sent handed in
    let xs : List Bool = payload_of os in
    let front : List (List Bool) = replicate (length handed - length os) (zeros 66) in
    let sync : List Bool = sync_of p os in
    ap (λ (m : ℕ). last_of [] (front ++ blocks sync xs m)) long
    ∙ ap (last_of []) (sym (append_assoc front (blocks sync xs n) (block_at sync xs n ∷ [])))
    ∙ last-pushed (front ++ blocks sync xs n) (block_at sync xs n) []
    ∙ ap (λ (b : Bool). block b (take 64 (drop (64 * n) xs)))
    (sync-bit p xs not_b (length os / 32 + 1) n (omega arith))

-- more octets change no block
payload-more : (a b : List ℕ) → (more : List Bool) × (payload_of (a ++ b) ≡ payload_of a ++ more)
payload-more a b =
    let xs : List Bool = flat_map (bits 64) a in
    let ys : List Bool = flat_map (bits 64) b in (
      _,
      ap (scrambled 39 58 start58) (flat_map-append (bits 64) a b)
          ∙ (goes_in_parts 39 58 start58 xs ys).0,
    )

pub block-stays : (p : Params) (a b : List ℕ) (n : ℕ) → n < length a
    → block_of p (a ++ b) n ≡ block_of p a n
block-stays p a b n inside =
    let xs : List Bool = payload_of a in
    let m = payload-more a b in
    let l : length xs ≡ 64 * length a = length-payload a in
    let rest : length (drop (64 * n) xs) ≡ length xs - 64 * n = length-drop (64 * n) xs in
    let word : word_of p (payload_of (a ++ b)) (n / 32) ≡ word_of p xs (n / 32) =
    ap (λ (z : List Bool). word_of p z (n / 32)) m.1
    ∙ word_of-stays p xs m.0 (n / 32) (omega arith) in
    let part : take 64 (drop (64 * n) (payload_of (a ++ b))) ≡ take 64 (drop (64 * n) xs) =
    ap (λ (z : List Bool). take 64 (drop (64 * n) z)) m.1
    ∙ ap (take 64) (drop-append-le (64 * n) xs m.0 (omega arith))
    ∙ take-append-le 64 (drop (64 * n) xs) m.0 (omega arith) in
    ap₂ (λ (w z : List Bool). block (get_or w (n % 32) false) z) word part

-- octets of more ticks
octets-longer : (k : ℕ) (s : Plan) (lane x n : ℕ)
    → (more : List ℕ) × (octets_from s lane x (n + k) ≡ octets_from s lane x n ++ more)
octets-longer zero s lane x n = let e : n + 0 ≡ n = omega arith in
    ([], ap (octets_from s lane x) e ∙ sym (append-nil (octets_from s lane x n)))
octets-longer (suc k) s lane x n =
    let m = octets-longer k s lane x n in
    let e : n + suc k ≡ suc (n + k) = omega arith in
    let o : ℕ = slice_index (at lanes_c s (x + (n + k))).handed lane in (
      m.0 ++ o ∷ [],
      ap (octets_from s lane x) e ∙ octets-more s lane x (n + k)
          ∙ ap (λ (l : List ℕ). l ++ o ∷ []) m.1 ∙ append_assoc (octets_from s lane x n) m.0
          (o ∷ []),
    )

pub length-octets : (s : Plan) (lane x n : ℕ) → length (octets_from s lane x n) ≡ n
length-octets s lane x n =
    length-map (numbers_from x n) (λ q. slice_index (at lanes_c s q).handed lane)
    ∙ length-numbers n x

-- tick q sends the block whose number is its distance from the edge, by the octets of any n ticks
-- from the edge on that reach past q
pub sent-block : (s : Plan) (lane q i n : ℕ) → HasEdges s → is_b s.link.params.mode ≡ false
    → lane < s.link.params.l → GivesPhase s Tx q i
    → q < edge_tick s Tx i + n
    → sent_at s lane q ≡ block_of s.link.params (octets_from s lane (edge_tick s Tx i) n)
    (q - edge_tick s Tx i)
sent-block s lane q i n e mode below g far =
    let p = s.link.params in
    let x : ℕ = edge_tick s Tx i in
    let by = g.by in
    let sends = sends-from q s lane e mode in
    let are : octets_sent (handed_by s lane q) ≡ octets_from s lane x (suc q - x) =
    sends.some i g in
    let long = length-octets s lane x (suc q - x) in
    let count : length (octets_sent (handed_by s lane q)) ≡ suc (q - x) = ap length are ∙ long
    ∙ omega arith in
    let m = octets-longer (n - (suc q - x)) s lane x (suc q - x) in
    let whole : suc q - x + (n - (suc q - x)) ≡ n = omega arith in
    sent-last s lane q below ∙ last-block p lane (q - x) (handed_by s lane q) (not-b p.mode mode)
    count
    ∙ ap (λ (os : List ℕ). block_of p os (q - x)) are
    ∙ sym (ap (λ (os : List ℕ). block_of p os (q - x)) (sym (ap (octets_from s lane x) whole) ∙ m.1)
    ∙ block-stays p (octets_from s lane x (suc q - x)) m.0 (q - x) (omega arith))

-- ---- silence, and all that was sent

pub block-long : (b : Bool) (xs : List Bool) → length xs ≡ 64 → length (block b xs) ≡ 66
block-long true xs long = ap (λ n. suc (suc n)) long
block-long false xs long = ap (λ n. suc (suc n)) long

last-same : (n : ℕ) (z d : List Bool) → 0 < n → last_of d (replicate n z) ≡ z
unfolding last_of
last-same zero z d some = absurd (omega arith)
last-same (suc zero) z d some = refl
last-same (suc (suc n)) z d some = last-same (suc n) z z (omega arith)

silent-last : (p : Params) (lane : ℕ) (before : List Handed) (h : Handed)
    → octets_sent (before ++ h ∷ []) ≡ [] → last_of [] (sent_c p lane (before ++ h ∷ [])) ≡ zeros 66
unfolding sent_c blocks_of blocks
silent-last p lane before h none =
    let all : List Handed = before ++ h ∷ [] in
    let long : length all ≡ suc (length before) = length-append before (h ∷ []) ∙ omega arith in
    let Sent : List ℕ → List (List Bool) = λ os. replicate (length all - length os) (zeros 66)
    ++ blocks_of p os in
    let count : length all - 0 ≡ suc (length before) = omega arith in
    ap (λ (os : List ℕ). last_of [] (Sent os)) none
    ∙ ap (λ (n : ℕ). last_of [] (replicate n (zeros 66) ++ [])) count
    ∙ ap (last_of []) (append-nil (replicate (suc (length before)) (zeros 66)))
    ∙ last-same (suc (length before)) (zeros 66) [] (omega arith)

-- without a phase it sends zeros
pub sent-silent : (s : Plan) (lane q : ℕ) → HasEdges s → is_b s.link.params.mode ≡ false
    → lane < s.link.params.l → phase s Tx q ≡ None → sent_at s lane q ≡ zeros 66
sent-silent s lane q e mode below none =
    let sends = sends-from q s lane e mode in
    sent-last s lane q below
    ∙ silent-last s.link.params lane (handed_since s (run lanes_c s q) lane)
    (handed_at s lane q) (sends.none none)

pub block-of-long : (p : Params) (os : List ℕ) (n : ℕ) → n < length os
    → length (block_of p os n) ≡ 66
block-of-long p os n inside =
    let xs : List Bool = payload_of os in
    let l : length xs ≡ 64 * length os = length-payload os in
    let rest : length (drop (64 * n) xs) ≡ length xs - 64 * n = length-drop (64 * n) xs in
    block-long (get_or (word_of p xs (n / 32)) (n % 32) false) (take 64 (drop (64 * n) xs))
    (length-take 64 (drop (64 * n) xs) ∙ omega arith)

-- a tick is sixty-six bits
pub length-sent : (s : Plan) (lane q : ℕ) → HasEdges s → is_b s.link.params.mode ≡ false
    → lane < s.link.params.l → length (sent_at s lane q) ≡ 66
length-sent s lane q e mode below = elim (cases_some (phase s Tx q)) [
  | inr none ↦ ap length (sent-silent s lane q e mode below none) ∙ zeros_length 66
  | inl k ↦
      let j = edge-of-phase s Tx q k.0 e.regular k.1 in
      let g : GivesPhase s Tx q j.0 = j.1 in
      let by = g.by in
      let x : ℕ = edge_tick s Tx j.0 in
      let long = length-octets s lane x (suc q - x) in
      ap length (sent-block s lane q j.0 (suc q - x) e mode below g (omega arith))
      ∙ block-of-long s.link.params (octets_from s lane x (suc q - x)) (q - x) (omega arith)
]
