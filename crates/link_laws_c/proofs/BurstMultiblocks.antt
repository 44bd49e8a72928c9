-- With one burst in a multiblock each multiblock of the held place is corrected to what was sent.
use Rattle.std.proofs.Common.{◌≡◌, ◌≢◌, ℕ, zero, suc, ◌+◌, ◌-◌, ◌*◌, ◌/◌, ◌%◌, ◌<◌, ◌≤◌, Bool, true, false, List, [], ◌∷◌, map, length, drop, take, get_or, inl, inr, refl, sym, ap, ap₂, ◌∙◌, length-append, arith}
use Rattle.std.proofs.lemmas.Bool.{cases_Bool, cases_lt}
use Rattle.std.proofs.lemmas.List.{ext_get_or, get_or-drop, get_or-map, get_or-take, get_or_append_left, length-drop, length-map, length-take}
use Rattle.std.proofs.Math.Seq.{get_or-append_right}
use Rattle.std.specs.List.{flat_map}
use Rattle.link_params.specs.declared.alarms.Device.TheVariants.{Tx}
use Rattle.link_params.specs.declared.fields.Mode.{Mode}
use Rattle.link_params.specs.declared.fields.Mode.TheVariants.{B, CFec}
use Rattle.link_params.specs.declared.cells.Mark.{Mark}
use Rattle.link_params.specs.declared.cells.Mark.TheVariants.{Ok as Good, Fixed, Bad}
use Rattle.link_params.specs.Numbers.{period, width}
use Rattle.scenario.specs.Plans.{Plan}
use Rattle.link_model.specs.Carried.{delay_at, is_inverted}
use Rattle.link_model.specs.Edges.{edge_tick, phase}
use Rattle.block_66b.specs.Blocks.{block, header}
use Rattle.block_66b.specs.declared.sync_bit.SyncBit.TheVariants.{Bad as BadHeader}
use Rattle.multiblock.specs.Places.{Place}
use Rattle.lane_c.specs.Sent.{check, part_of, payload_of, word_of}
use Rattle.lane_c.specs.Statuses.{Checked, checked, checked_by, received_check}
use Rattle.lane_c.specs.Received.{lanes_c}
use Rattle.lane_c.proofs.SenderSteps.{mod-both, period-c}
use Rattle.lane_c.proofs.SentBlocks.{length-payload, length-word}
use Rattle.link_model.specs.Sessions.{at, first_tick}
use Rattle.link_model.specs.Wiring.{wire_of}
use Rattle.link_laws.specs.Premises.{Clean, IsInverted, OneBurst, PayloadBit, ReceivesBit}
use Rattle.link_laws.proofs.Phases.{phase-of}
use Rattle.link_laws.proofs.PlanRead.{delay-same}
use Rattle.link_laws.proofs.SessionStages.{first-high, first-low}
use Rattle.link_laws_c.proofs.BurstWords.{burst-between, burst-fixed, differs}
use Rattle.link_laws_c.proofs.CleanMultiblocks.{block-of-multiblock, checked-is}
use Rattle.link_laws_c.proofs.HeaderLists.{header_of}
use Rattle.link_laws_c.proofs.Held.{InSessionC, edges, on}
use Rattle.link_laws_c.proofs.Holding.{Holds}
use Rattle.link_laws_c.proofs.JudgedBlocks.{checked_of, length-multiblock, multiblock_at}
use Rattle.link_laws_c.proofs.OnGrid.{gives-since}
use Rattle.link_laws_c.proofs.ReadBlocks.{AreRead, IsRead, are-read-clean, header-read}
use Rattle.link_laws_c.proofs.ReceivedChecks.{check-carried, checked-ok, parity-length}
use Rattle.link_laws_c.proofs.SentBits.{block_of, length-octets, not-b, sent-block, sent_at}
use Rattle.link_laws_c.proofs.SentForm.{header-front, word_bit}
use Rattle.link_laws_c.proofs.SentTicks.{octets_from}
use Rattle.link_laws_c.proofs.SessionBits.{bit-of-session, length-session-bits}
use Rattle.link_laws_c.proofs.TakenBits.{bit-upright, sent_bit}
use Rattle.link_laws_c.proofs.SessionWords.{bits_at}

-- ---- payload bits of blocks

payload-long : (blocks : List (List Bool))
    → ((i : ℕ) → i < length blocks → length (get_or blocks i []) ≡ 66)
    → length (flat_map (drop 2) blocks) ≡ 64 * length blocks
payload-long [] each = refl
payload-long (b ∷ blocks) each =
    let one = each 0 (omega arith) in
    let first = length-drop 2 b in
    let rest = payload-long blocks (λ i inside. each (suc i) (omega arith)) in
    length-append (drop 2 b) (flat_map (drop 2) blocks) ∙ omega arith

payload-bit : (blocks : List (List Bool)) (n : ℕ)
    → ((i : ℕ) → i < length blocks → length (get_or blocks i []) ≡ 66) → n < 64 * length blocks
    → get_or (flat_map (drop 2) blocks) n false ≡ get_or (get_or blocks (n / 64) [])
    (2 + n % 64) false
payload-bit [] n each inside = absurd (omega arith)
payload-bit (b ∷ blocks) n each inside =
    let one = each 0 (omega arith) in
    let first = length-drop 2 b in
    let rest : List Bool = flat_map (drop 2) blocks in
    elim (cases_lt n 64) [
      | inl here ↦
          let z : 0 ≡ n / 64 = omega arith in
          let y : 2 + n ≡ 2 + n % 64 = omega arith in
          get_or_append_left (drop 2 b) rest false n (omega arith) ∙ get_or-drop 2 b n false
          ∙ ap₂ (λ (i k : ℕ). get_or (get_or (b ∷ blocks) i []) k false) z y
      | inr later_one ↦
          let less : n - length (drop 2 b) ≡ n - 64 = omega arith in
          let z : suc ((n - 64) / 64) ≡ n / 64 = omega arith in
          let y : 2 + (n - 64) % 64 ≡ 2 + n % 64 = omega arith in
          get_or-append_right (drop 2 b) rest n false (omega arith)
          ∙ ap (λ (k : ℕ). get_or rest k false) less
          ∙ payload-bit blocks (n - 64) (λ i under. each (suc i) (omega arith)) (omega arith)
          ∙ ap₂ (λ (i k : ℕ). get_or (get_or (b ∷ blocks) i []) k false) z y
    ]

block-bit : (b : Bool) (payload : List Bool) (i : ℕ)
    → get_or (block b payload) (2 + i) false ≡ get_or payload i false
block-bit true payload i = sym (get_or-drop 2 (false ∷ true ∷ payload) i false)
block-bit false payload i = sym (get_or-drop 2 (true ∷ false ∷ payload) i false)

past : (l : List Bool) (i : ℕ) → length l ≤ i → get_or l i false ≡ false
past [] i up = refl
past (x ∷ l) zero up = absurd (omega arith)
past (x ∷ l) (suc i) up = past l i (omega arith)

no-difference : (r w : List Bool) (i : ℕ) → get_or r i false ≡ get_or w i false
    → differs r w i ≡ false
no-difference r w i same = at_bits (get_or r i false) (get_or w i false) same
  where
    at_bits : (x y : Bool) → x ≡ y → differs (x ∷ []) (y ∷ []) 0 ≡ false
    at_bits true true e = refl
    at_bits false false e = refl
    at_bits true false e = let bad : true ≡ false = e in cc
    at_bits false true e = let bad : false ≡ true = e in cc

module _ (s : Plan) (h t lane : ℕ) (c : InSessionC s h t lane) (burst : OneBurst s h t) (p : Place)
    (k : Holds s h t lane t p)
    (j : ℕ) (later : 0 < j) (from : edge_tick s Tx k.sent.edge ≤ k.sent.q + 32 * j)
    (whole : p.first + 2112 * (j + 2) ≤ length (bits_at lanes_c s lane t)) where
  abbrev bs : List Bool
  bs = bits_at lanes_c s lane t

  abbrev x0 : ℕ
  x0 = edge_tick s Tx k.sent.edge

  abbrev octets : List ℕ
  octets = octets_from s (wire_of s lane) x0 (suc t)

  abbrev m : ℕ
  m = (k.sent.q + 32 * j - x0) / 32

  abbrev read_one : List Bool
  read_one = flat_map (drop 2) (multiblock_at p bs j)

  abbrev sent_one : List Bool
  sent_one = part_of (payload_of octets) m

  bits-long : length bs ≡ 66 * (suc t - first_tick lanes_c s h)
  bits-long =
      let g = on s h t lane c in
      let high = first-high lanes_c s h t g in
      let above = g.above in
      length-session-bits s h t g lane t (omega arith) (omega arith) (edges s h t lane c) c.mode
      c.below

  blocks-long : (i : ℕ) → i < length (multiblock_at p bs j)
      → length (get_or (multiblock_at p bs j) i []) ≡ 66
  blocks-long i inside =
      let long = length-multiblock p bs j in
      let y : ℕ = p.first + 66 * (32 * j + i) in
      let rest = length-drop y bs in
      ap length (block-of-multiblock p bs j i (omega arith)) ∙ length-take 66 (drop y bs)
      ∙ omega arith

  read-long : length read_one ≡ 2048
  read-long = let long = length-multiblock p bs j in payload-long (multiblock_at p bs j) blocks-long
      ∙ omega arith

  sent-long : length sent_one ≡ 2048
  sent-long =
      let xs : List Bool = payload_of octets in
      let g = on s h t lane c in
      let high = first-high lanes_c s h t g in
      let above = g.above in
      let f = first-low lanes_c s h t g in
      let l = length-payload octets in
      let count = length-octets s (wire_of s lane) x0 (suc t) in
      let rest = length-drop (2048 * m) xs in
      let step = k.sent.step in
      let stands = k.sent.stands in
      let long = bits-long in
      length-take 2048 (drop (2048 * m) xs) ∙ omega arith

  -- the tick that sent payload bit b of the multiblock, and the received bit that it is
  abbrev tick_of : ℕ → ℕ
  tick_of b = k.sent.q + 32 * j + b / 64

  abbrev index_of : ℕ → ℕ
  index_of b = 66 * first_tick lanes_c s h + (p.first + 66 * (32 * j + b / 64) + (2 + b % 64))

  index-is : (b : ℕ) → index_of b ≡ 66 * tick_of b + (2 + b % 64) + delay_at s lane h
  index-is b = let stands = k.sent.stands in omega arith

  in-time : (b : ℕ) → b < 2048 → (h < index_of b / 66) × (index_of b / 66 ≤ t)
  in-time b inside =
      let g = on s h t lane c in
      let high = first-high lanes_c s h t g in
      let f = first-low lanes_c s h t g in
      let above = g.above in
      let long = bits-long in
      (omega arith, omega arith)

  read-bit : (b : ℕ) → b < 2048
      → get_or read_one b false ≡ get_or (get_or (at lanes_c s (index_of b / 66)).taken lane [])
      (index_of b % 66) false
  read-bit b inside =
      let g = on s h t lane c in
      let high = first-high lanes_c s h t g in
      let above = g.above in
      let long = length-multiblock p bs j in
      let bl = bits-long in
      let y : ℕ = p.first + 66 * (32 * j + b / 64) in
      let x : ℕ = y + (2 + b % 64) in
      let tick : first_tick lanes_c s h + x / 66 ≡ index_of b / 66 = omega arith in
      let place : x % 66 ≡ index_of b % 66 = omega arith in
      payload-bit (multiblock_at p bs j) b blocks-long (omega arith)
      ∙ ap (λ (l : List Bool). get_or l (2 + b % 64) false)
      (block-of-multiblock p bs j (b / 64) (omega arith))
      ∙ get_or-take 66 (drop y bs) (2 + b % 64) false (omega arith)
      ∙ get_or-drop y bs (2 + b % 64) false
      ∙ bit-of-session s h t g lane t (omega arith) (omega arith) (edges s h t lane c) c.mode
      c.below x (omega arith)
      ∙ ap₂ (λ (q i : ℕ). get_or (get_or (at lanes_c s q).taken lane []) i false) tick place

  sent-bit : (b : ℕ) → b < 2048
      → get_or sent_one b false ≡ sent_bit s (wire_of s lane) (66 * tick_of b + (2 + b % 64))
  sent-bit b inside =
      let xs : List Bool = payload_of octets in
      let g = on s h t lane c in
      let high = first-high lanes_c s h t g in
      let f = first-low lanes_c s h t g in
      let above = g.above in
      let step = k.sent.step in
      let stands = k.sent.stands in
      let bl = bits-long in
      let q : ℕ = tick_of b in
      let n : ℕ = q - x0 in
      let number : 64 * n + b % 64 ≡ 2048 * m + b = omega arith in
      let tick : (66 * q + (2 + b % 64)) / 66 ≡ q = omega arith in
      let place : (66 * q + (2 + b % 64)) % 66 ≡ 2 + b % 64 = omega arith in
      let block_is : sent_at s (wire_of s lane) q ≡ block_of s.link.params octets n =
      sent-block s (wire_of s lane) q k.sent.edge (suc t) (edges s h t lane c) c.mode
      ((edges s h t lane c).wired lane c.below)
      (gives-since s Tx t q k.sent.edge k.sent.gives (omega arith) (omega arith))
      (omega arith) in
      get_or-take 2048 (drop (2048 * m) xs) b false inside ∙ get_or-drop (2048 * m) xs b false
      ∙ ap (λ (i : ℕ). get_or xs i false) (sym number)
      ∙ sym (get_or-take 64 (drop (64 * n) xs) (b % 64) false (omega arith)
      ∙ get_or-drop (64 * n) xs (b % 64) false)
      ∙ sym (block-bit (word_bit s.link.params octets n) (take 64 (drop (64 * n) xs)) (b % 64))
      ∙ sym (ap (λ (l : List Bool). get_or l (2 + b % 64) false) block_is)
      ∙ sym (ap₂ (λ (i o : ℕ). get_or (sent_at s (wire_of s lane) i) o false) tick place)

  -- a bit that differs was inverted
  inverted-of : (b : ℕ) → b < 2048 → differs read_one sent_one b ≡ true
      → IsInverted s lane (index_of b)
  inverted-of b inside other =
      let e = edges s h t lane c in
      let i : ℕ = index_of b in
      let is = index-is b in
      let comes = in-time b inside in
      let clear = burst.untouched in
      let up = comes.0 in
      let low = comes.1 in
      let wide : width s.link.params ≡ 66 = rw c.mode refl in
      let same : delay_at s lane (i / 66) ≡ delay_at s lane h =
      delay-same s lane h (i / 66) (omega arith) (λ x a z. clear.no_event x a (omega arith)) in
      let in_force : delay_at s lane (i / width s.link.params) ≡ delay_at s lane h =
      ap (λ (w : ℕ). delay_at s lane (i / w)) wide ∙ same in
      elim (cases_Bool (is_inverted s lane i)) [
        | inl flipped ↦ record { of_link = c.below; sent = omega arith; flipped = flipped }
        | inr upright ↦
            let number : 66 * (i / 66) + i % 66 ≡ i = omega arith in
            let sent_is : 66 * (i / 66) + i % 66 - delay_at s lane h ≡ 66 * tick_of b
            + (2 + b % 64) = omega arith in
            let equal : get_or read_one b false ≡ get_or sent_one b false =
            read-bit b inside
            ∙ bit-upright s lane h t (i / 66) (i % 66) e c.mode c.below
            (burst.set_as_wired.polarity lane c.below) clear up low (omega arith)
            (omega arith) (λ inv.
            let f = inv.flipped in
            let g : is_inverted s lane i ≡ true = ap (is_inverted s lane) (sym number) ∙ f in
            absurd (cc))
            ∙ ap (sent_bit s (wire_of s lane)) sent_is ∙ sym (sent-bit b inside) in
            let none = no-difference read_one sent_one b equal in
            absurd (cc)
      ]

  -- it is this payload bit of its multiblock
  abbrev bit_at_place : ℕ → PayloadBit
  bit_at_place b = record { multiblock = k.sent.q + 32 * j; bit = b }

  receives : (b : ℕ) → b < 2048 → ReceivesBit s lane (index_of b) (bit_at_place b)
  receives b inside =
      let e = edges s h t lane c in
      let i : ℕ = index_of b in
      let is = index-is b in
      let comes = in-time b inside in
      let up = comes.0 in
      let low = comes.1 in
      let clear = burst.untouched in
      let same : delay_at s lane (i / 66) ≡ delay_at s lane h =
      delay-same s lane h (i / 66) (omega arith) (λ x a z. clear.no_event x a (omega arith)) in
      let sent_is : i - delay_at s lane (i / 66) ≡ 66 * tick_of b + (2 + b % 64) = omega arith in
      let tick : (i - delay_at s lane (i / 66)) / 66 ≡ tick_of b = omega arith in
      let q : ℕ = tick_of b in
      let step = k.sent.step in
      let by : q ≤ t = omega arith in
      let gives = gives-since s Tx t q k.sent.edge k.sent.gives (omega arith) by in
      let deep : ((q - x0) % period s.link.params) % 32 ≡ (q - x0) % 32 =
      ap (λ (z : ℕ). ((q - x0) % z) % 32)
      (period-c s.link.params (not-b s.link.params.mode c.mode))
      ∙ mod-both (q - x0) s.link.params.e in
      record {
        place = (q - x0) % period s.link.params;
        phase = ap (phase s Tx) tick ∙ phase-of s Tx q k.sent.edge e.regular gives;
        began = omega arith;
        behind_header = omega arith;
        number = omega arith;
      }

  near : (a b : ℕ) → differs read_one sent_one a ≡ true → differs read_one sent_one b ≡ true
      → a ≤ b + 8
  near a b one two =
      let wide : width s.link.params ≡ 66 = rw c.mode refl in
      let lr = read-long in
      let ls = sent-long in
      let within : (n : ℕ) → differs read_one sent_one n ≡ true → n < 2048 =
      λ n other. elim (cases_lt n 2048) [
        | inl under ↦ under
        | inr beyond ↦ let none = no-difference read_one sent_one n (past read_one n (omega arith)
            ∙ sym (past sent_one n (omega arith))) in absurd (cc)
      ] in
      let comes : (n : ℕ) → n < 2048 → (h < index_of n / width s.link.params)
      × (index_of n / width s.link.params ≤ t) = λ n under. rw wide (in-time n under) in
      burst.near lane (index_of a) (index_of b) (bit_at_place a) (bit_at_place b)
      (comes a (within a one)) (comes b (within b two))
      (inverted-of a (within a one) one) (inverted-of b (within b two) two)
      (receives a (within a one)) (receives b (within b two)) refl

  -- the headers of the next multiblock
  next-headers : map header (multiblock_at p bs (j + 1)) ≡ map header_of
      (word_of s.link.params (payload_of octets) (suc m))
  next-headers =
      let xs : List Bool = payload_of octets in
      let w : List Bool = word_of s.link.params xs (suc m) in
      let blocks = multiblock_at p bs (j + 1) in
      let long = length-multiblock p bs (j + 1) in
      let word_long = length-word s.link.params xs (suc m) (not-b s.link.params.mode c.mode) in
      let one = length-map blocks header in
      let two = length-map w header_of in
      let step = k.sent.step in
      ext_get_or BadHeader (map header blocks) (map header_of w) (omega arith) (λ i inside.
      let n : ℕ = 32 * (j + 1) + i in
      let number : k.sent.q + n - x0 ≡ 32 * suc m + i = omega arith in
      let a : (32 * suc m + i) / 32 ≡ suc m = omega arith in
      let b : (32 * suc m + i) % 32 ≡ i = omega arith in
      get_or-map header blocks i [] BadHeader (omega arith)
      ∙ ap header (block-of-multiblock p bs (j + 1) i (omega arith))
      ∙ header-front (drop (p.first + 66 * n) bs)
      ∙ header-read s h t lane c p k n (omega arith) (omega arith) (omega arith)
      ∙ ap (λ (z : ℕ). header_of (word_bit s.link.params octets z)) number
      ∙ ap₂ (λ (y z : ℕ). header_of (get_or (word_of s.link.params xs y) z false)) a b
      ∙ sym (get_or-map header_of w i false BadHeader (omega arith)))

  checked-here : checked_of s.link.params.mode (multiblock_at p bs j) (multiblock_at p bs (j + 1))
      ≡ checked CFec read_one (check CFec sent_one)
  checked-here =
      let mode = s.link.params.mode in
      ap (checked_by mode read_one) (ap (received_check mode) next-headers
      ∙ check-carried s.link.params (payload_of octets) m (not-b mode c.mode))
      ∙ checked-is mode read_one (check mode sent_one)
      ∙ ap (λ (z : Mode). checked z read_one (check z sent_one)) burst.fec

  fec-not-b : CFec ≢ B
  fec-not-b e = let bad : CFec ≡ B = e in cc

  marked : (mk : Mark)
      → checked_of s.link.params.mode (multiblock_at p bs j) (multiblock_at p bs (j + 1))
      ≡ record { mark = mk; payload = sent_one } → Clean s h t → mk ≡ Good
  marked mk is clean =
      let r = are-read-clean s h t lane c p k clean j later from whole in
      ap (λ (x : Checked). x.mark) (sym is) ∙ ap (λ (x : Checked). x.mark) r.is ∙ r.clean clean

  fixed-not-bad : Fixed ≢ Bad
  fixed-not-bad e = let bad : Fixed ≡ Bad = e in cc

  good-not-bad : Good ≢ Bad
  good-not-bad e = let bad : Good ≡ Bad = e in cc

  pub read-here : IsRead s h t lane c p k j
  read-here =
      let lr = read-long in
      let ls = sent-long in
      elim (burst-between read_one sent_one (check CFec sent_one) lr ls (parity-length sent_one)
      near) [
        | inl same ↦
            let is : checked_of s.link.params.mode (multiblock_at p bs j)
            (multiblock_at p bs (j + 1)) ≡ record { mark = Good; payload = sent_one } =
            checked-here ∙ ap (λ (l : List Bool). checked CFec l (check CFec sent_one)) same
            ∙ checked-ok CFec sent_one fec-not-b (omega arith) in
            record { mark = Good; is = is; not_bad = good-not-bad; clean = marked Good is }
        | inr b ↦
            let is : checked_of s.link.params.mode (multiblock_at p bs j)
            (multiblock_at p bs (j + 1)) ≡ record { mark = Fixed; payload = sent_one } =
            checked-here ∙ burst-fixed read_one sent_one lr ls b in
            record { mark = Fixed; is = is; not_bad = fixed-not-bad; clean = marked Fixed is }
      ]

pub reads-bursts : (s : Plan) (h t lane : ℕ) (c : InSessionC s h t lane) → OneBurst s h t
    → (p : Place) (k : Holds s h t lane t p) → AreRead s h t lane c p k
reads-bursts s h t lane c burst p k j later from whole =
    read-here s h t lane c burst p k j later from whole
