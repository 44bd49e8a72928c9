-- The blocks behind a start, as the checks judge them, and their cells: the octets that were handed
-- in, where the checks find the payloads as they were sent.
use Rattle.std.proofs.Common.{◌≡◌, ◌≢◌, ℕ, suc, ◌+◌, ◌-◌, ◌*◌, ◌/◌, ◌%◌, ◌<◌, ◌≤◌, Bool, true, false, List, [], length, drop, take, get_or, slice_index, reverse, refl, sym, ap, ap₂, ◌∙◌, arith}
use Rattle.std.proofs.lemmas.List.{drop-drop, drop-take, get_or-map, take-take}
use Rattle.jesd_base.specs.Bits.{value}
use Rattle.link_params.specs.declared.alarms.Device.TheVariants.{Tx}
use Rattle.link_params.specs.declared.cells.LaneCell.{LaneCell}
use Rattle.link_params.specs.declared.cells.Mark.{Mark}
use Rattle.link_params.specs.declared.cells.Mark.TheVariants.{Ok as Good, Fixed, Bad}
use Rattle.link_params.specs.Lanes.{worse}
use Rattle.scenario.specs.Plans.{Plan, numbers_from}
use Rattle.link_model.specs.Edges.{edge_tick}
use Rattle.link_model.proofs.NumberLists.{get_or-numbers, length-numbers}
use Rattle.lane_scramble.specs.Scrambling.{descrambled}
use Rattle.block_66b.specs.Blocks.{header}
use Rattle.block_66b.specs.declared.sync_bit.SyncBit.{SyncBit}
use Rattle.multiblock.specs.Places.{Place}
use Rattle.lane_c.specs.Sent.{part_of, payload_of}
use Rattle.lane_c.specs.Statuses.{Checked, Judged, known_blocks, status_of}
use Rattle.lane_c.specs.Received.{cell, lanes_c}
use Rattle.link_model.specs.Sessions.{at}
use Rattle.link_model.specs.Wiring.{wire_of}
use Rattle.link_laws.specs.Premises.{Clean}
use Rattle.link_laws.proofs.SessionStages.{first-high, first-low}
use Rattle.link_laws_c.proofs.CleanMultiblocks.{block-of-multiblock, multiblock-ok}
use Rattle.link_laws_c.proofs.DescrambledBlocks.{block-value}
use Rattle.link_laws_c.proofs.HandedWords.{handed-below}
use Rattle.link_laws_c.proofs.HeaderLists.{header_of}
use Rattle.link_laws_c.proofs.Held.{InSessionC, edges, on}
use Rattle.link_laws_c.proofs.Holding.{Holds}
use Rattle.link_laws_c.proofs.JudgedBlocks.{block-judged, checked_of, known-get, length-multiblock, multiblock_at}
use Rattle.link_laws_c.proofs.OnGrid.{StandsFor, gives-since}
use Rattle.link_laws_c.proofs.SentBits.{length-octets, sent-block}
use Rattle.link_laws_c.proofs.SentForm.{header-front, header-of-block, word_bit}
use Rattle.link_laws_c.proofs.SentTicks.{octets_from}
use Rattle.link_laws_c.proofs.SessionBits.{header-taken, length-session-bits}
use Rattle.link_laws_c.proofs.SessionWords.{bits_at}

status-good : (b : Bool) (m : Mark) → status_of (header_of b) m ≡ m
status-good true m = refl
status-good false m = refl

-- a part of a part
part-of-part : (xs : List Bool) (j i : ℕ) → i < 32
    → take 64 (drop (i * 64) (part_of xs j)) ≡ take 64 (drop (64 * (32 * j + i)) xs)
part-of-part xs j i inside =
    let rest : List Bool = drop (2048 * j) xs in
    let m : ℕ = 2048 - i * 64 in
    let whole : i * 64 + m ≡ 2048 = omega arith in
    let number : 2048 * j + i * 64 ≡ 64 * (32 * j + i) = omega arith in
    ap (take 64) (ap (λ (n : ℕ). drop (i * 64) (take n rest)) (sym whole)
    ∙ drop-take (i * 64) m rest)
    ∙ take-take 64 m (drop (i * 64) rest) (omega arith)
    ∙ ap (take 64) (drop-drop (i * 64) (2048 * j) xs ∙ ap (λ (n : ℕ). drop n xs) number)

module _ (s : Plan) (h t lane : ℕ) (c : InSessionC s h t lane) (p : Place)
    (k : Holds s h t lane t p) where
  abbrev bs : List Bool
  bs = bits_at lanes_c s lane t

  abbrev x0 : ℕ
  x0 = edge_tick s Tx k.sent.edge

  abbrev octets : List ℕ
  octets = octets_from s (wire_of s lane) x0 (suc t)

  abbrev number_of : ℕ → ℕ
  number_of j = (k.sent.q + 32 * j - x0) / 32

  -- what the check of multiblock j finds: its payload as it was sent, and a mark that is not bad,
  -- and ok on a clean line
  pub record IsRead (j : ℕ) : Type 0 where
    pub mark : Mark
    pub is : checked_of s.link.params.mode (multiblock_at p bs j) (multiblock_at p bs (j + 1))
        ≡ record { mark = mark; payload = part_of (payload_of octets) (number_of j) }
    pub not_bad : mark ≢ Bad
    pub clean : Clean s h t → mark ≡ Good

  -- all multiblocks behind the place's pattern whose checks have come are read so
  abbrev pub AreRead : Type 0
  AreRead = (j : ℕ) → 0 < j → x0 ≤ k.sent.q + 32 * j → p.first + 2112 * (j + 2) ≤ length bs
      → IsRead j

  good-is-not-bad : (m : Mark) → m ≡ Good → m ≢ Bad
  good-is-not-bad m is bad = let no_mark : Good ≡ Bad = sym is ∙ bad in cc

  pub are-read-clean : Clean s h t → AreRead
  are-read-clean clean j later from whole = record {
    mark = Good;
    is = multiblock-ok s h t lane c clean p k j later from whole;
    not_bad = good-is-not-bad Good refl;
    clean = λ x. refl;
  }

  -- a header is good
  pub header-read : (n : ℕ) → 0 < n → x0 ≤ k.sent.q + n → p.first + 66 * suc n ≤ length bs
      → header (drop (p.first + 66 * n) bs)
      ≡ header_of (word_bit s.link.params octets (k.sent.q + n - x0))
  header-read n later from inside =
      let g = on s h t lane c in
      let f = first-low lanes_c s h t g in
      let high = first-high lanes_c s h t g in
      let above = g.above in
      let e = edges s h t lane c in
      let stands = k.sent.stands in
      let long = length-session-bits s h t g lane t (omega arith) (omega arith) e c.mode c.below in
      let there : StandsFor s h lane (p.first + 66 * n) (k.sent.q + n) = omega arith in
      header-taken s h t g lane t (omega arith) (omega arith) e c.mode c.below (p.first + 66 * n)
      (k.sent.q + n) c.damage (omega arith) (omega arith) there
      ∙ ap header (sent-block s (wire_of s lane) (k.sent.q + n) k.sent.edge (suc t) e c.mode (e.wired lane c.below)
      (gives-since s Tx t (k.sent.q + n) k.sent.edge k.sent.gives from (omega arith)) (omega arith))
      ∙ header-of-block (word_bit s.link.params octets (k.sent.q + n - x0)) _

  pub record IsJudged (n : ℕ) : Type 0 where
    pub mark : Mark
    pub is : (d : Judged) → get_or (known_blocks s.link.params.mode p bs) n d
        ≡ record {
          status = mark;
          payload =
              take 64 (drop (64 * (k.sent.q + n - x0)) (payload_of octets));
        }
    pub not_bad : mark ≢ Bad
    pub clean : Clean s h t → mark ≡ Good

  -- block n from the place on is judged so
  judged-of : AreRead → (n : ℕ) → 32 ≤ n → x0 ≤ k.sent.q + 32 * (n / 32)
      → p.first + 2112 * (n / 32 + 2) ≤ length bs → IsJudged n
  judged-of reads n later from whole =
      let j : ℕ = n / 32 in
      let i : ℕ = n % 32 in
      let r : IsRead j = reads j (omega arith) from whole in
      let mode = s.link.params.mode in
      let step = k.sent.step in
      let blocks = multiblock_at p bs j in
      let place : p.first + 66 * (32 * j + i) ≡ p.first + 66 * n = omega arith in
      let head : header (get_or blocks i [])
      ≡ header_of (word_bit s.link.params octets (k.sent.q + n - x0)) =
      ap header (block-of-multiblock p bs j i (omega arith))
      ∙ header-front (drop (p.first + 66 * (32 * j + i)) bs)
      ∙ ap (λ (m : ℕ). header (drop m bs)) place
      ∙ header-read n (omega arith) (omega arith) (omega arith) in
      let number : 32 * number_of j + i ≡ k.sent.q + n - x0 = omega arith in
      let status : status_of (header (get_or blocks i []))
      (checked_of mode blocks (multiblock_at p bs (j + 1))).mark ≡ r.mark =
      ap₂ (λ (x : SyncBit) (y : Checked). status_of x y.mark) head r.is
      ∙ status-good (word_bit s.link.params octets (k.sent.q + n - x0)) r.mark in
      let payload : take 64
      (drop (i * 64) (checked_of mode blocks (multiblock_at p bs (j + 1))).payload)
      ≡ take 64 (drop (64 * (k.sent.q + n - x0)) (payload_of octets)) =
      ap (λ (y : Checked). take 64 (drop (i * 64) y.payload)) r.is
      ∙ part-of-part (payload_of octets) (number_of j) i (omega arith)
      ∙ ap (λ (m : ℕ). take 64 (drop (64 * m) (payload_of octets))) number in
      record {
        mark = r.mark;
        is = λ d. known-get mode p bs n d whole
            ∙ block-judged mode blocks (multiblock_at p bs (j + 1)) i d (length-multiblock p bs j)
            (omega arith)
            ∙ ap₂ (λ (x : Mark) (y : List Bool). let z : Judged =
            record { status = x; payload = y } in z) status payload;
        not_bad = r.not_bad;
        clean = r.clean;
      }

  worse-not-bad : (a b : Mark) → a ≢ Bad → b ≢ Bad → worse a b ≢ Bad
  worse-not-bad Good b x y = y
  worse-not-bad Fixed Good x y = x
  worse-not-bad Fixed Fixed x y = x
  worse-not-bad Fixed Bad x y = y
  worse-not-bad Bad b x y = x

  -- the cell of block n + 1
  pub record IsCell (n : ℕ) (x : LaneCell) : Type 0 where
    pub octets_are : x.value ≡ slice_index (at lanes_c s (k.sent.q + suc n)).handed (wire_of s lane)
    pub not_bad : x.mark ≢ Bad
    pub clean : Clean s h t → x.mark ≡ Good

  pub cell-of : AreRead → (n : ℕ) (d : Judged) → 32 ≤ n → x0 ≤ k.sent.q + 32 * (n / 32)
      → p.first + 2112 * (suc n / 32 + 2) ≤ length bs → k.sent.q + suc n ≤ t
      → IsCell n
      (cell (get_or (known_blocks s.link.params.mode p bs) n d)
      (get_or (known_blocks s.link.params.mode p bs) (suc n) d))
  cell-of reads n d later from whole inside =
      let before = judged-of reads n later from (omega arith) in
      let own = judged-of reads (suc n) (omega arith) (omega arith) whole in
      let xs : List Bool = payload_of octets in
      let m : ℕ = k.sent.q + n - x0 in
      let next : k.sent.q + suc n - x0 ≡ suc m = omega arith in
      let count = length-octets s (wire_of s lane) x0 (suc t) in
      let f : ℕ → ℕ = λ q. slice_index (at lanes_c s q).handed (wire_of s lane) in
      let long = length-numbers (suc t) x0 in
      let tick : x0 + suc m ≡ k.sent.q + suc n = omega arith in
      let handed : get_or octets (suc m) 0 ≡ slice_index (at lanes_c s (k.sent.q + suc n)).handed
      (wire_of s lane) =
      get_or-map f (numbers_from x0 (suc t)) (suc m) 0 0 (omega arith)
      ∙ ap f (get_or-numbers (suc t) (suc m) x0 0 (omega arith) ∙ tick) in
      let small = handed-below s (k.sent.q + suc n) (wire_of s lane) c.mode in
      let a = before.is d in
      let b = own.is d in
      record {
        octets_are =
            ap₂ (λ (x y : Judged). (cell x y).value) a b
            ∙ ap (λ (z : ℕ). value
            (descrambled 39 58 (reverse (take 64 (drop (64 * m) xs))) (take 64 (drop (64 * z) xs))))
            next
            ∙ block-value octets m (omega arith) (omega (arith, handed, small)) ∙ handed;
        not_bad = λ bad. worse-not-bad own.mark before.mark own.not_bad before.not_bad
            (sym (ap₂ (λ (x y : Judged). (cell x y).mark) a b) ∙ bad);
        clean = λ is. ap₂ (λ (x y : Judged). (cell x y).mark) a b
            ∙ ap₂ worse (own.clean is) (before.clean is);
      }
