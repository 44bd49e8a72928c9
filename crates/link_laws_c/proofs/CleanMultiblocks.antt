-- On a clean line a multiblock of the held place is read as it was sent, and its check finds it ok.
use Rattle.std.proofs.Common.{◌≡◌, ℕ, suc, ◌+◌, ◌-◌, ◌*◌, ◌/◌, ◌%◌, ◌<◌, ◌≤◌, Bool, false, List, [], map, length, drop, take, get_or, Option, Some, refl, sym, ap, ap₂, ◌∙◌, arith}
use Rattle.std.proofs.lemmas.List.{drop-drop, drop-take, ext_get_or, get_or-map, length-drop, length-map, length-take, take-take}
use Rattle.std.specs.List.{flat_map}
use Rattle.link_params.specs.declared.alarms.Device.TheVariants.{Tx}
use Rattle.link_params.specs.declared.cells.Mark.TheVariants as mark
use Rattle.link_params.specs.declared.fields.Mode.{Mode}
use Rattle.scenario.specs.Plans.{Plan}
use Rattle.link_model.specs.Edges.{edge_tick}
use Rattle.link_model.specs.Wiring.{wire_of}
use Rattle.block_66b.specs.declared.sync_bit.SyncBit.TheVariants.{Bad}
use Rattle.block_66b.specs.Blocks.{header}
use Rattle.multiblock.specs.Places.{Place}
use Rattle.lane_c.specs.Sent.{check, part_of, payload_of, word_of}
use Rattle.lane_c.specs.Statuses.{checked, checked_by, received_check}
use Rattle.lane_c.specs.Received.{lanes_c}
use Rattle.lane_c.proofs.SentBlocks.{length-payload, length-word}
use Rattle.link_laws.specs.Premises.{Clean}
use Rattle.link_laws.proofs.SessionStages.{first-high, first-low}
use Rattle.link_laws_c.proofs.HeaderLists.{header_of, pieces-get}
use Rattle.link_laws_c.proofs.Held.{InSessionC, edges, on}
use Rattle.link_laws_c.proofs.Holding.{Holds}
use Rattle.link_laws_c.proofs.JudgedBlocks.{checked_of, length-multiblock, multiblock_at}
use Rattle.link_laws_c.proofs.OnGrid.{block-of-place}
use Rattle.link_laws_c.proofs.ReceivedChecks.{check-carried, checked-ok, payload-of-blocks}
use Rattle.link_laws_c.proofs.SentBits.{block_of, length-octets, not-b}
use Rattle.link_laws_c.proofs.SentForm.{header-of-block, word_bit}
use Rattle.link_laws_c.proofs.SentTicks.{octets_from}
use Rattle.link_laws_c.proofs.SessionBits.{length-session-bits}
use Rattle.link_laws_c.proofs.SessionWords.{bits_at}

-- with a check that was received
pub checked-is : (mode : Mode) (payload c : List Bool)
    → checked_by mode payload (Some c) ≡ checked mode payload c
unfolding checked_by
checked-is mode payload c = refl

-- block i of multiblock j of a place
pub block-of-multiblock : (p : Place) (bs : List Bool) (j i : ℕ) → i < 32
    → get_or (multiblock_at p bs j) i [] ≡ take 66 (drop (p.first + 66 * (32 * j + i)) bs)
block-of-multiblock p bs j i inside =
    let rest : List Bool = drop (j * 2112) (drop p.first bs) in
    let m : ℕ = 2112 - i * 66 in
    let whole : i * 66 + m ≡ 2112 = omega arith in
    pieces-get 32 66 i (take 2112 rest) [] inside
    ∙ ap (take 66) (ap (λ (n : ℕ). drop (i * 66) (take n rest)) (sym whole)
    ∙ drop-take (i * 66) m rest)
    ∙ take-take 66 m (drop (i * 66) rest) (omega arith)
    ∙ ap (take 66) (drop-drop (i * 66) (j * 2112) (drop p.first bs)
    ∙ drop-drop (j * 2112 + i * 66) p.first bs
    ∙ ap (λ (n : ℕ). drop n bs)
    (let z : p.first + (j * 2112 + i * 66) ≡ p.first + 66 * (32 * j + i) = omega arith in z))

module _ (s : Plan) (h t lane : ℕ) (c : InSessionC s h t lane) (clean : Clean s h t) (p : Place)
    (k : Holds s h t lane t p) where
  abbrev bs : List Bool
  bs = bits_at lanes_c s lane t

  -- the tick of the edge, and the octets of all ticks since
  abbrev pub x0 : ℕ
  x0 = edge_tick s Tx k.sent.edge

  abbrev pub octets : List ℕ
  octets = octets_from s (wire_of s lane) x0 (suc t)

  -- multiblock j of the place is this one of the transmission
  abbrev pub number_of : ℕ → ℕ
  number_of j = (k.sent.q + 32 * j - x0) / 32

  -- block i of multiblock j, as it was sent
  block-is : (j i : ℕ) → 0 < j → x0 ≤ k.sent.q + 32 * j → i < 32
      → p.first + 2112 * suc j ≤ length bs
      → get_or (multiblock_at p bs j) i [] ≡ block_of s.link.params octets (32 * number_of j + i)
  block-is j i later from inside whole =
      let g = on s h t lane c in
      let f = first-low lanes_c s h t g in
      let above = g.above in
      let step = k.sent.step in
      let number : k.sent.q + (32 * j + i) - x0 ≡ 32 * number_of j + i = omega arith in
      let high = first-high lanes_c s h t g in
      block-of-multiblock p bs j i inside
      ∙ block-of-place s h t g lane t (omega arith) (omega arith) (edges s h t lane c) c.mode
      c.below c.damage p.first k.sent.q k.sent.edge (32 * j + i) clean k.sent.gives
      (omega arith) k.sent.stands
      (omega arith) (omega arith)
      ∙ ap (block_of s.link.params octets) number

  -- the payload that is read
  payload-read : (j : ℕ) → 0 < j → x0 ≤ k.sent.q + 32 * j → p.first + 2112 * suc j ≤ length bs
      → flat_map (drop 2) (multiblock_at p bs j) ≡ part_of (payload_of octets) (number_of j)
  payload-read j later from whole =
      let xs : List Bool = payload_of octets in
      let m : ℕ = 32 * number_of j in
      let long = length-multiblock p bs j in
      let n : 64 * length (multiblock_at p bs j) ≡ 2048 = omega arith in
      let at_part : 64 * m ≡ 2048 * number_of j = omega arith in
      payload-of-blocks (multiblock_at p bs j) xs (λ i. word_bit s.link.params octets (m + i)) m
      (λ i inside. block-is j i later from (omega arith) whole)
      ∙ ap₂ (λ (a b : ℕ). take a (drop b xs)) n at_part

  -- the headers that are read
  headers-read : (j : ℕ) → 0 < j → x0 ≤ k.sent.q + 32 * j → p.first + 2112 * suc j ≤ length bs
      → map header (multiblock_at p bs j) ≡ map header_of
      (word_of s.link.params (payload_of octets) (number_of j))
  headers-read j later from whole =
      let xs : List Bool = payload_of octets in
      let w : List Bool = word_of s.link.params xs (number_of j) in
      let long = length-multiblock p bs j in
      let word_long = length-word s.link.params xs (number_of j)
      (not-b s.link.params.mode c.mode) in
      let one = length-map (multiblock_at p bs j) header in
      let two = length-map w header_of in
      ext_get_or Bad (map header (multiblock_at p bs j)) (map header_of w) (omega arith)
      (λ i inside.
      let m : ℕ = 32 * number_of j + i in
      let a : m / 32 ≡ number_of j = omega arith in
      let b : m % 32 ≡ i = omega arith in
      get_or-map header (multiblock_at p bs j) i [] Bad (omega arith)
      ∙ ap header (block-is j i later from (omega arith) whole)
      ∙ header-of-block (word_bit s.link.params octets m) _
      ∙ ap₂ (λ (y z : ℕ). header_of (get_or (word_of s.link.params xs y) z false)) a b
      ∙ sym (get_or-map header_of w i false Bad (omega arith)))

  -- its check says ok
  pub multiblock-ok : (j : ℕ) → 0 < j → x0 ≤ k.sent.q + 32 * j
      → p.first + 2112 * (j + 2) ≤ length bs
      → checked_of s.link.params.mode (multiblock_at p bs j) (multiblock_at p bs (j + 1))
      ≡ record { mark = mark.Ok; payload = part_of (payload_of octets) (number_of j) }
  multiblock-ok j later from whole =
      let mode = s.link.params.mode in
      let xs : List Bool = payload_of octets in
      let g = on s h t lane c in
      let above = g.above in
      let high = first-high lanes_c s h t g in
      let next : number_of (j + 1) ≡ suc (number_of j) = omega arith in
      let part : List Bool = part_of xs (number_of j) in
      let l = length-payload octets in
      let count = length-octets s (wire_of s lane) x0 (suc t) in
      let rest = length-drop (2048 * number_of j) xs in
      let step = k.sent.step in
      let bits_long = length-session-bits s h t g lane t (omega arith) (omega arith)
      (edges s h t lane c) c.mode c.below in
      let stands = k.sent.stands in
      let f = first-low lanes_c s h t g in
      let in_range : number_of j < suc t = omega arith in
      let long : 0 < length part =
      (let n = length-take 2048 (drop (2048 * number_of j) xs) in omega arith) in
      ap₂ (λ (x : List Bool) (y : Option (List Bool)). checked_by mode x y)
      (payload-read j later from (omega arith))
      (ap (received_check mode) (headers-read (j + 1) (omega arith) (omega arith) (omega arith)
      ∙ ap (λ (n : ℕ). map header_of (word_of s.link.params xs n)) next)
      ∙ check-carried s.link.params xs (number_of j) (not-b mode c.mode))
      ∙ checked-is mode part (check mode part) ∙ checked-ok mode part (not-b mode c.mode) long
