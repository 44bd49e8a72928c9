-- The entries of a 64b/66b lane hold octets with the marks that these are due, and so each
-- delivered frame has the mark that it is due.
use Rattle.std.proofs.Common.{◌≡◌, ℕ, suc, ◌+◌, ◌-◌, ◌*◌, ◌/◌, ◌<◌, ◌≤◌, false, List, [], length, map, take, drop, get_or, slice_get, Option, Some, None, inl, inr, refl, sym, ap, ap₂, ◌∙◌, arith}
use Rattle.std.proofs.lemmas.Bool.{cases_Bool, cond-false, cond-true}
use Rattle.std.proofs.lemmas.List.{get_or-drop, get_or-map, get_or-take, length-drop, length-map, length-take}
use Rattle.std.proofs.lemmas.Option.{slice_get-get_or}
use Rattle.std.proofs.lemmas.Simd.{map-map}
use Rattle.jesd_base.specs.Bits.{bits, value}
use Rattle.link_params.specs.declared.cells.LaneCell.{LaneCell}
use Rattle.link_params.specs.declared.cells.Mark.{Mark}
use Rattle.link_params.specs.declared.fields.Params.{Params}
use Rattle.link_params.specs.declared.fields.Timing.{Timing}
use Rattle.link_params.specs.Lanes.{Entry, Held, Placed, Taken, is_inside, worse}
use Rattle.link_params.specs.Laws.{is_b}
use Rattle.link_params.specs.Numbers.{octets_per_tick, period}
use Rattle.link_params.proofs.LawFacts.{legal_sizes}
use Rattle.multiblock.specs.Places.{Place}
use Rattle.lane_c.specs.Locking.{bits_taken, leaves, offset_of, place, start}
use Rattle.lane_c.specs.Received.{cell, cells, cells_left, entries_c, entries_from, entries_of, lanes_c}
use Rattle.lane_c.specs.kept.Receivers.{no_block}
use Rattle.lane_c.specs.Statuses.{Judged, known_blocks}
use Rattle.lane_c.proofs.Starting.{start-locked}
use Rattle.scenario.specs.Plans.{Plan, numbers_from}
use Rattle.link_model.specs.kept.Before.{no_cell}
use Rattle.link_model.specs.Gives.{octets_in}
use Rattle.link_model.specs.Run.{run}
use Rattle.link_model.specs.Sessions.{taken_at}
use Rattle.link_model.specs.Wiring.{route_of}
use Rattle.link_model.proofs.Depth.{depth-run, tick-outcome}
use Rattle.link_model.proofs.FactsC.{facts-c}
use Rattle.link_model.proofs.NextMoment.{took}
use Rattle.link_model.proofs.NumberLists.{map-numbers}
use Rattle.link_model.proofs.WindowFacts.{legal}
use Rattle.link_laws.specs.Laws.{IsPlanRead}
use Rattle.link_laws.proofs.Delivered.{length-octets, took-is}
use Rattle.link_laws.proofs.DeliveredMarks.{AreMarked, IsMarkedEntry, marks-hold}
use Rattle.link_laws.proofs.EntryShapes.{shifted}
use Rattle.link_laws.proofs.OrdersGo.{ilas_ticks}
use Rattle.link_laws_c.specs.CheckedC.{checked_c, mark_from, mark_of_block, mark_since, status_at}
use Rattle.link_laws_c.specs.LaneLawsC.{MarksC}
use Rattle.link_laws_c.proofs.JudgedBlocks.{cells-get, cells-length}

-- ---- one entry

-- the octets of a cell have its mark
octets-marked : (p : Params) (c : LaneCell) (due : ℕ → Mark) (j : ℕ)
    → ((i : ℕ) → i < octets_per_tick p → c.mark ≡ due (octets_per_tick p * j + i))
    → map (λ (o : LaneCell). o.mark) (octets_in p c)
    ≡ map due (numbers_from (octets_per_tick p * j) (length (octets_in p c)))
octets-marked p c due j each =
    let n : ℕ = octets_per_tick p in
    map-map (λ (o : LaneCell). o.mark)
    (λ i. let y : LaneCell =
    record { value = value (take 8 (drop (8 * i) (bits (8 * n) c.value))); mark = c.mark } in y)
    (numbers_from 0 n)
    ∙ map-numbers (λ i. c.mark) (λ i. due (n * j + i)) n 0 (λ i below. each i (omega arith))
    ∙ sym (shifted n (n * j) due)
    ∙ ap (λ (m : ℕ). map due (numbers_from (n * j) m)) (sym (length-octets p c))

held-marked : (p : Params) (es : List Entry) (due : ℕ → Mark) (j : ℕ) (c : LaneCell)
    → is_b p.mode ≡ false → slice_get es j ≡ Some (Held c)
    → ((i : ℕ) → i < octets_per_tick p → c.mark ≡ due (octets_per_tick p * j + i))
    → IsMarkedEntry due p es j
held-marked p es due j c mode found each =
    let none : ilas_ticks p ≡ 0 = cond-false (is_b p.mode) (4 * period p) 0 mode in
    let same : j ≡ j - ilas_ticks p = omega arith in
    record {
      entry = Held c;
      found = found;
      shaped = omega arith;
      marked = octets-marked p c due j each
          ∙ ap (λ (k : ℕ). map due (numbers_from (octets_per_tick p * k) (length (octets_in p c))))
          same;
    }

-- ---- the cells that left

-- a cell that left, with the mark of its block
record IsCellOf (p : Params) (taken : List Taken) (x : Place) (n j : ℕ) : Type 0 where
  held : LaneCell
  found : slice_get (map Held (cells_left p taken x n)) j ≡ Some (Held held)
  mark : held.mark ≡ mark_of_block p taken x (n + j)

left-cell : (p : Params) (taken : List Taken) (x : Place) (n j : ℕ) → 1 ≤ n
    → j < length (cells_left p taken x n) → IsCellOf p taken x n j
left-cell p taken x n j some inside =
    let all : List Judged = known_blocks p.mode x (bits_taken taken) in
    let rest : List Judged = drop (n - 1) all in
    let rest_long = length-drop (n - 1) all in
    let cs : List LaneCell = cells rest in
    let cs_long = cells-length rest in
    let count : ℕ = length taken - leaves x n in
    let left : List LaneCell = cells_left p taken x n in
    let left_long : length left ≡ _ = length-take count cs in
    let held_long = length-map left Held in
    let own : n - 1 + suc j ≡ n + j = omega arith in
    let before : n + j - 1 ≡ n - 1 + j = omega arith in
    let status : (i : ℕ) → i < length all → status_at p taken x i ≡ (get_or all i no_block).status =
    λ i below. get_or-map (λ (b : Judged). b.status) all i no_block no_block.status below in
    let is : get_or left j no_cell ≡ cell (get_or all (n - 1 + j) no_block)
    (get_or all (n + j) no_block) =
    get_or-take count cs j no_cell (omega arith)
    ∙ cells-get rest j no_block no_cell (omega arith)
    ∙ ap₂ cell (get_or-drop (n - 1) all j no_block)
    (get_or-drop (n - 1) all (suc j) no_block ∙ ap (λ (i : ℕ). get_or all i no_block) own) in
    record {
      held = get_or left j no_cell;
      found = slice_get-get_or (map Held left) j Placed (omega arith)
          ∙ ap Some (get_or-map Held left j no_cell Placed inside);
      mark = ap (λ (c : LaneCell). c.mark) is
          ∙ sym (ap₂ worse (status (n + j) (omega arith))
          (ap (status_at p taken x) before ∙ status (n - 1 + j) (omega arith)));
    }

-- ---- all entries

-- where a lane has entries, it holds a place and started inside its window
record HasBegun (p : Params) (taken : List Taken) (es : List Entry) : Type 0 where
  at : Place
  n : ℕ
  placed : place p.e taken ≡ Some at
  begins : start p.e taken at ≡ Some n
  entries : es ≡ map Held (cells_left p taken at n)

begun-by : (p : Params) (t : Timing) (taken : List Taken) (x : Place) (o : Option ℕ) (j : ℕ)
    → place p.e taken ≡ Some x → start p.e taken x ≡ o
    → j < length (entries_from p t taken x o) → HasBegun p taken (entries_from p t taken x o)
begun-by p t taken x None j placed begins inside = absurd (omega arith)
begun-by p t taken x (Some n) j placed begins inside =
    let es : List Entry = map Held (cells_left p taken x n) in
    elim (cases_Bool (is_inside t (offset_of taken x n))) [
      | inl i ↦ record {
        at = x;
        n = n;
        placed = placed;
        begins = begins;
        entries = cond-true (is_inside t (offset_of taken x n)) es [] i;
      }
      | inr o ↦ let none = ap length (cond-false (is_inside t (offset_of taken x n)) es [] o) in
          absurd (omega arith)
    ]

begun-at : (p : Params) (t : Timing) (taken : List Taken) (o : Option Place) (j : ℕ)
    → place p.e taken ≡ o → j < length (entries_of p t taken o)
    → HasBegun p taken (entries_of p t taken o)
begun-at p t taken None j placed inside = absurd (omega arith)
begun-at p t taken (Some x) j placed inside =
    begun-by p t taken x (start p.e taken x) j placed refl inside

-- the block of octet i of those of a tick
block-of : (octets b j i : ℕ) → octets ≡ 8 → i < octets → b + j ≡ b + (octets * j + i) / 8
block-of octets b j i eight below =
    let here : b + j ≡ b + (8 * j + i) / 8 = omega arith in
    here ∙ ap (λ (n : ℕ). b + (n * j + i) / 8) (sym eight)

entries-marked : (p : Params) (t : Timing) (lane : ℕ) (taken : List Taken) (j : ℕ)
    → is_b p.mode ≡ false → j < length (entries_c p t lane taken)
    → IsMarkedEntry (checked_c p taken) p (entries_c p t lane taken) j
unfolding entries_c checked_c
entries-marked p t lane taken j mode inside =
    let b = begun-at p t taken (place p.e taken) j refl inside in
    let left : List LaneCell = cells_left p taken b.at b.n in
    let many = ap length b.entries in
    let held_long = length-map left Held in
    let locked = start-locked p.e taken b.at b.n b.begins in
    let c = left-cell p taken b.at b.n j (omega arith) (omega arith) in
    let eight : octets_per_tick p ≡ 8 = cond-false (is_b p.mode) 1 8 mode in
    held-marked p (entries_c p t lane taken) (checked_c p taken) j c.held mode
    (ap (λ (es : List Entry). slice_get es j) b.entries ∙ c.found)
    (λ i below.
    let block = block-of (octets_per_tick p) b.n j i eight below in
    c.mark ∙ ap (mark_of_block p taken b.at) block
    ∙ sym (ap (mark_from p taken (octets_per_tick p * j + i)) b.placed
    ∙ ap (mark_since p taken (octets_per_tick p * j + i) b.at) b.begins))

-- ---- the law

marked-c : (s : Plan) → IsPlanRead s → is_b s.link.params.mode ≡ false
    → AreMarked lanes_c checked_c s
marked-c s read mode t lane j below runs inside =
    let p = s.link.params in
    let h = run lanes_c s t in
    let facts = facts-c p s.link.timing mode in
    let o = tick-outcome lanes_c s h lane facts (legal p s.link.timing read.laws read.timing) below
    (depth-run lanes_c t s lane facts read.laws read.timing below) in
    let more = o.gives runs in
    let taken : taken_at lanes_c s lane t ≡ took lanes_c s h lane = took-is lanes_c s t lane in
    rw taken (entries-marked p s.link.timing (route_of s lane) (took lanes_c s h lane) j mode (omega arith))

pub marks-c : MarksC
marks-c s read mode =
    let sizes = legal_sizes s.link.params read.laws in
    let lanes = sizes.l_low in
    let octets = sizes.f_low in
    marks-hold lanes_c checked_c s (omega arith) (omega arith) (marked-c s read mode)
