-- The entries of an 8b/10b lane hold octets with the marks that these are due, and so each
-- delivered frame has the mark that it is due.
use Rattle.std.proofs.Common.{◌≡◌, ℕ, zero, suc, ◌+◌, ◌-◌, ◌*◌, ◌<◌, ◌≤◌, List, [], ◌∷◌, length, map, take, drop, get_or, slice_get, Option, Some, None, inl, inr, refl, sym, ap, ap₂, ◌∙◌, length-append, length-drop, length-take, arith}
use Rattle.std.proofs.lemmas.Bool.{cases_Bool, cases_lt, cond-false, cond-true}
use Rattle.std.proofs.lemmas.List.{get_or-map, length-map}
use Rattle.std.proofs.lemmas.Option.{slice_get-get_or}
use Rattle.std.proofs.lemmas.Simd.{map-map}
use Rattle.circular_buffer.proofs.Places.{slice_get-append_left, slice_get-append_right}
use Rattle.jesd_base.specs.Bits.{bits, value}
use Rattle.link_params.specs.declared.cells.LaneCell.{LaneCell}
use Rattle.link_params.specs.declared.cells.Mark.{Mark}
use Rattle.link_params.specs.declared.fields.Mode.TheVariants.{B}
use Rattle.link_params.specs.declared.fields.Params.{Params}
use Rattle.link_params.specs.declared.fields.Timing.{Timing}
use Rattle.link_params.specs.Lanes.{Entry, Held, Placed, Taken}
use Rattle.link_params.specs.Numbers.{octets_per_tick}
use Rattle.link_params.specs.Laws.{is_b}
use Rattle.link_params.proofs.LawFacts.{legal_sizes}
use Rattle.code_8b10b.specs.declared.character.Reading.{Reading}
use Rattle.lane_b.specs.Locking.{Lock, lock, since_start, start_of}
use Rattle.lane_b.specs.Loss.{ilas_length}
use Rattle.lane_b.specs.Received.{data_cells, entries_b, entries_of, entries_since, is_started_inside, lanes_b}
use Rattle.scenario.specs.Plans.{Plan, numbers_from}
use Rattle.link_model.specs.kept.Before.{no_cell}
use Rattle.link_model.specs.Gives.{octets_in}
use Rattle.link_model.specs.Run.{run}
use Rattle.link_model.specs.Wiring.{route_of}
use Rattle.link_model.proofs.FactsB.{facts-b}
use Rattle.link_model.proofs.NextMoment.{took}
use Rattle.link_model.proofs.WindowFacts.{legal}
use Rattle.link_model.proofs.Depth.{depth-run, tick-outcome}
use Rattle.link_laws.specs.Checked.{checked_b, data_read}
use Rattle.link_laws.specs.Laws.{IsPlanRead, Marks}
use Rattle.link_model.specs.Sessions.{taken_at}
use Rattle.link_laws.proofs.DataMarks.{cell-mark, length-data}
use Rattle.link_laws.proofs.Delivered.{length-octets, took-is}
use Rattle.link_laws.proofs.DeliveredMarks.{AreMarked, IsMarkedEntry, marks-hold}
use Rattle.link_laws.proofs.OrdersGo.{ilas_ticks}

-- ---- one entry

-- the octet of a cell has its mark
octet-marked : (p : Params) (c : LaneCell) (due : ℕ → Mark) (x : ℕ) → p.mode ≡ B → c.mark ≡ due x
    → map (λ (o : LaneCell). o.mark) (octets_in p c)
    ≡ map due (numbers_from (octets_per_tick p * x) (length (octets_in p c)))
unfolding numbers_from
octet-marked p c due x mode is =
    let n : ℕ = octets_per_tick p in
    let one : n ≡ 1 = rw mode refl in
    let long : length (octets_in p c) ≡ 1 = length-octets p c ∙ one in
    let first : 1 * x ≡ x = omega arith in
    let of : ℕ → List Mark = λ k. map (λ (j : ℕ). c.mark) (numbers_from 0 k) in
    map-map (λ (o : LaneCell). o.mark)
    (λ j. let y : LaneCell =
    record { value = value (take 8 (drop (8 * j) (bits (8 * n) c.value))); mark = c.mark } in y)
    (numbers_from 0 n)
    ∙ ap of one
    ∙ ap (λ (m : Mark). m ∷ []) (is ∙ sym (ap due first))
    ∙ sym (ap₂ (λ (k m : ℕ). map due (numbers_from (k * x) m)) one long)

ilas-ticks-b : (p : Params) → p.mode ≡ B → ilas_ticks p ≡ ilas_length p
ilas-ticks-b p mode = rw mode refl

placed-marked : (p : Params) (es : List Entry) (due : ℕ → Mark) (j : ℕ)
    → slice_get es j ≡ Some Placed → j < ilas_ticks p → IsMarkedEntry due p es j
unfolding numbers_from
placed-marked p es due j found early =
    record { entry = Placed; found = found; shaped = early; marked = refl }

held-marked : (p : Params) (es : List Entry) (due : ℕ → Mark) (j : ℕ) (c : LaneCell) → p.mode ≡ B
    → slice_get es j ≡ Some (Held c) → ilas_ticks p ≤ j
    → c.mark ≡ due (j - ilas_ticks p) → IsMarkedEntry due p es j
held-marked p es due j c mode found late is =
    record {
      entry = Held c;
      found = found;
      shaped = late;
      marked =
          octet-marked p c due (j - ilas_ticks p) mode is;
    }

-- ---- the entries since the start

all-placed : (rs : List Reading) (j : ℕ) → get_or (map (λ (r : Reading). Placed) rs) j Placed
    ≡ Placed
all-placed [] j = refl
all-placed (r ∷ rs) zero = refl
all-placed (r ∷ rs) (suc j) = all-placed rs j

since-marked : (p : Params) (since : List Reading) (due : ℕ → Mark) (j : ℕ) → p.mode ≡ B
    → j < length (entries_since p since)
    → ((n : ℕ) → n < length (drop (ilas_length p) since)
    → (get_or (data_cells p (drop (ilas_length p) since)) n no_cell).mark ≡ due n)
    → IsMarkedEntry due p (entries_since p since) j
since-marked p since due j mode inside marked =
    let n : ℕ = ilas_length p in
    let places : List Entry = map (λ r. Placed) (take n since) in
    let cs : List LaneCell = data_cells p (drop n since) in
    let ilas = ilas-ticks-b p mode in
    let taken = length-take n since in
    let left = length-drop n since in
    let whole = length-data p (drop n since) in
    let few : length places ≡ length (take n since) = length-map (take n since) (λ r. Placed) in
    let held : length (map Held cs) ≡ length cs = length-map cs Held in
    let all = length-append places (map Held cs) in
    elim (cases_lt j (length places)) [
      | inl early ↦
          placed-marked p (entries_since p since) due j
          (slice_get-append_left places (map Held cs) j early
          ∙ slice_get-get_or places j Placed early ∙ ap Some (all-placed (take n since) j))
          (omega arith)
      | inr late ↦
          let i : ℕ = j - n in
          let number : j ≡ length places + i = omega arith in
          let same : i ≡ j - ilas_ticks p = omega arith in
          let within : i < length cs = omega arith in
          held-marked p (entries_since p since) due j (get_or cs i no_cell) mode
          (slice_get-append_right places (map Held cs) j i number
          ∙ slice_get-get_or (map Held cs) i Placed (omega arith)
          ∙ ap Some (get_or-map Held cs i no_cell Placed within))
          (omega arith)
          (marked i (omega arith) ∙ ap due same)
    ]

-- where a lane has an entry, it has started inside its window
record HasSince (p : Params) (t : Timing) (taken : List Taken) (o : Option Lock) : Type 0 where
  held : Lock
  is : o ≡ Some held
  entries : entries_of p t taken o ≡ entries_since p (since_start held)

has-since : (p : Params) (t : Timing) (taken : List Taken) (o : Option Lock) (j : ℕ)
    → j < length (entries_of p t taken o) → HasSince p t taken o
has-since p t taken None j inside = absurd (omega arith)
has-since p t taken (Some l) j inside = elim (cases_Bool (is_started_inside t (start_of taken l))) [
  | inl i ↦
      record {
        held = l;
        is = refl;
        entries = cond-true (is_started_inside t (start_of taken l))
            (entries_since p (since_start l)) [] i;
      }
  | inr o ↦ let none =
      ap length
      (cond-false (is_started_inside t (start_of taken l)) (entries_since p (since_start l)) []
      o) in absurd (omega arith)
]

entries-marked : (p : Params) (t : Timing) (lane : ℕ) (taken : List Taken) (j : ℕ) → p.mode ≡ B
    → 1 ≤ p.f → j < length (entries_b p t lane taken)
    → IsMarkedEntry (checked_b p taken) p (entries_b p t lane taken) j
unfolding entries_b
entries-marked p t lane taken j mode some inside =
    let h = has-since p t taken (lock taken) j inside in
    let read : data_read p (lock taken) ≡ drop (ilas_length p) (since_start h.held) =
    ap (data_read p) h.is in
    let many = ap length h.entries in
    let mark : (n : ℕ) → n
    < length (drop (ilas_length p) (since_start h.held))
    → (get_or (data_cells p (drop (ilas_length p) (since_start h.held))) n no_cell).mark
    ≡ checked_b p taken n =
    λ n below. let long = ap length read in
    ap (λ (rs : List Reading). (get_or (data_cells p rs) n no_cell).mark) (sym read)
    ∙ cell-mark p taken n some (omega arith) in
    rw h.entries (since-marked p (since_start h.held) (checked_b p taken) j mode (omega arith) mark)

-- ---- the law

pub marked-b : (s : Plan) → IsPlanRead s → s.link.params.mode ≡ B → AreMarked lanes_b checked_b s
marked-b s read mode t lane j below runs inside =
    let p = s.link.params in
    let h = run lanes_b s t in
    let facts = facts-b p s.link.timing (ap is_b mode) in
    let o = tick-outcome lanes_b s h lane facts (legal p s.link.timing read.laws read.timing) below
    (depth-run lanes_b t s lane facts read.laws read.timing below) in
    let more = o.gives runs in
    let some = (legal_sizes p read.laws).f_low in
    let taken : taken_at lanes_b s lane t ≡ took lanes_b s h lane = took-is lanes_b s t lane in
    rw taken (entries-marked p s.link.timing (route_of s lane) (took lanes_b s h lane) j mode some (omega arith))

pub marks-b : (s : Plan) → IsPlanRead s → s.link.params.mode ≡ B → Marks lanes_b checked_b s
marks-b s read mode =
    let sizes = legal_sizes s.link.params read.laws in
    let lanes = sizes.l_low in
    let octets = sizes.f_low in
    marks-hold lanes_b checked_b s (omega arith) (omega arith) (marked-b s read mode)
