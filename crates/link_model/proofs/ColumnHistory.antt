-- What the lanes give in a tick in which they run, and the columns of octets of a session with a
-- tick more.
use Rattle.std.proofs.Common.{◌≡◌, ℕ, ◌+◌, ◌-◌, ◌*◌, ◌<◌, ◌≤◌, ◌&&◌, nat_le, Bool, true, if◌then◌else◌, List, [], ◌++◌, map, length, take, get_or, Some, None, inl, inr, refl, sym, ap, ap₂, ◌∙◌, append-nil, arith}
use Rattle.std.proofs.Math.Nat.{mul-le-mul_left}
use Rattle.std.proofs.lemmas.Bool.{cases_Bool, cases_lt, cond-true, cond-false, le-leb, lt-leb}
use Rattle.std.proofs.lemmas.List.{take-append-le}
use Rattle.std.proofs.lemmas.Simd.{map-map}
use Rattle.link_params.specs.declared.cells.LaneCell.{LaneCell}
use Rattle.link_params.specs.Lanes.{Entry, LaneKind, Placed, Taken}
use Rattle.link_params.specs.Numbers.{octets_per_tick}
use Rattle.bring_up.specs.declared.stage.Stage.TheVariants as stage
use Rattle.bring_up.specs.Decisions.{is_running}
use Rattle.lane_b.specs.kept.Gives.{given}
use Rattle.scenario.specs.Plans.{Plan, numbers_from}
use Rattle.link_model.proofs.Depth.{HasDepth, ready, tick-outcome, word-size}
use Rattle.link_model.proofs.EntryCells.{HasCells, cells-of-entries}
use Rattle.link_model.proofs.KindFacts.{KindFacts, entries-grow, lead}
use Rattle.link_model.proofs.LaneHistory.{HasHunt, gave-next, session-goes-on, session-hunt, took-stepped}
use Rattle.link_model.proofs.NextMoment.{entries_of, lanes_of, next, took, with_next}
use Rattle.link_model.proofs.NumberLists.{map-numbers}
use Rattle.link_model.proofs.OctetColumns.{grid, grid-is, grid-next, length-grid, length-octets, octets-given-are, all_octets}
use Rattle.link_model.proofs.WindowFacts.{IsLegal}
use Rattle.link_model.proofs.Wirings.{lane-for-below}
use Rattle.link_model.specs.kept.Before.{Columns, columns_now, current, no_cell, octet_columns}
use Rattle.link_model.specs.Gives.{cells_in, gives_in, octets_given}
use Rattle.link_model.specs.Hunts.{from_hunt, session}
use Rattle.link_model.specs.kept.LaneRuns.{given_by, lane_stepped}
use Rattle.link_model.specs.Moments.{History}
use Rattle.link_model.specs.Receives.{taken_in, told_of}
use Rattle.link_model.specs.Wiring.{lane_for, route_of}

-- the entries for a lane of the frame in the session, with the tick
abbrev pub came : LaneKind → Plan → History → ℕ → List Entry
came k s h place = entries_of k s h (lane_for s place)

-- and those before it
abbrev pub had : LaneKind → Plan → History → ℕ → List Entry
had k s h place = let lane = lane_for s place in
    k.entries s.link.params s.link.timing (route_of s lane) (taken_in (session s h) lane)

-- the data among them
abbrev pub data_of : LaneKind → Plan → History → ℕ → List LaneCell
data_of k s h lane = cells_in (came k s h lane)

-- how many cells of data each lane gave after so many entries
abbrev pub cells_after : Plan → ℕ → ℕ
cells_after s n = n - lead s.link.params

-- how many columns of octets there are then
abbrev pub columns_after : Plan → ℕ → ℕ
columns_after s n = octets_per_tick s.link.params * cells_after s n

-- the cell that is given for a lane of the frame
abbrev pub cell_given : LaneKind → Plan → History → ℕ → LaneCell
cell_given k s h lane =
    get_or (data_of k s h lane) (cells_after s (gives_in (session s h))) no_cell

-- the cells that the lanes give
abbrev pub column : LaneKind → Plan → History → List LaneCell
column k s h = map (cell_given k s h) (lanes_of s)

-- all octets for a lane of the frame in the session, with the tick
abbrev pub octets_came : LaneKind → Plan → History → ℕ → List LaneCell
octets_came k s h lane = all_octets s.link.params (data_of k s h lane)

-- those that a lane gave in the ticks of a session
abbrev octets_in_ticks : LaneKind → Plan → History → ℕ → List LaneCell
octets_in_ticks k s past place = let lane = lane_for s place in
    octets_given s.link.params (gives_in past)
    (k.entries s.link.params s.link.timing (route_of s lane) (taken_in past lane))

-- and the columns of all lanes
abbrev columns_in : LaneKind → Plan → History → Columns
columns_in k s past =
    grid s.link.params.l (octets_in_ticks k s past) (length (octets_in_ticks k s past 0))

columns-are : (k : LaneKind) (s : Plan) (h : History)
    → columns_now k s h ≡ columns_in k s (current h)
unfolding columns_now
columns-are k s h = refl

columns-none : (k : LaneKind) (s : Plan) → columns_in k s [] ≡ []
unfolding octets_given cells_in numbers_from
columns-none k s = refl

pub columns-now-none : (k : LaneKind) (s : Plan) → columns_now k s [] ≡ []
unfolding from_hunt
columns-now-none k s = columns-are k s [] ∙ columns-none k s

-- those of the session to which the tick belongs
abbrev pub columns_kept : LaneKind → Plan → History → Columns
columns_kept k s h = if (next k s h).told.hunt then [] else columns_now k s h

kept-are : (k : LaneKind) (s : Plan) (h : History)
    → columns_kept k s h ≡ columns_in k s (session s h)
kept-are k s h = elim (cases_Bool (next k s h).told.hunt) [
  | inl e ↦ cond-true (next k s h).told.hunt [] (columns_now k s h) e
      ∙ sym (ap (columns_in k s) (session-hunt k s h e) ∙ columns-none k s)
  | inr e ↦ cond-false (next k s h).told.hunt [] (columns_now k s h) e ∙ columns-are k s h
      ∙ sym (ap (columns_in k s) (session-goes-on k s h e))
]

-- what there is for a lane of the frame in a tick: places of the alignment sequence and then data, as many
-- entries as the lanes give, those before the tick first
pub record LaneHas (k : LaneKind) (s : Plan) (h : History) (lane : ℕ) : Type 0 where
  pub cells : HasCells (lead s.link.params) (came k s h lane)
  pub within : gives_in (session s h) + (if is_running (next k s h).stage then 1 else 0)
      ≤ length (came k s h lane)
  pub before : gives_in (session s h) ≤ length (had k s h lane)
  pub grew : (new : List Entry) × (came k s h lane ≡ had k s h lane ++ new)

abbrev pub LanesHave : LaneKind → Plan → History → Type 0
LanesHave k s h = (lane : ℕ) → lane < s.link.params.l → LaneHas k s h lane

-- each lane of a run has what the ticks before left
abbrev pub HaveDepth : LaneKind → Plan → History → Type 0
HaveDepth k s h = (lane : ℕ) → lane < s.link.params.l → HasDepth k s h lane

pub lanes-have : (k : LaneKind) (s : Plan) (h : History)
    → KindFacts k s.link.params s.link.timing → IsLegal s.link.params s.link.timing
    → HaveDepth k s h → LanesHave k s h
lanes-have k s h facts legal kept place inside =
    let lane : ℕ = lane_for s place in
    let below = lane-for-below s place (omega arith) in
    let r = ready k s h lane facts legal (kept lane below) in
    let w : Taken = record { order = told_of s h; word = get_or (next k s h).taken lane [] } in
    record {
      cells = cells-of-entries s.link.params (came k s h place)
          (facts.are (route_of s lane) (took k s h lane));
      within = (tick-outcome k s h lane facts legal below (kept lane below)).within;
      before = r.within;
      grew = entries-grow k s.link.params s.link.timing facts (route_of s lane)
          (taken_in (session s h) lane) w r.ticks (word-size k s h lane below) r.on;
    }

module _ (k : LaneKind) (s : Plan) (h : History) (facts : KindFacts k s.link.params s.link.timing)
    (legal : IsLegal s.link.params s.link.timing) (some : 0 < s.link.params.l)
    (begun : HasHunt h) (kept : HaveDepth k s h) where
  have : LanesHave k s h
  have = lanes-have k s h facts legal kept

  -- the entries that each lane gave before the tick, and how many each gives in it
  abbrev gave : ℕ
  gave = gives_in (session s h)

  abbrev one : ℕ
  one = if is_running (next k s h).stage then 1 else 0

  -- each lane has as many octets as there are columns
  pub enough : (n lane : ℕ) → n ≤ length (came k s h lane) → lane < s.link.params.l
      → columns_after s n ≤ length (octets_came k s h lane)
  enough n lane few below =
      let many = (have lane below).cells.many in
      let cells : cells_after s n ≤ length (data_of k s h lane) = omega arith in
      let long = length-octets s.link.params (data_of k s h lane) in
      let m : columns_after s n
      ≤ octets_per_tick s.link.params * length (data_of k s h lane) =
      mul-le-mul_left (octets_per_tick s.link.params) cells in
      omega arith

  now-octets : (lane : ℕ) → lane < s.link.params.l
      → octets_in_ticks k s (current (with_next k s h)) lane
      ≡ take (columns_after s (gave + one)) (octets_came k s h lane)
  now-octets lane below =
      ap₂ (λ (n : ℕ) (es : List Entry). octets_given s.link.params n es) (gave-next k s h begun)
      (ap (k.entries s.link.params s.link.timing (route_of s (lane_for s lane)))
      (sym (took-stepped k s h (lane_for s lane) begun)))
      ∙ octets-given-are s.link.params (lead s.link.params) (gave + one) (came k s h lane)
      (have lane below).cells

  old-octets : (lane : ℕ) → lane < s.link.params.l
      → octets_in_ticks k s (session s h) lane
      ≡ take (columns_after s gave) (octets_came k s h lane)
  unfolding octets_given
  old-octets lane below =
      let has = have lane below in
      let g = has.grew in
      let old : List Entry = had k s h lane in
      ap (λ (es : List Entry). all_octets s.link.params (cells_in es))
      (sym (take-append-le gave old g.0 has.before) ∙ ap (take gave) (sym g.1))
      ∙ octets-given-are s.link.params (lead s.link.params) gave (came k s h lane) has.cells

  pub columns-grid : columns_now k s (with_next k s h)
      ≡ grid s.link.params.l (octets_came k s h) (columns_after s (gave + one))
  columns-grid =
      columns-are k s (with_next k s h)
      ∙ grid-is s.link.params.l (octets_in_ticks k s (current (with_next k s h)))
      (octets_came k s h) (columns_after s (gave + one)) some now-octets
      (λ lane below. enough (gave + one) lane (have lane below).within below)

  pub kept-grid : columns_kept k s h
      ≡ grid s.link.params.l (octets_came k s h) (columns_after s gave)
  kept-grid =
      kept-are k s h
      ∙ grid-is s.link.params.l (octets_in_ticks k s (session s h)) (octets_came k s h)
      (columns_after s gave) some old-octets
      (λ lane below. let within = (have lane below).within in enough gave lane (omega arith) below)

  pub length-columns : length (columns_now k s (with_next k s h)) ≡ columns_after s (gave + one)
  length-columns = ap length columns-grid ∙ length-grid s.link.params.l (octets_came k s h) _

  pub length-kept : length (columns_kept k s h) ≡ columns_after s gave
  length-kept = ap length kept-grid ∙ length-grid s.link.params.l (octets_came k s h) _

  -- a tick in which no cell is given
  columns-same : (n : ℕ) → gave + one ≡ n → cells_after s n ≡ cells_after s gave
      → columns_now k s (with_next k s h) ≡ columns_kept k s h ++ []
  columns-same n are same =
      columns-grid
      ∙ ap (λ (x : ℕ). grid s.link.params.l (octets_came k s h) (columns_after s x)) are
      ∙ ap (λ (x : ℕ). grid s.link.params.l (octets_came k s h)
      (octets_per_tick s.link.params * x)) same
      ∙ sym kept-grid ∙ sym (append-nil (columns_kept k s h))

  -- a tick in which each lane gives a cell
  columns-more : is_running (next k s h).stage ≡ true → lead s.link.params ≤ gave
      → columns_now k s (with_next k s h) ≡ columns_kept k s h
      ++ octet_columns s.link.params (column k s h)
  columns-more runs late =
      let p = s.link.params in
      let one_more : gave + one ≡ gave + 1 = rw runs refl in
      let next_one : cells_after s (gave + 1) ≡ cells_after s gave + 1 = omega arith in
      columns-grid
      ∙ ap (λ (x : ℕ). grid p.l (octets_came k s h) (columns_after s x)) one_more
      ∙ ap (λ (x : ℕ). grid p.l (octets_came k s h) (octets_per_tick p * x)) next_one
      ∙ grid-next p p.l (data_of k s h) (cells_after s gave) (λ lane below.
      let has = have lane below in
      let many = has.cells.many in
      let within = has.within in
      omega arith)
      ∙ ap (λ (c : Columns). c ++ octet_columns p (column k s h)) (sym kept-grid)

  -- the columns of the session, with the tick
  pub columns-next : columns_now k s (with_next k s h)
      ≡ columns_kept k s h
      ++ (if is_running (next k s h).stage && nat_le (lead s.link.params) gave
      then octet_columns s.link.params (column k s h) else [])
  columns-next =
      let p = s.link.params in
      let runs : Bool = is_running (next k s h).stage in
      let with_new : Bool → Columns =
      λ b. columns_kept k s h ++ (if b then octet_columns p (column k s h) else []) in
      elim (cases_Bool runs) [
        | inr e ↦
            columns-same gave (rw e (omega arith)) refl
            ∙ sym (ap (λ (b : Bool). with_new (b && nat_le (lead p) gave)) e)
        | inl e ↦ elim (cases_lt gave (lead p)) [
          | inl early ↦
              columns-same (gave + 1) (rw e refl) (omega arith)
              ∙ sym (ap (λ (b : Bool). with_new (b && nat_le (lead p) gave)) e
              ∙ ap with_new (lt-leb (lead p) gave early))
          | inr late ↦
              columns-more e late
              ∙ sym (ap (λ (b : Bool). with_new (b && nat_le (lead p) gave)) e
              ∙ ap with_new (le-leb (lead p) gave late))
        ]
      ]

  -- ---- what each lane gives

  stepped-entries : (lane : ℕ)
      → k.entries s.link.params s.link.timing (route_of s (lane_for s lane))
      (lane_stepped k s h (lane_for s lane)).taken
      ≡ came k s h lane
  stepped-entries lane = ap (k.entries s.link.params s.link.timing (route_of s (lane_for s lane)))
      (sym (took-stepped k s h (lane_for s lane) begun))

  -- in the alignment sequence nothing
  pub gives-none : (lane : ℕ) → lane < s.link.params.l → gave < lead s.link.params
      → given_by k s (λ l. lane_stepped k s h l) (lane_for s lane) ≡ None
  gives-none lane below early =
      ap (λ (es : List Entry). given (get_or es gave Placed)) (stepped-entries lane)
      ∙ (have lane below).cells.none gave early

  -- then a cell
  pub gives-some : (lane : ℕ) → lane < s.link.params.l → (next k s h).stage ≡ stage.Run
      → lead s.link.params ≤ gave
      → given_by k s (λ l. lane_stepped k s h l) (lane_for s lane) ≡ Some (cell_given k s h lane)
  gives-some lane below runs late =
      let one_more : gave + one ≡ gave + 1 = rw runs refl in
      let within = (have lane below).within in
      ap (λ (es : List Entry). given (get_or es gave Placed)) (stepped-entries lane)
      ∙ (have lane below).cells.some gave late (omega arith)
