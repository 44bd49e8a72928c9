-- The cells that are taken from the ends of the lanes' rings and wait.
use Rattle.std.proofs.Common.{◌≡◌, ◌∙◌, ◌<◌, ◌≤◌, ◌+◌, ℕ, zero, suc, Bool, true, false, if◌then◌else◌, List, [], ◌∷◌, ◌++◌, length, get_or, Option, None, Some, arith, sym, ap, ap₂, subst, append_assoc, append-nil, length-append, replicate}
use Rattle.std.proofs.lemmas.List.{get_or-replicate, length-replicate}
use Rattle.rtrb.specs.Ring.{known_items}
use Rattle.link_params.specs.declared.cells.LaneCell.{LaneCell}
use Rattle.link_params.specs.Lanes.{LaneKind}
use Rattle.link_params.specs.Numbers.{period}
use Rattle.bring_up.specs.Decisions.{is_running}
use Rattle.scenario.specs.Plans.{Plan}
use Rattle.lane_threads.specs.declared.cell_end.CellEnd.{CellEnd}
use Rattle.lane_threads.specs.declared.lane_pair.LanePair.{LanePair}
use Rattle.lane_threads.specs.Segments.{pushed}
use Rattle.link_model.specs.Kinds.{kind_of, moment_of, run_of}
use Rattle.link_model.specs.Wiring.{lane_for, route_of}
use Rattle.link_model.proofs.Wirings.{lane-for-below, order-below, order-found}
use Rattle.scenario.specs.Limits.{is_order}
use Rattle.link_model.specs.kept.LaneRuns.{given_by, lane_stepped}
use Rattle.link_run.specs.Given.{cells_at, cells_in}
use Rattle.link_run.specs.kept.Collected.{Collecting, HasCollected}
use Rattle.link_run.specs.kept.Ends.{ArePairs, HasCells, HaveCells}
use Rattle.link_run.specs.kept.Waits.{AreFilled, AreNext, HaveRoom, HaveWaiting, IsFilled, Waits, no_waits}

-- ---- room

pub room-next : (old now : List Waits) (m : ℕ) → AreNext old now → HaveRoom old m
    → HaveRoom now m
room-next old now m h room lane w below =
    let count = h.count in
    let same = (h.each lane w (omega arith)).same_room in
    let long = room lane w (omega arith) in
    omega arith

pub room-filled : (old now : List Waits) (before after : List CellEnd) (s : Plan) (m : ℕ)
    → length old ≡ length before → length before ≡ s.link.params.l
    → is_order s.link.params.l s.route ≡ true → AreFilled old now before after s.route
    → HaveRoom old m → HaveRoom now m
room-filled old now [] after s m each all order h room place w below =
    let count = h.count in
    absurd (omega arith)
room-filled old now (e ∷ before) after s m each all order h room place w below =
    let count = h.count in
    let inside = lane-for-below s place (omega arith) in
    let at : route_of s (lane_for s place) ≡ place = order-found s place order (omega arith) in
    let same : (get_or now place w).room ≡ (get_or old place w).room =
    subst (λ (k : ℕ). (get_or now k w).room ≡ (get_or old k w).room) at
    (h.each (lane_for s place) w e (omega arith)).same_room in
    let long = room place w (omega arith) in
    omega arith

-- ---- how many cells there are

pushed-few : (o : Option LaneCell) → length (pushed o) ≤ 1
pushed-few None = omega arith
pushed-few (Some cell) = omega arith

if-few : (b : Bool) (cells : List LaneCell) → length cells ≤ 1
    → length (if b then cells else []) ≤ 1
if-few true cells few = few
if-few false cells few = omega arith

cells-at-few : (s : Plan) (lane t : ℕ) → length (cells_at s lane t) ≤ 1
cells-at-few s lane t =
    let k : LaneKind = kind_of s.link.params in
    let o : Option LaneCell = given_by k s (λ l. lane_stepped k s (run_of s t) l) lane in
    if-few (is_running (moment_of s (run_of s t)).stage) (pushed o) (pushed-few o)

-- a lane gives at most one in each tick
pub cells-few : (n : ℕ) (s : Plan) (lane t : ℕ) → length (cells_in s lane t n) ≤ n
unfolding cells_in
cells-few zero s lane t = omega arith
cells-few (suc n) s lane t =
    let before = cells-few n s lane t in
    let last = cells-at-few s lane (t + n) in
    let parts = length-append (cells_in s lane t n) (cells_at s lane (t + n)) in
    omega arith

-- those before tick t and those of the n ticks from it on
pub cells-join : (n : ℕ) (s : Plan) (lane t : ℕ)
    → cells_in s lane 0 t ++ cells_in s lane t n ≡ cells_in s lane 0 (t + n)
unfolding cells_in
cells-join zero s lane t =
    let z : t ≡ t + 0 = omega arith in
    append-nil (cells_in s lane 0 t) ∙ ap (cells_in s lane 0) z
cells-join (suc n) s lane t =
    let up : suc (t + n) ≡ t + suc n = omega arith in
    let z : t + n ≡ 0 + (t + n) = omega arith in
    sym (append_assoc (cells_in s lane 0 t) (cells_in s lane t n) (cells_at s lane (t + n)))
    ∙ ap₂ (λ (xs ys : List LaneCell). xs ++ ys) (cells-join n s lane t) (ap (cells_at s lane) z)
    ∙ ap (cells_in s lane 0) up

-- ---- cells that are taken from the ends

filled-one : (old now : Waits) (before after : CellEnd) (s : Plan) (from n m lane : ℕ)
    → IsFilled old now before after → old.cells ≡ [] → m ≤ old.room → n ≤ m
    → HasCells before s from n lane
    → (now.cells ≡ cells_in s lane from n) × HasCells after s (from + n) 0 lane
unfolding cells_in
filled-one old now before after s from n m lane f empty room low h =
    let few = cells-few n s lane from in
    let known = ap length h.known_are in
    let none : known_items after.ring ≡ [] = f.all empty (omega arith) in
    let moved : f.moved ≡ cells_in s lane from n =
    sym (append-nil f.moved) ∙ ap (λ (xs : List LaneCell). f.moved ++ xs) (sym none)
    ∙ sym f.known_before ∙ h.known_are in (
      f.waiting ∙ ap (λ (xs : List LaneCell). xs ++ f.moved) empty ∙ moved,
      record {
        received_are = f.received_too
            ∙ ap₂ (λ (xs ys : List LaneCell). xs ++ ys) h.received_are moved
            ∙ cells-join n s lane from;
        known_are = none;
      },
    )

-- no cell waits where those of no tick do
pub waits-nothing : (waits : List Waits) (s : Plan) (t : ℕ) → HaveWaiting waits s t 0
    → (lane : ℕ) (w : Waits) → lane < length waits → (get_or waits lane w).cells ≡ []
unfolding cells_in
waits-nothing waits s t h lane w below = h lane w below

pub nothing-waits : (waits : List Waits) (s : Plan) (t : ℕ)
    → ((lane : ℕ) (w : Waits) → lane < length waits → (get_or waits lane w).cells ≡ [])
    → HaveWaiting waits s t 0
unfolding cells_in
nothing-waits waits s t h lane w below = h lane w below

pub none-waits-later : (waits : List Waits) (s : Plan) (t u : ℕ) → HaveWaiting waits s t 0
    → HaveWaiting waits s u 0
none-waits-later waits s t u h = nothing-waits waits s u (waits-nothing waits s t h)

-- lanes of which none waits, in room for m ticks' cells
abbrev pub empty_room : ℕ → Waits
empty_room m = record { cells = []; room = m }

pub empty-waits : (waits : List Waits) (n m : ℕ) → waits ≡ replicate n (empty_room m)
    → (s : Plan) (t : ℕ) → HaveWaiting waits s t 0
empty-waits waits n m is s t = nothing-waits waits s t (λ lane w below.
    let long = ap length is in
    let count = length-replicate n (empty_room m) in
    ap (λ (xs : List Waits). (get_or xs lane w).cells) is
    ∙ ap (λ (x : Waits). x.cells) (get_or-replicate n lane (empty_room m) w (omega arith)))

pub empty-has-room : (waits : List Waits) (n m : ℕ) → waits ≡ replicate n (empty_room m)
    → HaveRoom waits m
empty-has-room waits n m is lane w below =
    let long = ap length is in
    let count = length-replicate n (empty_room m) in
    let same : (get_or waits lane w).room ≡ m =
    ap (λ (xs : List Waits). (get_or xs lane w).room) is
    ∙ ap (λ (x : Waits). x.room) (get_or-replicate n lane (empty_room m) w (omega arith)) in
    omega arith

-- where no cell waits and there is room for those of m ticks, all those of n ticks are taken
pub filled-waiting : (old now : List Waits) (before after : List CellEnd) (s : Plan) (from n m : ℕ)
    → length old ≡ length before → length before ≡ s.link.params.l
    → is_order s.link.params.l s.route ≡ true
    → AreFilled old now before after s.route → HaveWaiting old s from 0
    → HaveRoom old m → n ≤ m → HaveCells before s from n → HaveWaiting now s from n
filled-waiting old now [] after s from n m same all order f none room low cells place w below =
    let count = f.count in
    absurd (omega arith)
filled-waiting old now (e ∷ before) after s from n m same all order f none room low cells place w below =
    let count = f.count in
    let lane : ℕ = lane_for s place in
    let inside : lane < s.link.params.l = lane-for-below s place (omega arith) in
    let at : route_of s lane ≡ place = order-found s place order (omega arith) in
    let filled : IsFilled (get_or old place w) (get_or now place w) (get_or (e ∷ before) lane e)
    (get_or after lane e) =
    subst (λ (k : ℕ). IsFilled (get_or old k w) (get_or now k w) (get_or (e ∷ before) lane e)
    (get_or after lane e)) at (f.each lane w e (omega arith)) in
    (filled-one (get_or old place w) (get_or now place w) (get_or (e ∷ before) lane e)
    (get_or after lane e) s from n m lane filled
    (waits-nothing old s from none place w (omega arith)) (room place w (omega arith)) low
    (cells lane e (omega arith))).0

pub filled-cells : (old now : List Waits) (before after : List CellEnd) (s : Plan) (from n m : ℕ)
    → length old ≡ length before → length before ≡ s.link.params.l
    → is_order s.link.params.l s.route ≡ true
    → AreFilled old now before after s.route → HaveWaiting old s from 0
    → HaveRoom old m → n ≤ m → HaveCells before s from n → HaveCells after s (from + n) 0
filled-cells old now before after s from n m same all order f none room low cells lane e below =
    let count = f.count in
    let ends = f.end_count in
    let place : ℕ = route_of s lane in
    let inside : place < s.link.params.l =
    order-below s.link.params.l s.route lane (omega arith) order in
    (filled-one (get_or old place no_waits) (get_or now place no_waits) (get_or before lane e)
    (get_or after lane e) s from n m lane (f.each lane no_waits e (omega arith))
    (waits-nothing old s from none place no_waits (omega arith))
    (room place no_waits (omega arith)) low (cells lane e (omega arith))).1

-- the lanes and the ends stay pairs
pub filled-pairs : (lanes : List LanePair) (old now : List Waits) (before after : List CellEnd)
    (route : List ℕ) → AreFilled old now before after route → ArePairs lanes before → ArePairs lanes after
filled-pairs lanes old now before after route f pairs = record {
  count = f.end_count ∙ pairs.count;
  each = λ lane d e below.
      let count = pairs.count in
      let r = (f.each lane no_waits e (omega arith)).ring.0 in
      let pair = pairs.each lane d e below in
      (r.0 ∙ pair.0, r.1 ∙ pair.1, r.2 ∙ pair.2, r.3 ∙ pair.3);
}

-- what was collected stays so, where cells are taken from the ends
pub filled-collected : (old now : Collecting) (s : Plan) (t : ℕ)
    → now ≡ record old { ends = now.ends; waiting = now.waiting }
    → AreFilled old.waiting now.waiting old.ends now.ends s.route
    → HasCollected old s t → HasCollected now s t
filled-collected old now s t is f h =
    let m = period s.link.params in
    let same : length old.waiting ≡ length old.ends = h.wait_count ∙ sym h.end_count in
    let stays : HasCollected (record old { ends = now.ends; waiting = now.waiting }) s t = record {
      end_count = f.end_count ∙ h.end_count;
      wait_count = f.count ∙ h.wait_count;
      route_is = h.route_is;
      order = h.order;
      room = room-filled old.waiting now.waiting old.ends now.ends s m same h.end_count h.order
          f h.room;
      lead_is = h.lead_is;
      ahead_is = h.ahead_is;
      gathered = h.gathered;
    } in
    subst (λ (v : Collecting). HasCollected v s t) (sym is) stays
