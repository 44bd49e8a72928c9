-- The cells of the lanes, as they are collected tick by tick.
use Rattle.std.proofs.Common.{◌≡◌, ◌∙◌, ◌<◌, ◌≤◌, ◌+◌, ◌-◌, ◌*◌, ℕ, zero, suc, Bool, true, false, List, [], ◌∷◌, ◌++◌, map, length, get_or, if◌then◌else◌, Option, Some, inl, inr, arith, refl, sym, ap, ap₂, subst, append_assoc, append-nil}
use Rattle.std.proofs.lemmas.Bool.{cases_Bool, cond-false, cond-true}
use Rattle.link_params.specs.declared.cells.LaneCell.{LaneCell}
use Rattle.link_params.specs.declared.fields.Params.{Params}
use Rattle.link_params.specs.Lanes.{LaneKind}
use Rattle.link_params.specs.Numbers.{octets_per_tick, period}
use Rattle.bring_up.specs.declared.stage.Stage.{Stage}
use Rattle.bring_up.specs.declared.stage.Stage.TheVariants as stage
use Rattle.bring_up.specs.Decisions.{is_running}
use Rattle.scenario.specs.Limits.{is_order}
use Rattle.scenario.specs.Plans.{Plan, numbers_from}
use Rattle.lane_threads.specs.Segments.{pushed}
use Rattle.link_model.proofs.ColumnHistory.{cell_given, column, columns-now-none, gives-none, gives-some}
use Rattle.link_model.proofs.DeliveryHistory.{delivered-early, delivered-still}
use Rattle.link_model.proofs.KindFacts.{lead}
use Rattle.link_model.proofs.LaneHistory.{gave-next, session-goes-on, session-hunt}
use Rattle.link_model.proofs.RunTicks.{length-run}
use Rattle.link_model.specs.kept.Before.{Columns, current, octet_columns}
use Rattle.link_model.specs.Gives.{gives_in}
use Rattle.link_model.specs.Hunts.{from_hunt, session}
use Rattle.link_model.specs.Kinds.{kind_of, moment_of, run_of}
use Rattle.link_model.specs.kept.LaneRuns.{given_by, lane_stepped}
use Rattle.link_model.specs.Moments.{History}
use Rattle.link_model.specs.Run.{run}
use Rattle.link_model.specs.Wiring.{lane_for}
use Rattle.link_model.proofs.Wirings.{lane-for-below}
use Rattle.link_run.proofs.GiveFacts.{columns-early, columns-late, columns-still, columns_left, delivered-frames, delivered-nothing, with_tick}
use Rattle.link_run.proofs.RunFacts.{IsRunOf}
use Rattle.link_run.specs.Given.{cells_at, cells_in}
use Rattle.link_run.specs.kept.Collected.{Collecting, Collects, HasCollected, columns_of, lead_of}
use Rattle.link_run.specs.kept.Gathered.{FramesAre, Gathering, HasGathered, Whole, delivered_of}
use Rattle.link_run.specs.kept.Waits.{AreNext, HaveRoom, HaveWaiting, IsNext, Waits, first_of, next_of}
use Rattle.link_run.proofs.TakenCells.{room-next}

-- ---- the cells of some ticks

-- a tick more
pub cells-last : (s : Plan) (lane t : ℕ)
    → cells_in s lane 0 (suc t) ≡ cells_in s lane 0 t ++ cells_at s lane t
unfolding cells_in
cells-last s lane t =
    let e : 0 + t ≡ t = omega arith in
    ap (λ (n : ℕ). cells_in s lane 0 t ++ cells_at s lane n) e

-- those of the first tick come first
pub cells-first : (n : ℕ) (s : Plan) (lane t : ℕ)
    → cells_in s lane t (suc n) ≡ cells_at s lane t ++ cells_in s lane (suc t) n
unfolding cells_in
cells-first zero s lane t =
    let e : t + 0 ≡ t = omega arith in
    ap (cells_at s lane) e ∙ sym (append-nil (cells_at s lane t))
cells-first (suc n) s lane t =
    let e : t + suc n ≡ suc t + n = omega arith in
    ap₂ (λ (xs : List LaneCell) (k : ℕ). xs ++ cells_at s lane k) (cells-first n s lane t) e
    ∙ append_assoc (cells_at s lane t) (cells_in s lane (suc t) n) (cells_at s lane (suc t + n))

pub running : (k : Stage) → is_running k ≡ true → k ≡ stage.Run
running stage.Hunt e = let bad : false ≡ true = e in absurd (cc)
running stage.Wait e = let bad : false ≡ true = e in absurd (cc)
running stage.Run e = refl

-- where the link does not run there are none
pub cells-still : (s : Plan) (lane t : ℕ) → is_running (moment_of s (run_of s t)).stage ≡ false
    → cells_at s lane t ≡ []
cells-still s lane t halts =
    let k : LaneKind = kind_of s.link.params in
    cond-false (is_running (moment_of s (run_of s t)).stage)
    (pushed (given_by k s (λ l. lane_stepped k s (run_of s t) l) lane)) [] halts

-- nor where its places of the alignment sequence are given
cells-early : (s : Plan) (place t : ℕ) → IsRunOf s (run_of s t) → place < s.link.params.l
    → gives_in (session s (run_of s t)) < lead s.link.params → cells_at s (lane_for s place) t ≡ []
cells-early s place t r below early =
    let lane : ℕ = lane_for s place in
    let k : LaneKind = kind_of s.link.params in
    let h : History = run_of s t in
    elim (cases_Bool (is_running (moment_of s h).stage)) [
      | inr halts ↦ cells-still s lane t halts
      | inl goes ↦
          cond-true (is_running (moment_of s h).stage)
          (pushed (given_by k s (λ l. lane_stepped k s h l) lane)) [] goes
          ∙ ap pushed (gives-none k s h r.facts r.legal r.lanes r.begun r.kept place below early)
    ]

-- and then one
pub cells-late : (s : Plan) (place t : ℕ) → IsRunOf s (run_of s t) → place < s.link.params.l
    → is_running (moment_of s (run_of s t)).stage ≡ true
    → lead s.link.params ≤ gives_in (session s (run_of s t))
    → cells_at s (lane_for s place) t ≡ cell_given (kind_of s.link.params) s (run_of s t) place ∷ []
cells-late s place t r below goes late =
    let lane : ℕ = lane_for s place in
    let k : LaneKind = kind_of s.link.params in
    let h : History = run_of s t in
    cond-true (is_running (moment_of s h).stage)
    (pushed (given_by k s (λ l. lane_stepped k s h l) lane)) [] goes
    ∙ ap pushed (gives-some k s h r.facts r.legal r.lanes r.begun r.kept place below
    (running (moment_of s h).stage goes) late)

-- ---- the cells that wait, with a tick more

waits-none : (w : Waits) (s : Plan) (t n lane : ℕ) → cells_at s lane t ≡ []
    → w.cells ≡ cells_in s lane t (suc n) → w.cells ≡ cells_in s lane (suc t) n
waits-none w s t n lane none had =
    had ∙ cells-first n s lane t ∙ ap (λ (xs : List LaneCell). xs ++ cells_in s lane (suc t) n) none

-- the cell that was taken is that of the tick
first-is : (old now : Waits) (s : Plan) (t n lane : ℕ) (c : LaneCell)
    → cells_at s lane t ≡ c ∷ [] → (p : IsNext old now) → old.cells ≡ cells_in s lane t (suc n)
    → p.cell ∷ now.cells ≡ c ∷ cells_in s lane (suc t) n
first-is old now s t n lane c one p had =
    sym p.first ∙ had ∙ cells-first n s lane t
    ∙ ap (λ (xs : List LaneCell). xs ++ cells_in s lane (suc t) n) one

waits-one : (old now : Waits) (s : Plan) (t n lane : ℕ) (c : LaneCell)
    → cells_at s lane t ≡ c ∷ [] → IsNext old now → old.cells ≡ cells_in s lane t (suc n)
    → now.cells ≡ cells_in s lane (suc t) n
waits-one old now s t n lane c one p had =
    let all = first-is old now s t n lane c one p had in
    let rest : now.cells ≡ cells_in s lane (suc t) n = cc in
    rest

next-is : (old now : Waits) (s : Plan) (t n lane : ℕ) (c : LaneCell)
    → cells_at s lane t ≡ c ∷ [] → IsNext old now → old.cells ≡ cells_in s lane t (suc n)
    → next_of old ≡ Some c
next-is old now s t n lane c one p had =
    let all = first-is old now s t n lane c one p had in
    let same : p.cell ≡ c = cc in
    ap first_of p.first ∙ ap (λ (x : LaneCell). Some x) same

-- a cell waits
pub waits-some : (w : Waits) (s : Plan) (t n lane : ℕ) (c : LaneCell)
    → cells_at s lane t ≡ c ∷ [] → w.cells ≡ cells_in s lane t (suc n) → 0 < length w.cells
waits-some w s t n lane c one had =
    let all = ap length (had ∙ cells-first n s lane t
    ∙ ap (λ (xs : List LaneCell). xs ++ cells_in s lane (suc t) n) one) in
    omega arith

-- what each lane gave
next-cells : (waits : List Waits) (f : ℕ → LaneCell) (a n : ℕ) → length waits ≡ n
    → ((k : ℕ) (w : Waits) → k < n → next_of (get_or waits k w) ≡ Some (f (a + k)))
    → map next_of waits ≡ map (λ c. Some c) (map f (numbers_from a n))
unfolding numbers_from
next-cells [] f a zero e is = refl
next-cells [] f a (suc n) e is = absurd (omega arith)
next-cells (x ∷ waits) f a zero e is = absurd (omega arith)
next-cells (x ∷ waits) f a (suc n) e is =
    let z : a + 0 ≡ a = omega arith in
    ap₂ (λ (o : Option LaneCell) (os : List (Option LaneCell)). o ∷ os)
    (is 0 x (omega arith) ∙ ap (λ (k : ℕ). Some (f k)) z)
    (next-cells waits f (suc a) n (omega arith) (λ k d below.
    let up : a + suc k ≡ suc a + k = omega arith in
    is (suc k) d (omega arith) ∙ ap (λ (m : ℕ). Some (f m)) up))

-- ---- a tick begins

-- the ticks before tick t were collected, and where a hunt begins with it nothing is kept of them
pub record HasLeft (now : Collecting) (s : Plan) (t : ℕ) : Type 0 where
  pub end_count : length now.ends ≡ s.link.params.l
  pub wait_count : length now.waiting ≡ s.link.params.l
  pub route_is : now.route ≡ s.route
  pub order : is_order s.link.params.l s.route ≡ true
  pub room : HaveRoom now.waiting (period s.link.params)
  pub lead_is : now.lead ≡ lead_of s.link.params
  pub ahead_is : now.ahead ≡ now.lead - gives_in (session s (run_of s t))
  pub gathered : HasGathered now.gathering s.link.params (columns_left s (run_of s t))

pub ahead-left : (s : Plan) (h : History) (first ahead : ℕ)
    → ahead ≡ first - gives_in (current h)
    → (if (moment_of s h).told.hunt then first else ahead) ≡ first - gives_in (session s h)
ahead-left s h first ahead is =
    let k : LaneKind = kind_of s.link.params in
    elim (cases_Bool (moment_of s h).told.hunt) [
      | inl e ↦
          let none : gives_in (session s h) ≡ 0 = ap gives_in (session-hunt k s h e) in
          let all : first ≡ first - gives_in (session s h) = omega arith in
          cond-true (moment_of s h).told.hunt first ahead e ∙ all
      | inr e ↦
          cond-false (moment_of s h).told.hunt first ahead e ∙ is
          ∙ ap (λ (x : History). first - gives_in x) (sym (session-goes-on k s h e))
    ]

pub has-left : (old now : Collecting) (hunt : Bool) (s : Plan) (t : ℕ) → HasCollected old s t
    → hunt ≡ (moment_of s (run_of s t)).told.hunt
    → now ≡ record old {
      ahead = if hunt then old.lead else old.ahead;
      gathering = now.gathering;
    }
    → ((p : Params) (columns : Columns) → HasGathered old.gathering p columns
    → HasGathered now.gathering p (if hunt then [] else columns))
    → HasLeft now s t
has-left old now hunt s t had is same gathered =
    let h : History = run_of s t in
    let first : now.lead ≡ old.lead = ap (λ (v : Collecting). v.lead) same in
    record {
      end_count = ap (λ (v : Collecting). length v.ends) same ∙ had.end_count;
      wait_count = ap (λ (v : Collecting). length v.waiting) same ∙ had.wait_count;
      route_is = ap (λ (v : Collecting). v.route) same ∙ had.route_is;
      order = had.order;
      room =
          subst (λ (waits : List Waits). HaveRoom waits (period s.link.params))
          (sym (ap (λ (v : Collecting). v.waiting) same)) had.room;
      lead_is = first ∙ had.lead_is;
      ahead_is = ap (λ (v : Collecting). v.ahead) same
          ∙ ap (λ (b : Bool). if b then old.lead else old.ahead) is
          ∙ ahead-left s h old.lead old.ahead had.ahead_is
          ∙ ap (λ (n : ℕ). n - gives_in (session s h)) (sym first);
      gathered =
          subst (λ (b : Bool).
          HasGathered now.gathering s.link.params (if b then [] else columns_of s h)) is
          (gathered s.link.params (columns_of s h) had.gathered);
    }

-- what stands once the tick has begun, by what was kept of the ticks before
pub begun-left : (old begun now : Collecting) (hunt : Bool) (s : Plan) (t : ℕ) → now ≡ begun
    → HasCollected old s t → hunt ≡ (moment_of s (run_of s t)).told.hunt
    → begun ≡ record old {
      ahead = if hunt then old.lead else old.ahead;
      gathering = begun.gathering;
    }
    → ((p : Params) (columns : Columns) → HasGathered old.gathering p columns
    → HasGathered begun.gathering p (if hunt then [] else columns))
    → HasLeft now s t
begun-left old begun now hunt s t is had hunts same gathered =
    subst (λ (v : Collecting). HasLeft v s t) (sym is)
    (has-left old begun hunt s t had hunts same gathered)

pub begun-cells : (old begun now : Collecting) (s : Plan) (t n : ℕ) → now ≡ begun
    → begun.waiting ≡ old.waiting → HaveWaiting old.waiting s t n → HaveWaiting now.waiting s t n
begun-cells old begun now s t n is same had =
    subst (λ (waits : List Waits). HaveWaiting waits s t n)
    (sym (ap (λ (v : Collecting). v.waiting) is ∙ same)) had

-- ---- and is over

has-next : (now : Collecting) (s : Plan) (t : ℕ) → IsRunOf s (run_of s t)
    → length now.ends ≡ s.link.params.l → length now.waiting ≡ s.link.params.l
    → now.route ≡ s.route → is_order s.link.params.l s.route ≡ true
    → HaveRoom now.waiting (period s.link.params) → now.lead ≡ lead_of s.link.params
    → now.ahead ≡ now.lead - (gives_in (session s (run_of s t))
    + (if is_running (moment_of s (run_of s t)).stage then 1 else 0))
    → HasGathered now.gathering s.link.params (columns_of s (with_tick s (run_of s t)))
    → HasCollected now s (suc t)
unfolding run
has-next now s t r ends waits route order room first ahead gathered = record {
  end_count = ends;
  wait_count = waits;
  route_is = route;
  order = order;
  room = room;
  lead_is = first;
  ahead_is = ahead
      ∙ ap (λ (n : ℕ). now.lead - n)
      (sym (gave-next (kind_of s.link.params) s (run_of s t) r.begun));
  gathered = gathered;
}

-- the octet times of the tick
delivered-in : (s : Plan) (t : ℕ) (frames : List Whole) (begun : ℕ)
    → (moment_of s (run_of s t)).delivered ≡ delivered_of s.link.params
    (octets_per_tick s.link.params * (length (run_of s t) + 1)) frames begun
    → (moment_of s (run_of s t)).delivered ≡ delivered_of s.link.params
    (octets_per_tick s.link.params * (t + 1)) frames begun
delivered-in s t frames begun is =
    is ∙ ap (λ (n : ℕ).
    delivered_of s.link.params (octets_per_tick s.link.params * (n + 1)) frames begun)
    (length-run (kind_of s.link.params) s t)

-- the frames of the tick before are over
pub rested-left : (was : Collecting) (now : Gathering) (s : Plan) (t : ℕ) → HasLeft was s t
    → ((p : Params) (columns : Columns) → HasGathered was.gathering p columns
    → HasGathered now p columns) → HasLeft (record was { gathering = now }) s t
rested-left was now s t l gathered = record {
  end_count = l.end_count;
  wait_count = l.wait_count;
  route_is = l.route_is;
  order = l.order;
  room = l.room;
  lead_is = l.lead_is;
  ahead_is = l.ahead_is;
  gathered = gathered s.link.params (columns_left s (run_of s t)) l.gathered;
}

-- a tick in which nothing is gathered
pub collects-still : (was : Collecting) (s : Plan) (t n : ℕ) → IsRunOf s (run_of s t)
    → HasLeft was s t → HaveWaiting was.waiting s t (suc n)
    → is_running (moment_of s (run_of s t)).stage ≡ false → was.gathering.frames ≡ []
    → Collects was s t n
collects-still was s t n r l cells halts none =
    let h : History = run_of s t in
    let p = s.link.params in
    let same : gives_in (session s h)
    ≡ gives_in (session s h) + (if is_running (moment_of s h).stage then 1 else 0) =
    rw halts (omega arith) in
    record {
      has = has-next was s t r l.end_count l.wait_count l.route_is l.order l.room
          l.lead_is
          (l.ahead_is ∙ ap (λ (m : ℕ). was.lead - m) same)
          (subst (HasGathered was.gathering p) (sym (columns-still s h r halts)) l.gathered);
      cells = λ place w below.
          waits-none (get_or was.waiting place w) s t n (lane_for s place)
          (cells-still s (lane_for s place) t halts) (cells place w below);
      delivered_is = delivered-in s t was.gathering.frames was.gathering.at
          (rw none (delivered-nothing s h was.gathering.at
          (delivered-still (kind_of p) s h halts)));
    }

pub collects-early : (was : Collecting) (s : Plan) (t n : ℕ) → IsRunOf s (run_of s t)
    → HasLeft was s t → HaveWaiting was.waiting s t (suc n)
    → is_running (moment_of s (run_of s t)).stage ≡ true → 0 < was.ahead
    → was.gathering.frames ≡ [] → Collects (record was { ahead = was.ahead - 1 }) s t n
collects-early was s t n r l cells goes some none =
    let h : History = run_of s t in
    let p = s.link.params in
    let g = gives_in (session s h) in
    let count = l.ahead_is in
    let first = l.lead_is in
    let early : g < lead p = omega arith in
    let one : gives_in (session s h) + (if is_running (moment_of s h).stage then 1 else 0)
    ≡ g + 1 = rw goes refl in
    let less : was.ahead - 1 ≡ was.lead - (g + 1) = omega arith in
    record {
      has = has-next (record was { ahead = was.ahead - 1 }) s t r l.end_count l.wait_count l.route_is
          l.order l.room l.lead_is
          (less ∙ ap (λ (m : ℕ). was.lead - m) (sym one))
          (subst (HasGathered was.gathering p) (sym (columns-early s h r early)) l.gathered);
      cells = λ place w below.
          (let waits = l.wait_count in
          waits-none (get_or was.waiting place w) s t n (lane_for s place)
          (cells-early s place t r (omega arith) early)
          (cells place w below));
      delivered_is = delivered-in s t was.gathering.frames was.gathering.at
          (rw none (delivered-nothing s h was.gathering.at
          (delivered-early (kind_of p) s h r.facts r.legal r.lanes r.octets r.begun r.kept early)));
    }

-- a tick in which each lane gives a cell
pub collects-late : (was now : Collecting) (given : List (Option LaneCell)) (s : Plan) (t n : ℕ)
    → IsRunOf s (run_of s t) → HasLeft was s t → HaveWaiting was.waiting s t (suc n)
    → is_running (moment_of s (run_of s t)).stage ≡ true → was.ahead ≡ 0
    → now.ends ≡ was.ends → now.route ≡ was.route → AreNext was.waiting now.waiting → given ≡ map next_of was.waiting
    → now.lead ≡ was.lead → now.ahead ≡ was.ahead
    → ((columns : Columns) (column : List LaneCell)
    → HasGathered was.gathering s.link.params columns → given ≡ map (λ c. Some c) column
    → HasGathered now.gathering s.link.params (columns ++ octet_columns s.link.params column))
    → ((columns : Columns) (column : List LaneCell)
    → HasGathered was.gathering s.link.params columns → given ≡ map (λ c. Some c) column
    → FramesAre now.gathering.frames s.link.params (length columns)
    (columns ++ octet_columns s.link.params column))
    → Collects now s t n
collects-late was now given s t n r l cells goes none same route taken gave first_same ahead_same gathers leave =
    let h : History = run_of s t in
    let p = s.link.params in
    let k : LaneKind = kind_of p in
    let g = gives_in (session s h) in
    let count = l.ahead_is in
    let first = l.lead_is in
    let waits = l.wait_count in
    let late : lead p ≤ g = omega arith in
    let runs = running (moment_of s h).stage goes in
    let one : (place : ℕ) → place < p.l
    → cells_at s (lane_for s place) t ≡ cell_given k s h place ∷ [] =
    λ place below. cells-late s place t r below goes late in
    let all : given ≡ map (λ c. Some c) (column k s h) =
    gave ∙ next-cells was.waiting (cell_given k s h) 0 p.l waits
    (λ place w below.
    let z : place ≡ 0 + place = omega arith in
    next-is (get_or was.waiting place w) (get_or now.waiting place w) s t n (lane_for s place)
    (cell_given k s h place) (one place (omega arith)) (taken.each place w (omega arith))
    (cells place w (omega arith))
    ∙ ap (λ (m : ℕ). Some (cell_given k s h m)) z) in
    let more : Columns = octet_columns p (column k s h) in
    let columns = columns-late s h r runs late in
    let gathered = gathers (columns_left s h) (column k s h) l.gathered all in
    let frames = leave (columns_left s h) (column k s h) l.gathered all in
    let gone : now.ahead ≡ now.lead - (g + (if is_running (moment_of s h).stage then 1 else 0)) =
    rw goes (omega arith) in
    let long = taken.count in
    record {
      has = has-next now s t r (ap length same ∙ l.end_count) (taken.count ∙ waits)
          (route ∙ l.route_is) l.order
          (room-next was.waiting now.waiting (period p) taken l.room) (first_same ∙ first) gone
          (subst (HasGathered now.gathering p) (sym columns) gathered);
      cells = λ place w below.
          waits-one (get_or was.waiting place w) (get_or now.waiting place w) s t n (lane_for s place)
          (cell_given k s h place) (one place (omega arith)) (taken.each place w (omega arith))
          (cells place w (omega arith));
      delivered_is = delivered-in s t now.gathering.frames now.gathering.at
          (delivered-frames s h now.gathering more r columns frames gathered);
    }

-- ---- before the first tick

pub collected-none : (now : Collecting) (s : Plan) → length now.ends ≡ s.link.params.l
    → length now.waiting ≡ s.link.params.l → now.route ≡ s.route
    → is_order s.link.params.l s.route ≡ true → HaveRoom now.waiting (period s.link.params)
    → now.lead ≡ lead_of s.link.params → now.ahead ≡ now.lead
    → HasGathered now.gathering s.link.params [] → HasCollected now s 0
unfolding run from_hunt
collected-none now s ends waits route order room first ahead gathered =
    let none : now.lead ≡ now.lead - 0 = omega arith in
    record {
      end_count = ends;
      wait_count = waits;
      route_is = route;
      order = order;
      room = room;
      lead_is = first;
      ahead_is = ahead ∙ none;
      gathered = subst (HasGathered now.gathering s.link.params)
          (sym (columns-now-none (kind_of s.link.params) s)) gathered;
    }
