-- What is over before the tick that comes: words for lemmas about a history, which the definition
-- of a run does not need.
-- Code: what the parts of a run keep.
use Rattle.std.specs.Prelude.{◌≤◌, ◌<◌, ◌+◌, ◌*◌, ℕ, zero, suc, List, [], Bool, ◌-◌, ◌/◌, ◌%◌, ◌==◌, if◌then◌else◌, map, fold, length, get_or, Option, Some, None, false, ◌++◌, take, drop, slice_index, unwrap_or, true, replicate}
use Rattle.link_params.specs.declared.alarms.Device.{Device}
use Rattle.link_params.specs.Links.{Link}
use Rattle.scenario.specs.Plans.{Plan, numbers_from}
use Rattle.link_params.specs.declared.fields.Params.{Params}
use Rattle.link_params.specs.declared.cells.LaneCell.{LaneCell}
use Rattle.link_params.specs.declared.cells.Mark.{Mark}
use Rattle.link_params.specs.declared.cells.Mark.TheVariants.{Ok as Good}
use Rattle.link_params.specs.Lanes.{worse, Entry, Handed, LaneKind}
use Rattle.link_params.specs.declared.alarms.Device.TheVariants.{Tx, Rx}
use Rattle.link_params.specs.Numbers.{octets_per_tick}
use Rattle.link_params.specs.declared.lane_report.LaneReport.{LaneReport}
use Rattle.sample_map.specs.Frames.{words_of}
use Rattle.bring_up.specs.Decisions.{is_hunting}
use Rattle.link_model.specs.Carried.{delay_at, first_delay, is_dead}
use Rattle.link_model.specs.Edges.{edges, last_reset}
use Rattle.link_model.specs.Gives.{gives_in, octets_given, octets_in}
use Rattle.link_model.specs.Hunts.{from_hunt, points}
use Rattle.link_model.specs.Moments.{Delivered, History}
use Rattle.link_model.specs.Orders.{Observed}
use Rattle.link_model.specs.Receives.{taken_in}
use Rattle.link_model.specs.Sends.{observed_at}
use Rattle.link_model.specs.Wiring.{lane_for, route_of}

-- whether an edge was captured, in each tick since the last reset, where tick t comes next
abbrev pub edges_before : Plan → Device → ℕ → List Bool
edges_before s d zero = []
edges_before s d (suc t) = edges s d t

-- the limits of a link's SYSREF edges
pub record IsPaced (k : Link) : Type 0 where
  pub period_low : 17 ≤ k.timing.sysref_period
  pub period_high : k.timing.sysref_period ≤ 1048576
  pub start_low : 2 ≤ k.timing.sysref_start
  pub start_high : k.timing.sysref_start < k.timing.sysref_period
  pub tx_skew : k.timing.tx_skew ≤ 16384
  pub rx_skew : k.timing.rx_skew ≤ 16384

-- edge i of a link may be captured in tick t: no jitter brings it more than two ticks forward
abbrev pub IsNear : Link → ℕ → ℕ → Type 0
IsNear k i t = k.timing.sysref_start + i * k.timing.sysref_period ≤ t + 2

abbrev pub no_cell : LaneCell
no_cell = record { value = 0; mark = Good }

-- a column: an octet of each lane of the frame, each with its cell's mark; the columns of a session,
-- oldest first
abbrev pub Columns : Type 0
Columns = List (List LaneCell)

-- octet j of a lane in frame n of the columns
abbrev pub cell_at : Params → Columns → ℕ → ℕ → ℕ → LaneCell
cell_at p columns n lane j = get_or (get_or columns (n * p.f + j) []) lane no_cell

-- the first m octets of each lane in frame n, lane 0's first
abbrev pub cells_of : Params → Columns → ℕ → ℕ → List LaneCell
cells_of p columns n m = map (λ i. cell_at p columns n (i / m) (i % m)) (numbers_from 0 (p.l * m))

abbrev pub mark_of : List LaneCell → Mark
mark_of cells = fold worse Good (map (λ c. c.mark) cells)

-- a cell of an 8b/10b lane is one octet
abbrev pub cell_octets : List LaneCell → List ℕ
cell_octets cells = map (λ c. c.value % 256) cells

-- the mark of the frame that is whole with the last of these columns
abbrev pub whole_mark : Params → Columns → Option Mark
whole_mark p columns = let n = length columns in
    if n % p.f == 0 then Some (mark_of (cells_of p columns (n / p.f - 1) p.f)) else None

-- the device's last reset before tick t, or 0
abbrev pub reset_before : Plan → Device → ℕ → ℕ
reset_before s d zero = 0
reset_before s d (suc t) = last_reset s d t

-- the delay of a lane before tick t, and whether it was dead
abbrev pub delay_before : Plan → ℕ → ℕ → ℕ
delay_before s lane zero = first_delay s
delay_before s lane (suc t) = delay_at s lane t

abbrev pub dead_before : Plan → ℕ → ℕ → Bool
dead_before s lane zero = false
dead_before s lane (suc t) = is_dead s lane t

-- the tick that came last, and those before it since its hunt
abbrev pub current : History → History
current h = unwrap_or (from_hunt h) []

-- what a lane was handed in these ticks
abbrev pub handed_in : History → ℕ → List Handed
handed_in h lane = map (λ m. record { order = m.order; octets = slice_index m.handed lane }) h

-- the transmitter's ticks since its reset, in the ticks that are over
unfoldable pub observed_before : Plan → History → List Observed
observed_before s h = let t = length h in
    let r = reset_before s Tx t in map (observed_at s h) (numbers_from r (t - r))

-- the reports at the receiver's decisions since its reset
abbrev pub decisions_before : Plan → History → List (List LaneReport)
decisions_before s h = points (drop (reset_before s Rx (length h)) h)

-- the entries that came into a lane's elastic buffer in the session of the last tick
abbrev pub entries_now : LaneKind → Plan → History → ℕ → List Entry
entries_now k s h lane =
    k.entries s.link.params s.link.timing (route_of s lane) (taken_in (current h) lane)

-- the octets that a lane gave in the session of the last tick, each with its cell's mark
abbrev pub octets_now : LaneKind → Plan → History → ℕ → List LaneCell
octets_now k s h lane =
    octets_given s.link.params (gives_in (current h)) (entries_now k s h lane)

-- and those of all lanes of the frame, octet by octet
unfoldable pub columns_now : LaneKind → Plan → History → Columns
columns_now k s h =
    map (λ i. map (λ place. get_or (octets_now k s h (lane_for s place)) i no_cell)
    (numbers_from 0 s.link.params.l))
    (numbers_from 0 (length (octets_now k s h (lane_for s 0))))

-- the octet columns of a tick in which each lane gives one of these cells
abbrev pub octet_columns : Params → List LaneCell → Columns
octet_columns p column =
    map (λ j. map (λ c. get_or (octets_in p c) j no_cell) column)
    (numbers_from 0 (octets_per_tick p))

abbrev pub values_of : List LaneCell → List ℕ
values_of cells = map (λ c. c.value) cells

-- the frames that are whole with these columns and were not with the first `before` of them; end:
-- the octet time after the last column
abbrev pub delivered_at : Params → ℕ → ℕ → Columns → List Delivered
delivered_at p end before columns =
    map (λ n. record {
      left = end + n * p.f - length columns;
      mark = mark_of (cells_of p columns n p.f);
      words = words_of p (values_of (cells_of p columns n p.f));
    }) (numbers_from (before / p.f) (length columns / p.f - before / p.f))

-- the levels of SYNC~ as the transmitter sees them, in each tick up to the one after these levels:
-- true where it is low
abbrev pub seen_of : ℕ → List Bool → List Bool
seen_of delay lows = take (length lows + 1) (replicate (delay + 1) true ++ lows)

-- the levels of SYNC~ after each tick: true where it is low
abbrev pub levels_after : History → List Bool
levels_after h = map (λ m. is_hunting m.stage) h
