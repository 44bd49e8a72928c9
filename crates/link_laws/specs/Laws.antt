-- The laws over a run (JESD204B.01 clauses 5.3.3 link operation and 6 deterministic latency; the
-- bound, the window and the marks are this project's own). They are stated for any kind of lane;
-- each is a law of one plan's run.
-- Code: none of this is computed.
use Rattle.std.specs.Prelude.{◌≡◌, ◌≢◌, ℕ, ◌+◌, ◌*◌, ◌%◌, ◌<◌, ◌≤◌, Bool, true, false, if◌then◌else◌, List, [], All, length, drop, get_or, slice_get, Some, None}
use Rattle.std.specs.List.{flat_map}
use Rattle.link_params.specs.declared.alarms.Alarm.{Alarm}
use Rattle.link_params.specs.declared.alarms.Alarm.TheVariants.{LaneWindow, LaneMissing, LaneLost, NoLock, IlasFault, ConfigMismatch, LaneId, SysrefPhase, StartTimeout}
use Rattle.link_params.specs.declared.alarms.Device.TheVariants.{Tx}
use Rattle.link_params.specs.declared.fields.Params.{Params}
use Rattle.link_params.specs.Laws.{is_b, broken_law}
use Rattle.link_params.specs.Lanes.{LaneKind}
use Rattle.link_params.specs.Numbers.{bound, depth, lat_ticks, latency, octets_per_tick, period}
use Rattle.link_params.specs.TimingLaws.{broken_timing}
use Rattle.code_8b10b.specs.Commas.{stands_at}
use Rattle.bring_up.specs.declared.stage.Decision.TheVariants.{Release}
use Rattle.bring_up.specs.Decisions.{is_running, some_started}
use Rattle.scenario.specs.Limits.{event_fits, is_order, jitter_fits}
use Rattle.scenario.specs.Plans.{Plan, source_frame}
use Rattle.link_model.specs.Edges.{last_reset}
use Rattle.link_model.specs.Moments.{Delivered, Moment}
use Rattle.link_model.specs.Report.{totals}
use Rattle.link_model.specs.Run.{run}
use Rattle.link_model.specs.Hunts.{session}
use Rattle.link_model.specs.Sessions.{InSession, at, decides_hunt, delivered_by, entered_by, first_tick, hunts_at, taken_at}
use Rattle.link_model.specs.Wiring.{lane_for}
use Rattle.link_laws.specs.Premises.{Clean, Inside, IsWithin, Lone, Met, Pattern, Undamaged}
use Rattle.link_laws.specs.LaneLaws.{IsMarkedWell, LaneLaws}
use Rattle.link_laws.specs.Checked.{Checks, checked_frame}
use Rattle.sample_map.specs.Layout.{FitFrame}

-- ---- Latency: each frame leaves LAT octets after it entered

-- o, for the tick b that is LATT ticks before a release: the octet time at which the session's
-- first frame enters; with 8b/10b lanes the alignment sequence begins in tick b
abbrev pub first_entry : Params → ℕ → ℕ
first_entry p b = octets_per_tick p * b + (if is_b p.mode then 4 * period p else 0)

-- frame k of the session has left whole by the end of tick t
abbrev pub HasLeft : Plan → ℕ → ℕ → ℕ → Type 0
HasLeft s t o k = let p = s.link.params in o + latency p s.link.timing + (k + 1) * p.f
    ≤ (t + 1) * octets_per_tick p

-- frame k of the session is source frame n + k: it entered at o + k·F, and leaves LAT octets later
-- with its words
pub record IsOnTime (kind : LaneKind) (s : Plan) (h t o n k : ℕ) : Type 0 where
  pub frame : Delivered
  pub entered : slice_get (entered_by kind s t) (n + k) ≡ Some (o + k * s.link.params.f)
  pub delivered : slice_get (delivered_by kind s h t) k ≡ Some frame
  pub left : frame.left ≡ o + k * s.link.params.f + latency s.link.params s.link.timing
  pub words : frame.words ≡ source_frame s (n + k)
  pub mark : IsMarkedWell s h t frame.mark

-- a frame n entered at o, where o has come by the end of tick t
pub record HasEntered (kind : LaneKind) (s : Plan) (h t o : ℕ) : Type 0 where
  pub n : ℕ
  pub first : slice_get (entered_by kind s t) n ≡ Some o
  pub frames : (k : ℕ) → HasLeft s t o k → IsOnTime kind s h t o n k

-- the session of hunt h with its release in tick r, up to tick t
pub record KeepsLatency (kind : LaneKind) (s : Plan) (h r t : ℕ) : Type 0 where
  pub b : ℕ
  pub late : b + lat_ticks s.link.params s.link.timing ≡ r
  pub enters : first_entry s.link.params b < (t + 1) * octets_per_tick s.link.params
      → HasEntered kind s h t (first_entry s.link.params b)
  pub no_other : (k : ℕ) → k < length (delivered_by kind s h t)
      → HasLeft s t (first_entry s.link.params b) k
  pub no_hunt : (i : ℕ) → r ≤ i → i ≤ t → decides_hunt kind s i ≡ false

-- after a release each frame that has left by tick t is on time
abbrev pub Latency : LaneKind → Pattern → Plan → Type 0
Latency kind pattern s = (h r t : ℕ) → InSession kind s h t → first_tick kind s h ≤ r → r ≤ t
    → (at kind s r).decided.decision ≡ Release
    → Met s t → Inside s t → Lone kind pattern s h t → Undamaged s h t → KeepsLatency kind s h r t

-- ---- Bound: an undisturbed link delivers in time

-- by the end of tick t a source frame that entered after tick h has been delivered
pub record HasDelivered (kind : LaneKind) (s : Plan) (h t : ℕ) : Type 0 where
  pub tick : ℕ
  pub since : first_tick kind s h ≤ tick
  pub by : tick ≤ t
  pub k : ℕ
  pub frame : Delivered
  pub delivered : slice_get (at kind s tick).delivered k ≡ Some frame
  pub n : ℕ
  pub entry : ℕ
  pub entered : slice_get (entered_by kind s t) n ≡ Some entry
  pub after : (h + 1) * octets_per_tick s.link.params ≤ entry
  pub left : frame.left ≡ entry + latency s.link.params s.link.timing
  pub words : frame.words ≡ source_frame s n

-- a hunt on an undisturbed link is followed by a delivery within the bound
abbrev pub Bound : LaneKind → Pattern → Plan → Type 0
Bound kind pattern s = let end : ℕ → ℕ = λ h. h + bound s.link.params s.link.timing in
    (h : ℕ) → hunts_at kind s h ≡ true → end h < s.ticks → Inside s h → Clean s h (end h)
    → ((t : ℕ) → h ≤ t → t ≤ end h → Met s t)
    → Lone kind pattern s h (end h) → HasDelivered kind s h (end h)

-- ---- Depth: each buffer has room, and an entry where it is to give one

-- a lane's buffer in tick t, with the entry of the tick and before one is given
pub record KeepsDepth (kind : LaneKind) (s : Plan) (lane t : ℕ) : Type 0 where
  pub fits : get_or (at kind s t).held lane 0 ≤ depth s.link.params s.link.timing
  pub gives : is_running (at kind s t).stage ≡ true → 0 < get_or (at kind s t).held lane 0

-- in every tick, in every scenario
abbrev pub Depth : LaneKind → Plan → Type 0
Depth kind s = (lane t : ℕ) → lane < s.link.params.l → t < s.ticks → KeepsDepth kind s lane t

-- what the last line of the report tells as the fullest buffer is within what its first line tells
-- as the depth
abbrev pub Fullest : LaneKind → Plan → Type 0
Fullest kind s = (totals s (run kind s s.ticks)).fullest ≤ depth s.link.params s.link.timing

-- ---- Outside: a lane outside its window raises an alarm, and nothing is released

-- D is the first decision of the session at which some lane has started
pub record IsFirstStarted (kind : LaneKind) (s : Plan) (h D : ℕ) : Type 0 where
  pub decides : (at kind s D).decides ≡ true
  pub started : some_started (at kind s D).reports ≡ true
  pub first : (i : ℕ) → first_tick kind s h ≤ i → i < D → (at kind s i).decides ≡ true
      → some_started (at kind s i).reports ≡ false

-- an alarm LaneWindow or LaneMissing for a lane that is outside
abbrev pub IsOutsideAlarm : Plan → ℕ → Alarm → Type 0
IsOutsideAlarm s t (LaneWindow lane offset) = (lane < s.link.params.l) × (IsWithin s lane t → ⊥)
IsOutsideAlarm s t (LaneMissing lane) = (lane < s.link.params.l) × (IsWithin s lane t → ⊥)
IsOutsideAlarm s t (LaneLost lane) = ⊥
IsOutsideAlarm s t (NoLock lane) = ⊥
IsOutsideAlarm s t (IlasFault lane x) = ⊥
IsOutsideAlarm s t (ConfigMismatch lane octet) = ⊥
IsOutsideAlarm s t (LaneId lane lid) = ⊥
IsOutsideAlarm s t (SysrefPhase d x) = ⊥
IsOutsideAlarm s t StartTimeout = ⊥

-- decision D raises alarms, all of them for lanes outside, a hunt begins, and the session delivered
-- nothing
pub record RaisesOutside (kind : LaneKind) (s : Plan) (h D : ℕ) : Type 0 where
  pub raises : (at kind s D).decided.alarms ≢ []
  pub outside : All (IsOutsideAlarm s D) (at kind s D).decided.alarms
  pub hunts : decides_hunt kind s D ≡ true
  pub nothing : delivered_by kind s h D ≡ []

-- where some lane is outside at the first decision that finds a start
abbrev pub Outside : LaneKind → Pattern → Plan → Type 0
Outside kind pattern s = (h D lane : ℕ) → InSession kind s h D → IsFirstStarted kind s h D → Met s D
    → Lone kind pattern s h D → Undamaged s h D
    → lane < s.link.params.l → (IsWithin s lane D → ⊥) → RaisesOutside kind s h D

-- ---- Marks: each delivered frame has the mark that is due

-- how many frames the session of tick t delivered before it
abbrev pub delivered_before : LaneKind → Plan → ℕ → ℕ
delivered_before kind s t =
    length (flat_map (λ (m : Moment). m.delivered) (session s (run kind s t)))

-- frame k of those that tick t delivers
abbrev pub Marks : LaneKind → Checks → Plan → Type 0
Marks kind checks s = (t k : ℕ) (d : Delivered) → t < s.ticks
    → slice_get (at kind s t).delivered k ≡ Some d
    → d.mark ≡ checked_frame checks s.link.params (λ place. taken_at kind s (lane_for s place) t)
    (delivered_before kind s t + k)

-- ---- NoImitation: nothing else that an 8b/10b lane sends looks like its lock

-- the bits that a lane sent since the transmitter's last reset, up to tick t
abbrev pub sent_since : LaneKind → Plan → ℕ → ℕ → List Bool
sent_since kind s lane t = flat_map (λ (m : Moment). get_or m.sent lane [])
    (drop (last_reset s Tx t) (run kind s (t + 1)))

-- the forty bits of a lock stand only where a character begins
abbrev pub NoImitation : LaneKind → Plan → Type 0
NoImitation kind s = (lane t x : ℕ) → lane < s.link.params.l → t < s.ticks
    → stands_at (sent_since kind s lane t) x ≡ true → x % 10 ≡ 0

-- the same in the bits that a lane sends in the ticks from any one on, whatever resets come among
-- them
abbrev pub NoImitationAcross : LaneKind → Plan → Type 0
NoImitationAcross kind s = (lane from t x : ℕ) → lane < s.link.params.l
    → stands_at (flat_map (λ (m : Moment). get_or m.sent lane []) (drop from (run kind s t))) x
    ≡ true → x % 10 ≡ 0

-- ---- from the lane laws, for any kind of lane

-- what the reading of a scenario gives of a plan
pub record IsPlanRead (s : Plan) : Type 0 where
  pub laws : broken_law s.link.params ≡ None
  pub timing : broken_timing s.link.params s.link.timing ≡ None
  pub events : All (λ e. event_fits s.link.params s.ticks e ≡ true) s.events
  pub jitters : All (λ j. jitter_fits j ≡ true) s.jitters
  pub wire : is_order s.link.params.l s.wire ≡ true
  pub route : is_order s.link.params.l s.route ≡ true
  pub frames : (n : ℕ) → FitFrame s.link.params (source_frame s n)

-- where the lane laws hold of a plan's run, so does Latency, whatever the kind of lane
abbrev pub LatencyFromLanes : Type 0
LatencyFromLanes = (kind : LaneKind) (pattern : Pattern) (s : Plan) → IsPlanRead s
    → LaneLaws kind pattern s → Latency kind pattern s

-- and so does Outside
abbrev pub OutsideFromLanes : Type 0
OutsideFromLanes = (kind : LaneKind) (pattern : Pattern) (s : Plan) → IsPlanRead s
    → LaneLaws kind pattern s → Outside kind pattern s

-- and so does Bound
abbrev pub BoundFromLanes : Type 0
BoundFromLanes = (kind : LaneKind) (pattern : Pattern) (s : Plan) → IsPlanRead s
    → LaneLaws kind pattern s → Bound kind pattern s
