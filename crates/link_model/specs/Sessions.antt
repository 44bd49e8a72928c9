-- The sessions of a run: from one hunt of the receiver to the next (this project's own names for
-- JESD204B.01 clause 5.3.3, link operation). A session is named by its hunt's tick. Of two hunts in
-- tick 0 it is the later one.
-- Code: none of this is computed.
use Rattle.std.specs.Prelude.{◌≡◌, ℕ, ◌+◌, ◌==◌, ◌<◌, ◌||◌, Bool, true, false, if◌then◌else◌, List, [], ◌∷◌, ◌++◌, drop, get_or, None}
use Rattle.std.specs.List.{flat_map}
use Rattle.link_params.specs.declared.alarms.Device.TheVariants.{Rx}
use Rattle.link_params.specs.declared.ilas_state.IlasState.TheVariants.{Idle}
use Rattle.link_params.specs.declared.lane_report.LaneReport.{LaneReport}
use Rattle.link_params.specs.Lanes.{Entry, LaneKind, Taken}
use Rattle.scenario.specs.Plans.{Plan}
use Rattle.link_model.specs.Edges.{is_reset}
use Rattle.link_model.specs.Moments.{Delivered, Moment}
use Rattle.link_model.specs.Hunts.{is_hunt, session}
use Rattle.link_model.specs.Run.{moment, run}
use Rattle.link_model.specs.Receives.{taken_in}
use Rattle.link_model.specs.Wiring.{route_of}

-- ---- a tick of a run

-- tick t of a plan's run
abbrev pub at : LaneKind → Plan → ℕ → Moment
at kind s t = moment kind s (run kind s t)

abbrev pub no_report : LaneReport
no_report = record { locked = false; started = None; lost = false; ilas = Idle }

-- what a lane reports in tick t, before the decision
abbrev pub report_at : LaneKind → Plan → ℕ → ℕ → LaneReport
report_at kind s lane t = get_or (at kind s t).reports lane no_report

-- the lanes are armed in tick t
abbrev pub is_armed : LaneKind → Plan → ℕ → Bool
is_armed kind s t = (at kind s t).told.armed

-- what a lane took in the session of tick t, up to it
abbrev pub taken_at : LaneKind → Plan → ℕ → ℕ → List Taken
taken_at kind s lane t = taken_in (session s (run kind s t) ++ at kind s t ∷ []) lane

-- the entries that its buffer was given since its start
abbrev pub entries_at : LaneKind → Plan → ℕ → ℕ → List Entry
entries_at kind s lane t =
    kind.entries s.link.params s.link.timing (route_of s lane) (taken_at kind s lane t)

-- ---- hunts

-- the decision of tick t begins a hunt
abbrev pub decides_hunt : LaneKind → Plan → ℕ → Bool
decides_hunt kind s t = is_hunt (at kind s t).decided.decision

-- a hunt begins in tick h: the run's first, one by a reset, or one by a decision
abbrev pub hunts_at : LaneKind → Plan → ℕ → Bool
hunts_at kind s h = (h == 0) || is_reset s Rx h || decides_hunt kind s h

-- the first tick of its session: a decision belongs to the session that it ends
abbrev pub first_tick : LaneKind → Plan → ℕ → ℕ
first_tick kind s h = if decides_hunt kind s h then h + 1 else h

-- t is a tick of the run above h, and no hunt begins after h and before t
pub record InSession (kind : LaneKind) (s : Plan) (h t : ℕ) : Type 0 where
  pub begins : hunts_at kind s h ≡ true
  pub above : h < t
  pub in_run : t < s.ticks
  pub alone : (i : ℕ) → h < i → i < t → hunts_at kind s i ≡ false

-- ---- what a session gives

-- the octet times at which source frames began, up to tick t: that of frame n is number n
abbrev pub entered_by : LaneKind → Plan → ℕ → List ℕ
entered_by kind s t = flat_map (λ (m : Moment). m.entered) (run kind s (t + 1))

-- the frames that the session of hunt h delivered up to tick t
abbrev pub delivered_by : LaneKind → Plan → ℕ → ℕ → List Delivered
delivered_by kind s h t = flat_map (λ (m : Moment). m.delivered)
    (drop (first_tick kind s h) (run kind s (t + 1)))
