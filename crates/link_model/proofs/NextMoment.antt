-- The tick that comes after a history, field by field, for any kind of lane.
use Rattle.std.proofs.Common.{◌≡◌, ℕ, ◌+◌, ◌-◌, ◌*◌, if◌then◌else◌, List, [], ◌∷◌, ◌++◌, map, length, get_or, slice_index, refl}
use Rattle.link_params.specs.Lanes.{Entry, LaneKind, Taken}
use Rattle.link_params.specs.Numbers.{octets_per_tick}
use Rattle.link_params.specs.declared.alarms.Device.TheVariants.{Rx}
use Rattle.bring_up.specs.Decisions.{is_running}
use Rattle.scenario.specs.Plans.{Plan, numbers_from}
use Rattle.link_model.specs.Carried.{received}
use Rattle.link_model.specs.Edges.{phase}
use Rattle.link_model.specs.Gives.{frames_given, gives_in}
use Rattle.link_model.specs.Hunts.{session, standing}
use Rattle.link_model.specs.Moments.{History, Moment}
use Rattle.link_model.specs.Receives.{taken_in, told_of}
use Rattle.link_model.specs.Run.{decided_in, is_at, moment, stage_after}
use Rattle.link_model.specs.Wiring.{by_frame, route_of, wire_of}
use Rattle.link_model.specs.Sends.{beginnings, data_place, frames_before, handed_to, order_of, sent_bits, sent_by}

abbrev pub next : LaneKind → Plan → History → Moment
next k s h = moment k s h

-- the history with it
abbrev pub with_next : LaneKind → Plan → History → History
with_next k s h = h ++ next k s h ∷ []

-- the numbers of the lanes
abbrev pub lanes_of : Plan → List ℕ
lanes_of s = numbers_from 0 s.link.params.l

-- what a lane took in the session, with this tick
abbrev pub took : LaneKind → Plan → History → ℕ → List Taken
took k s h lane = taken_in (session s h) lane
    ++ (record { order = told_of s h; word = get_or (next k s h).taken lane [] }) ∷ []

-- the entries of a lane in the session, with this tick
abbrev pub entries_of : LaneKind → Plan → History → ℕ → List Entry
entries_of k s h lane = k.entries s.link.params s.link.timing (route_of s lane) (took k s h lane)

pub order-next : (k : LaneKind) (s : Plan) (h : History) → (next k s h).order ≡ order_of s h
unfolding moment
order-next k s h = refl

pub entered-next : (k : LaneKind) (s : Plan) (h : History)
    → (next k s h).entered ≡ map (λ j. octets_per_tick s.link.params * length h + j)
    (beginnings s.link.params (data_place (next k s h).order))
unfolding moment
entered-next k s h = refl

pub handed-next : (k : LaneKind) (s : Plan) (h : History)
    → (next k s h).handed ≡ map (handed_to s (frames_before h) (data_place (next k s h).order))
    (lanes_of s)
unfolding moment
handed-next k s h = refl

pub sent-next : (k : LaneKind) (s : Plan) (h : History)
    → (next k s h).sent
    ≡ map (λ l. sent_by k s h (next k s h).order (slice_index (next k s h).handed l) l)
    (lanes_of s)
unfolding moment
sent-next k s h = refl

pub told-next : (k : LaneKind) (s : Plan) (h : History) → (next k s h).told ≡ told_of s h
unfolding moment
told-next k s h = refl

pub taken-next : (k : LaneKind) (s : Plan) (h : History)
    → (next k s h).taken
    ≡ map (λ l. received s l (length h)
    (sent_bits h (wire_of s l) ++ get_or (next k s h).sent (wire_of s l) [])) (lanes_of s)
unfolding moment
taken-next k s h = refl

pub reports-next : (k : LaneKind) (s : Plan) (h : History)
    → (next k s h).reports
    ≡ map (λ l. k.report s.link.params s.link.timing (route_of s l) (took k s h l)) (lanes_of s)
unfolding moment
reports-next k s h = refl

pub held-next : (k : LaneKind) (s : Plan) (h : History)
    → (next k s h).held ≡ map (λ es. length es - gives_in (session s h))
    (map (entries_of k s h) (lanes_of s))
unfolding moment
held-next k s h = refl

pub decides-next : (k : LaneKind) (s : Plan) (h : History)
    → (next k s h).decides ≡ is_at (phase s Rx (length h)) s.link.timing.rbd
unfolding moment
decides-next k s h = refl

pub decided-next : (k : LaneKind) (s : Plan) (h : History)
    → (next k s h).decided ≡ decided_in s (standing s h) (next k s h).decides (next k s h).reports
unfolding moment
decided-next k s h = refl

pub stage-next : (k : LaneKind) (s : Plan) (h : History)
    → (next k s h).stage ≡ stage_after s (standing s h) (next k s h).decides (next k s h).reports
unfolding moment
stage-next k s h = refl

pub delivered-next : (k : LaneKind) (s : Plan) (h : History)
    → (next k s h).delivered ≡ (if is_running (next k s h).stage
    then frames_given s.link.params (length h - gives_in (session s h)) (gives_in (session s h))
    (by_frame s [] (map (entries_of k s h) (lanes_of s)))
    else [])
unfolding moment
delivered-next k s h = refl
