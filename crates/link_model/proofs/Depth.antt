-- No lane's buffer holds more entries than it has room for, and each lane has an entry to give
-- while the lanes run.
use Rattle.std.proofs.Common.{◌≡◌, ℕ, zero, suc, ◌+◌, ◌-◌, ◌%◌, ◌<◌, ◌≤◌, Bool, true, false, not, ◌||◌, if◌then◌else◌, List, [], ◌∷◌, ◌++◌, length, get_or, Option, Some, None, inl, inr, refl, sym, ap, ◌∙◌, arith}
use Rattle.std.proofs.lemmas.Bool.{cases_Bool, or_parts}
use Rattle.std.proofs.lemmas.List.{get_or-map, length-map}
use Rattle.link_params.specs.declared.alarms.Device.TheVariants.{Rx}
use Rattle.link_params.specs.declared.lane_report.LaneReport.{LaneReport}
use Rattle.link_params.specs.Laws.{broken_law}
use Rattle.link_params.specs.Lanes.{LaneKind, Taken}
use Rattle.link_params.specs.Numbers.{depth, period, width}
use Rattle.link_params.specs.TimingLaws.{broken_timing}
use Rattle.line_model.specs.LineBits.{line_bit, line_word}
use Rattle.line_model.specs.LineBits as line
use Rattle.bring_up.specs.declared.stage.Stage.TheVariants as stage
use Rattle.bring_up.specs.declared.stage.Decision.TheVariants as decision
use Rattle.bring_up.specs.Decisions.{Decided, Standing, after_decision, decide, is_running}
use Rattle.lane_c.specs.kept.Receivers.{IsArmedOn}
use Rattle.scenario.specs.Plans.{Plan}
use Rattle.link_model.proofs.ArmedHistory.{HasArmed, arming, armed-next, armed-start}
use Rattle.link_model.proofs.DecisionCases.{no_report}
use Rattle.link_model.proofs.KindFacts.{AreTicks, AreWords, KindFacts, are-words-more, started_by}
use Rattle.link_model.proofs.LaneDepth.{InHunt, LaneIn, Outcome, lane-step, room-in}
use Rattle.link_model.proofs.LaneHistory.{HasHunt, current-session, gives-in-more, has-hunt-run, hunt-next, session-goes-on, session-hunt, taken-lane, took-stepped}
use Rattle.link_model.proofs.NextMoment.{decided-next, decides-next, lanes_of, next, reports-next, stage-next, took, with_next}
use Rattle.link_model.proofs.NumberLists.{get_or-numbers, length-numbers}
use Rattle.link_model.proofs.RxHistory.{ends-in-hunt-more, stage-standing, standing-after-none, standing-kept, standing-reset, standing_after}
use Rattle.link_model.proofs.TxHistory.{length-more}
use Rattle.link_model.proofs.WindowFacts.{IsLegal, legal, phase-next}
use Rattle.link_model.specs.kept.Before.{current, entries_now}
use Rattle.link_model.specs.Carried.{received, with_polarity}
use Rattle.link_model.specs.Edges.{is_reset, phase}
use Rattle.link_model.specs.Gives.{gives_in}
use Rattle.link_model.specs.Hunts.{begins_hunt, ends_in_hunt, from_hunt, session, standing}
use Rattle.link_model.specs.Moments.{History, Moment}
use Rattle.link_model.specs.Receives.{taken_in, told_of}
use Rattle.link_model.specs.Run.{run}
use Rattle.link_model.specs.Wiring.{has_inverted_polarity, route_of}

-- ---- what a lane takes

length-places : (n a : ℕ) → length (line.numbers_from a n) ≡ n
unfolding line.numbers_from
length-places zero a = refl
length-places (suc n) a = ap suc (length-places n (suc a))

pub length-line-word : (w : ℕ) (sent : List Bool) (flips : List ℕ) (d : ℕ) (dead : Bool)
    → length (line_word w sent flips d dead) ≡ w
unfolding line_word
length-line-word w sent flips d dead =
    length-map (line.numbers_from (length sent - w) w) (line_bit sent flips d dead)
    ∙ length-places w (length sent - w)

length-with-polarity : (b : Bool) (word : List Bool) → length (with_polarity b word) ≡ length word
length-with-polarity true word = length-map word not
length-with-polarity false word = refl

-- each tick has the bits of a word
pub word-size : (kind : LaneKind) (s : Plan) (h : History) (lane : ℕ) → lane < s.link.params.l
    → length (get_or (next kind s h).taken lane []) ≡ width s.link.params
unfolding received
word-size kind s h lane below =
    ap length (taken-lane kind s h lane below)
    ∙ length-with-polarity (has_inverted_polarity s lane) _
    ∙ length-line-word (width s.link.params) _ _ _ _

-- the report of a lane
pub report-lane : (kind : LaneKind) (s : Plan) (h : History) (lane : ℕ) → lane < s.link.params.l
    → get_or (next kind s h).reports lane no_report
    ≡ kind.report s.link.params s.link.timing (route_of s lane) (took kind s h lane)
report-lane kind s h lane below =
    let long = length-numbers s.link.params.l 0 in
    let f : ℕ → LaneReport =
    λ l. kind.report s.link.params s.link.timing (route_of s l) (took kind s h l) in
    let same : 0 + lane ≡ lane = omega arith in
    ap (λ (l : List LaneReport). get_or l lane no_report) (reports-next kind s h)
    ∙ get_or-map f (lanes_of s) lane 0 no_report (omega arith)
    ∙ ap f (get_or-numbers s.link.params.l lane 0 0 below ∙ same)

pub length-reports : (kind : LaneKind) (s : Plan) (h : History)
    → length (next kind s h).reports ≡ s.link.params.l
length-reports kind s h =
    ap length (reports-next kind s h)
    ∙ length-map (lanes_of s)
    (λ l. kind.report s.link.params s.link.timing (route_of s l) (took kind s h l))
    ∙ length-numbers s.link.params.l 0

-- ---- what is kept

-- the receiver's phase in the tick before
abbrev pub phase_before : Plan → ℕ → Option ℕ
phase_before s zero = None
phase_before s (suc t) = phase s Rx t

-- a lane of a run: where it stands, and that its buffer has room
pub record HasDepth (kind : LaneKind) (s : Plan) (h : History) (lane : ℕ) : Type 0 where
  pub words : AreWords (width s.link.params) (taken_in (current h) lane)
  pub armed : HasArmed s h
  pub in_hunt : ends_in_hunt h ≡ true → (standing_after s h).stage ≡ stage.Hunt
  pub goes : ends_in_hunt h ≡ false → LaneIn (standing_after s h).stage s.link.params s.link.timing
      (phase_before s (length h))
      (started_by kind s.link.params s.link.timing (route_of s lane) (taken_in (current h) lane))
      (length (entries_now kind s h lane)) (gives_in (current h))
  pub within : gives_in (current h) ≤ length (entries_now kind s h lane)
  pub fits : length (entries_now kind s h lane) - gives_in (current h)
      ≤ depth s.link.params s.link.timing

-- the same with the tick that comes: what the session holds
pub record IsReady (kind : LaneKind) (s : Plan) (h : History) (lane : ℕ) : Type 0 where
  pub ticks : AreTicks (width s.link.params) (taken_in (session s h) lane)
  pub on : IsArmedOn (taken_in (session s h) lane) (told_of s h)
  pub within : gives_in (session s h)
      ≤ length (kind.entries s.link.params s.link.timing (route_of s lane) (taken_in (session s h) lane))
  pub lane_in : LaneIn (standing s h).stage s.link.params s.link.timing (phase_before s (length h))
      (started_by kind s.link.params s.link.timing (route_of s lane) (taken_in (session s h) lane))
      (length (kind.entries s.link.params s.link.timing (route_of s lane) (taken_in (session s h) lane)))
      (gives_in (session s h))
  pub phases : (x : ℕ) → phase_before s (length h) ≡ Some x → (standing s h).stage ≡ stage.Wait
      → phase s Rx (length h) ≡ Some ((x + 1) % period s.link.params)

ready-hunt : (kind : LaneKind) (s : Plan) (h : History) (lane : ℕ) → session s h ≡ []
    → (standing s h).stage ≡ stage.Hunt → KindFacts kind s.link.params s.link.timing → HasArmed s h
    → IsReady kind s h lane
ready-hunt kind s h lane none hunts facts armed =
    let u = facts.nothing (route_of s lane) in
    let a = arming kind s h lane armed in
    let here : InHunt (started_by kind s.link.params s.link.timing (route_of s lane) [])
    (length (kind.entries s.link.params s.link.timing (route_of s lane) [])) 0 =
    record { unstarted = u.started; empty = ap length u.entries; gave = refl } in
    record {
      ticks = record {
        words = rw none tt;
        armed = a.stays;
      };
      on = a.on;
      within = rw none (omega arith);
      lane_in = rw (none, hunts) here;
      phases = λ x e waits. let bad : stage.Hunt ≡ stage.Wait = sym hunts ∙ waits in absurd (cc);
    }

phase-goes : (s : Plan) (n x : ℕ) → 0 < period s.link.params → is_reset s Rx n ≡ false
    → phase_before s n ≡ Some x
    → phase s Rx n ≡ Some ((x + 1) % period s.link.params)
phase-goes s zero x pos e some = let bad : None ≡ Some x = some in absurd (cc)
phase-goes s (suc n) x pos e some = phase-next s n x pos e some

pub ready : (kind : LaneKind) (s : Plan) (h : History) (lane : ℕ)
    → KindFacts kind s.link.params s.link.timing
    → IsLegal s.link.params s.link.timing → HasDepth kind s h lane → IsReady kind s h lane
ready kind s h lane facts l d = elim (cases_Bool (is_reset s Rx (length h))) [
  | inl e ↦
      let begins : begins_hunt s h ≡ true = ap (λ (b : Bool). b || ends_in_hunt h) e in
      ready-hunt kind s h lane (session-hunt kind s h (hunt-next kind s h ∙ begins))
      (ap (λ (x : Standing). x.stage) (standing-reset s h e)) facts d.armed
  | inr e ↦
      let kept = standing-kept s h e in
      let same : begins_hunt s h ≡ ends_in_hunt h = ap (λ (b : Bool). b || ends_in_hunt h) e in
      elim (cases_Bool (ends_in_hunt h)) [
        | inl ends ↦ ready-hunt kind s h lane
            (session-hunt kind s h (hunt-next kind s h ∙ same ∙ ends))
            (ap (λ (x : Standing). x.stage) kept ∙ d.in_hunt ends) facts d.armed
        | inr goes ↦
            let on = session-goes-on kind s h (hunt-next kind s h ∙ same ∙ goes) in
            let some = l.some in
            let a = arming kind s h lane d.armed in
            record {
              ticks = record {
                words = rw on d.words;
                armed = a.stays;
              };
              on = a.on;
              within = rw on d.within;
              lane_in = rw (on, kept) (d.goes goes);
              phases = λ x is waits. phase-goes s (length h) x (omega arith) e is;
            }
      ]
]

-- ---- a tick

pub tick-outcome : (kind : LaneKind) (s : Plan) (h : History) (lane : ℕ)
    → KindFacts kind s.link.params s.link.timing → IsLegal s.link.params s.link.timing
    → lane < s.link.params.l → HasDepth kind s h lane
    → Outcome s.link.params s.link.timing (next kind s h).decided.decision (next kind s h).stage
    (phase s Rx (length h))
    (started_by kind s.link.params s.link.timing (route_of s lane) (took kind s h lane))
    (length (kind.entries s.link.params s.link.timing (route_of s lane) (took kind s h lane)))
    (gives_in (session s h))
unfolding told_of
tick-outcome kind s h lane facts l below kept =
    let p = s.link.params in
    let t = s.link.timing in
    let m = next kind s h in
    let before : Standing = standing s h in
    let r = ready kind s h lane facts l kept in
    let w : Taken = record { order = told_of s h; word = get_or m.taken lane [] } in
    let d_is : m.decided.decision
    ≡ (if m.decides then (decide p t before.stage before.since m.reports).decision else
    decision.Stay) =
    ap (λ (x : Decided). x.decision) (decided-next kind s h)
    ∙ elim (cases_Bool m.decides) [ inl e ↦ rw e refl | inr e ↦ rw e refl ] in
    let after_is : m.stage
    ≡ (if m.decides then
    (after_decision before m.reports
    (decide p t before.stage before.since m.reports).decision).stage else before.stage) =
    stage-next kind s h in
    let long = length-reports kind s h in
    lane-step p t l kind facts (route_of s lane) (taken_in (session s h) lane) w r.ticks
    (word-size kind s h lane below) r.on
    before m.reports m.decides m.decided.decision m.stage d_is after_is
    (phase_before s (length h)) (phase s Rx (length h)) (gives_in (session s h)) lane refl refl r.phases
    (decides-next kind s h) (omega arith)
    (ap (λ (x : LaneReport). x.started) (report-lane kind s h lane below)) r.lane_in

-- what a lane took in the session with the tick
pub taken-more : (kind : LaneKind) (s : Plan) (h : History) (lane : ℕ) → HasHunt h
    → taken_in (current (with_next kind s h)) lane ≡ took kind s h lane
taken-more kind s h lane begun = sym (took-stepped kind s h lane begun)

pub entries-more : (kind : LaneKind) (s : Plan) (h : History) (lane : ℕ) → HasHunt h
    → entries_now kind s (with_next kind s h) lane ≡ kind.entries s.link.params s.link.timing (route_of s lane)
    (took kind s h lane)
entries-more kind s h lane begun = ap (kind.entries s.link.params s.link.timing (route_of s lane))
    (taken-more kind s h lane begun)

pub gives-more : (kind : LaneKind) (s : Plan) (h : History) → HasHunt h
    → gives_in (current (with_next kind s h)) ≡ gives_in (session s h)
    + (if is_running (next kind s h).stage then 1 else 0)
gives-more kind s h begun = ap gives_in (current-session kind s h begun)
    ∙ gives-in-more (session s h) (next kind s h)

phase-before-more : (s : Plan) (h : History) (m : Moment)
    → phase_before s (length (h ++ m ∷ [])) ≡ phase s Rx (length h)
phase-before-more s h m = ap (phase_before s) (length-more h m)

pub depth-none : (kind : LaneKind) (s : Plan) (lane : ℕ)
    → KindFacts kind s.link.params s.link.timing → HasDepth kind s [] lane
unfolding from_hunt ends_in_hunt
depth-none kind s lane facts =
    let u = facts.nothing (route_of s lane) in
    let empty = ap length u.entries in
    record {
      words = tt;
      armed = armed-start s;
      in_hunt = λ e. ap (λ (x : Standing). x.stage) (standing-after-none s);
      goes = λ e. let bad : true ≡ false = e in absurd (cc);
      within = omega arith;
      fits = omega arith;
    }

pub depth-next : (kind : LaneKind) (s : Plan) (h : History) (lane : ℕ)
    → KindFacts kind s.link.params s.link.timing → IsLegal s.link.params s.link.timing
    → lane < s.link.params.l → HasHunt h
    → HasDepth kind s h lane → HasDepth kind s (with_next kind s h) lane
depth-next kind s h lane facts l below begun kept =
    let o = tick-outcome kind s h lane facts l below kept in
    let ends = ends-in-hunt-more h (next kind s h) in
    let after = stage-standing kind s h in
    let taken = taken-more kind s h lane begun in
    let gave = gives-more kind s h begun in
    let entries = entries-more kind s h lane begun in
    let many = ap length entries in
    let fits = o.fits in
    let within = o.within in
    let r = ready kind s h lane facts l kept in
    let at = phase-before-more s h (next kind s h) in
    record {
      words =
          rw taken
          (are-words-more (width s.link.params) (taken_in (session s h) lane)
          (record { order = told_of s h; word = get_or (next kind s h).taken lane [] })
          r.ticks.words (word-size kind s h lane below));
      armed = armed-next kind s h begun kept.armed;
      in_hunt = λ e. sym after ∙ o.hunts (sym ends ∙ e);
      goes = λ e. rw (← after, at, entries, taken, gave) (o.goes (sym ends ∙ e));
      within = omega arith;
      fits = omega arith;
    }

-- ---- runs

pub depth-run : (kind : LaneKind) (t : ℕ) (s : Plan) (lane : ℕ)
    → KindFacts kind s.link.params s.link.timing → broken_law s.link.params ≡ None
    → broken_timing s.link.params s.link.timing ≡ None
    → lane < s.link.params.l → HasDepth kind s (run kind s t) lane
unfolding run
depth-run kind zero s lane facts laws timing below = depth-none kind s lane facts
depth-run kind (suc t) s lane facts laws timing below =
    depth-next kind s (run kind s t) lane facts (legal s.link.params s.link.timing laws timing)
    below (has-hunt-run kind t s)
    (depth-run kind t s lane facts laws timing below)

-- there is room for the entry of the tick that comes, where it begins no hunt
pub has-room : (kind : LaneKind) (t : ℕ) (s : Plan) (lane : ℕ)
    → KindFacts kind s.link.params s.link.timing → broken_law s.link.params ≡ None
    → broken_timing s.link.params s.link.timing ≡ None
    → lane < s.link.params.l → (told_of s (run kind s t)).hunt ≡ false
    → length (entries_now kind s (run kind s t) lane) - gives_in (current (run kind s t))
    < depth s.link.params s.link.timing
unfolding told_of
has-room kind t s lane facts laws timing below goes =
    let h = run kind s t in
    let l = legal s.link.params s.link.timing laws timing in
    let d = depth-run kind t s lane facts laws timing below in
    let no = (or_parts (is_reset s Rx (length h)) (ends_in_hunt h) goes).1 in
    room-in s.link.params s.link.timing l (standing_after s h).stage (phase_before s (length h))
    (started_by kind s.link.params s.link.timing (route_of s lane) (taken_in (current h) lane))
    (length (entries_now kind s h lane)) (gives_in (current h)) (d.goes no)

-- the lanes gave no more than came
pub gave-within : (kind : LaneKind) (t : ℕ) (s : Plan) (lane : ℕ)
    → KindFacts kind s.link.params s.link.timing → broken_law s.link.params ≡ None
    → broken_timing s.link.params s.link.timing ≡ None
    → lane < s.link.params.l
    → gives_in (current (run kind s t)) ≤ length (entries_now kind s (run kind s t) lane)
gave-within kind t s lane facts laws timing below =
    (depth-run kind t s lane facts laws timing below).within

-- no buffer ever holds more than it has room for
pub depth-holds : (kind : LaneKind) (t : ℕ) (s : Plan) (lane : ℕ)
    → KindFacts kind s.link.params s.link.timing → broken_law s.link.params ≡ None
    → broken_timing s.link.params s.link.timing ≡ None
    → lane < s.link.params.l
    → length (entries_now kind s (run kind s t) lane) - gives_in (current (run kind s t))
    ≤ depth s.link.params s.link.timing
depth-holds kind t s lane facts laws timing below =
    (depth-run kind t s lane facts laws timing below).fits

-- in a tick in which the lanes run each lane has an entry to give
pub has-entry : (kind : LaneKind) (t : ℕ) (s : Plan) (lane : ℕ)
    → KindFacts kind s.link.params s.link.timing → broken_law s.link.params ≡ None
    → broken_timing s.link.params s.link.timing ≡ None
    → lane < s.link.params.l → (next kind s (run kind s t)).stage ≡ stage.Run
    → gives_in (session s (run kind s t))
    < length (kind.entries s.link.params s.link.timing (route_of s lane) (took kind s (run kind s t) lane))
has-entry kind t s lane facts laws timing below runs =
    let h = run kind s t in
    let o = tick-outcome kind s h lane facts (legal s.link.params s.link.timing laws timing) below
    (depth-run kind t s lane facts laws timing below) in
    o.gives (ap is_running runs)
