-- The ticks of a segment, planned one after the other.
use Rattle.std.proofs.Common.{◌≡◌, ◌∙◌, ◌≤◌, ◌<◌, ◌+◌, ◌-◌, ℕ, zero, suc, Bool, false, if◌then◌else◌, List, [], ◌∷◌, ◌++◌, take, drop, length, get_or, slice_index, Option, None, inl, inr, fold, arith, sym, ap, subst, refl, length-append}
use Rattle.std.specs.List.{list_any}
use Rattle.std.proofs.lemmas.Bool.{cases_lt}
use Rattle.std.proofs.lemmas.Grind.{get_or-set_at}
use Rattle.std.proofs.lemmas.List.{get_or_append_left, get_or_push, get_or-set_other}
use Rattle.link_params.specs.declared.alarms.Device.{Device}
use Rattle.link_params.specs.declared.alarms.Device.TheVariants.{Tx, Rx}
use Rattle.link_params.specs.declared.fields.Params.{Params}
use Rattle.link_params.specs.Numbers.{period}
use Rattle.bring_up.specs.Decisions.{Standing, is_running}
use Rattle.scenario.specs.declared.plan.Event.{Event}
use Rattle.scenario.specs.Plans.{Plan}
use Rattle.link_model.proofs.LaneHistory.{ready-handed, same-runs}
use Rattle.link_model.proofs.NextMoment.{stage-next}
use Rattle.link_model.proofs.RunTicks.{length-run, run-suc}
use Rattle.link_model.proofs.RxHistory.{decisions-before-more, stage-standing, standing-kept, standing_after}
use Rattle.link_model.specs.Carried.{dead_after, delay_after, delay_at, is_dead}
use Rattle.link_model.specs.Edges.{is_reset, resets}
use Rattle.link_model.specs.Hunts.{standing}
use Rattle.link_model.specs.Kinds.{kind_of, moment_of, run_of}
use Rattle.link_model.specs.kept.Before.{dead_before, decisions_before, delay_before}
use Rattle.link_model.specs.Wiring.{wire_of}
use Rattle.link_model.specs.kept.LaneRuns.{lane_ready, lane_run}
use Rattle.link_model.specs.Moments.{History}
use Rattle.link_model.specs.Run.{stage_after}
use Rattle.lane_threads.specs.declared.lane_pair.LanePair.{LanePair}
use Rattle.lane_threads.specs.declared.step.Step.{Step}
use Rattle.lane_threads.specs.kept.LaneEnds.{Follows, next_after, params_in}
use Rattle.lane_threads.specs.Segments.{no_step}
use Rattle.link_run.proofs.EventLemmas.{Ascends, dead-now, delay-now, from-passed, happens, passed, passed-none, passed-yes, reset-is}
use Rattle.link_run.specs.declared.edges.Edges.{Edges}
use Rattle.link_run.specs.kept.Happened.{are_past}
use Rattle.link_run.specs.kept.LaneRuns.{AreAt, ArePut, AreSameLanes}
use Rattle.link_run.specs.kept.ReceiverRuns.{decisions_left}
use Rattle.link_run.specs.kept.Segments.{FollowOn, HasPlannedTick, HasSteps, HaveOctets, IsPlanned, Planned, Planning, edges_of, next_before, no_edges, step_of}
use Rattle.link_run.specs.kept.Sendings.{next_of}

-- ---- the receiver's decisions, with a tick more

pub decisions-more : (s : Plan) (h : History) (b : Bool) → b ≡ (moment_of s h).decides
    → decisions_before s (h ++ moment_of s h ∷ []) ≡ decisions_left s h
    ++ (if b then (moment_of s h).reports ∷ [] else [])
decisions-more s h b decides =
    decisions-before-more s h (moment_of s h)
    ∙ ap (λ (x : Bool). decisions_left s h ++ (if x then (moment_of s h).reports ∷ [] else []))
    (sym decides)

-- ---- ticks without an event

-- as long as no later event comes, as many are past
passed-still : (xs : List Event) (a t u : ℕ) (d : Event) → Ascends xs a → t ≤ u
    → (passed t xs < length xs → u ≤ (get_or xs (passed t xs) d).tick)
    → passed u xs ≡ passed t xs
passed-still [] a t u d h le later = refl
passed-still (x ∷ xs) a t u d h le later = elim (cases_lt x.tick t) [
  | inl early ↦
      let here = passed-yes x xs t early in
      let there = passed-yes x xs u (omega arith) in
      let rest = passed-still xs x.tick t u d h.1 le (λ below.
      subst (λ n. u ≤ (get_or (x ∷ xs) n d).tick) here (later (omega arith))) in
      there ∙ ap suc rest ∙ sym here
  | inr late ↦
      let none = passed-none (x ∷ xs) x.tick t ((omega arith), h.1) late in
      let far : u ≤ x.tick = subst (λ n. u ≤ (get_or (x ∷ xs) n d).tick) none
      (later (omega arith)) in
      passed-none (x ∷ xs) x.tick u ((omega arith), h.1) far ∙ sym none
]

-- no event comes between the ticks t and u
pub calm-until : (s : Plan) (t u i : ℕ) (d : Event) → Ascends s.events 0
    → (are_past s (t + 1) < length s.events
    → u ≤ (get_or s.events (are_past s (t + 1)) d).tick)
    → 0 < i → t + i < u → are_past s (t + i) ≡ are_past s (t + i + 1)
calm-until s t u i d up later some below =
    passed-still s.events 0 (t + 1) (t + i) d up (omega arith)
    (λ inside. let far = later inside in omega arith)
    ∙ sym (passed-still s.events 0 (t + 1) (t + i + 1) d up (omega arith)
    (λ inside. let far = later inside in omega arith))

-- the same of the event at this place of a list of all events
pub got-calm : (s : Plan) (xs : List Event) (n t u i : ℕ) (e : Event) → xs ≡ s.events
    → n ≡ are_past s (t + 1) → Ascends s.events 0
    → (n < length xs → u ≤ (get_or xs n e).tick) → 0 < i → t + i < u
    → are_past s (t + i) ≡ are_past s (t + i + 1)
got-calm s xs n t u i e same count up later some below =
    calm-until s t u i e up
    (subst (λ (m : ℕ). m < length s.events → u ≤ (get_or s.events m e).tick) count
    (subst (λ (l : List Event). n < length l → u ≤ (get_or l n e).tick) same later)) some below

-- that event is of a later tick
pub got-later : (s : Plan) (xs : List Event) (n t : ℕ) (e : Event) → xs ≡ s.events
    → n ≡ are_past s (t + 1) → Ascends s.events 0 → n < length xs → e ≡ get_or xs n e
    → t + 1 ≤ e.tick
got-later s xs n t e same count up below is =
    let past : n ≡ passed (t + 1) xs = count ∙ ap (passed (t + 1)) (sym same) in
    let late = from-passed xs 0 (t + 1) n e (subst (λ (l : List Event). Ascends l 0) (sym same) up)
    (omega arith) below in
    let tick = ap (λ (x : Event). x.tick) is in
    omega arith

happens-none : (xs : List Event) (t : ℕ) → passed t xs ≡ passed (t + 1) xs → happens t xs ≡ []
happens-none xs t same =
    let none : passed (t + 1) xs - passed t xs ≡ 0 = omega arith in
    ap (λ n. take n (drop (passed t xs) xs)) none

-- no device is reset in such a tick
pub calm-reset : (s : Plan) (device : Device) (t : ℕ) → Ascends s.events 0
    → are_past s t ≡ are_past s (t + 1) → is_reset s device t ≡ false
calm-reset s device t up same =
    sym (reset-is s device t up)
    ∙ ap (list_any (λ (e : Event). resets device e.what)) (happens-none s.events t same)

calm-delay : (s : Plan) (lane t : ℕ) → Ascends s.events 0
    → are_past s t ≡ are_past s (t + 1) → delay_at s lane t ≡ delay_before s lane t
calm-delay s lane t up same =
    sym (delay-now s lane t (delay_before s lane t) up refl)
    ∙ ap (fold (λ d (e : Event). delay_after lane d e.what) (delay_before s lane t))
    (happens-none s.events t same)

calm-dead : (s : Plan) (lane t : ℕ) → Ascends s.events 0
    → are_past s t ≡ are_past s (t + 1) → is_dead s lane t ≡ dead_before s lane t
calm-dead s lane t up same =
    sym (dead-now s lane t (dead_before s lane t) up refl)
    ∙ ap (fold (λ d (e : Event). dead_after lane d e.what) (dead_before s lane t))
    (happens-none s.events t same)

-- each lane stands as before it
pub calm-lane : (s : Plan) (h : History) (lane : ℕ) → Ascends s.events 0
    → are_past s (length h) ≡ are_past s (length h + 1)
    → lane_ready s h lane ≡ lane_run s h lane
calm-lane s h lane up same =
    same-runs (lane_ready s h lane) (lane_run s h lane)
    (ready-handed s h lane
    ∙ ap (λ (b : Bool). if b then [] else (lane_run s h lane).handed)
    (calm-reset s Tx (length h) up same)) refl refl (calm-delay s lane (length h) up same)
    (calm-dead s lane (length h) up same) refl refl refl

-- ---- the stage of ticks without a decision

-- a tick that does not decide keeps the stage
pub stage-still : (s : Plan) (h : History) → (moment_of s h).decides ≡ false
    → (moment_of s h).stage ≡ (standing s h).stage
stage-still s h still =
    stage-next (kind_of s.link.params) s h
    ∙ ap (λ (b : Bool). stage_after s (standing s h) b (moment_of s h).reports) still

-- and the next one has it too, where the receiver is not reset
pub standing-still : (s : Plan) (t : ℕ) → is_reset s Rx (suc t) ≡ false
    → (standing s (run_of s (suc t))).stage ≡ (moment_of s (run_of s t)).stage
standing-still s t calm =
    let k = kind_of s.link.params in
    let long : length (run_of s (suc t)) ≡ suc t = length-run k s (suc t) in
    ap (λ (x : Standing). x.stage)
    (standing-kept s (run_of s (suc t)) (ap (is_reset s Rx) long ∙ calm))
    ∙ ap (λ (l : History). (standing_after s l).stage) (run-suc k s t)
    ∙ sym (stage-standing k s (run_of s t))

-- ---- a tick more

pub steps-more : (old now : Planned) (s : Plan) (t n : ℕ) → HasSteps old s t n
    → now.steps ≡ old.steps ++ step_of s (t + n) ∷ []
    → now.edges ≡ old.edges ++ edges_of s (t + n) ∷ [] → HasSteps now s t (suc n)
steps-more old now s t n has steps edges =
    let step : Step = step_of s (t + n) in
    let edge : Edges = edges_of s (t + n) in
    record {
      count = omega (arith, ap length steps, length-append old.steps (step ∷ []));
      edge_count = omega (arith, ap length edges, length-append old.edges (edge ∷ []));
      steps_are = λ i below. elim (cases_lt i n) [
        | inl earlier ↦
            ap (λ (xs : List Step). get_or xs i no_step) steps
            ∙ get_or_append_left old.steps (step ∷ []) no_step i (omega arith)
            ∙ has.steps_are i earlier
        | inr late ↦
            let here : n ≡ i = omega arith in
            ap (λ (xs : List Step). get_or xs i no_step) steps
            ∙ get_or_push old.steps step no_step i (has.count ∙ here)
            ∙ ap (λ (j : ℕ). step_of s (t + j)) here
      ];
      edges_are = λ i below. elim (cases_lt i n) [
        | inl earlier ↦
            ap (λ (xs : List Edges). get_or xs i no_edges) edges
            ∙ get_or_append_left old.edges (edge ∷ []) no_edges i (omega arith)
            ∙ has.edges_are i earlier
        | inr late ↦
            let here : n ≡ i = omega arith in
            ap (λ (xs : List Edges). get_or xs i no_edges) edges
            ∙ get_or_push old.edges edge no_edges i (has.edge_count ∙ here)
            ∙ ap (λ (j : ℕ). edges_of s (t + j)) here
      ];
    }

pub octets-more : (old now : List LanePair) (s : Plan) (t n : ℕ) → HaveOctets old s t n
    → AreSameLanes old now → ArePut old now s.wire n (moment_of s (run_of s (t + n))).handed
    → ((lane : ℕ) (d : LanePair) → lane < length old → n < length (get_or old lane d).octets.items)
    → HaveOctets now s t (suc n)
octets-more old now s t n have same put fits = λ lane i d inside below.
    let here : lane < length old = omega (arith, same.count) in
    let items : List ℕ = (get_or old lane d).octets.items in
    let due : ℕ = slice_index (moment_of s (run_of s (t + n))).handed (wire_of s lane) in
    elim (cases_lt i n) [
      | inl earlier ↦
          ap (λ (xs : List ℕ). slice_index xs i) (put.put lane d here)
          ∙ get_or-set_other items n i due 0 (λ e. omega arith)
          ∙ have lane i d here earlier
      | inr late ↦
          let at : i ≡ n = omega arith in
          ap (λ (xs : List ℕ). slice_index xs i) (put.put lane d here)
          ∙ get_or-set_at items n i due 0 at (fits lane d here)
          ∙ ap (λ (j : ℕ). slice_index (moment_of s (run_of s (t + j))).handed (wire_of s lane)) (sym at)
    ]

before-same : (steps : List Step) (step : Step) (p : Params) (first : Option ℕ) (i : ℕ)
    → i ≤ length steps
    → next_before p first (steps ++ step ∷ []) i ≡ next_before p first steps i
before-same steps step p first zero le = refl
before-same steps step p first (suc i) le =
    ap (λ (x : Step). next_after p x.tx)
    (get_or_append_left steps (step ∷ []) no_step i (omega arith))

pub follow-more : (steps : List Step) (step : Step) (p : Params) (first last new : Option ℕ)
    → FollowOn steps p first last (length steps) → Follows p last step.tx
    → new ≡ next_after p step.tx
    → FollowOn (steps ++ step ∷ []) p first new (suc (length steps))
follow-more steps step p first last new on follows is =
    let more : List Step = steps ++ step ∷ [] in (
      λ i below. elim (cases_lt i (length steps)) [
        | inl earlier ↦
            let at = get_or_append_left steps (step ∷ []) no_step i earlier in
            subst (λ (x : Step). Follows p (next_before p first more i) x.tx) (sym at)
            (subst (λ (o : Option ℕ). Follows p o (get_or steps i no_step).tx)
            (sym (before-same steps step p first i (omega arith))) (on.0 i earlier))
        | inr late ↦
            let here : i ≡ length steps = omega arith in
            let at = get_or_push steps step no_step i (sym here) in
            let before : last ≡ next_before p first more i =
            on.1 ∙ ap (next_before p first steps) (sym here)
            ∙ sym (before-same steps step p first i (omega arith)) in
            subst (λ (x : Step). Follows p (next_before p first more i) x.tx) (sym at)
            (subst (λ (o : Option ℕ). Follows p o step.tx) before follows)
      ],
      is ∙ ap (λ (x : Step). next_after p x.tx)
          (sym (get_or_push steps step no_step (length steps) refl)),
    )

-- ---- the ticks of a segment so far

-- ticks t to t + m are planned, and this stage goes on up to the last one
pub record IsPlanning (now : Planned) (after : Planning) (lanes : List LanePair) (s : Plan)
    (t m : ℕ) : Type 0 where
  pub planned : IsPlanned now after lanes s t m
  pub same_link : after.link ≡ s.link
  pub stage : is_running (standing s (run_of s (t + m))).stage ≡ now.gives

-- this tick of the next segment fits the octets of each lane
abbrev pub Fits : List LanePair → ℕ → Type 0
Fits lanes n = (lane : ℕ) (d : LanePair) → lane < length lanes
    → n < length (get_or lanes lane d).octets.items

-- the first tick
pub plan-first : (old now planned : Planned) (before after : Planning) (lanes new : List LanePair)
    (reset gives : Bool) (s : Plan) (t : ℕ)
    → old.steps ≡ [] → old.edges ≡ [] → t < s.ticks → 0 < period s.link.params
    → HasPlannedTick old now before after reset s t → now.rx_reset ≡ is_reset s Rx t
    → after.link ≡ s.link → after.next ≡ are_past s (t + 1)
    → gives ≡ is_running (standing s (run_of s t)).stage
    → AreSameLanes lanes new → ArePut lanes new s.wire 0 after.tx.handed → Fits lanes 0
    → planned ≡ record now { gives = gives } → IsPlanning planned after new s t 0
plan-first old now planned before after lanes new reset gives s t empty bare ticks some
    tick_here rx_reset link next stage same put fits is =
    let here : t ≡ t + 0 = omega arith in
    let tick : HasPlannedTick old now before after reset s (t + 0) =
    subst (HasPlannedTick old now before after reset s) here tick_here in
    let none : HasSteps old s t 0 = record {
      count = ap length empty;
      edge_count = ap length bare;
      steps_are = λ i below. absurd (omega arith);
      edges_are = λ i below. absurd (omega arith);
    } in
    let all = steps-more old now s t 0 none tick.steps tick.edges in
    let of_plan : IsPlanning (record now { gives = gives }) after new s t 0 = record {
      planned = record {
        has_steps = record {
          count = all.count;
          edge_count = all.edge_count;
          steps_are = all.steps_are;
          edges_are = all.edges_are;
        };
        octets =
            octets-more lanes new s t 0 (λ lane i d inside below. absurd (omega arith)) same
            (subst (ArePut lanes new s.wire 0) tick.sent.handed put) fits;
        one = record {
          within = omega arith;
          short = some;
          calm = λ i lane late le. absurd (omega arith);
          unreset = λ i late le. absurd (omega arith);
          quiet = λ i below. absurd (omega arith);
          running = λ i below. absurd (omega arith);
        };
        reset = rx_reset;
        decides_is = tick.decides_is;
        next_is = next;
        sent = tick.sent;
        told = tick.told;
      };
      same_link = link;
      stage = ap (λ (n : ℕ). is_running (standing s (run_of s n)).stage) (sym here) ∙ sym stage;
    } in
    subst (λ (g : Planned). IsPlanning g after new s t 0) (sym is) of_plan

-- a tick more, after one that does not decide
pub plan-more : (old now : Planned) (before mid after : Planning) (lanes new : List LanePair)
    (s : Plan) (t m : ℕ)
    → IsPlanning old before lanes s t m → old.decides ≡ false → Ascends s.events 0
    → t + suc m < s.ticks → suc m < period s.link.params
    → are_past s (t + suc m) ≡ are_past s (t + suc m + 1)
    → HasPlannedTick old now mid after false s (t + suc m)
    → now.gives ≡ old.gives → now.rx_reset ≡ old.rx_reset
    → after.next ≡ before.next → after.link ≡ before.link
    → AreSameLanes lanes new → ArePut lanes new s.wire (suc m) after.tx.handed → Fits lanes (suc m)
    → IsPlanning now after new s t (suc m)
plan-more old now before mid after lanes new s t m x stays up within short calm tick gives rx_reset
    next link same put fits =
    let p : IsPlanned old before lanes s t m = x.planned in
    let k = kind_of s.link.params in
    let still : (moment_of s (run_of s (t + m))).decides ≡ false = sym p.decides_is ∙ stays in
    let stage : is_running (moment_of s (run_of s (t + m))).stage ≡ now.gives =
    ap is_running (stage-still s (run_of s (t + m)) still) ∙ x.stage ∙ sym gives in
    let above : t + suc m ≡ suc (t + m) = omega arith in
    let later : t + suc m + 1 ≡ t + suc (suc m) = omega arith in
    let reset : (device : Device) → is_reset s device (t + suc m) ≡ false =
    λ device. calm-reset s device (t + suc m) up calm in
    record {
      planned = record {
        has_steps = steps-more old now s t (suc m) p.has_steps tick.steps tick.edges;
        octets =
            octets-more lanes new s t (suc m) p.octets same
            (subst (ArePut lanes new s.wire (suc m)) tick.sent.handed put) fits;
        one = record {
          within = within;
          short = short;
          calm = λ i lane late le. elim (cases_lt i (suc m)) [
            | inl earlier ↦ p.one.calm i lane late (omega arith)
            | inr here ↦
                let at : suc m ≡ i = omega arith in
                let long : length (run_of s (t + suc m)) ≡ t + suc m = length-run k s (t + suc m) in
                subst (λ (j : ℕ). lane_ready s (run_of s (t + j)) lane
                ≡ lane_run s (run_of s (t + j)) lane) at
                (calm-lane s (run_of s (t + suc m)) lane up
                (ap (are_past s) long ∙ calm ∙ ap (λ (n : ℕ). are_past s (n + 1)) (sym long)))
          ];
          unreset = λ i late le. elim (cases_lt i (suc m)) [
            | inl earlier ↦ p.one.unreset i late (omega arith)
            | inr here ↦
                let at : suc m ≡ i = omega arith in
                subst (λ (j : ℕ). (is_reset s Tx (t + j) ≡ false) × (is_reset s Rx (t + j) ≡ false))
                at (reset Tx, reset Rx)
          ];
          quiet = λ i below. elim (cases_lt i m) [
            | inl earlier ↦ p.one.quiet i earlier
            | inr here ↦
                let at : m ≡ i = omega arith in
                subst (λ (j : ℕ). (moment_of s (run_of s (t + j))).decides ≡ false) at still
          ];
          running = λ i below. elim (cases_lt i m) [
            | inl earlier ↦ p.one.running i earlier ∙ sym gives
            | inr here ↦
                let at : m ≡ i = omega arith in
                subst (λ (j : ℕ). is_running (moment_of s (run_of s (t + j))).stage ≡ now.gives) at
                stage
          ];
        };
        reset = rx_reset ∙ p.reset;
        decides_is = tick.decides_is;
        next_is = next ∙ p.next_is ∙ calm ∙ ap (are_past s) later;
        sent = tick.sent;
        told = tick.told;
      };
      same_link = link ∙ x.same_link;
      stage =
          ap (λ (n : ℕ). is_running (standing s (run_of s n)).stage) above
          ∙ ap is_running (standing-still s (t + m) (ap (is_reset s Rx) (sym above) ∙ reset Rx))
          ∙ stage;
    }

-- ---- what stays for the lanes and the devices

pub same-again : (old mid now : List LanePair) → AreSameLanes old mid → AreSameLanes mid now
    → AreSameLanes old now
same-again old mid now p q = record {
  count = q.count ∙ p.count;
  each = λ lane d below.
      let x = p.each lane d below in
      let y = q.each lane d (omega (arith, p.count)) in
      record {
        lane = y.lane ∙ x.lane;
        fullest = y.fullest ∙ x.fullest;
        room = y.room ∙ x.room;
        ring = y.ring ∙ x.ring;
      };
}

-- each lane's transmitter end has these parameters
abbrev pub HaveParams : List LanePair → Params → Type 0
HaveParams lanes p = (lane : ℕ) (d : LanePair) → lane < length lanes
    → params_in (get_or lanes lane d).lane.tx ≡ p

pub have-params : (old now : List LanePair) (p : Params) (next : Option ℕ) → AreAt old p next
    → AreSameLanes old now → HaveParams now p
have-params old now p next at same = λ lane d below.
    let here : lane < length old = omega (arith, same.count) in
    ap (λ x. params_in x.tx) (same.each lane d here).lane ∙ (at lane d here).0

pub fit-all : (lanes : List LanePair) (p : Params) (n : ℕ) → HaveParams lanes p → n < period p
    → Fits lanes n
fit-all lanes p n have short = λ lane d below.
    subst (λ (m : ℕ). n < m) (sym ((get_or lanes lane d).size ∙ ap period (have lane d below))) short

-- ---- orders that follow one another

pub follow-none : (steps : List Step) (p : Params) (first : Option ℕ) → steps ≡ []
    → FollowOn steps p first first (length steps)
follow-none steps p first is =
    let none : FollowOn [] p first first 0 = ((λ i below. absurd (omega arith)), refl) in
    subst (λ (xs : List Step). FollowOn xs p first first (length xs)) (sym is) none

pub follow-tick : (old now : Planned) (before after : Planning) (reset : Bool) (s : Plan) (t : ℕ)
    (p : Params) (first last : Option ℕ) → p ≡ s.link.params
    → HasPlannedTick old now before after reset s t
    → FollowOn old.steps p first last (length old.steps)
    → last ≡ (if reset then None else next_of p before.tx.sending)
    → FollowOn now.steps p first (next_of p after.tx.sending) (length now.steps)
follow-tick old now before after reset s t p first last params tick on is =
    let step : Step = step_of s t in
    let follows : Follows p last step.tx =
    subst (λ (o : Option ℕ). Follows p o step.tx) (sym is)
    (subst (λ (q : Params). Follows q (if reset then None else next_of q before.tx.sending) step.tx)
    (sym params) tick.follows) in
    let next : next_of p after.tx.sending ≡ next_after p step.tx =
    subst (λ (q : Params). next_of q after.tx.sending ≡ next_after q step.tx) (sym params)
    tick.next in
    let more = follow-more old.steps step p first last (next_of p after.tx.sending) on follows next in
    let long : suc (length old.steps) ≡ length (old.steps ++ step ∷ []) =
    omega (arith, length-append old.steps (step ∷ [])) in
    subst (λ (xs : List Step). FollowOn xs p first (next_of p after.tx.sending) (length xs))
    (sym tick.steps)
    (subst (FollowOn (old.steps ++ step ∷ []) p first (next_of p after.tx.sending)) long more)

pub count-tick : (old now : Planned) (before after : Planning) (reset : Bool) (s : Plan) (t : ℕ)
    → HasPlannedTick old now before after reset s t → length now.steps ≡ suc (length old.steps)
count-tick old now before after reset s t tick =
    omega (arith, ap length tick.steps, length-append old.steps (step_of s t ∷ []))
