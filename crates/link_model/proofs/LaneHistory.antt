-- What a lane of a run went through, with a tick more, for any kind of lane.
use Rattle.std.proofs.Common.{◌≡◌, ℕ, zero, suc, ◌+◌, ◌<◌, Bool, true, false, if◌then◌else◌, List, [], ◌∷◌, ◌++◌, length, drop, get_or, slice_index, Option, Some, None, inl, inr, ◌⊎◌, refl, sym, ap, ap₂, ◌∙◌, append-nil, arith, unwrap_or}
use Rattle.std.proofs.lemmas.Bool.{cases_Bool, cond-true, cond-false, or_right}
use Rattle.std.proofs.lemmas.List.{map_push, get_or-map}
use Rattle.std.proofs.lemmas.List.Concat.{flat_map-append}
use Rattle.std.proofs.lemmas.List.Sums.{fold_push}
use Rattle.link_params.specs.declared.alarms.Device.TheVariants.{Tx, Rx}
use Rattle.link_params.specs.declared.orders.RxOrder.{RxOrder}
use Rattle.link_params.specs.Lanes.{Handed, LaneKind, Taken}
use Rattle.bring_up.specs.Decisions.{is_running}
use Rattle.scenario.specs.Plans.{Plan}
use Rattle.link_model.proofs.NextMoment.{lanes_of, next, sent-next, taken-next, told-next, took, with_next}
use Rattle.link_model.proofs.NumberLists.{get_or-numbers, length-numbers}
use Rattle.link_model.proofs.TxHistory.{drop-last-reset, drop-reset, drop-reset-before, length-more}
use Rattle.link_model.specs.kept.Before.{current, dead_before, delay_before, handed_in, reset_before}
use Rattle.link_model.specs.Carried.{received}
use Rattle.link_model.specs.Edges.{is_reset, last_reset}
use Rattle.link_model.specs.Gives.{gives_in}
use Rattle.link_model.specs.Hunts.{begins_hunt, ends_in_hunt, from_hunt, or_else, session}
use Rattle.link_model.specs.kept.LaneRuns.{LaneRun, bits_with, handed_with, lane_ready, lane_run, lane_stepped, no_run, stepped, word_with}
use Rattle.link_model.specs.Moments.{History, Moment}
use Rattle.link_model.specs.Receives.{taken_in, told_of}
use Rattle.link_model.specs.Run.{run}
use Rattle.link_model.specs.Sends.{handed_since, sent_bits, sent_by}
use Rattle.link_model.specs.Wiring.{has_inverted_polarity, wire_of}

-- ---- the session

cases-begun : (o : Option History) → ((l : History) × (o ≡ Some l)) ⊎ (o ≡ None)
cases-begun (Some l) = inl (l, refl)
cases-begun None = inr refl

both-none : (o r : Option History) → or_else o r ≡ None → (o ≡ None) × (r ≡ None)
both-none None r e = (refl, e)
both-none (Some x) r e = let bad : Some x ≡ None = e in absurd (cc)

pub from-hunt-here : (h : History) (m : Moment) → m.told.hunt ≡ true
    → from_hunt (h ++ m ∷ []) ≡ Some (m ∷ [])
unfolding from_hunt
from-hunt-here [] m e = cond-true m.told.hunt (Some (m ∷ [])) None e
from-hunt-here (x ∷ h) m e =
    ap (λ (o : Option History). or_else o (if x.told.hunt then Some (x ∷ (h ++ m ∷ [])) else None))
    (from-hunt-here h m e)

pub from-hunt-none : (h : History) (m : Moment) → m.told.hunt ≡ false → from_hunt h ≡ None
    → from_hunt (h ++ m ∷ []) ≡ None
unfolding from_hunt
from-hunt-none [] m e none = cond-false m.told.hunt (Some (m ∷ [])) None e
from-hunt-none (x ∷ h) m e none =
    let parts = both-none (from_hunt h) (if x.told.hunt then Some (x ∷ h) else None) none in
    elim (cases_Bool x.told.hunt) [
      | inl t ↦ let bad : Some (x ∷ h) ≡ None = sym (cond-true x.told.hunt (Some (x ∷ h)) None t)
          ∙ parts.1 in absurd (cc)
      | inr f ↦ ap₂ or_else (from-hunt-none h m e parts.0)
          (cond-false x.told.hunt (Some (x ∷ (h ++ m ∷ []))) None f)
    ]

with-last : (a b : History) (m : Moment) → Some a ≡ Some b → Some (a ++ m ∷ []) ≡ Some (b ++ m ∷ [])
with-last a b m e = ap (λ (o : Option History). Some (unwrap_or o [] ++ m ∷ [])) e

pub from-hunt-more : (h : History) (m : Moment) (l : History) → m.told.hunt ≡ false
    → from_hunt h ≡ Some l → from_hunt (h ++ m ∷ []) ≡ Some (l ++ m ∷ [])
unfolding from_hunt
from-hunt-more [] m l e some = let bad : None ≡ Some l = some in absurd (cc)
from-hunt-more (x ∷ h) m l e some =
    let here : Option History = if x.told.hunt then Some (x ∷ h) else None in
    let then_here : Option History = if x.told.hunt then Some (x ∷ (h ++ m ∷ [])) else None in
    elim (cases-begun (from_hunt h)) [
      | inl k ↦
          let same : Some k.0 ≡ Some l = sym (ap (λ (o : Option History). or_else o here) k.1)
          ∙ some in
          ap (λ (o : Option History). or_else o then_here) (from-hunt-more h m k.0 e k.1)
          ∙ with-last k.0 l m same
      | inr none ↦ elim (cases_Bool x.told.hunt) [
        | inl t ↦
            let same : Some (x ∷ h) ≡ Some l =
            sym (ap₂ or_else none (cond-true x.told.hunt (Some (x ∷ h)) None t)) ∙ some in
            ap₂ or_else (from-hunt-none h m e none)
            (cond-true x.told.hunt (Some (x ∷ (h ++ m ∷ []))) None t)
            ∙ with-last (x ∷ h) l m same
        | inr f ↦
            let bad : None ≡ Some l =
            sym (ap₂ or_else none (cond-false x.told.hunt (Some (x ∷ h)) None f)) ∙ some in
            absurd (cc)
      ]
    ]

-- a history with a tick has one with which a hunt began, as each run has
pub record HasHunt (h : History) : Type 0 where
  pub found : 0 < length h → (l : History) × (from_hunt h ≡ Some l)

pub hunt-next : (k : LaneKind) (s : Plan) (h : History) → (next k s h).told.hunt ≡ begins_hunt s h
unfolding told_of
hunt-next k s h = ap (λ (o : RxOrder). o.hunt) (told-next k s h)

pub session-hunt : (k : LaneKind) (s : Plan) (h : History) → (next k s h).told.hunt ≡ true
    → session s h ≡ []
unfolding session
session-hunt k s h e =
    let begins : begins_hunt s h ≡ true = sym (hunt-next k s h) ∙ e in rw begins refl

pub session-goes-on : (k : LaneKind) (s : Plan) (h : History) → (next k s h).told.hunt ≡ false
    → session s h ≡ current h
unfolding session
session-goes-on k s h e =
    let goes : begins_hunt s h ≡ false = sym (hunt-next k s h) ∙ e in rw goes refl

first-hunts : (k : LaneKind) (s : Plan) → (next k s []).told.hunt ≡ true
unfolding ends_in_hunt
first-hunts k s = hunt-next k s [] ∙ or_right (is_reset s Rx 0) true refl

some-ticks : (k : LaneKind) (s : Plan) (h : History) → (next k s h).told.hunt ≡ false → 0 < length h
some-ticks k s [] e = let bad : true ≡ false = sym (first-hunts k s) ∙ e in absurd (cc)
some-ticks k s (x ∷ h) e = omega arith

pub has-hunt-none : HasHunt []
has-hunt-none = record { found = λ some. absurd (omega arith) }

pub has-hunt-next : (k : LaneKind) (s : Plan) (h : History) → HasHunt h → HasHunt (with_next k s h)
has-hunt-next k s h begun = elim (cases_Bool (next k s h).told.hunt) [
  | inl e ↦ record { found = λ some. (next k s h ∷ [], from-hunt-here h (next k s h) e) }
  | inr e ↦ let l = begun.found (some-ticks k s h e) in
      record { found = λ some. (l.0 ++ next k s h ∷ [], from-hunt-more h (next k s h) l.0 e l.1) }
]

pub has-hunt-run : (k : LaneKind) (t : ℕ) (s : Plan) → HasHunt (run k s t)
unfolding run
has-hunt-run k zero s = has-hunt-none
has-hunt-run k (suc t) s = has-hunt-next k s (run k s t) (has-hunt-run k t s)

pub current-hunt : (h : History) (m : Moment) → m.told.hunt ≡ true → current (h ++ m ∷ []) ≡ m ∷ []
current-hunt h m e = ap (λ (o : Option History). unwrap_or o []) (from-hunt-here h m e)

pub current-goes-on : (k : LaneKind) (s : Plan) (h : History) → HasHunt h
    → (next k s h).told.hunt ≡ false
    → current (with_next k s h) ≡ current h ++ next k s h ∷ []
current-goes-on k s h begun e =
    let l = begun.found (some-ticks k s h e) in
    ap (λ (o : Option History). unwrap_or o []) (from-hunt-more h (next k s h) l.0 e l.1)
    ∙ ap (λ (o : Option History). unwrap_or o [] ++ next k s h ∷ []) (sym l.1)

pub current-next : (k : LaneKind) (s : Plan) (h : History) → HasHunt h
    → current (with_next k s h) ≡ (if (next k s h).told.hunt then next k s h ∷ [] else current h
    ++ next k s h ∷ [])
current-next k s h begun = elim (cases_Bool (next k s h).told.hunt) [
  | inl e ↦ current-hunt h (next k s h) e
      ∙ sym (cond-true (next k s h).told.hunt (next k s h ∷ []) (current h ++ next k s h ∷ []) e)
  | inr e ↦ current-goes-on k s h begun e
      ∙ sym (cond-false (next k s h).told.hunt (next k s h ∷ []) (current h ++ next k s h ∷ []) e)
]

-- the session with the tick
pub current-session : (k : LaneKind) (s : Plan) (h : History) → HasHunt h
    → current (with_next k s h) ≡ session s h
    ++ next k s h ∷ []
current-session k s h begun = elim (cases_Bool (next k s h).told.hunt) [
  | inl e ↦ current-hunt h (next k s h) e ∙ ap (λ (l : History). l ++ next k s h ∷ [])
      (sym (session-hunt k s h e))
  | inr e ↦ current-goes-on k s h begun e ∙ ap (λ (l : History). l ++ next k s h ∷ [])
      (sym (session-goes-on k s h e))
]

-- ---- what a lane was handed, sent and took

pub sent-lane : (k : LaneKind) (s : Plan) (h : History) (lane : ℕ) → lane < s.link.params.l
    → get_or (next k s h).sent lane [] ≡ sent_by k s h (next k s h).order
    (slice_index (next k s h).handed lane) lane
sent-lane k s h lane below =
    let long = length-numbers s.link.params.l 0 in
    let f : ℕ → List Bool = λ l. sent_by k s h (next k s h).order
    (slice_index (next k s h).handed l) l in
    let same : 0 + lane ≡ lane = omega arith in
    ap (λ (l : List (List Bool)). get_or l lane []) (sent-next k s h)
    ∙ get_or-map f (lanes_of s) lane 0 [] (omega arith)
    ∙ ap f (get_or-numbers s.link.params.l lane 0 0 below ∙ same)

pub taken-lane : (k : LaneKind) (s : Plan) (h : History) (lane : ℕ) → lane < s.link.params.l
    → get_or (next k s h).taken lane [] ≡ received s lane (length h)
    (sent_bits h (wire_of s lane) ++ get_or (next k s h).sent (wire_of s lane) [])
taken-lane k s h lane below =
    let long = length-numbers s.link.params.l 0 in
    let f : ℕ → List Bool =
    λ l. received s l (length h)
    (sent_bits h (wire_of s l) ++ get_or (next k s h).sent (wire_of s l) []) in
    let same : 0 + lane ≡ lane = omega arith in
    ap (λ (l : List (List Bool)). get_or l lane []) (taken-next k s h)
    ∙ get_or-map f (lanes_of s) lane 0 [] (omega arith)
    ∙ ap f (get_or-numbers s.link.params.l lane 0 0 below ∙ same)

-- the bits that are sent on a lane in the tick
pub bits-lane : (k : LaneKind) (s : Plan) (h : History) (lane : ℕ)
    → wire_of s lane < s.link.params.l
    → get_or (next k s h).sent (wire_of s lane) []
    ≡ bits_with k s lane (lane_ready s h lane) (next k s h).order
    (slice_index (next k s h).handed (wire_of s lane))
unfolding sent_by
bits-lane k s h lane wired = sent-lane k s h (wire_of s lane) wired

-- the bits that it receives
pub word-lane : (k : LaneKind) (s : Plan) (h : History) (lane : ℕ) → lane < s.link.params.l
    → wire_of s lane < s.link.params.l
    → get_or (next k s h).taken lane []
    ≡ word_with k s lane (lane_ready s h lane) (next k s h).order
    (slice_index (next k s h).handed (wire_of s lane))
unfolding received
word-lane k s h lane below wired =
    taken-lane k s h lane below
    ∙ ap (λ (bs : List Bool). received s lane (length h) (sent_bits h (wire_of s lane) ++ bs))
    (bits-lane k s h lane wired)

pub sent-bits-more : (h : History) (m : Moment) (lane : ℕ)
    → sent_bits (h ++ m ∷ []) lane ≡ sent_bits h lane ++ get_or m.sent lane []
sent-bits-more h m lane =
    flat_map-append (λ (m : Moment). get_or m.sent lane []) h (m ∷ [])
    ∙ ap (λ (l : List Bool). sent_bits h lane ++ l) (append-nil (get_or m.sent lane []))

pub handed-in-more : (h : History) (m : Moment) (lane : ℕ)
    → handed_in (h ++ m ∷ []) lane ≡ handed_in h lane
    ++ (record { order = m.order; octets = slice_index m.handed lane }) ∷ []
handed-in-more h m lane =
    map_push (λ (m : Moment). let x : Handed =
    record { order = m.order; octets = slice_index m.handed lane } in x) h m

pub taken-in-more : (h : History) (m : Moment) (lane : ℕ)
    → taken_in (h ++ m ∷ []) lane ≡ taken_in h lane
    ++ (record { order = m.told; word = get_or m.taken lane [] }) ∷ []
taken-in-more h m lane =
    map_push (λ (m : Moment). let x : Taken =
    record { order = m.told; word = get_or m.taken lane [] } in x) h m

pub gives-in-more : (h : History) (m : Moment)
    → gives_in (h ++ m ∷ []) ≡ gives_in h + (if is_running m.stage then 1 else 0)
gives-in-more h m = fold_push (λ (k : ℕ) (m : Moment). k + (if is_running m.stage then 1 else 0)) 0
    h m

-- ---- a lane of a run

abbrev pub gone_through : List Handed → List Bool → ℕ → ℕ → Bool → Bool → List Taken → ℕ → LaneRun
gone_through handed sent reach delay dead inverted taken gave = record {
  handed = handed;
  sent = sent;
  reach = reach;
  delay = delay;
  dead = dead;
  inverted = inverted;
  taken = taken;
  gave = gave;
}

pub same-runs : (x y : LaneRun) → x.handed ≡ y.handed → x.sent ≡ y.sent → x.reach ≡ y.reach
    → x.delay ≡ y.delay → x.dead ≡ y.dead → x.inverted ≡ y.inverted → x.taken ≡ y.taken
    → x.gave ≡ y.gave → x ≡ y
same-runs x y handed sent reach delay dead inverted taken gave =
    ap (λ (a : List Handed).
    gone_through a x.sent x.reach x.delay x.dead x.inverted x.taken x.gave) handed
    ∙ ap₂ (λ (a : List Bool) (b : ℕ).
    gone_through y.handed a b x.delay x.dead x.inverted x.taken x.gave) sent reach
    ∙ ap₂ (λ (a : ℕ) (b : Bool).
    gone_through y.handed y.sent y.reach a b x.inverted x.taken x.gave) delay dead
    ∙ ap (λ (a : Bool).
    gone_through y.handed y.sent y.reach y.delay y.dead a x.taken x.gave) inverted
    ∙ ap₂ (λ (a : List Taken) (b : ℕ).
    gone_through y.handed y.sent y.reach y.delay y.dead y.inverted a b) taken gave

-- what the events of the tick leave of it
pub ready-handed : (s : Plan) (h : History) (lane : ℕ)
    → (lane_ready s h lane).handed
    ≡ (if is_reset s Tx (length h) then [] else (lane_run s h lane).handed)
unfolding handed_since
ready-handed s h lane =
    let before : History = drop (reset_before s Tx (length h)) h in
    ap (λ (l : History). handed_in l (wire_of s lane)) (drop-reset s Tx h)
    ∙ elim (cases_Bool (is_reset s Tx (length h))) [ inl e ↦ rw e refl | inr e ↦ rw e refl ]

handed-step : (k : LaneKind) (s : Plan) (h : History) (lane : ℕ)
    → handed_with (lane_ready s h lane) (next k s h).order
    (slice_index (next k s h).handed (wire_of s lane))
    ≡ handed_in (drop (last_reset s Tx (length h)) (with_next k s h)) (wire_of s lane)
unfolding handed_since
handed-step k s h lane = sym (
    ap (λ (l : History). handed_in l (wire_of s lane)) (drop-last-reset s Tx h (next k s h))
    ∙ handed-in-more (drop (last_reset s Tx (length h)) h) (next k s h) (wire_of s lane))

sent-step : (k : LaneKind) (s : Plan) (h : History) (lane : ℕ) → wire_of s lane < s.link.params.l
    → sent_bits h (wire_of s lane)
    ++ bits_with k s lane (lane_ready s h lane) (next k s h).order
    (slice_index (next k s h).handed (wire_of s lane))
    ≡ sent_bits (with_next k s h) (wire_of s lane)
sent-step k s h lane wired =
    sym (sent-bits-more h (next k s h) (wire_of s lane)
    ∙ ap (λ (l : List Bool). sent_bits h (wire_of s lane) ++ l) (bits-lane k s h lane wired))

-- what its receiver end has taken in the session with this tick
pub took-stepped : (k : LaneKind) (s : Plan) (h : History) (lane : ℕ) → HasHunt h
    → took k s h lane ≡ (lane_stepped k s h lane).taken
took-stepped k s h lane begun =
    ap (λ (o : RxOrder). taken_in (session s h) lane
    ++ (record { order = o; word = get_or (next k s h).taken lane [] }) ∷ [])
    (sym (told-next k s h))
    ∙ sym (ap (λ (l : History). taken_in l lane) (current-session k s h begun)
    ∙ taken-in-more (session s h) (next k s h) lane)

-- what a lane takes in the tick
abbrev pub takes : LaneKind → Plan → History → ℕ → Taken
takes k s h lane =
    record {
      order = (next k s h).told;
      word = word_with k s lane (lane_ready s h lane) (next k s h).order
          (slice_index (next k s h).handed (wire_of s lane));
    }

takes-step : (k : LaneKind) (s : Plan) (h : History) (lane : ℕ) → HasHunt h → lane < s.link.params.l
    → wire_of s lane < s.link.params.l
    → taken_in (current (with_next k s h)) lane
    ≡ taken_in (session s h) lane ++ takes k s h lane ∷ []
takes-step k s h lane begun below wired =
    ap (λ (l : History). taken_in l lane) (current-session k s h begun)
    ∙ taken-in-more (session s h) (next k s h) lane
    ∙ ap (λ (w : List Bool). taken_in (session s h) lane
    ++ (record { order = (next k s h).told; word = w }) ∷ []) (word-lane k s h lane below wired)

taken-step : (k : LaneKind) (s : Plan) (h : History) (lane : ℕ) → HasHunt h → lane < s.link.params.l
    → wire_of s lane < s.link.params.l
    → (if (next k s h).told.hunt then takes k s h lane ∷ [] else taken_in (current h) lane
    ++ takes k s h lane ∷ []) ≡ taken_in (current (with_next k s h)) lane
taken-step k s h lane begun below wired = elim (cases_Bool (next k s h).told.hunt) [
  | inl e ↦ cond-true (next k s h).told.hunt (takes k s h lane ∷ [])
      (taken_in (current h) lane ++ takes k s h lane ∷ []) e
      ∙ sym (takes-step k s h lane begun below wired
      ∙ ap (λ (l : History). taken_in l lane ++ takes k s h lane ∷ []) (session-hunt k s h e))
  | inr e ↦ cond-false (next k s h).told.hunt (takes k s h lane ∷ [])
      (taken_in (current h) lane ++ takes k s h lane ∷ []) e
      ∙ sym (takes-step k s h lane begun below wired
      ∙ ap (λ (l : History). taken_in l lane ++ takes k s h lane ∷ []) (session-goes-on k s h e))
]

gave-step : (k : LaneKind) (s : Plan) (h : History)
    → (if (next k s h).told.hunt then 0 else gives_in (current h))
    ≡ gives_in (session s h)
gave-step k s h = elim (cases_Bool (next k s h).told.hunt) [
  | inl e ↦ cond-true (next k s h).told.hunt 0 (gives_in (current h)) e
      ∙ sym (ap gives_in (session-hunt k s h e))
  | inr e ↦ cond-false (next k s h).told.hunt 0 (gives_in (current h)) e
      ∙ sym (ap gives_in (session-goes-on k s h e))
]

-- with the tick sent and taken
pub lane-stepped : (k : LaneKind) (s : Plan) (h : History) (lane : ℕ) → HasHunt h
    → lane < s.link.params.l → wire_of s lane < s.link.params.l
    → stepped k s lane (lane_ready s h lane) (next k s h).order
    (slice_index (next k s h).handed (wire_of s lane))
    (next k s h).told ≡ lane_stepped k s h lane
lane-stepped k s h lane begun below wired =
    same-runs
    (stepped k s lane (lane_ready s h lane) (next k s h).order
    (slice_index (next k s h).handed (wire_of s lane))
    (next k s h).told) (lane_stepped k s h lane)
    (handed-step k s h lane) (sent-step k s h lane wired) refl refl refl refl
    (taken-step k s h lane begun below wired)
    (gave-step k s h)

pub gave-next : (k : LaneKind) (s : Plan) (h : History) → HasHunt h
    → gives_in (current (with_next k s h)) ≡ gives_in (session s h)
    + (if is_running (next k s h).stage then 1 else 0)
gave-next k s h begun = ap gives_in (current-session k s h begun)
    ∙ gives-in-more (session s h) (next k s h)

-- a lane once the tick is over
pub lane-run-next : (k : LaneKind) (s : Plan) (h : History) (lane : ℕ) → HasHunt h
    → lane_run s (with_next k s h) lane ≡ record (lane_stepped k s h lane)
    { gave = gives_in (session s h) + (if is_running (next k s h).stage then 1 else 0) }
lane-run-next k s h lane begun =
    let after : LaneRun =
    record (lane_stepped k s h lane)
    { gave = gives_in (session s h) + (if is_running (next k s h).stage then 1 else 0) } in
    let since = drop-reset-before s Tx h (next k s h) ∙ sym (drop-last-reset s Tx h (next k s h)) in
    same-runs (lane_run s (with_next k s h) lane) after
    (ap (λ (l : History). handed_in l (wire_of s lane)) since)
    refl
    refl
    (ap (delay_before s lane) (length-more h (next k s h)))
    (ap (dead_before s lane) (length-more h (next k s h)))
    refl
    refl
    (gave-next k s h begun)

-- and before the first tick
pub lane-run-none : (s : Plan) (lane : ℕ)
    → lane_run s [] lane ≡ record (no_run s) { inverted = has_inverted_polarity s lane }
unfolding from_hunt
lane-run-none s lane = refl
