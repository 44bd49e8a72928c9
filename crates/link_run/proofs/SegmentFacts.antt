-- What is collected of a segment, and the most entries that lanes held.
use Rattle.std.proofs.Common.{◌≡◌, ◌≢◌, ◌∙◌, ◌<◌, ◌≤◌, ◌+◌, ◌-◌, ◌*◌, ◌%◌, ◌==◌, ◌&&◌, nat_lt, ℕ, zero, suc, Bool, false, List, [], ◌∷◌, ◌++◌, fold, map, max, length, get_or, if◌then◌else◌, None, inl, inr, arith, refl, sym, ap, ap₂, subst}
use Rattle.std.proofs.lemmas.Bool.{cases_Bool, cases_lt, cond-false, cond-true, eq-eqb, ne_eqb}
use Rattle.std.specs.Prelude.{IfSome}
use Rattle.std.proofs.Math.Nat.{mod-lt}
use Rattle.link_params.specs.declared.alarms.Device.TheVariants.{Rx}
use Rattle.link_params.specs.Lanes.{LaneKind}
use Rattle.link_params.specs.declared.cells.LaneCell.{LaneCell}
use Rattle.link_params.specs.declared.fields.Params.{Params}
use Rattle.link_params.specs.declared.orders.TxOrder.TheVariants.{Comma, Ilas, Data, Silent, Block}
use Rattle.link_params.specs.Laws.{broken_law, is_b}
use Rattle.link_params.specs.Links.{Link}
use Rattle.link_params.specs.Numbers.{octets_per_tick, period}
use Rattle.link_params.specs.TimingLaws.{broken_timing}
use Rattle.link_params.proofs.LawFacts.{legal_sizes}
use Rattle.bring_up.specs.declared.stage.Decision.TheVariants as decision
use Rattle.bring_up.specs.Decisions.{Decided, decided, is_running}
use Rattle.scenario.specs.Plans.{Plan, numbers_from}
use Rattle.lane_threads.specs.declared.lane_pair.LanePair.{LanePair}
use Rattle.lane_threads.specs.declared.step.Step.{Step}
use Rattle.lane_threads.specs.Segments.{no_step}
use Rattle.link_run.specs.declared.edges.Edges.{Edges}
use Rattle.link_run.specs.declared.ended.Ended.{Ended}
use Rattle.link_model.proofs.KindFacts.{lead}
use Rattle.link_model.proofs.LaneHistory.{has-hunt-run}
use Rattle.link_model.proofs.NextMoment.{decided-next, lanes_of, order-next}
use Rattle.link_model.proofs.RowHistory.{fullest-more, held_in, max-from}
use Rattle.link_model.proofs.RunTicks.{length-run}
use Rattle.link_model.specs.Edges.{is_reset}
use Rattle.link_model.specs.Gives.{gives_in}
use Rattle.link_model.specs.Hunts.{session, standing}
use Rattle.link_model.specs.Kinds.{kind_of, moment_of, run_of}
use Rattle.link_model.specs.Moments.{History}
use Rattle.link_model.specs.Run.{decided_in, run}
use Rattle.link_model.specs.Orders.{Observed, from_edge, order_b, order_c, since_boundary, tx_order}
use Rattle.link_model.specs.Sends.{data_place, observed, order_of}
use Rattle.link_model.specs.Wiring.{lane_for}
use Rattle.link_run.proofs.Collecting.{ahead-left, cells-first, cells-late}
use Rattle.link_run.proofs.RunFacts.{held-lanes, is-run}
use Rattle.link_run.specs.Given.{cells_in, held_at, most_held}
use Rattle.link_run.specs.Ran.{HaveRun}
use Rattle.link_run.specs.kept.Collected.{CanCollect, Collecting, Collects, HasCollected, IsLegalLink}
use Rattle.link_run.specs.kept.Ends.{HaveCells}
use Rattle.link_run.specs.kept.Gathered.{delivered_of}
use Rattle.link_run.specs.kept.LaneRuns.{HaveRings}
use Rattle.link_run.specs.kept.LinkStates.{HasAllTaken, HasDue, HasRunLanes, HasSegment, IsBefore, LinkView, alarms_in, decision_in, reset_in, runs_in, seen_in}
use Rattle.link_run.specs.kept.Reported.{IsSeen}
use Rattle.link_run.specs.kept.Segments.{edges_of}
use Rattle.link_run.specs.kept.Waits.{HaveWaiting}

-- ---- one tick of the segment

-- what is one in the last tick and the other in those before it
last-or : {A : Type 0} (a b x : A) → (n m i : ℕ) → n ≡ suc m → i ≤ m → (i ≡ m → a ≡ x)
    → (i < m → b ≡ x) → (if i + 1 == n then a else b) ≡ x
last-or a b x n m i count within last before = elim (cases_lt i m) [
  | inl below ↦
      let apart : i + 1 ≢ n = λ same. omega arith in
      cond-false (i + 1 == n) a b (ne_eqb (i + 1) n apart) ∙ before below
  | inr past ↦
      let same : i + 1 ≡ n = omega arith in
      cond-true (i + 1 == n) a b (eq-eqb (i + 1) n same) ∙ last (omega arith)
]

-- whether the link runs after it
pub runs-is : (v : LinkView) (s : Plan) (t m i : ℕ) → HasSegment v s t m i → i ≤ m
    → runs_in v i ≡ is_running (moment_of s (run_of s (t + i))).stage
runs-is v s t m i h within =
    last-or v.last.released v.last.segment.gives (is_running (moment_of s (run_of s (t + i))).stage)
    (length v.last.segment.steps) m i h.over.has_steps.count within
    (λ same. h.over.released_is
    ∙ ap (λ (n : ℕ). is_running (moment_of s (run_of s (t + n))).stage) (sym same))
    (λ below. sym (h.over.one.running i below))

-- a tick that does not decide
nothing-decided : (s : Plan) (h : History) → (moment_of s h).decides ≡ false
    → (moment_of s h).decided ≡ decided decision.Stay []
nothing-decided s h halts =
    let k : LaneKind = kind_of s.link.params in
    decided-next k s h
    ∙ ap (λ (b : Bool). decided_in s (standing s h) b (moment_of s h).reports) halts

decision-is : (v : LinkView) (s : Plan) (t m i : ℕ) → HasSegment v s t m i → i ≤ m
    → decision_in v i ≡ (moment_of s (run_of s (t + i))).decided.decision
decision-is v s t m i h within =
    last-or v.last.decision decision.Stay (moment_of s (run_of s (t + i))).decided.decision
    (length v.last.segment.steps) m i h.over.has_steps.count within
    (λ same. h.over.decision_is
    ∙ ap (λ (n : ℕ). (moment_of s (run_of s (t + n))).decided.decision) (sym same))
    (λ below. sym (ap (λ (d : Decided). d.decision)
    (nothing-decided s (run_of s (t + i)) (h.over.one.quiet i below))))

alarms-are : (v : LinkView) (s : Plan) (t m i : ℕ) → HasSegment v s t m i → i ≤ m
    → alarms_in v i ≡ (moment_of s (run_of s (t + i))).decided.alarms
alarms-are v s t m i h within =
    last-or v.last.alarms [] (moment_of s (run_of s (t + i))).decided.alarms
    (length v.last.segment.steps) m i h.over.has_steps.count within
    (λ same. h.over.alarms_are
    ∙ ap (λ (n : ℕ). (moment_of s (run_of s (t + n))).decided.alarms) (sym same))
    (λ below. sym (ap (λ (d : Decided). d.alarms)
    (nothing-decided s (run_of s (t + i)) (h.over.one.quiet i below))))

reset-is : (i : ℕ) (v : LinkView) (s : Plan) (t m : ℕ) → HasSegment v s t m i → i ≤ m
    → reset_in v i ≡ is_reset s Rx (t + i)
reset-is zero v s t m h within =
    let z : t ≡ t + 0 = omega arith in
    ap (λ (b : Bool). b && v.last.segment.rx_reset) (eq-eqb 0 0 refl) ∙ h.over.reset ∙ ap (is_reset s Rx) z
reset-is (suc i) v s t m h within =
    ap (λ (b : Bool). b && v.last.segment.rx_reset) (ne_eqb (suc i) 0 (λ z. omega arith))
    ∙ sym (h.over.one.unreset (suc i) (omega arith) within).1

-- whether a hunt begins in it
abbrev pub hunt_in : LinkView → ℕ → Bool
hunt_in v i = (get_or v.last.segment.steps i no_step).rx.hunt

pub hunt-is : (v : LinkView) (s : Plan) (t m i : ℕ) → HasSegment v s t m i → i ≤ m
    → hunt_in v i ≡ (moment_of s (run_of s (t + i))).told.hunt
hunt-is v s t m i h within =
    ap (λ (x : Step). x.rx.hunt) (h.over.has_steps.steps_are i (omega arith))

-- the link of a scenario is legal
pub legal-link : (k : Link) (s : Plan) → k ≡ s.link → broken_law k.params ≡ None
    → broken_timing k.params k.timing ≡ None → IsLegalLink s
legal-link k s is laws timing = record {
  laws = sym (ap (λ (x : Link). broken_law x.params) is) ∙ laws;
  timing = sym (ap (λ (x : Link). broken_timing x.params x.timing) is) ∙ timing;
}

-- as many ticks are still to be collected
left-over : (m i : ℕ) → i ≤ m → suc m - i ≡ suc (m - i)
left-over m i within = omega arith

pub cells-left : (v : LinkView) (s : Plan) (t m i : ℕ) → HasSegment v s t m i → i ≤ m
    → HaveWaiting v.collecting.waiting s (t + i) (suc (m - i))
cells-left v s t m i h within =
    subst (HaveWaiting v.collecting.waiting s (t + i)) (left-over m i within) h.cells

pub can-collect : (v : LinkView) (s : Plan) (t m i : ℕ) → IsLegalLink s → HasSegment v s t m i
    → i ≤ m → CanCollect v.collecting (hunt_in v i) (runs_in v i)
can-collect v s t m i legal h within =
    let k : LaneKind = kind_of s.link.params in
    let c = v.collecting in
    let past : History = run_of s (t + i) in
    let had = h.collected in
    let count = had.wait_count in (
      count ∙ ap (λ p. p.l) (sym had.gathered.same_params),
      λ goes none place w below.
          let lane : ℕ = lane_for s place in
          let r = is-run (t + i) s legal.laws legal.timing in
          let runs = sym (runs-is v s t m i h within) ∙ goes in
          let hunts = hunt-is v s t m i h within in
          let ahead = ap (λ (b : Bool). if b then c.lead else c.ahead) (sym hunts) ∙ none in
          let are = ahead-left s past c.lead c.ahead had.ahead_is in
          let first = had.lead_is in
          let late : lead s.link.params ≤ gives_in (session s past) = omega arith in
          let all = ap length (cells-left v s t m i h within place w below
          ∙ cells-first (m - i) s lane (t + i)
          ∙ ap (λ (xs : List LaneCell). xs ++ cells_in s lane (suc (t + i)) (m - i))
          (cells-late s place (t + i) r (omega arith) runs late)) in
          omega arith,
    )

-- the segment with what was collected
abbrev pub with_collecting : LinkView → Collecting → LinkView
with_collecting v c = record v { collecting = c }

pub is-seen : (v : LinkView) (c : Collecting) (s : Plan) (t m i : ℕ) → HasSegment v s t m i → i ≤ m
    → Collects c s (t + i) (m - i)
    → IsSeen (seen_in v i) (alarms_in v i) c.gathering.frames c.gathering.at s (run_of s (t + i))
is-seen v c s t m i h within took =
    let long = length-run (kind_of s.link.params) s (t + i) in
    let edges = h.over.has_steps.edges_are i (omega arith) in
    let step = h.over.has_steps.steps_are i (omega arith) in
    record {
      rx_reset = reset-is i v s t m h within ∙ ap (is_reset s Rx) (sym long);
      tx_off = ap (λ (x : Edges). x.tx) edges ∙ ap (λ (n : ℕ). (edges_of s n).tx) (sym long);
      rx_off = ap (λ (x : Edges). x.rx) edges ∙ ap (λ (n : ℕ). (edges_of s n).rx) (sym long);
      place = ap (λ (x : Step). data_place x.tx) step;
      decision = decision-is v s t m i h within;
      alarms_are = alarms-are v s t m i h within;
      delivered_is = took.delivered_is
          ∙ ap (λ (n : ℕ). delivered_of s.link.params (octets_per_tick s.link.params * (n + 1))
          c.gathering.frames c.gathering.at) (sym long);
    }

pub has-segment-next : (v : LinkView) (c : Collecting) (s : Plan) (t m i : ℕ)
    → HasSegment v s t m i → i ≤ m → Collects c s (t + i) (m - i)
    → HasSegment (with_collecting v c) s t m (suc i)
has-segment-next v c s t m i h within took =
    let next : suc (t + i) ≡ t + suc i = omega arith in
    let less : m - i ≡ suc m - suc i = omega arith in
    record {
      same_link = h.same_link;
      over = h.over;
      within = omega arith;
      collected = subst (HasCollected c s) next took.has;
      cells = subst (λ (n : ℕ). HaveWaiting c.waiting s (t + suc i) n) less
          (subst (λ (n : ℕ). HaveWaiting c.waiting s n (m - i)) next took.cells);
    }

-- ---- the ticks whose rows are due

-- of the ticks from tick `from` on and before tick t the first i were collected
pub record HasPart (now : LinkView) (s : Plan) (from t i : ℕ) : Type 0 where
  pub same_link : now.link ≡ s.link
  pub before : IsBefore now.last s from t
  pub collected : HasCollected now.collecting s (from + i)
  pub cells : HaveWaiting now.collecting.waiting s (from + i) (t - (from + i))

pub part-none : (v : LinkView) (s : Plan) (from t : ℕ) → HasDue v s from t → HasPart v s from t 0
part-none v s from t h =
    let z : from ≡ from + 0 = omega arith in
    record {
      same_link = h.same_link;
      before = h.before;
      collected = subst (HasCollected v.collecting s) z h.collected;
      cells = subst (λ (n : ℕ). HaveWaiting v.collecting.waiting s n (t - n)) z h.waiting;
    }

-- where one is still to come they are a segment
pub part-segment : (v : LinkView) (s : Plan) (from t i : ℕ) → HasPart v s from t i → from + i < t
    → (m : ℕ) × (t ≡ from + suc m) × HasSegment v s from m i
part-segment v s from t i h below = elim h.before [
  | inl none ↦ let end = none.end_is in absurd (omega arith)
  | inr some ↦
      let (m, segment) = some in
      let end = segment.end_is in
      let left : t - (from + i) ≡ suc m - i = omega arith in (
        m,
        end,
        record {
          same_link = h.same_link;
          over = segment.over;
          within = omega arith;
          collected = h.collected;
          cells = subst (HaveWaiting v.collecting.waiting s (from + i)) left h.cells;
        },
      )
]

pub part-next : (v now : LinkView) (s : Plan) (from t m i : ℕ) → HasPart v s from t i
    → t ≡ from + suc m → now.last ≡ v.last → HasSegment now s from m (suc i)
    → HasPart now s from t (i + 1)
part-next v now s from t m i h end last more =
    let next : from + suc i ≡ from + (i + 1) = omega arith in
    let left : suc m - suc i ≡ t - (from + suc i) = omega arith in
    record {
      same_link = more.same_link;
      before = subst (λ (e : Ended). IsBefore e s from t) (sym last) h.before;
      collected = subst (HasCollected now.collecting s) next more.collected;
      cells = subst (λ (n : ℕ). HaveWaiting now.collecting.waiting s n (t - n)) next
          (subst (HaveWaiting now.collecting.waiting s (from + suc i)) left more.cells);
    }

-- all of them were collected
pub part-all : (v : LinkView) (s : Plan) (from t i : ℕ) → HasPart v s from t i → from + i ≡ t
    → HasAllTaken v s t
part-all v s from t i h all =
    let none : t - (from + i) ≡ 0 = omega arith in
    record {
      collected = subst (HasCollected v.collecting s) all h.collected;
      none_waits = subst (λ (n : ℕ). HaveWaiting v.collecting.waiting s n 0) all
          (subst (HaveWaiting v.collecting.waiting s (from + i)) none h.cells);
    }

-- they are as many as the segment has
pub due-count : (v : LinkView) (s : Plan) (from t : ℕ) → IsBefore v.last s from t
    → t ≡ from + length v.last.segment.steps
due-count v s from t before = elim before [
  | inl none ↦
      let end = none.end_is in
      let empty = ap length none.empty in
      omega arith
  | inr some ↦
      let (m, segment) = some in
      let end = segment.end_is in
      let count = segment.over.has_steps.count in
      omega arith
]

-- ---- the places of data

after-small : (q n : ℕ) → 0 < q → q ≤ 1024 → IfSome
    (data_place (if nat_lt n (4 * q) then Ilas n else Data (n % q) (n == 4 * q))) (λ x. x < 1024)
after-small q n some few = elim (cases_Bool (nat_lt n (4 * q))) [
  | inl e ↦ rw e tt
  | inr e ↦ let small = mod-lt n some in rw e (omega arith)
]

small-b : (q n : ℕ) → 0 < q → q ≤ 1024 → IfSome
    (data_place (if n == 0 then Comma else (if nat_lt (n - 1) (4 * q) then Ilas (n - 1)
    else Data ((n - 1) % q) (n - 1 == 4 * q)))) (λ x. x < 1024)
small-b q n some few = elim (cases_Bool (n == 0)) [
  | inl e ↦ rw e tt
  | inr e ↦ rw e (after-small q (n - 1) some few)
]

small-c : (q n : ℕ) → 0 < q → q ≤ 1024 → IfSome
    (data_place (if n == 0 then Silent else Block ((n - 1) % q) (n == 1))) (λ x. x < 1024)
small-c q n some few = elim (cases_Bool (n == 0)) [
  | inl e ↦ rw e tt
  | inr e ↦ let small = mod-lt (n - 1) some in rw e (omega arith)
]

small-order : (p : Params) (os : List Observed) → 0 < period p → period p ≤ 1024
    → IfSome (data_place (tx_order p os)) (λ x. x < 1024)
unfolding tx_order
small-order p os some few = elim (cases_Bool (is_b p.mode)) [
  | inl e ↦ subst (λ (b : Bool).
      IfSome (data_place (if b then order_b p os else order_c p os)) (λ x. x < 1024)) (sym e)
      (small-b (period p) (length (since_boundary os)) some few)
  | inr e ↦ subst (λ (b : Bool).
      IfSome (data_place (if b then order_b p os else order_c p os)) (λ x. x < 1024)) (sym e)
      (small-c (period p) (length (from_edge os)) some few)
]

pub small-place : (v : LinkView) (s : Plan) (t m i : ℕ) → IsLegalLink s → HasSegment v s t m i
    → i < suc m → IfSome (data_place (get_or v.last.segment.steps i no_step).tx) (λ x. x < 1024)
unfolding order_of
small-place v s t m i legal h within =
    let sizes = legal_sizes s.link.params legal.laws in
    let low = sizes.period_low in
    let past : History = run_of s (t + i) in
    let is = ap (λ (x : Step). x.tx) (h.over.has_steps.steps_are i within)
    ∙ order-next (kind_of s.link.params) s past in
    subst (λ o. IfSome (data_place o) (λ x. x < 1024)) (sym is)
    (small-order s.link.params (observed s past) (omega arith) sizes.period)

-- ---- the most entries that lanes held

max-none : (ns : List ℕ) → fold max 0 (map (λ (n : ℕ). 0) ns) ≡ 0
max-none [] = refl
max-none (n ∷ ns) =
    let none : max 0 0 ≡ 0 = omega arith in
    ap (λ (a : ℕ). fold max a (map (λ (n : ℕ). 0) ns)) none ∙ max-none ns

-- the greatest of greatest ones
max-both : (f g : ℕ → ℕ) (ns : List ℕ)
    → fold max 0 (map (λ n. max (f n) (g n)) ns)
    ≡ max (fold max 0 (map f ns)) (fold max 0 (map g ns))
max-both f g [] = refl
max-both f g (n ∷ ns) =
    let more = max-both f g ns in
    let all = max-from (map (λ n. max (f n) (g n)) ns) (max 0 (max (f n) (g n))) in
    let ones = max-from (map f ns) (max 0 (f n)) in
    let others = max-from (map g ns) (max 0 (g n)) in
    omega arith

most-all : (t : ℕ) (s : Plan)
    → fold max 0 (map (λ lane. most_held s lane t) (lanes_of s)) ≡ fold max 0 (held_in (run_of s t))
unfolding most_held run
most-all zero s = max-none (lanes_of s)
most-all (suc t) s =
    let k : LaneKind = kind_of s.link.params in
    let h : History = run_of s t in
    max-both (λ lane. most_held s lane t) (λ lane. held_at s lane t) (lanes_of s)
    ∙ ap₂ max (most-all t s)
    (ap (fold max 0) (sym (held-lanes k s h (has-hunt-run k t s))))
    ∙ sym (fullest-more h (moment_of s h))

each-most : (lanes : List LanePair) (s : Plan) (t a n : ℕ) → length lanes ≡ n
    → ((k : ℕ) (d : LanePair) → k < n → (get_or lanes k d).fullest ≡ most_held s (a + k) t)
    → map (λ (x : LanePair). x.fullest) lanes ≡ map (λ lane. most_held s lane t) (numbers_from a n)
unfolding numbers_from
each-most [] s t a zero e is = refl
each-most [] s t a (suc n) e is = absurd (omega arith)
each-most (x ∷ lanes) s t a zero e is = absurd (omega arith)
each-most (x ∷ lanes) s t a (suc n) e is =
    let z : a + 0 ≡ a = omega arith in
    ap₂ (λ (y : ℕ) (ys : List ℕ). y ∷ ys)
    (is 0 x (omega arith) ∙ ap (λ (k : ℕ). most_held s k t) z)
    (each-most lanes s t (suc a) n (omega arith) (λ k d below.
    let up : a + suc k ≡ suc a + k = omega arith in
    is (suc k) d (omega arith) ∙ ap (λ (j : ℕ). most_held s j t) up))

pub fullest-is : (lanes : List LanePair) (s : Plan) (given t : ℕ) → length lanes ≡ s.link.params.l
    → HaveRings lanes s given t
    → fold max 0 (map (λ (x : LanePair). x.fullest) lanes) ≡ fold max 0 (held_in (run_of s t))
fullest-is lanes s given t count rings =
    ap (fold max 0) (each-most lanes s t 0 s.link.params.l count (λ lane d below.
    let z : lane ≡ 0 + lane = omega arith in
    (rings lane d (omega arith)).most ∙ ap (λ (j : ℕ). most_held s j t) z))
    ∙ most-all t s

-- ---- the lanes and the ends of a run

pub have-run : (v : LinkView) (s : Plan) (t : ℕ) → HasRunLanes v s t
    → HaveCells v.collecting.ends s t 0 → HaveRun v.lanes v.collecting.ends s t
unfolding cells_in
have-run v s t h cells =
    let count = h.lanes.0 in
    let ends = h.sized.pairs.count in
    record {
      lane_count = count;
      end_count = ends ∙ count;
      each_lane = λ lane d below.
          let r = h.rings lane d (omega arith) in
          record {
            went = h.lanes.1 lane d below;
            cells = r.cells;
            count = r.count;
            most = r.most;
          };
      each_end = λ lane e below.
          let c = cells lane e (omega arith) in
          record { received_are = c.received_are; none_known = c.known_are };
      pairs = λ lane d e below. h.sized.pairs.each lane d e (omega arith);
    }
