use Rattle.std.proofs.Common.{◌≡◌, ◌<◌, ◌*◌, ◌∙◌, ℕ, true, false, Bool, [], ◌∷◌, length, get_or, nat_lt, sym, ap, refl, arith}
use Rattle.std.proofs.lemmas.Bool.{and_parts}
use Rattle.link_params.specs.declared.fields.Params.{Params}
use Rattle.link_params.specs.declared.orders.TxOrder.{TxOrder}
use Rattle.link_params.specs.declared.orders.TxOrder.TheVariants.{Comma}
use Rattle.link_params.specs.Laws.{is_b}
use Rattle.link_params.specs.Links.{Link}
use Rattle.link_params.specs.Numbers.{period, width}
use Rattle.scenario.specs.declared.plan.Print.TheVariants as print
use Rattle.scenario.specs.Plans.{Plan, Ramp, numbers_from}
use Rattle.link_model.specs.Carried.{inverted_bits}
use Rattle.link_model.specs.Kinds.{kind_of}
use Rattle.link_model.specs.kept.LaneRuns.{LaneRun, no_run}
use Rattle.lane_threads.specs.declared.step.Step.{Step}
use Rattle.lane_threads.specs.Segments.{MayRun, Segment, no_step, step_at}
use Rattle.lane_threads.specs.kept.LaneEnds.{Follows, FollowsOn}
use Rattle.lane_threads.proofs.tests_segments.open_lane.Goals as goal

-- a plan of this link without ticks, with one lane that is wired and routed to this one
abbrev plan_on : Link → ℕ → Plan
plan_on k lane = record {
  version = 1;
  link = k;
  ticks = 0;
  print = print.None;
  source = Ramp 0 1;
  events = [];
  jitters = [];
  flips = [];
  wire = lane ∷ [];
  route = lane ∷ [];
  inverted = [];
}

none-inverted : (k : Link) (lane n : ℕ) → n ≡ 0 → [] ≡ inverted_bits (plan_on k lane) 0 n
unfolding inverted_bits numbers_from
none-inverted k lane n none = rw none refl

-- /K/ follows any order
comma-follows : (p : Params) (b : Bool) (order : TxOrder) → is_b p.mode ≡ true → order ≡ Comma
    → (next : _) → Follows p next order
comma-follows p b order mode comma next =
    let on : FollowsOn true p next Comma = tt in
    rw (comma, mode) on

may-hunt : (s : Plan) (lane : ℕ) (g : Segment) (x : LaneRun) (next : _)
    → is_b s.link.params.mode ≡ true → g.gives ≡ false
    → ((n : ℕ) (d : Step) → n < length g.steps
    → ((get_or g.steps n d).tx ≡ Comma) × ((get_or g.steps n d).rx.hunt ≡ true))
    → MayRun (kind_of s.link.params) s lane next g x
may-hunt s lane g x next mode still hunts = record {
  follows = λ n below. comma-follows s.link.params true (step_at g n).tx mode
      (hunts n no_step below).0 _;
  armed = λ n below stays. let bad : true ≡ false = sym (hunts n no_step below).1 ∙ stays in
      absurd (cc);
  room = λ n below stays. let bad : true ≡ false = sym (hunts n no_step below).1 ∙ stays in
      absurd (cc);
  entry = λ n below gives.
      let bad : false ≡ true = sym still ∙ (and_parts (nat_lt 0 n) g.gives gives).1 in absurd (cc);
}

pub returns : goal.returns
returns c =
    let k = c.args.link.now in
    let s : Plan = plan_on k c.args.lane in
    let mode : is_b k.params.mode ≡ true = ap is_b c.requires.mode in
    let zero : width k.params * 0 ≡ 0 = omega arith in
    let made = c.in_ok-lane.ensures in
    let low = c.if-steps-period.false in
    record {
      few =
          let size = c.in_ok-lane.lane.size in
          let same = ap period made.next.0 in
          let ticks = c.period.ensures.value ∙ ap period c.shape.ensures.same in
          omega arith;
      cells = λ gives. let bad : false ≡ true = gives in absurd (cc);
      plan = s;
      lane = 0;
      run = no_run s;
      runs = record {
        has = made.begins s 0 (no_run s) refl refl refl (refl, refl, refl, refl)
            (c.in_ok-line.ensures.begins s 0 refl
            (c.new.ensures.items ∙ none-inverted k c.args.lane (width k.params * 0) zero));
        may = may-hunt s 0 _ (no_run s) _ mode refl c.requires.hunts;
      };
      same = made.next.0;
    }
