-- What holds in each tick of a run of a legal link.
use Rattle.std.proofs.Common.{◌≡◌, ℕ, ◌-◌, ◌<◌, ◌≤◌, List, length, map, None, ap, sym, ◌∙◌}
use Rattle.std.proofs.lemmas.Simd.{map-map}
use Rattle.link_params.specs.Lanes.{Entry, LaneKind, Taken}
use Rattle.link_params.specs.Laws.{broken_law}
use Rattle.link_params.specs.TimingLaws.{broken_timing}
use Rattle.link_params.proofs.LawFacts.{legal_sizes}
use Rattle.scenario.specs.Plans.{Plan}
use Rattle.link_model.proofs.ArmedHistory.{HasArmed, armed-run}
use Rattle.link_model.proofs.ColumnHistory.{HaveDepth}
use Rattle.link_model.proofs.Depth.{depth-run}
use Rattle.link_model.proofs.FactsOf.{facts-of}
use Rattle.link_model.proofs.KindFacts.{KindFacts}
use Rattle.link_model.proofs.LaneHistory.{HasHunt, has-hunt-run, took-stepped}
use Rattle.link_model.proofs.NextMoment.{held-next, lanes_of, next, reports-next, took}
use Rattle.link_model.proofs.NumberLists.{map-numbers}
use Rattle.link_model.proofs.WindowFacts.{IsLegal, legal}
use Rattle.link_model.specs.Gives.{gives_in}
use Rattle.link_model.specs.Hunts.{session}
use Rattle.link_model.specs.Kinds.{kind_of, run_of}
use Rattle.link_model.specs.kept.LaneRuns.{held_by, lane_stepped}
use Rattle.link_model.specs.Moments.{History}
use Rattle.link_model.specs.Wiring.{route_of}

-- the premises of the lemmas on a tick
pub record IsRunOf (s : Plan) (h : History) : Type 0 where
  pub facts : KindFacts (kind_of s.link.params) s.link.params s.link.timing
  pub legal : IsLegal s.link.params s.link.timing
  pub lanes : 0 < s.link.params.l
  pub octets : 0 < s.link.params.f
  pub few_octets : s.link.params.f ≤ 256
  pub begun : HasHunt h
  pub kept : HaveDepth (kind_of s.link.params) s h
  pub armed : HasArmed s h

pub is-run : (t : ℕ) (s : Plan) → broken_law s.link.params ≡ None
    → broken_timing s.link.params s.link.timing ≡ None → IsRunOf s (run_of s t)
is-run t s laws timing =
    let k : LaneKind = kind_of s.link.params in
    let sizes = legal_sizes s.link.params laws in
    let facts = facts-of s.link.params s.link.timing in
    record {
      facts = facts;
      legal = legal s.link.params s.link.timing laws timing;
      lanes = sizes.l_low;
      octets = sizes.f_low;
      few_octets = sizes.f;
      begun = has-hunt-run k t s;
      kept = λ lane below. depth-run k t s lane facts laws timing below;
      armed = armed-run k t s;
    }

-- ---- the lanes after a tick, as each went through it

pub reports-lanes : (k : LaneKind) (s : Plan) (h : History) → HasHunt h
    → map (λ l. k.report s.link.params s.link.timing (route_of s l) (lane_stepped k s h l).taken) (lanes_of s)
    ≡ (next k s h).reports
reports-lanes k s h begun =
    map-numbers (λ l. k.report s.link.params s.link.timing (route_of s l) (lane_stepped k s h l).taken)
    (λ l. k.report s.link.params s.link.timing (route_of s l) (took k s h l)) s.link.params.l 0
    (λ l below. ap (k.report s.link.params s.link.timing (route_of s l)) (sym (took-stepped k s h l begun)))
    ∙ sym (reports-next k s h)

pub held-lanes : (k : LaneKind) (s : Plan) (h : History) → HasHunt h
    → (next k s h).held ≡ map (held_by k s (λ l. lane_stepped k s h l)) (lanes_of s)
held-lanes k s h begun =
    held-next k s h
    ∙ map-map (λ (es : List Entry). length es - gives_in (session s h))
    (λ l. k.entries s.link.params s.link.timing (route_of s l) (took k s h l)) (lanes_of s)
    ∙ map-numbers (λ l. length (k.entries s.link.params s.link.timing (route_of s l) (took k s h l))
    - gives_in (session s h)) (held_by k s (λ l. lane_stepped k s h l)) s.link.params.l 0
    (λ l below. ap (λ (xs : List Taken). length (k.entries s.link.params s.link.timing (route_of s l) xs)
    - gives_in (session s h)) (took-stepped k s h l begun))
