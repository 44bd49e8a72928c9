-- Entries in the elastic buffers of a run.
use Rattle.std.proofs.Common.{◌≡◌, ◌<◌, ℕ, List, length, get_or, None, ap, arith}
use Rattle.link_params.specs.Lanes.{LaneKind, Taken}
use Rattle.link_params.specs.Laws.{broken_law}
use Rattle.link_params.specs.Links.{Link}
use Rattle.link_params.specs.TimingLaws.{broken_timing}
use Rattle.bring_up.specs.declared.stage.Stage.TheVariants as stage
use Rattle.scenario.specs.Plans.{Plan}
use Rattle.link_model.proofs.Depth.{has-entry}
use Rattle.link_model.proofs.FactsOf.{facts-of}
use Rattle.link_model.proofs.LaneHistory.{has-hunt-run, took-stepped}
use Rattle.link_model.specs.Kinds.{kind_of, moment_of, run_of}
use Rattle.link_model.specs.kept.LaneRuns.{lane_stepped}
use Rattle.link_model.specs.Moments.{History}
use Rattle.link_model.specs.Wiring.{route_of}
use Rattle.lane_threads.proofs.KindEnds.{buffer-count}
use Rattle.lane_threads.specs.declared.lane_pair.LanePair.{LanePair}
use Rattle.link_run.specs.kept.LaneRuns.{HaveRunLanes, HaveEntries}

-- the link is legal
pub record IsGood (k : Link) : Type 0 where
  pub laws : broken_law k.params ≡ None
  pub timing : broken_timing k.params k.timing ≡ None

-- each lane that was stepped holds an entry, where the link is released
pub stepped-entry : (lanes : List LanePair) (s : Plan) (t : ℕ) → IsGood s.link
    → HaveRunLanes lanes s (λ l. lane_stepped (kind_of s.link.params) s (run_of s t) l)
    → (moment_of s (run_of s t)).stage ≡ stage.Run → HaveEntries lanes
stepped-entry lanes s t good ran runs lane d below =
    let p = s.link.params in
    let k : LaneKind = kind_of p in
    let h : History = run_of s t in
    let within : lane < p.l = omega (arith, ran.0) in
    let r = ran.1 lane d within in
    let entry = has-entry k t s lane (facts-of p s.link.timing) good.laws good.timing within runs in
    let same = ap (λ (taken : List Taken). length (k.entries p s.link.timing (route_of s lane) taken))
    (took-stepped k s h lane (has-hunt-run k t s)) in
    let count = buffer-count (get_or lanes lane d).lane.rx p s.link.timing (route_of s lane) _ _ r.rx in
    rw count (let n = rw same at entry in omega arith)
