use Rattle.std.proofs.Common.{◌≡◌, ◌<◌, ◌≤◌, ◌+◌, ◌*◌, ◌∙◌, ℕ, List, ap, subst, arith}
use Rattle.std.specs.Prelude.{slice_index}
use Rattle.std.proofs.Math.Nat.{mul-le-mul_right}
use Rattle.std.proofs.lemmas.List.{with_items_is}
use Rattle.link_run.specs.kept.FrameRows.{AreMoved, frame_in}
use Rattle.link_run.specs.kept.Gathered.{Gathering}
use Rattle.link_run.proofs.Gathering.{frame-moved, in-frames, no-frames, shown-same}
use Rattle.link_run.proofs.deframer.Deframer.drop_whole.Goals as goal
use Rattle.link_run.proofs.deframer.Deframer.drop_whole.Goals.{then-self-gt0, else-self-gt0}

pub move_each-requires-clause-behind : goal.move_each-requires-clause-behind
move_each-requires-clause-behind c =
    let d = c.self.inside in
    let some : 0 < d.whole =
    in-frames _ d.whole 0 _ (ap (λ (v : Gathering). v.frames) c.self.view_is) c.requires.some in
    let one : 1 * d.size ≤ d.whole * d.size =
    mul-le-mul_right d.size (let q : 1 ≤ d.whole = omega arith in q) in
    let within = c.self.invariant.within in
    omega arith

pub returns-clause-octets : goal.returns-clause-octets
returns-clause-octets c = λ lane j in_lanes below.
    let d = c.self.inside in
    let params = ap (λ (v : Gathering). v.params) c.self.view_is in
    let at : d.at ≡ c.args.self.now.at = ap (λ (v : Gathering). v.at) c.self.view_is in
    let lanes : lane < d.shape.l = rw params in_lanes in
    let few : j < d.at = omega arith in
    let within = c.self.invariant.within in
    elim c.if-self-gt0.branch [
      | then-self-gt0 w ↦
          let rows = d.rows.items in
          let now = w.move_each.new.rows in
          let held = with_items_is d.rows now (w.move_each.auto.rows ∙ w.deref_mut.ensures.len) in
          let moved : AreMoved rows now w.lanes-lanes.result d.room (d.whole * d.size) d.at =
          subst (λ (l : List ℕ). AreMoved l now w.lanes-lanes.result d.room (d.whole * d.size) d.at)
          w.deref_mut.ensures.value w.move_each.ensures in
          let here = frame-moved rows now d.shape w.lanes-lanes.result d.size d.room d.whole d.at
          lane j w.lanes-lanes.ensures.value c.self.invariant.size_is (omega arith) moved lanes few
          in
          let f : d.shape.f ≡ c.args.self.now.params.f = ap (λ p. p.f) params in
          let octets = ap (λ (v : Gathering). v.octets) c.self.view_is in
          rw (w.self-inside-is, held) (
          subst (λ (k : ℕ). slice_index (frame_in now d.shape d.room 0) (lane * k + j)
          ≡ slice_index c.args.self.now.octets (lane * k + j)) f
          (here ∙ ap (λ (l : List ℕ). slice_index l (lane * d.shape.f + j)) octets)
          )
      | else-self-gt0 w ↦ let past = w.if-self-gt0.false in absurd (omega arith)
    ]

pub returns-clause-same : goal.returns-clause-same
returns-clause-same c = elim c.if-self-gt0.branch [
  | then-self-gt0 w ↦ rw w.self-inside-is
      (shown-same c.args.self.now _ _ _ _ _ (ap (λ (v : Gathering). v.params) c.self.view_is)
      (ap (λ (v : Gathering). v.at) c.self.view_is) (ap (λ (v : Gathering). v.mark) c.self.view_is)
      (no-frames _))
  | else-self-gt0 w ↦ rw w.self-inside-is
      (shown-same c.args.self.now _ _ _ _ _ (ap (λ (v : Gathering). v.params) c.self.view_is)
      (ap (λ (v : Gathering). v.at) c.self.view_is) (ap (λ (v : Gathering). v.mark) c.self.view_is)
      (no-frames _))
]
