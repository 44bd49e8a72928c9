use Rattle.std.proofs.Common.{◌≡◌, ◌∙◌, List, arith, refl, map, sym, ap, subst}
use Rattle.std.proofs.lemmas.List.{with_items_is}
use Rattle.std.specs.Vec.{with_items}
use Rattle.link_run.specs.kept.Collected.{Collecting}
use Rattle.link_run.specs.kept.Waits.{AreNext, Waits, next_of}
use Rattle.link_run.proofs.Collecting.{begun-cells, begun-left, collects-early, collects-late, collects-still, rested-left}
use Rattle.link_run.proofs.RunFacts.{is-run}
use Rattle.link_run.proofs.collector.Collector.take.Goals as goal

pub returns-then-not-runs-clause-took : goal.returns-then-not-runs-clause-took
returns-then-not-runs-clause-took c = λ s t n legal had cells hunts runs.
    let old : Collecting = c.args.self.now in
    let begun : Collecting = c.begin.new.self in
    let now : Collecting = record {
      ends = c.self.inside.ends.items;
      route = c.self.inside.route.items;
      waiting = c.self.inside.waiting.items;
      lead = c.self.inside.lead;
      ahead = c.self.inside.ahead;
      gathering = c.self.inside.deframer;
    } in
    let same = ap (λ (v : Collecting). v.waiting) c.begin.ensures.same in
    let left = begun-left old begun now c.args.hunt s t c.self.view_is had hunts
    c.begin.ensures.same c.begin.ensures.gathered in
    let there = begun-cells old begun now s t _ c.self.view_is same cells in
    let halts = sym runs ∙ c.if-not-runs.true in
    collects-still (record now { gathering = c.rest.new.self }) s t n
    (is-run t s legal.laws legal.timing)
    (rested-left now c.rest.new.self s t left c.rest.ensures.gathered) there halts
    c.rest.ensures.nothing

pub returns-then-self-gt0-clause-took : goal.returns-then-self-gt0-clause-took
returns-then-self-gt0-clause-took c = λ s t n legal had cells hunts runs.
    let old : Collecting = c.args.self.now in
    let begun : Collecting = c.begin.new.self in
    let now : Collecting = record {
      ends = c.self.inside.ends.items;
      route = c.self.inside.route.items;
      waiting = c.self.inside.waiting.items;
      lead = c.self.inside.lead;
      ahead = c.self.inside.ahead;
      gathering = c.self.inside.deframer;
    } in
    let same = ap (λ (v : Collecting). v.waiting) c.begin.ensures.same in
    let left = begun-left old begun now c.args.hunt s t c.self.view_is had hunts
    c.begin.ensures.same c.begin.ensures.gathered in
    let there = begun-cells old begun now s t _ c.self.view_is same cells in
    let goes = sym runs ∙ c.if-not-runs.false in
    collects-early (record now { gathering = c.rest-then-self-gt0.new.self }) s t n
    (is-run t s legal.laws legal.timing)
    (rested-left now c.rest-then-self-gt0.new.self s t left c.rest-then-self-gt0.ensures.gathered)
    there goes c.if-self-gt0.true c.rest-then-self-gt0.ensures.nothing

pub returns-else-self-gt0-clause-took : goal.returns-else-self-gt0-clause-took
returns-else-self-gt0-clause-took c = λ s t n legal had cells hunts runs.
    let old : Collecting = c.args.self.now in
    let begun : Collecting = c.begin.new.self in
    let was : Collecting = record {
      ends = c.self.inside.ends.items;
      route = c.self.inside.route.items;
      waiting = c.self.inside.waiting.items;
      lead = c.self.inside.lead;
      ahead = c.self.inside.ahead;
      gathering = c.self.inside.deframer;
    } in
    let same = ap (λ (v : Collecting). v.waiting) c.begin.ensures.same in
    let left = begun-left old begun was c.args.hunt s t c.self.view_is had hunts
    c.begin.ensures.same c.begin.ensures.gathered in
    let there = begun-cells old begun was s t _ c.self.view_is same cells in
    let goes = sym runs ∙ c.if-not-runs.false in
    let none : was.ahead ≡ 0 = (let past = c.if-self-gt0.false in omega arith) in
    let waits : (with_items c.self.inside.waiting c.take.new.waiting).items ≡ c.take.new.waiting =
    with_items_is c.self.inside.waiting c.take.new.waiting
    (c.take.auto.waiting ∙ c.deref_mut.ensures.len) in
    let gave : map next_of c.deref_mut.result.now ≡ map next_of was.waiting =
    ap (map next_of) c.deref_mut.ensures.value in
    let taken : AreNext was.waiting (with_items c.self.inside.waiting c.take.new.waiting).items =
    subst (AreNext was.waiting) (sym waits)
    (subst (λ (xs : List Waits). AreNext xs c.take.new.waiting) c.deref_mut.ensures.value
    c.take.ensures.taken) in
    collects-late was _ (map next_of c.deref_mut.result.now) s t n
    (is-run t s legal.laws legal.timing) left there goes none refl refl taken gave refl refl
    (λ columns column. c.take.ensures.goes_on s.link.params columns column)
    (λ columns column. c.take.ensures.frames s.link.params columns column)
