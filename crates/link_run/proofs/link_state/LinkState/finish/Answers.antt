use Rattle.std.proofs.Common.{◌≡◌, ◌∙◌, sym, ap, subst}
use Rattle.link_run.specs.contracts.link_state.LinkState.{the_view as view_of}
use Rattle.link_run.specs.kept.Collected.{Collecting}
use Rattle.link_run.specs.kept.Ends.{HaveCells}
use Rattle.link_run.specs.kept.LinkStates.{HasRunLanes, LinkView}
use Rattle.link_run.proofs.LinkRuns.{collecting-met, has-filled, has-finished, has-taken}
use Rattle.link_run.proofs.link_state.LinkState.finish.Goals as goal

pub returns-clause-finished : goal.returns-clause-finished
returns-clause-finished c = λ s from t h.
    let old : LinkView = c.args.self.now in
    let met = view_of c.self.inside in
    let same = ap (λ (v : LinkView). v.collecting) c.self.view_is in
    let ran = subst (λ v. HasRunLanes v s t) (sym c.self.view_is) (c.meet.ensures.ran s t h.ran) in
    let taken = has-taken old met.collecting c.run.new.self s from t h
    (ran.sized.pairs.count ∙ ran.lanes.0)
    (λ n had. subst (λ (k : Collecting). HaveCells k.ends s from n) (sym same)
    (c.meet.ensures.knows s from n had h.cells))
    (subst (λ (k : Collecting). k ≡ record old.collecting { ends = k.ends }) (sym same)
    (collecting-met old c.meet.new.self c.meet.ensures.same))
    c.run.ensures.0 c.run.ensures.1 in
    has-finished old _ s from t (has-filled met c.run.new.self s t ran c.run.ensures.1)
    (ap (λ (v : LinkView). v.last) (c.self.view_is ∙ c.meet.ensures.same)) h.before taken

pub returns-clause-same : goal.returns-clause-same
returns-clause-same c =
    ap (λ (v : LinkView). v.link) (c.self.view_is ∙ c.meet.ensures.same)
