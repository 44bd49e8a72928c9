use Rattle.std.proofs.Common.{◌∙◌, ◌+◌, sym, ap, subst}
use Rattle.link_run.specs.contracts.link_state.LinkState.{the_view as view_of}
use Rattle.link_run.specs.kept.Ends.{HaveCells}
use Rattle.link_run.specs.kept.LinkStates.{HasRunLanes, LinkView}
use Rattle.link_run.proofs.LinkRuns.{has-met, with_met}
use Rattle.link_run.proofs.link_state.LinkState.meet.Goals as goal

pub returns-clause-ran : goal.returns-clause-ran
returns-clause-ran c = λ s t h.
    has-met (view_of c.self.inside) c.meet.new.lanes c.meet.new.self s t
    (subst (λ v. HasRunLanes v s t) (sym c.self.view_is) h) c.meet.ensures.pairs
    (c.meet.ensures.lanes s) (c.meet.ensures.rings s) c.meet.ensures.at

pub returns-clause-knows : goal.returns-clause-knows
returns-clause-knows c = λ s t n h cells.
    let had = subst (λ v. HasRunLanes v s (t + n)) (sym c.self.view_is) h in
    c.meet.ensures.knows s t n had.rings
    (subst (λ (v : LinkView). HaveCells v.collecting.ends s t 0) (sym c.self.view_is) cells)

pub returns-clause-same : goal.returns-clause-same
returns-clause-same c =
    ap (with_met (view_of c.self.inside) c.meet.new.lanes) c.meet.ensures.same
    ∙ ap (λ (v : LinkView). with_met v c.meet.new.lanes
    (record v.collecting { ends = c.meet.new.self.ends })) c.self.view_is
