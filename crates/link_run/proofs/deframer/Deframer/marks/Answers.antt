use Rattle.std.proofs.Common.{◌∙◌, get_or, ap, sym}
use Rattle.link_run.specs.kept.Gathered.{Gathering, no_frame}
use Rattle.link_run.proofs.Gathering.{frame-shown, in-frames}
use Rattle.link_run.proofs.deframer.Deframer.marks.Goals as goal

pub returns : goal.returns
returns c = λ i inside.
    let d = c.self.inside in
    let shown = frame-shown d.rows.items d.shape d.room d.first d.others d.whole i
    (in-frames _ d.whole i _ (ap (λ (v : Gathering). v.frames) c.self.view_is) inside) in
    ap (λ (v : Gathering). (get_or v.frames i no_frame).mark) (sym c.self.view_is)
    ∙ ap (λ w. w.mark) shown
