use Rattle.std.proofs.Common.{◌∙◌, length, ap, sym}
use Rattle.link_run.specs.kept.Gathered.{Gathering}
use Rattle.link_run.proofs.Gathering.{count-frames}
use Rattle.link_run.proofs.deframer.Deframer.whole.Goals as goal

pub returns-clause-count : goal.returns-clause-count
returns-clause-count c =
    sym (count-frames _ c.self.inside.whole)
    ∙ ap (λ (v : Gathering). length v.frames) c.self.view_is
