use Rattle.std.proofs.Common.{◌∙◌, ap}
use Rattle.bring_up.specs.Decisions.{is_running}
use Rattle.link_run.proofs.receiver.Receiver.is_run.Goals as goal

pub returns : goal.returns
returns c = λ s h stands. c.is_run.ensures ∙ ap is_running (c.stage.ensures s h stands)
