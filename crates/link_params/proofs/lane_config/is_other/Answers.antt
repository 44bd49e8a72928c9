use Rattle.std.proofs.Common.{rules}
use Rattle.link_params.specs.Config.{differs, masks}
use Rattle.link_params.proofs.lane_config.is_other.Goals as goal

pub returns : goal.returns
unfolding differs masks
returns c = λ p lane e. rw (← e) (search rules)
