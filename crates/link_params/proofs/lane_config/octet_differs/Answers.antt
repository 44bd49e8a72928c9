use Rattle.link_params.proofs.lane_config.octet_differs.Goals as goal

pub returns : goal.returns
returns c = c.is_other.ensures c.args.link.now.params c.args.lane c.config_octets.ensures
