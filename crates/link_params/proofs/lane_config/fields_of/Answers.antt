use Rattle.link_params.specs.Config.{fields, read_values, config_of}
use Rattle.link_params.proofs.lane_config.fields_of.Goals as goal

pub returns : goal.returns
unfolding fields read_values config_of
returns c = rw (c.bits_of.ensures, c.bits_of-2.ensures, c.bits_of-3.ensures, c.bits_of-4.ensures, c.bits_of-5.ensures, c.bits_of-6.ensures, c.bits_of-7.ensures, c.bits_of-8.ensures, c.bits_of-9.ensures, c.bits_of-10.ensures, c.bits_of-11.ensures, c.bits_of-12.ensures, c.bits_of-13.ensures, c.bits_of-14.ensures, c.bits_of-15.ensures, c.bits_of-16.ensures, c.bits_of-17.ensures, c.bits_of-18.ensures, c.bits_of-19.ensures)
