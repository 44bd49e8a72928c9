-- A link as contracts see it.
-- Code: the fields themselves.
use Rattle.link_params.specs.declared.fields.Params.{Params}
use Rattle.link_params.specs.declared.fields.Timing.{Timing}

-- its parameters and its timing, which obey all laws
pub record Link : Type 0 where
  pub params : Params
  pub timing : Timing
