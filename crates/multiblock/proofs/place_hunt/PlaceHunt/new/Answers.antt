use Rattle.std.proofs.Common.{refl}
use Rattle.multiblock.proofs.Hunting.{begun}
use Rattle.multiblock.proofs.place_hunt.PlaceHunt.new.Goals as goal

pub returns : goal.returns
returns c = begun _ c.args.e refl refl refl c.no_heads.ensures
