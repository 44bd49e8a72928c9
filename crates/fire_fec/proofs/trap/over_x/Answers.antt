use Rattle.std.proofs.Common.{◌≡◌, ◌%◌, ◌==◌, false, refl}
use Rattle.std.proofs.lemmas.Bool.{ne_eqb}
use Rattle.fire_fec.specs.kept.Shifting.{over_x}
use Rattle.fire_fec.proofs.Carried.{over_x_small}
use Rattle.fire_fec.proofs.trap.over_x.Goals as goal

pub returns-then-rest-eq1-clause-over : goal.returns-then-rest-eq1-clause-over
unfolding over_x
returns-then-rest-eq1-clause-over c = rw c.if-rest-eq1.true refl

pub returns-else-rest-eq1-clause-over : goal.returns-else-rest-eq1-clause-over
unfolding over_x
returns-else-rest-eq1-clause-over c =
    let e : (c.args.rest % 2 == 1) ≡ false = ne_eqb _ _ c.if-rest-eq1.false in
    rw e refl

pub returns-then-rest-eq1-clause-below : goal.returns-then-rest-eq1-clause-below
unfolding over_x
returns-then-rest-eq1-clause-below c =
    rw c.if-rest-eq1.true at (over_x_small c.args.rest c.requires)
