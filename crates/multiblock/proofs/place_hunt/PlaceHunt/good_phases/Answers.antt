use Rattle.std.proofs.Common.{◌≡◌, ◌+◌, ◌==◌, ◌∙◌, suc, ap, ap₂, ℕ, Bool, arith}
use Rattle.std.specs.Prelude.{◌&&◌}
use Rattle.std.specs.Int.{bit_at}
use Rattle.jesd_base.specs.Bits.{add}
use Rattle.multiblock.specs.kept.Hunts.{is_good, all_good}
use Rattle.multiblock.proofs.Masks.{all-phases, and-is, good-is}
use Rattle.multiblock.proofs.place_hunt.PlaceHunt.good_phases.Goals as goal

pub loop-n-init : goal.loop-n-init
unfolding all_good
loop-n-init c = λ r low. all-phases r low

pub loop-n-preserved : goal.loop-n-preserved
unfolding all_good
loop-n-preserved c = λ r low.
    let now = c.args.self.now in
    let n : ℕ = c.loop-n.n in
    let s : suc n ≡ n + 1 = omega arith in
    and-is c.loop-n.phases _ r
    ∙ ap₂ {C = Bool} (λ x y. x && y)
    (good-is c.aged-heads.result r ∙ ap (λ h. add (bit_at h (1 + r) == 1) (bit_at h r == 1)) c.aged-heads.ensures)
    (c.loop-n.invariant r low)
    ∙ ap (all_good (is_good now r) c.args.age) s
