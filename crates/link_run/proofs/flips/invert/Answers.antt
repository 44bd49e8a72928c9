use Rattle.std.proofs.Common.{◌≡◌, ◌+◌, ◌∙◌, ap, arith, nat_le, nat_lt}
use Rattle.std.specs.Prelude.{◌&&◌}
use Rattle.jesd_base.specs.Bits.{add}
use Rattle.line_model.specs.LineBits.{is_flipped}
use Rattle.link_run.proofs.FlipLemmas.{toggled-more, toggled-none}
use Rattle.link_run.proofs.flips.invert.Goals as goal

pub loop-bit-init : goal.loop-bit-init
loop-bit-init c = toggled-none c.args.bits.now.items c.args.flip.now.first c.requires.ascending

pub toggle-requires : goal.toggle-requires
toggle-requires c = c.loop-bit.invariant.ascending

pub loop-bit-preserved : goal.loop-bit-preserved
loop-bit-preserved c =
    toggled-more c.args.bits.now.items c.loop-bit.bits.items c.toggle.new.bits.items
    c.args.flip.now.first c.loop-bit.bit c.loop-bit.invariant
    c.loop-bit.auto.bit c.in_ok-toggle.ensures.ascending c.in_ok-toggle.ensures.members

pub returns-clause-ascending : goal.returns-clause-ascending
returns-clause-ascending c = c.loop-bit.invariant.ascending

pub returns-clause-members : goal.returns-clause-members
returns-clause-members c i =
    let f = c.args.flip.now in
    let end : c.loop-bit.bit ≡ f.first + f.count =
    omega (arith, c.from.ensures, c.loop-bit.auto.bit-end (omega arith)) in
    c.loop-bit.invariant.members i
    ∙ ap (λ e. add (nat_le f.first i && nat_lt i e) (is_flipped c.args.bits.now.items i)) end
