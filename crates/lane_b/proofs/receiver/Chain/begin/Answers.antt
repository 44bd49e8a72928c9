use Rattle.std.proofs.Common.{refl, ap, ◌≡◌, ◌∙◌, sym, []}
use Rattle.link_params.specs.Lanes.{is_inside}
use Rattle.lane_b.proofs.receiver.Chain.begin.Goals as goal

pub returns : goal.returns
returns c =
    let s = c.new-start.ensures in
    let reads = c.push-step.ensures c.args.link.now.params c.args.lane [] s.has_read in
    let offset : c.push-step.new.self.offset ≡ c.args.offset = reads.offset ∙ s.offset in
    record { start = c.push-step.new.self; is = refl; offset = offset; inside = reads.inside ∙ s.inside ∙ ap (is_inside c.args.link.now.timing) (sym offset); has_read = reads.has_read; step_of = reads.step_of }
