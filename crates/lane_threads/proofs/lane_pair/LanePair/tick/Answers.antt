use Rattle.std.proofs.Common.{◌≡◌, ◌∙◌, ℕ, ap, get_or, refl, subst}
use Rattle.std.proofs.lemmas.List.{get_or_default}
use Rattle.lane_threads.specs.kept.LaneRuns.{HasRunLane}
use Rattle.link_model.specs.Kinds.{kind_of}
use Rattle.link_model.specs.kept.LaneRuns.{stepped}
use Rattle.std.proofs.Common.{max}
use Rattle.lane_threads.proofs.lane_pair.LanePair.tick.Goals as goal

pub returns : goal.returns
returns c =
    let octets = c.args.self.now.octets.items in
    let value : c.index.result.now ≡ get_or octets c.args.n 0 = c.index.ensures
    ∙ get_or_default octets c.args.n c.index.result.now 0 c.requires.inside in
    record {
      goes_on = λ s lane x has arms.
          subst (λ (v : ℕ). HasRunLane c.step.new.self s lane
          (stepped (kind_of s.link.params) s lane x c.args.step.now.tx v c.args.step.now.rx)) value
          (c.step.ensures.goes_on s lane x has arms);
      next = c.step.ensures.next;
      same = c.step.ensures.same;
      octets = refl;
      fullest = c.max-self.ensures ∙ ap (max c.args.self.now.fullest) c.held.ensures.count;
      room = refl;
      ring = refl;
    }
