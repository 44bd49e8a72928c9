use Rattle.std.proofs.Common.{◌≡◌, ◌∙◌, [], refl, rules, sym, ap, subst}
use Rattle.link_params.specs.declared.fields.Params.{Params}
use Rattle.link_params.specs.Links.{Link}
use Rattle.link_params.specs.Numbers.{period}
use Rattle.link_run.specs.kept.Collected.{lead_of}
use Rattle.link_run.specs.kept.Gathered.{HasGathered}
use Rattle.link_run.specs.kept.Waits.{HaveRoom}
use Rattle.link_run.proofs.Collecting.{collected-none}
use Rattle.link_run.proofs.FeedLemmas.{are-orders}
use Rattle.link_run.proofs.PlanFacts.{plan-facts}
use Rattle.link_run.proofs.LaneStates.{link-of}
use Rattle.link_run.proofs.collector.Collector.open.Goals as goal

pub returns-clause-begins : goal.returns-clause-begins
returns-clause-begins c = λ s is.
    let same = sym (link-of c.args.s.now c.args.link.now s c.requires.link is) in
    let params = ap (λ (k : Link). k.params) (sym same) in
    let shape = c.shape-shape.ensures.same ∙ params in
    let route : c.extend_from_slice.new.self.items ≡ c.as_slice.result.now = search rules in
    collected-none _ s (c.requires.ends ∙ ap (λ (p : Params). p.l) params)
    (c.in_ok-open_waiting.ensures.count ∙ ap (λ (p : Params). p.l) shape)
    (route ∙ c.as_slice.ensures.value ∙ sym (plan-facts c.args.s.now s is).route)
    (are-orders c.args.s.now s is).1
    (subst (λ (p : Params). HaveRoom c.in_ok-open_waiting.field-0.items (period p)) shape
    c.in_ok-open_waiting.ensures.room)
    (c.lead_of-lead.ensures ∙ ap lead_of params) refl
    (subst (λ (p : Params). HasGathered c.in_ok-open.field-0 p []) shape
    c.in_ok-open.ensures.begins)
