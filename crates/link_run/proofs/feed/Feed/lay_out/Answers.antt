use Rattle.std.proofs.Common.{◌*◌, length, not, sym, ap, ◌∙◌}
use Rattle.scenario.specs.Plans.{source_frame}
use Rattle.scenario.proofs.SourceLemmas.{plan-kept}
use Rattle.link_run.proofs.FeedLemmas.{fits, frame_is, left_in, left_length, some_plan, still-sizes}
use Rattle.link_params.specs.declared.fields.Params.{Params}
use Rattle.link_run.specs.kept.Seen.{Fed}
use Rattle.link_run.proofs.feed.Feed.lay_out.Goals as goal

pub source_frame-requires-clause-some : goal.source_frame-requires-clause-some
source_frame-requires-clause-some c =
    let plan = some_plan c.args.s.now (c.is_none.ensures ∙ ap not c.if-is_none.false) in
    (plan-kept c.args.s.now plan.0 plan.1).words

pub map-requires-clause-below : goal.map-requires-clause-below
map-requires-clause-below c = λ r inside.
    let plan = some_plan c.args.s.now (c.is_none.ensures ∙ ap not c.if-is_none.false) in
    let left = left_in c.self.inside.words.len c.source_frame.new.words c.self.inside.words.items
    (sym (c.source_frame.auto.words ∙ c.deref_mut.ensures.len)) in
    let words = c.source_frame.ensures.plan plan.0 plan.1 ∙ ap (source_frame plan.0) c.from.ensures in
    fits c.args.s.now plan.0 c.self.inside.layout c.args.number r c.deref.result.now plan.1
    (c.requires.shape ∙ sym (ap (λ f. f.params) c.self.view_is))
    (c.deref.ensures.value ∙ left ∙ words)

pub returns-clause-octets : goal.returns-clause-octets
returns-clause-octets c = λ plan is.
    let left = left_in c.self.inside.words.len c.source_frame.new.words c.self.inside.words.items
    (sym (c.source_frame.auto.words ∙ c.deref_mut.ensures.len)) in
    let words = c.source_frame.ensures.plan plan is ∙ ap (source_frame plan) c.from.ensures in
    let whole = ap length (c.deref.ensures.value ∙ left) ∙ c.source_frame.auto.words
    ∙ ap length c.deref_mut.ensures.value ∙ c.self.invariant.words_are.of_one
    (ap (λ (f : Fed). f.frames) c.self.view_is ∙ c.requires.part) in
    let laid = frame_is c.args.s.now plan c.self.inside.layout c.args.number c.deref.result.now
    c.map.new.out c.layout_laws.ensures.one_frame is
    (c.requires.shape ∙ sym (ap (λ f. f.params) c.self.view_is)) c.params-params.ensures.legal whole
    (c.deref.ensures.value ∙ left ∙ words) c.map.ensures in
    left_in c.self.inside.octets.len c.map.new.out c.self.inside.octets.items
    (sym (c.map.auto.out ∙ c.deref_mut-2.ensures.len)) ∙ laid

pub source_frame-requires-clause-size : goal.source_frame-requires-clause-size
source_frame-requires-clause-size c =
    ap length c.deref_mut.ensures.value
    ∙ c.self.invariant.words_are.of_one
    (ap (λ (f : Fed). f.frames) c.self.view_is ∙ c.requires.part)
    ∙ ap (λ (p : Params). p.m * p.s)
    (ap (λ (f : Fed). f.params) c.self.view_is ∙ sym c.requires.shape)

pub map-requires-clause-words : goal.map-requires-clause-words
map-requires-clause-words c =
    ap length c.deref.ensures.value
    ∙ left_length c.self.inside.words.len c.source_frame.new.words c.self.inside.words.items
    (sym (c.source_frame.auto.words ∙ c.deref_mut.ensures.len))
    (sym c.deref_mut.ensures.len ∙ ap length c.deref_mut.ensures.value)
    ∙ c.self.invariant.words_are.of_one
    (ap (λ (f : Fed). f.frames) c.self.view_is ∙ c.requires.part)

pub map-requires-clause-octets : goal.map-requires-clause-octets
map-requires-clause-octets c =
    ap length c.deref_mut-2.ensures.value
    ∙ c.self.invariant.octets_are.of_one
    (ap (λ (f : Fed). f.frames) c.self.view_is ∙ c.requires.part)

pub invariant_of-self : goal.invariant_of-self
invariant_of-self c =
    still-sizes c.self.inside.layout c.self.inside.size c.self.inside.per_tick
    c.self.inside.frames c.self.inside.words.items c.self.inside.octets.items _ _
    c.self.invariant
    (left_length c.self.inside.words.len c.source_frame.new.words c.self.inside.words.items
    (sym (c.source_frame.auto.words ∙ c.deref_mut.ensures.len))
    (sym c.deref_mut.ensures.len ∙ ap length c.deref_mut.ensures.value))
    (left_length c.self.inside.octets.len c.map.new.out c.self.inside.octets.items
    (sym (c.map.auto.out ∙ c.deref_mut-2.ensures.len))
    (sym c.deref_mut-2.ensures.len ∙ ap length c.deref_mut-2.ensures.value))
