use Rattle.std.proofs.Common.{◌≡◌, refl, sym, ap, ◌∙◌, arith}
use Rattle.link_params.specs.Numbers.{octets_per_tick}
use Rattle.link_params.specs.declared.fields.Params.{Params}
use Rattle.link_run.proofs.FeedLemmas.{same_params}
use Rattle.link_run.proofs.Handing.{fed-all, handed-all, handed-none}
use Rattle.link_run.specs.kept.Seen.{Fed}
use Rattle.link_run.proofs.feed.Feed.hand.Goals as goal

pub returns-in-Some-clause-handed : goal.returns-in-Some-clause-handed
returns-in-Some-clause-handed c = λ plan n is was. rw c.in-Some.is
    (handed-all c.args.s.now c.args.self.now c.hand_frames.new.self c.in-Some.field-0
    (octets_per_tick c.args.self.now.params) c.hand_frames.new.handed
    (c.hand_frames.ensures.handed c.in-Some.field-0)
    (λ s so. same_params c.args.s.now s so ∙ c.requires.shape) refl plan n is was)

pub returns-in-Some-clause-fed : goal.returns-in-Some-clause-fed
returns-in-Some-clause-fed c = λ plan n is was. rw c.in-Some.is
    (fed-all c.args.s.now c.args.self.now c.hand_frames.new.self c.in-Some.field-0
    (octets_per_tick c.args.self.now.params) c.hand_frames.new.handed
    (c.hand_frames.ensures.handed c.in-Some.field-0)
    (λ s so. same_params c.args.s.now s so ∙ c.requires.shape) refl plan n is was)

pub returns-in-Some-clause-same : goal.returns-in-Some-clause-same
returns-in-Some-clause-same c = (c.hand_frames.ensures.handed 0).params

pub returns-in-Some-clause-count : goal.returns-in-Some-clause-count
returns-in-Some-clause-count c =
    let begun = (c.hand_frames.ensures.handed 0).count in
    let few = c.self.invariant.few in
    let tick : c.self.inside.per_tick ≡ octets_per_tick c.args.self.now.params =
    c.self.invariant.per_tick_is ∙ ap (λ (f : Fed). octets_per_tick f.params) c.self.view_is in
    omega arith

pub returns-in-Some-2-clause-handed : goal.returns-in-Some-2-clause-handed
returns-in-Some-2-clause-handed c = λ plan n is was. rw c.in-Some-2.is
    (handed-all c.args.s.now c.args.self.now c.hand_rows.new.self c.in-Some-2.place
    (octets_per_tick c.args.self.now.params) c.hand_rows.new.handed c.hand_rows.ensures.handed
    (λ s so. same_params c.args.s.now s so ∙ c.requires.shape) refl plan n is was)

pub returns-in-None-clause-handed : goal.returns-in-None-clause-handed
returns-in-None-clause-handed c = λ plan n is was.
    rw (c.in-None.is, c.clear.ensures)
    (handed-none plan n _ (c.requires.lanes
    ∙ sym (ap (λ (p : Params). p.l) (same_params c.args.s.now plan is ∙ c.requires.shape))))

pub hand_rows-requires-clause-part : goal.hand_rows-requires-clause-part
hand_rows-requires-clause-part c =
    let none = c.if-self-gt0.false in
    let same = ap (λ (f : Fed). f.frames) c.self.view_is in
    omega arith
