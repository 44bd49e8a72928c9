use Rattle.std.proofs.Common.{◌∙◌, sym, ap}
use Rattle.link_run.specs.kept.Seen.{Fed}
use Rattle.link_run.proofs.FeedLemmas.{same_params}
use Rattle.link_run.proofs.feed.Feed.open.Goals.{then-frames-eq0, else-frames-eq0}
use Rattle.link_run.proofs.feed.Feed.open.Goals as goal

pub returns-clause-fed : goal.returns-clause-fed
returns-clause-fed c = λ plan is.
    let shape = c.new.ensures ∙ sym (same_params c.args.s.now plan is) in
    elim c.if-frames-eq0.branch [
      | then-frames-eq0 w ↦
          let laid = w.lay_out.ensures in
          record {
            same_params = ap (λ (f : Fed). f.params) w.feed-is ∙ laid.same ∙ shape;
            count = ap (λ (f : Fed). f.begun) w.feed-is ∙ laid.count;
            frame = λ none. ap (λ (f : Fed). f.octets) w.feed-is ∙ laid.octets plan is;
          }
      | else-frames-eq0 w ↦
          record {
            same_params = ap (λ (f : Fed). f.params) w.feed-is ∙ shape;
            count = ap (λ (f : Fed). f.begun) w.feed-is;
            frame = λ none.
                absurd (w.if-frames-eq0.false (sym (ap (λ (f : Fed). f.frames) w.feed-is) ∙ none));
          }
    ]
