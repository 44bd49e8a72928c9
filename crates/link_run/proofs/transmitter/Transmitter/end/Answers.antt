use Rattle.std.proofs.Common.{◌≡◌, ◌∙◌, ◌+◌, arith, [], ◌∷◌, ◌++◌, length, sym, ap, subst}
use Rattle.link_run.specs.kept.Clocked.{HasClocked}
use Rattle.link_run.specs.kept.Seen.{HasSynced}
use Rattle.link_run.specs.kept.Sendings.{HasObserved}
use Rattle.link_run.specs.kept.Transmitters.{HasSentTick}
use Rattle.link_model.specs.kept.Before.{levels_after}
use Rattle.link_model.proofs.NextMoment.{next}
use Rattle.link_model.specs.Kinds.{kind_of}
use Rattle.link_model.proofs.TxHistory.{length-more, lows-more, observed-before-more}
use Rattle.link_run.proofs.transmitter.Transmitter.end.Goals as goal

pub returns-clause-ended : goal.returns-clause-ended
returns-clause-ended c = λ s h stands_view low.
    let stands = subst (λ x. HasSentTick x s h) (sym c.self.view_is) stands_view in
    let m = next (kind_of s.link.params) s h in
    let pushed = c.push.ensures s.link.timing.sync_delay (levels_after h) stands.sync in
    let one : length h + 1 ≡ length (h ++ m ∷ []) = omega (arith, length-more h m) in
    record {
      clock = subst (λ n. HasClocked c.self.inside.clock s n) one stands.clock;
      device = stands.device;
      sync = subst (λ l. HasSynced c.push.new.self s.link.timing.sync_delay l)
          (ap (λ b. levels_after h ++ b ∷ []) low ∙ sym (lows-more h m)) pushed;
      sending = subst (λ l. HasObserved c.self.inside.sending s.link.params l)
          (sym (observed-before-more s h m)) stands.sending;
      feed = stands.feed;
    }
