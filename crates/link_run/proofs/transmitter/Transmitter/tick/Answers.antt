use Rattle.std.proofs.Common.{◌≡◌, ◌∙◌, ℕ, ◌+◌, ◌*◌, ◌++◌, [], ◌∷◌, length, map, sym, ap, ap₂, subst}
use Rattle.std.proofs.lemmas.List.{length-map}
use Rattle.link_params.specs.declared.alarms.Device.TheVariants.{Tx}
use Rattle.link_model.specs.Edges.{is_reset, off, phase}
use Rattle.link_model.specs.Kinds.{kind_of, moment_of}
use Rattle.link_model.specs.Sends.{beginnings, data_place, frames_before, handed_to}
use Rattle.link_params.specs.Numbers.{octets_per_tick}
use Rattle.link_model.proofs.NextMoment.{entered-next, handed-next, next, order-next}
use Rattle.link_model.proofs.TxHistory.{frames-before-more}
use Rattle.link_run.specs.kept.Clocked.{HasClocked}
use Rattle.link_run.specs.kept.Seen.{HasFed}
use Rattle.link_run.specs.kept.Transmitters.{HasSentRun, Observes}
use Rattle.scenario.specs.Plans.{numbers_from}
use Rattle.link_run.proofs.FeedLemmas.{left_in}
use Rattle.link_run.proofs.PlanFacts.{plan-facts}
use Rattle.link_run.proofs.transmitter.Transmitter.tick.Goals as goal

pub returns-clause-sent : goal.returns-clause-sent
returns-clause-sent c = λ s h is same stands_view at reset.
    let p = s.link.params in
    let k = kind_of p in
    let view = sym c.self.view_is in
    let stands = subst (λ x. HasSentRun x s h) view stands_view in
    let facts = plan-facts c.args.s.now s is in
    let jitters = facts.jitters ∙ sym c.deref.ensures.value in
    let clocked = subst (λ n. HasClocked c.self.inside.clock s n) (sym at) stands.clock in
    let reset_of = reset ∙ ap (λ d. is_reset s d c.args.t) (sym stands.device) in
    let told = c.tick-clock.ensures.answer s clocked jitters reset_of in
    let off_is : c.tick-clock.result.off ≡ off s Tx (length h) = ap (λ x. x.off) told
    ∙ ap₂ (off s) stands.device at in
    let phase_is : c.tick-clock.result.phase ≡ phase s Tx (length h) = ap (λ x. x.phase) told
    ∙ ap₂ (phase s) stands.device at in
    let reset_now = reset ∙ ap (is_reset s Tx) at in
    let seen = c.observe-order.ensures.observes s h same stands.sync stands.sending phase_is
    reset_now in
    let order = seen.order_due ∙ sym (order-next k s h) in
    let place : c.data_place-place.result ≡ data_place (moment_of s h).order =
    c.data_place-place.ensures ∙ ap data_place order in
    let count : length (moment_of s h).entered ≡ length (beginnings p (data_place (moment_of s h).order)) =
    ap length (entered-next k s h)
    ∙ length-map (beginnings p (data_place (moment_of s h).order))
    (λ (j : ℕ). octets_per_tick p * length h + j) in
    let begun : frames_before h + length (beginnings p c.data_place-place.result)
    ≡ frames_before (h ++ moment_of s h ∷ []) =
    ap (λ o. frames_before h + length (beginnings p o)) place
    ∙ ap (λ n. frames_before h + n) (sym count) ∙ sym (frames-before-more h (next k s h)) in
    let goes_on = c.tick-clock.ensures.goes_on s clocked jitters reset_of in
    let handed = c.hand.ensures.handed s (frames_before h) is stands.feed in
    record {
      off = off_is;
      observes =
          subst (λ x. Observes c.observe-order.result x.sending c.observe-order.new.sending s h
          c.args.reset) (sym view) seen;
      place = place;
      after = record {
        clock = subst (λ n. HasClocked c.tick-clock.new.self s (n + 1)) at goes_on;
        device = c.tick-clock.ensures.same ∙ stands.device;
        sync = stands.sync;
        sending = seen.after;
        feed = subst (λ n. HasFed c.hand.new.self s n) begun
            (c.hand.ensures.fed s (frames_before h) is stands.feed);
        handed = left_in c.self.inside.handed.len c.hand.new.handed c.self.inside.handed.items
            (sym (c.hand.auto.handed ∙ c.deref_mut.ensures.len))
            ∙ handed
            ∙ ap (λ o. map (handed_to s (frames_before h) o) (numbers_from 0 p.l)) place
            ∙ sym (handed-next k s h);
      };
    }
