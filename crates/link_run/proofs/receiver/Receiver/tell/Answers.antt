use Rattle.std.proofs.Common.{◌≡◌, ◌∙◌, ◌+◌, ◌||◌, Bool, not, ℕ, [], length, Some, if◌then◌else◌, sym, ap, ap₂, subst, refl}
use Rattle.link_params.specs.declared.alarms.Device.TheVariants.{Rx}
use Rattle.link_params.specs.declared.orders.RxOrder.{RxOrder}
use Rattle.bring_up.specs.kept.Controls.{HasDecided}
use Rattle.bring_up.specs.Decisions.{is_hunting}
use Rattle.link_run.specs.kept.Clocked.{HasClocked}
use Rattle.link_model.specs.Edges.{is_reset, off, phase}
use Rattle.link_model.specs.Kinds.{kind_of}
use Rattle.link_model.specs.Run.{is_at}
use Rattle.link_model.specs.Receives.{offset_at, told_of}
use Rattle.link_model.specs.kept.Before.{decisions_before}
use Rattle.link_run.specs.kept.ReceiverRuns.{HasReceivedRun}
use Rattle.link_model.proofs.NextMoment.{decides-next}
use Rattle.link_run.proofs.PlanFacts.{plan-facts}
use Rattle.link_model.proofs.RxHistory.{standing-next}
use Rattle.link_run.proofs.receiver.Receiver.tell.Goals as goal

abbrev order_with : Bool → Bool → ℕ → RxOrder
order_with h a n = record { hunt = h; armed = a; offset = n }

told-by : (h x a b : Bool) (m n : ℕ) → h ≡ x → a ≡ b → m ≡ n → order_with h a m ≡ order_with x b n
told-by h x a b m n hunt armed offset = rw (hunt, armed, offset) refl

pub returns : goal.returns
unfolding told_of
returns c = λ s h is same stands_view at reset.
    let stands = subst (λ x. HasReceivedRun x s h) (sym c.self.view_is) stands_view in
    let facts = plan-facts c.args.s.now s is in
    let jitters = facts.jitters ∙ sym c.deref.ensures.value in
    let clocked = subst (λ n. HasClocked c.self.inside.clock s n) (sym at) stands.clock in
    let reset_of = reset ∙ ap (λ d. is_reset s d c.args.t) (sym stands.device) in
    let told = c.tick-clock.ensures.answer s clocked jitters reset_of in
    let phase_is : c.tick-clock.result.phase ≡ phase s Rx (length h) = ap (λ x. x.phase) told
    ∙ ap₂ (phase s) stands.device at in
    let reset_now = reset ∙ ap (is_reset s Rx) at in
    let left = c.reset_if.ensures s.link.params s.link.timing (decisions_before s h)
    stands.control in
    let decided =
    subst (λ b. HasDecided c.reset_if.new.control s.link.params s.link.timing
    (if b then [] else decisions_before s h)) reset_now left in
    let low = c.sync_low.ensures s.link.params s.link.timing _ decided in
    let timing = c.timing.ensures.same ∙ ap (λ k. k.timing) (sym same) in
    let first = c.self.invariant ∙ ap (λ k. offset_at k.params k.timing (Some 0))
    (stands.clock.same_link ∙ same) in
    record {
      off = ap (λ x. x.off) told ∙ ap₂ (off s) stands.device at;
      told =
          told-by _ _ _ _ _ _
          (c.either.ensures ∙ ap₂ (λ (a b : Bool). a || b) reset_now stands.hunts)
          (ap not (low ∙ ap (λ x. is_hunting x.stage) (sym (standing-next s h))))
          (c.offset_of.ensures first ∙ ap₂ (λ k x. offset_at k.params k.timing x) (sym same) phase_is);
      decides = c.is_at.ensures ∙ ap₂ is_at phase_is (ap (λ t. t.rbd) timing)
          ∙ sym (decides-next (kind_of s.link.params) s h);
      after = record {
        clock =
            subst (λ n. HasClocked c.tick-clock.new.self s (n + 1)) at (c.tick-clock.ensures.goes_on s
            clocked jitters reset_of);
        device = c.tick-clock.ensures.same ∙ stands.device;
        control = decided;
        lanes = stands.lanes;
      };
    }
