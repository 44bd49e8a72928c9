use Rattle.std.proofs.Common.{◌≡◌, ◌∙◌, [], ◌∷◌, ◌++◌, length, if◌then◌else◌, sym, ap, subst}
use Rattle.link_params.specs.declared.alarms.Device.TheVariants.{Tx}
use Rattle.link_params.specs.declared.fields.Params.{Params}
use Rattle.link_params.specs.Numbers.{period}
use Rattle.link_model.proofs.TxHistory.{observed-at-next, observed-next}
use Rattle.link_model.specs.kept.Before.{levels_after, observed_before}
use Rattle.link_model.specs.Edges.{is_reset}
use Rattle.link_model.specs.Orders.{Observed, tx_order}
use Rattle.link_model.specs.Sends.{observed, order_of}
use Rattle.link_run.specs.kept.Sendings.{HasObserved}
use Rattle.link_run.proofs.transmitter.observe.Goals as goal

pub returns-clause-observes : goal.returns-clause-observes
unfolding order_of
returns-clause-observes c = λ s h same synced seen phase reset.
    let p = s.link.params in
    let low = c.is_low.ensures s.link.timing.sync_delay (levels_after h) synced in
    let item : Observed = record { phase = c.args.phase; low = c.is_low.result } in
    let due = observed-next s h
    ∙ ap (λ x. (if is_reset s Tx (length h) then [] else observed_before s h) ++ x ∷ [])
    (observed-at-next s h) in
    let all : (if c.args.reset then [] else observed_before s h) ++ item ∷ [] ≡ observed s h =
    rw (reset, phase, low) (sym due) in
    let params : p ≡ c.shape-shape.result = ap (λ k. k.params) same
    ∙ sym c.shape-shape.ensures.same in
    let mode : p.mode ≡ c.params.result.mode = ap (λ (q : Params). q.mode) params
    ∙ sym (ap (λ (q : Params). q.mode) c.params.ensures.same) in
    let per : period p ≡ c.period.result = ap period params ∙ sym c.period.ensures.value in
    let before = c.reset_if.ensures.observed p (observed_before s h) mode seen in
    let told = c.tick.ensures.goes_on p _ per before in
    record {
      order_due = told.due ∙ ap (tx_order p) all;
      after = subst (λ x. HasObserved c.tick.new.self p x) all told.goes_on;
      follows = rw (← c.reset_if.ensures.next p) told.follows;
      next = told.next;
    }
