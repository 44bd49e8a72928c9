use Rattle.std.proofs.Common.{◌≡◌, ◌∙◌, None, arith, [], sym, ap, subst}
use Rattle.link_params.specs.declared.fields.Params.{Params}
use Rattle.link_params.proofs.LawFacts.{legal_sizes, timely}
use Rattle.link_params.specs.Laws.{broken_law}
use Rattle.link_run.specs.kept.Seen.{HasSynced}
use Rattle.link_run.specs.kept.Sendings.{HasObserved}
use Rattle.link_run.proofs.PlanFacts.{plan-facts}
use Rattle.link_model.proofs.TxHistory.{observed-before-none}
use Rattle.link_run.proofs.transmitter.Transmitter.open.Goals as goal

pub open-requires : goal.open-requires
open-requires c =
    let k = c.args.link.now in
    let small = (timely k.params k.timing c.timing.ensures.legal).sync_delay in
    let same : c.timing.result.sync_delay ≡ k.timing.sync_delay =
    ap (λ t. t.sync_delay) c.timing.ensures.same in
    let legal : broken_law k.params ≡ None = c.shape.ensures.legal in
    let high = (legal_sizes k.params legal).period in
    omega arith

pub invariant_of-result : goal.invariant_of-result
invariant_of-result c =
    let lanes : c.lanes.result ≡ c.args.s.now.shape.l = c.lanes.ensures.value in
    sym c.in-Ok.handed.ok.0 ∙ c.in-Ok.ensures.len ∙ lanes
    ∙ ap (λ (p : Params). p.l) (sym c.in_ok-open-2.ensures.shape)

pub returns-clause-begins : goal.returns-clause-begins
returns-clause-begins c = λ s is same.
    let facts = plan-facts c.args.s.now s is in
    let delay = c.timing.ensures.same ∙ ap (λ k. k.timing) (sym same) in
    let mode : s.link.params.mode ≡ c.params-params.result.mode =
    ap (λ k. k.params.mode) same ∙ sym (ap (λ (p : Params). p.mode) (c.params-params.ensures.same ∙ c.shape.ensures.same)) in
    record {
      clock = c.new.ensures.begins s same (facts.jitters ∙ sym c.deref.ensures.value);
      device = c.new.ensures.device;
      sync = subst (λ n. HasSynced c.in_ok-open.field-0 n []) (ap (λ t. t.sync_delay) delay)
          c.in_ok-open.ensures;
      sending = subst (λ l. HasObserved c.new-2.result s.link.params l)
          (sym (observed-before-none s)) (c.new-2.ensures.begins s.link.params mode);
      feed = c.in_ok-open-2.ensures.fed s is;
    }
