use Rattle.std.proofs.Common.{◌≡◌, ◌∙◌, ◌+◌, ◌%◌, Some, arith, sym, ap, ap₂}
use Rattle.link_params.specs.Numbers.{period}
use Rattle.link_model.specs.Receives.{offset_at}
use Rattle.link_run.proofs.LinkFacts.{offset-behind}
use Rattle.link_run.proofs.receiver.offset_of.Goals as goal

pub returns-in-Some : goal.returns-in-Some
returns-in-Some c = λ first.
    let k = c.args.link.now in
    let p : c.period.result ≡ period k.params = c.period.ensures.value
    ∙ ap period c.shape.ensures.same in
    let low = c.period.ensures.low in
    let sum : c.from.result + c.from-in-Some.result
    ≡ offset_at k.params k.timing (Some 0) + c.in-Some.phase =
    ap₂ (λ a b. a + b) (c.from.ensures ∙ first) c.from-in-Some.ensures in
    let long : c.from-in-Some-2.result ≡ period k.params = c.from-in-Some-2.ensures ∙ p in
    c.remainder.ensures ∙ ap₂ (λ a b. a % b) sum long
    ∙ offset-behind k.params k.timing c.in-Some.phase c.timing-timing.ensures.legal (omega arith)
    ∙ ap (offset_at k.params k.timing) (sym c.in-Some.is)
