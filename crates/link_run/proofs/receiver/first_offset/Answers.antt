use Rattle.std.proofs.Common.{◌≡◌, ◌∙◌, ◌≤◌, ◌+◌, ◌*◌, arith, sym, ap}
use Rattle.link_params.specs.Numbers.{period, rx_edge, tx_edge}
use Rattle.link_run.proofs.LinkFacts.{edges-within}
use Rattle.link_run.proofs.receiver.first_offset.Goals as goal

pub offset_at-requires-clause-within : goal.offset_at-requires-clause-within
offset_at-requires-clause-within c =
    let k = c.args.link.now in
    let p : c.period.result ≡ period k.params = c.period.ensures.value
    ∙ ap period c.shape.ensures.same in
    let low = c.period.ensures.low in
    let behind = edges-within k.params k.timing c.wait.result 0
    c.timing-timing.ensures.legal (omega arith) in
    let within : tx_edge k.timing + c.wait.result ≤ rx_edge k.timing + (c.wait.result + 1)
    * period k.params = omega arith in
    let waits = c.wait-2.ensures.value ∙ sym c.wait.ensures.value in
    rw (
      c.from.ensures,
      c.from-2.ensures,
      c.from-3.ensures,
      c.from-4.ensures,
      c.from-5.ensures,
      waits,
      p,
      c.tx_edge.ensures.value,
      c.rx_edge.ensures.value,
    ) within
