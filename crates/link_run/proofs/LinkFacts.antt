-- Numbers of a legal link.
use Rattle.std.proofs.Common.{◌≡◌, ◌∙◌, ◌≤◌, ◌+◌, ◌-◌, ◌*◌, ◌%◌, ℕ, None, Some, ap, arith}
use Rattle.std.proofs.Math.Nat.{mod-add-mod, mul-le-mul}
use Rattle.link_params.specs.declared.fields.Params.{Params}
use Rattle.link_params.specs.declared.fields.Timing.{Timing}
use Rattle.link_params.specs.Laws.{ceil}
use Rattle.link_params.specs.Numbers.{period, rx_edge, tx_edge, wait}
use Rattle.link_params.specs.TimingLaws.{broken_timing}
use Rattle.link_params.proofs.LawFacts.{timely}
use Rattle.link_model.specs.Receives.{offset_at}

wait-periods : (w n : ℕ) → 1 ≤ n → w + n ≤ (w + 1) * n
wait-periods w n some =
    let product : w * 1 ≤ w * n = mul-le-mul (omega arith) some in
    omega arith

-- an edge comes at the transmitter no later than a period after it comes at the receiver
pub edges-within : (p : Params) (t : Timing) (w x : ℕ) → broken_timing p t ≡ None → 1 ≤ period p
    → tx_edge t + w ≤ x + rx_edge t + (w + 1) * period p
edges-within p t w x legal some =
    let skew = (timely p t legal).tx_skew in
    let long = wait-periods w (period p) some in
    let late : ceil t.tx_skew 16 ≤ period p = omega arith in
    omega arith

-- the offset of a start at a phase, by that at a boundary
pub offset-behind : (p : Params) (t : Timing) (x : ℕ) → broken_timing p t ≡ None → 1 ≤ period p
    → (offset_at p t (Some 0) + x) % period p ≡ offset_at p t (Some x)
offset-behind p t x legal some =
    let within = edges-within p t (wait p) 0 legal some in
    let n = 0 + rx_edge t + (wait p + 1) * period p - (tx_edge t + wait p) in
    let whole : n + x ≡ x + rx_edge t + (wait p + 1) * period p - (tx_edge t + wait p) = omega arith
    in
    mod-add-mod n (period p) x ∙ ap (λ k. k % period p) whole
