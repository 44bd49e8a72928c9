use Rattle.std.proofs.Common.{◌≡◌, ◌<◌, ◌+◌, ◌%◌, ◌++◌, ℕ, List, Some, get_or}
use Rattle.link_params.specs.declared.fields.Params.{Params}
use Rattle.link_params.specs.Lanes.{Handed}
use Rattle.link_params.proofs.RunLemmas.{SendsSo}
use Rattle.lane_b.specs.Sent.{sent_words}
use Rattle.link_params.specs.Runs.{data_ticks}
use Rattle.lane_b.specs.kept.Senders.{HasSent}
use Rattle.lane_b.proofs.sender.TxLaneB.run.Given as goal

abbrev pub invariant-loop-i : goal.invariant-loop-i
invariant-loop-i l =
    (l.own.next ≡ Some l.at) × (l.own.params ≡ l.fn.self.params)
    × (l.at ≡ (l.place + l.i) % l.period) × (l.at < l.period)
    × ((k : ℕ) → k < l.i → get_or l.words k 0 < 1024)
    × ((p : Params) (lane : ℕ) (handed : List Handed) → HasSent l.fn.self p lane handed
    → HasSent l.own p lane (handed ++ data_ticks p l.place l.octets l.i)
    × SendsSo (sent_words p lane) (λ ws. ws) handed p l.place l.octets l.words l.i)
