use Rattle.std.proofs.Common.{◌≡◌, ◌<◌, ◌+◌, ◌%◌, ◌^◌, ◌++◌, ℕ, List, map, Some, get_or}
use Rattle.jesd_base.specs.Bits.{bits}
use Rattle.link_params.specs.declared.fields.Params.{Params}
use Rattle.link_params.specs.Lanes.{Handed}
use Rattle.link_params.specs.Runs.{data_ticks}
use Rattle.link_params.proofs.RunLemmas.{SendsSo}
use Rattle.lane_c.specs.Sent.{sent_c}
use Rattle.lane_c.specs.kept.Senders.{HasSent}
use Rattle.lane_c.proofs.sender.TxLaneC.run.Given as goal

abbrev pub invariant-loop-i : goal.invariant-loop-i
invariant-loop-i l =
    (l.own.next ≡ Some l.at) × (l.own.params ≡ l.fn.self.params)
    × (l.at ≡ (l.place + l.i) % l.period) × (l.at < l.period)
    × ((k : ℕ) → k < l.i → get_or l.blocks k 0 < 2 ^ 66)
    × ((p : Params) (lane : ℕ) (handed : List Handed) → HasSent l.fn.self p handed
    → HasSent l.own p (handed ++ data_ticks p l.place l.octets l.i)
    × SendsSo (sent_c p lane) (map (bits 66)) handed p l.place l.octets l.blocks l.i)
