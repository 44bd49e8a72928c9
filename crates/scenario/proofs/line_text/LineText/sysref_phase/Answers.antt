use Rattle.std.proofs.Common.{[], ◌∷◌, codes, decimal}
use Rattle.scenario.proofs.LineLemmas.{after-field}
use Rattle.scenario.proofs.line_text.LineText.sysref_phase.Goals as goal

pub returns-in-Tx-clause-bytes : goal.returns-in-Tx-clause-bytes
returns-in-Tx-clause-bytes c version =
    rw c.in-Tx.is
    (after-field (codes "tx" ∷ decimal c.args.off ∷ []) c.args.self.now.bytes
    c.name.new.self.bytes c.named.new.self.bytes (codes "sysref_phase") c.name.ensures.bytes
    c.named.ensures.bytes)

pub returns-in-Rx-clause-bytes : goal.returns-in-Rx-clause-bytes
returns-in-Rx-clause-bytes c version =
    rw c.in-Rx.is
    (after-field (codes "rx" ∷ decimal c.args.off ∷ []) c.args.self.now.bytes
    c.name.new.self.bytes c.named-in-Rx.new.self.bytes (codes "sysref_phase")
    c.name.ensures.bytes c.named-in-Rx.ensures.bytes)
