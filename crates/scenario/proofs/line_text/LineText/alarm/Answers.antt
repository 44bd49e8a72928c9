use Rattle.scenario.proofs.line_text.LineText.alarm.Goals as goal

pub returns-in-LaneWindow-clause-bytes : goal.returns-in-LaneWindow-clause-bytes
returns-in-LaneWindow-clause-bytes c = rw c.in-LaneWindow.is c.named.ensures.bytes

pub returns-in-IlasFault-clause-bytes : goal.returns-in-IlasFault-clause-bytes
returns-in-IlasFault-clause-bytes c = rw c.in-IlasFault.is c.named-in-IlasFault.ensures.bytes

pub returns-in-ConfigMismatch-clause-bytes : goal.returns-in-ConfigMismatch-clause-bytes
returns-in-ConfigMismatch-clause-bytes c =
    rw c.in-ConfigMismatch.is c.named-in-ConfigMismatch.ensures.bytes

pub returns-in-SysrefPhase-clause-bytes : goal.returns-in-SysrefPhase-clause-bytes
returns-in-SysrefPhase-clause-bytes c =
    rw c.in-SysrefPhase.is (c.sysref_phase.ensures.bytes c.args.version)

pub returns-in-StartTimeout-clause-bytes : goal.returns-in-StartTimeout-clause-bytes
returns-in-StartTimeout-clause-bytes c =
    rw c.in-StartTimeout.is c.named-in-StartTimeout.ensures.bytes
