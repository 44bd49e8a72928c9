use Rattle.scenario.specs.ReportLines.{line_of}
use Rattle.scenario.proofs.line_text.LineText.row.Goals as goal

pub returns-in-Link-clause-line : goal.returns-in-Link-clause-line
unfolding line_of
returns-in-Link-clause-line c = rw c.in-Link.is (c.link_row.ensures.line c.args.version)

pub returns-in-End-clause-line : goal.returns-in-End-clause-line
unfolding line_of
returns-in-End-clause-line c = rw c.in-End.is (c.end_row.ensures.line c.args.version c.args.link.now)
