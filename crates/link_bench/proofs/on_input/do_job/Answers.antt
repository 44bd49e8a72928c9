use Rattle.std.proofs.Common.{◌∙◌}
use Rattle.scenario.specs.Reads.{bad_at}
use Rattle.link_bench.proofs.CauseLemmas.{read-bad, refusal-written, scenario-done}
use Rattle.link_bench.proofs.KeptLemmas.{input-kept}
use Rattle.link_bench.proofs.RunRead.{ready}
use Rattle.link_bench.proofs.on_input.do_job.Goals as goal

pub do_scenario-requires-clause-ready : goal.do_scenario-requires-clause-ready
do_scenario-requires-clause-ready g c κs within =
    let answer = rw c.deref.ensures.value at c.in-Ok-read_scenario.ensures in
    ready c.args.job c.in-Ok.bytes.items c.in-Ok-read_scenario.scenario answer

pub returns-in-Ok-read_scenario-clause-cause : goal.returns-in-Ok-read_scenario-clause-cause
returns-in-Ok-read_scenario-clause-cause g c =
    let whole = c.in-Ok.ensures in
    let answer = rw c.deref.ensures.value at c.in-Ok-read_scenario.ensures in
    scenario-done c.args.job c.in-Ok-read_scenario.scenario c.do_scenario.result.0 _ _
    c.in-Ok.bytes.items
    (record { given = whole.whole.0; at_end = whole.whole.1; short = whole.short }) answer
    c.do_scenario.ensures.cause

pub returns-in-Ok-read_scenario-clause-keeps : goal.returns-in-Ok-read_scenario-clause-keeps
returns-in-Ok-read_scenario-clause-keeps g c =
    let whole = c.in-Ok.ensures in
    let answer = rw c.deref.ensures.value at c.in-Ok-read_scenario.ensures in
    input-kept c.args.job c.in-Ok-read_scenario.scenario c.do_scenario.result.0 c.args.workers _ _
    c.in-Ok.bytes.items c.do_scenario.result.1
    (record { given = whole.whole.0; at_end = whole.whole.1; short = whole.short }) answer
    c.do_scenario.ensures.kept

pub returns-in-Err-Bad-clause-cause : goal.returns-in-Err-Bad-clause-cause
returns-in-Err-Bad-clause-cause g c =
    let whole = c.in-Ok.ensures in
    let answer = rw (c.deref.ensures.value, c.in-Err-Bad.field-0-is) at c.in-Err-Bad.ensures in
    let written =
    rw (c.in-Err-Bad.row-is, c.in-Err-Bad.cause-is, c.in-Err-Bad.at-is)
    at c.in-Ok-refusal_line.ensures in
    refusal-written c.args.job c.write_text-status.result _ _ c.in-Ok.bytes.items
    (bad_at c.in-Err-Bad.row c.in-Err-Bad.cause c.in-Err-Bad.at) c.as_bytes.result.now
    (record { given = whole.whole.0; at_end = whole.whole.1; short = whole.short })
    (read-bad _ c.in-Err-Bad.row c.in-Err-Bad.cause c.in-Err-Bad.at answer)
    (c.as_bytes.ensures.value ∙ written) c.write_text-status.ensures
