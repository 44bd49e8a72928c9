use Rattle.std.proofs.Common.{◌≡◌, ◌≤◌, ℕ, List, [], take, false, true, Result, Ok, Err, OnOk, OnErr, ap}
use Rattle.jesd_base.specs.Streams.{Added, Rose}
use Rattle.link_model.specs.Report.{Printed}
use Rattle.link_run.specs.kept.Lines.{TookLines, Writing}
use Rattle.link_run.proofs.TakenRows.{took-flushed, took-stopped}
use Rattle.link_run.proofs.text_rows.TextRows.make_room.Goals as goal

took-flush : {E : Type 0} (r : Result (Unit {0}) E) (first old now : Writing) (rows : List Printed)
    → now.scenario ≡ old.scenario → old.failed ≡ false
    → OnOk r (Added old.written now.written old.bytes)
    → OnErr r ((n : ℕ) × Added old.written now.written (take n old.bytes))
    → OnErr r (Rose old.faults now.faults) → old.faults ≤ now.faults
    → OnOk r (now.bytes ≡ []) → OnOk r ((old.failed ≡ false) × (now.failed ≡ false))
    → OnErr r (now.failed ≡ true) → TookLines first old rows → TookLines first now rows
took-flush (Ok x) first old now rows same fine all prefix rose count empty still bad h =
    took-flushed first old now rows same empty fine still.1 all count h
took-flush (Err e) first old now rows same fine all prefix rose count empty still bad h =
    took-stopped first old now rows prefix.0 same fine bad prefix.1 count rose h

pub returns-then-is_full-clause-took : goal.returns-then-is_full-clause-took
returns-then-is_full-clause-took g c = λ first before h.
    let e = c.flush.ensures in
    let fine = c.requires.fine in
    took-flush c.flush.result first _ _ before (ap (λ x. x.now) e.same) fine e.all
    (e.prefix fine) (e.rose fine) e.count e.empty e.fine e.failed h
