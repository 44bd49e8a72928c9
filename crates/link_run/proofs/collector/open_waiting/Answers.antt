use Rattle.std.proofs.Common.{◌≡◌, ◌∙◌, ◌++◌, ◌∷◌, [], List, length, ap, ap₂, arith, rules}
use Rattle.std.proofs.lemmas.List.{length-replicate, replicate_more}
use Rattle.link_params.specs.Numbers.{period}
use Rattle.link_run.specs.kept.Waits.{Waits}
use Rattle.link_run.proofs.TakenCells.{empty-has-room, empty-waits, empty_room}
use Rattle.link_run.proofs.collector.open_waiting.Goals as goal

pub loop-preserved : goal.loop-preserved
loop-preserved c =
    let m = period c.args.shape.now in
    let opened : c.in_ok-open.field-0 ≡ empty_room m =
    c.in_ok-open.ensures ∙ ap empty_room c.period.ensures.value in
    let items : c.push.new.self.items ≡ c.loop.waiting.items ++ c.in_ok-open.field-0 ∷ [] =
    search rules in
    items ∙ ap₂ (λ (xs : List Waits) (x : Waits). xs ++ x ∷ []) c.loop.invariant opened
    ∙ replicate_more c.loop.counter (empty_room m)

pub returns-clause-count : goal.returns-clause-count
returns-clause-count c =
    let long = ap length c.loop.invariant in
    let count = length-replicate c.loop.counter (empty_room (period c.args.shape.now)) in
    let top = c.loop.auto.counter-end in
    let over = c.loop-test.false in
    let lanes = c.lanes-end.ensures.value in
    omega arith

pub returns-clause-empty : goal.returns-clause-empty
returns-clause-empty c =
    empty-waits c.loop.waiting.items c.loop.counter (period c.args.shape.now) c.loop.invariant

pub returns-clause-room : goal.returns-clause-room
returns-clause-room c =
    empty-has-room c.loop.waiting.items c.loop.counter (period c.args.shape.now) c.loop.invariant
