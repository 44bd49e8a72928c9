use Rattle.std.proofs.Common.{◌<◌, ◌+◌, List, length, map, arith, sym, subst}
use Rattle.std.proofs.lemmas.List.{length-map}
use Rattle.link_run.specs.kept.Waits.{Waits, next_of}
use Rattle.link_run.proofs.NextCells.{taken-all, taken-cell, taken-more, taken-none, taken-not}
use Rattle.link_run.proofs.RowOctets.{all-put, putting-more, putting-none, row-within}
use Rattle.link_run.proofs.deframer.put.Goals as goal

pub loop-lane-init : goal.loop-lane-init
loop-lane-init c = (
  putting-none c.args.rows.now (map next_of c.args.waiting.now) c.args.room c.args.at c.args.count,
  taken-none c.args.waiting.now,
)

pub next-cell-requires : goal.next-cell-requires
next-cell-requires c =
    let lane = c.loop-lane.lane in
    let x = c.index-waiting-lane.result in
    subst (λ (w : Waits). 0 < length w.cells)
    (sym (taken-not c.args.waiting.now c.loop-lane.waiting lane x x c.loop-lane-test.true
    c.loop-lane.invariant.1))
    (c.requires.some lane x c.loop-lane-test.true)

pub write_octets-requires-clause-place : goal.write_octets-requires-clause-place
write_octets-requires-clause-place c =
    let lane = c.loop-lane.lane in
    let inside = row-within lane (length c.args.waiting.now) c.args.room (c.args.at + c.args.count)
    c.loop-lane-test.true c.requires.within in
    let size = c.requires.size in
    omega (arith, c.loop-lane.auto.rows)

pub loop-lane-preserved : goal.loop-lane-preserved
loop-lane-preserved c =
    let waiting : List Waits = c.args.waiting.now in
    let lane = c.loop-lane.lane in
    let x = c.index-waiting-lane.result in
    let cell = c.next-cell.result in
    let test = c.loop-lane-test.true in
    let long = length-map waiting next_of in
    let taken = c.loop-lane.invariant.1 in
    let there = taken-cell waiting c.loop-lane.waiting lane x cell c.next-cell.new.self.cells test
    c.next-cell.ensures.next taken in (
      rw (c.worse-worst.ensures) (putting-more c.args.rows.now c.loop-lane.rows
          c.write_octets.new.octets (map next_of waiting) c.args.room c.args.at c.args.count lane
          c.loop-lane.worst cell (omega arith) there c.requires.within c.write_octets.ensures
          c.loop-lane.invariant.0),
      taken-more waiting c.loop-lane.waiting lane c.next-cell.new.self x test (record {
        cell = cell;
        first = c.next-cell.ensures.next;
        same_room = c.next-cell.ensures.same;
      }) taken,
    )

pub returns-clause-put : goal.returns-clause-put
returns-clause-put c =
    let past = c.loop-lane-test.false in
    let end = c.loop-lane.auto.lane-end in
    let long = length-map c.args.waiting.now next_of in
    all-put c.args.rows.now c.loop-lane.rows (map next_of c.args.waiting.now) c.args.room c.args.at
    c.args.count c.loop-lane.lane c.loop-lane.worst (omega arith) c.loop-lane.invariant.0

pub returns-clause-taken : goal.returns-clause-taken
returns-clause-taken c = taken-all c.args.waiting.now c.loop-lane.waiting c.loop-lane.lane
    c.loop-lane.invariant.1 c.loop-lane-test.false
