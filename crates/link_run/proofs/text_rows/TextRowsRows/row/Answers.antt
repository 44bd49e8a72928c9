use Rattle.std.proofs.Common.{◌*◌, ◌∙◌, Result, Ok, Err, OnErr, refl, ap, arith}
use Rattle.link_run.proofs.LineLengths.{has-few}
use Rattle.link_run.proofs.PlanFacts.{plan-facts}
use Rattle.link_run.proofs.TakenRows.{took-failed, took-gathered}
use Rattle.link_run.proofs.text_rows.TextRowsRows.row.Goals as goal

where-err : {T E A : Type 0} (r : Result T E) → A → OnErr r A
where-err (Ok x) a = tt
where-err (Err e) a = a

pub returns-then-self-clause-took : goal.returns-then-self-clause-took
returns-then-self-clause-took g c = λ first before h. (
  h.0,
  h.1,
  took-failed _ _ before (record { row = c.args.row.now; words = c.args.words.now }) c.if-self.true
      h.2,
)

pub returns-in_err-make_room-clause-nothing : goal.returns-in_err-make_room-clause-nothing
returns-in_err-make_room-clause-nothing g c = λ first before h.
    let names = c.make_room.ensures.names in
    where-err c.from_residual.result
    (names.0 ∙ h.0, names.1 ∙ h.1, c.make_room.ensures.took _ before h.2)

pub add-requires-clause-few : goal.add-requires-clause-few
add-requires-clause-few g c =
    let few = has-few c.args.self.now.s.now.shape c.args.row.now c.args.words.now
    (c.requires.words c.args.self.now.s.now.shape refl) in
    let same = ap (λ x. x.now.shape.m * x.now.shape.s) c.make_room.ensures.same in
    omega (arith, few, same, c.make_room.new.self.fits)

pub returns-clause-took : goal.returns-clause-took
returns-clause-took g c = λ first before h.
    let now = c.make_room.new.self in
    let names = c.make_room.ensures.names in
    let fine = c.in_ok-make_room.ensures.fine in (
      names.0 ∙ h.0,
      names.1 ∙ h.1,
      took-gathered _ _ _ before (record { row = c.args.row.now; words = c.args.words.now }) refl refl
          fine fine refl (λ s is.
          let facts = plan-facts now.s.now s is in
          rw facts.version (c.add.ensures.bytes s.link facts.link))
          (c.make_room.ensures.took _ before h.2),
    )
