use Rattle.std.proofs.Common.{◌∙◌}
use Rattle.csv.specs.Records.{fields_of}
use Rattle.scenario.proofs.FieldLemmas.{field-Some, field-None}
use Rattle.scenario.proofs.row.field_at.Goals as goal

pub returns-in-Some : goal.returns-in-Some
returns-in-Some c = c.bare.ensures
    ∙ field-Some (fields_of c.args.row.now) c.args.i c.in-Some.text.now c.in-Some.ensures.value

pub returns-in-None : goal.returns-in-None
returns-in-None c = field-None (fields_of c.args.row.now) c.args.i c.in-None.ensures.value
