use Rattle.std.proofs.Common.{◌∷◌, ◌++◌, ◌∙◌, codes, decimal, ap}
use Rattle.scenario.specs.ReportLines.{fields_text, word_fields}
use Rattle.scenario.proofs.LineLemmas.{line-of-two, word-fields}
use Rattle.scenario.proofs.line_text.LineText.enter_row.Goals as goal

pub returns-clause-line : goal.returns-clause-line
returns-clause-line c =
    line-of-two (codes "enter") (44 ∷ decimal c.args.time)
    (fields_text (word_fields c.args.shape.now c.args.words.now)) c.start.new.self.bytes
    c.number.new.self.bytes c.words.new.self.bytes c.put_byte.new.self.bytes
    c.start.ensures.bytes c.number.ensures.bytes
    (c.words.ensures.bytes ∙ ap (λ f. c.number.new.self.bytes ++ f)
    (word-fields c.args.words.now c.args.shape.now)) c.put_byte.ensures.bytes
