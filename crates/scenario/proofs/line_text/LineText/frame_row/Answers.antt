use Rattle.std.proofs.Common.{◌∷◌, ◌++◌, ◌∙◌, codes, decimal, ap}
use Rattle.scenario.specs.ReportLines.{fields_text, mark_name, word_fields}
use Rattle.scenario.proofs.LineLemmas.{after-field, line-of-two, word-fields}
use Rattle.scenario.proofs.line_text.LineText.frame_row.Goals as goal

pub returns-clause-line : goal.returns-clause-line
returns-clause-line c =
    line-of-two (codes "frame") (44 ∷ decimal c.args.time)
    (fields_text (mark_name c.args.mark ∷ word_fields c.args.shape.now c.args.words.now))
    c.start.new.self.bytes c.number.new.self.bytes c.words.new.self.bytes
    c.put_byte.new.self.bytes
    c.start.ensures.bytes c.number.ensures.bytes
    (after-field (word_fields c.args.shape.now c.args.words.now) c.number.new.self.bytes
    c.mark.new.self.bytes c.words.new.self.bytes (mark_name c.args.mark) c.mark.ensures.bytes
    (c.words.ensures.bytes ∙ ap (λ f. c.mark.new.self.bytes ++ f)
    (word-fields c.args.words.now c.args.shape.now)))
    c.put_byte.ensures.bytes
