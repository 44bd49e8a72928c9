use Rattle.std.proofs.Common.{arith}
use Rattle.line_model.proofs.LineLemmas.{ring-put}
use Rattle.line_model.proofs.line.Line.put.Goals as goal

pub returns-clause-words : goal.returns-clause-words
returns-clause-words c = λ w v low ring.
    let here = rw (← c.self.view_is) at ring in
    let p = c.place_after-self-inside.ensures in
    ring-put c.self.inside.words.items c.self.inside.at c.place_after-self-inside.result w v c.args.word low (omega arith)
    (λ h. p.step (omega arith)) (λ h. p.around (omega arith)) here
