use Rattle.std.proofs.Common.{◌≡◌, ℕ, List, [], ◌∷◌, ◌++◌, ◌∙◌, codes, decimal, map, ap}
use Rattle.link_params.specs.Numbers.{period, lat_ticks, latency, depth, bound}
use Rattle.scenario.specs.ReportLines.{fields_text, line_of}
use Rattle.scenario.proofs.LineLemmas.{line-of-fields}
use Rattle.scenario.proofs.line_text.LineText.link_row.Goals as goal

pub returns-clause-line : goal.returns-clause-line
unfolding line_of
returns-clause-line c version =
    let p = c.args.link.now.params in
    let t = c.args.link.now.timing in
    let due : List ℕ = period p ∷ lat_ticks p t ∷ latency p t ∷ depth p t ∷ bound p t ∷ [] in
    let values : (c.period.result ∷ c.lat_ticks.result ∷ c.latency.result ∷ c.depth.result
    ∷ c.bound.result ∷ []) ≡ due = cc in
    line-of-fields (codes "link") (fields_text (map decimal due)) c.start.new.self.bytes
    c.numbers.new.self.bytes c.put_byte.new.self.bytes
    c.start.ensures.bytes
    (c.numbers.ensures.bytes ∙ ap (λ ns. c.start.new.self.bytes ++ fields_text (map decimal ns))
    values) c.put_byte.ensures.bytes
