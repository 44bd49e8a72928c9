use Rattle.std.proofs.Common.{◌≡◌, ◌<◌, ◌+◌, ◌*◌, ◌/◌, ◌%◌, ◌^◌, ◌-◌, ◌∙◌, ap, ap₂, arith}
use Rattle.std.proofs.lemmas.Nat.{mod_below, pow_pos}
use Rattle.line_model.specs.kept.Lines.{Kept, Ring}
use Rattle.line_model.proofs.LineLemmas.{carried-is}
use Rattle.line_model.proofs.line.Line.carried.Goals as goal

pub returns-clause-is : goal.returns-clause-is
returns-clause-is c = λ v ring.
    let w = c.self.inside.width in
    let width : c.self.inside.width ≡ c.args.self.now.set.width = ap (λ (k : Kept). k.set.width) c.self.view_is in
    let delay : c.self.inside.delay ≡ c.args.self.now.set.delay = ap (λ (k : Kept). k.set.delay) c.self.view_is in
    let here : Ring c.args.self.now.words c.args.self.now.at w v = rw width ring in
    let n = c.aged-newer.ensures.is w v here in
    let o = c.aged-older.ensures.is w v here in
    let small : c.aged-newer.result < 2 ^ w = rw n (mod_below _ (2 ^ w) (pow_pos w)) in
    c.joined.ensures.is small
    ∙ ap₂ (λ a b. a % 2 ^ c.self.inside.rest * 2 ^ (w - c.self.inside.rest) + b / 2 ^ c.self.inside.rest) o n
    ∙ carried-is v w c.self.inside.whole c.self.inside.rest c.self.inside.delay (omega arith) (omega arith)
    ∙ ap₂ (λ d x. v / 2 ^ d % 2 ^ x) delay width

pub returns-then-self-eq0-clause-is : goal.returns-then-self-eq0-clause-is
returns-then-self-eq0-clause-is c = λ v ring.
    let w = c.self.inside.width in
    let width : c.self.inside.width ≡ c.args.self.now.set.width = ap (λ (k : Kept). k.set.width) c.self.view_is in
    let delay : c.self.inside.delay ≡ c.args.self.now.set.delay = ap (λ (k : Kept). k.set.delay) c.self.view_is in
    let here : Ring c.args.self.now.words c.args.self.now.at w v = rw width ring in
    let n = c.aged-newer.ensures.is w v here in
    let none : c.self.inside.rest ≡ 0 = c.if-self-eq0.true in
    let all : w * c.self.inside.whole ≡ c.self.inside.delay = let i = c.self.invariant.4 in omega arith in
    n
    ∙ ap₂ (λ d x. v / 2 ^ d % 2 ^ x) (all ∙ delay) width
