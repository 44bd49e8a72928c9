use Rattle.std.proofs.Common.{◌≡◌, ◌<◌, ◌+◌, ◌-◌, ℕ, arith, length}
use Rattle.jesd_base.specs.Bits.{bits}
use Rattle.code_8b10b.proofs.Windows.{drop-bits, length-bits}
use Rattle.code_8b10b.proofs.Hunting.{has_hunted-few}
use Rattle.code_8b10b.proofs.hunt.Hunt.resume.Goals as goal

pub returns : goal.returns
returns c =
    let r : ℕ = c.args.rest in
    let e : 10 - r + r ≡ 10 = omega arith in
    let last = rw e at (drop-bits (10 - r) r c.args.word) in
    let len = length-bits r c.args.word in
    let few : length (bits r c.args.word) < 10 = omega arith in
    rw (c.from.ensures, last) (has_hunted-few (bits r c.args.word) few)
