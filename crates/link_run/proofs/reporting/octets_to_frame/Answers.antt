use Rattle.std.proofs.Common.{◌≡◌, ◌∙◌, ℕ, ◌+◌, ◌-◌, ◌*◌, ◌/◌, ◌%◌, ap, arith}
use Rattle.std.proofs.lemmas.Nat.{mod-mul-add}
use Rattle.link_run.proofs.reporting.octets_to_frame.Goals as goal

pub returns-else-at-eq0-clause-begins : goal.returns-else-at-eq0-clause-begins
returns-else-at-eq0-clause-begins c =
    let x = c.args.octet in
    let f = c.args.size in
    let at = c.place_in_frame-at.ensures.value in
    let some = c.requires.size.0 in
    let whole : x + (f - c.place_in_frame-at.result) ≡ (x / f + 1) * f + 0 = omega arith in
    ap (λ (k : ℕ). k % f) whole ∙ mod-mul-add (x / f + 1) f 0 some
