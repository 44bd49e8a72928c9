use Rattle.std.proofs.Common.{sym, ◌∙◌, ℕ}
use Rattle.std.proofs.lemmas.Nat.{and_mask}
use Rattle.code_8b10b.proofs.Hunting.{or-ten_more, found-ten_more, last-ten_more}
use Rattle.code_8b10b.proofs.Windows.{BitLaws}
use Rattle.code_8b10b.proofs.hunt.Hunt.push.Goals as goal

pub returns-clause-answer : goal.returns-clause-answer
returns-clause-answer c = λ taken h.
    let e = c.bits_and_numbers.ensures in
    let laws : BitLaws = record { value_of_bits = e.value_of_bits; bits_of_value = e.bits_of_value; bits_of_both = e.both } in
    let last : ℕ = c.self.inside.last in
    let more = or-ten_more last c.args.word c.self.invariant.0 c.requires in
    let is = rw (c.from.ensures, more) at c.lock_in.ensures.answer in
    is ∙ found-ten_more laws c.self.inside.count last c.args.word c.args.self.now taken c.requires c.self.view_is h

pub returns-clause-hunts_on : goal.returns-clause-hunts_on
returns-clause-hunts_on c = λ taken h none.
    let e = c.bits_and_numbers.ensures in
    let laws : BitLaws = record { value_of_bits = e.value_of_bits; bits_of_value = e.bits_of_value; bits_of_both = e.both } in
    let last : ℕ = c.self.inside.last in
    let more = or-ten_more last c.args.word c.self.invariant.0 c.requires in
    let is = rw (c.from.ensures, more) at c.lock_in.ensures.answer in
    let answer = is ∙ found-ten_more laws c.self.inside.count last c.args.word c.args.self.now taken c.requires c.self.view_is h in
    record {
      last = rw (c.from.ensures, more, c.min-self-inside.ensures, and_mask _ 39) (last-ten_more laws c.self.inside.count last c.args.word c.args.self.now taken c.requires c.self.view_is h);
      nothing = sym answer ∙ none;
    }
