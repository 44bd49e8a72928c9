use Rattle.std.proofs.Common.{arith, ◌≡◌, ◌∙◌, inl, inr}
use Rattle.link_run.proofs.RowOctets.{written-word}
use Rattle.link_run.proofs.deframer.write_octets.Goals as goal

pub returns-else-count-eq1 : goal.returns-else-count-eq1
returns-else-count-eq1 c =
    let inside = c.requires.place in
    let eight : c.args.count ≡ 8 = elim c.requires.one_or_eight [
      | inl one ↦ absurd (c.if-count-eq1.false one)
      | inr all ↦ all
    ] in
    written-word c.args.octets.now c.args.place c.args.count _ c.args.value
    c.copy_from_slice.new.self eight (omega arith) inside
    (c.copy_from_slice.ensures.after ∙ c.to_be_bytes.ensures)
