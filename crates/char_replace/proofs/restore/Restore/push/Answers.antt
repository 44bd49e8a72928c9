use Rattle.std.proofs.Common.{◌≡◌, ◌∙◌, sym, ap, refl}
use Rattle.char_replace.specs.kept.Ends.{Receiver}
use Rattle.code_8b10b.specs.declared.character.Char.TheVariants.{Data}
use Rattle.code_8b10b.specs.declared.character.Reading.TheVariants.{Char as Read}
use Rattle.char_replace.proofs.RestoringSteps.{restored-push_inside, restored-push_end, restored-push_scrambled}
use Rattle.char_replace.proofs.restore.Restore.push.Goals as goal

pub returns-then-end : goal.returns-then-end
returns-then-end c =
    let kept : c.args.self.now.params ≡ c.self.inside.params = ap (λ (s : Receiver). s.params) (sym c.self.view_is) in
    rw c.keep.ensures
    (restored-push_end c.args.self.now _ c.self.inside.params c.args.place c.args.reading c.given-given.result c.is_frame_end-end.result
    c.is_multiframe_end.result kept c.self.invariant c.is_frame_end-end.ensures c.is_multiframe_end.ensures c.if-end.true c.given-given.ensures kept refl refl)

pub returns-else-end : goal.returns-else-end
returns-else-end c =
    let kept : c.args.self.now.params ≡ c.self.inside.params = ap (λ (s : Receiver). s.params) (sym c.self.view_is) in
    restored-push_inside c.args.self.now c.self.inside.params c.args.place c.args.reading c.given-given.result c.is_frame_end-end.result c.is_multiframe_end.result
    kept c.self.invariant c.is_frame_end-end.ensures c.is_multiframe_end.ensures c.if-end.false c.given-given.ensures

pub returns-in-Char-Data : goal.returns-in-Char-Data
returns-in-Char-Data c = λ p readings given h at.
    let kept : c.args.self.now.params ≡ c.self.inside.params = ap (λ (s : Receiver). s.params) (sym c.self.view_is) in
    let inner : c.in-Char-Data.field-0 ≡ Data c.in-Char-Data.octet = rw c.in-Char-Data.is at c.in-Char-Data.field-0-is in
    let is : c.args.reading ≡ Read (Data c.in-Char-Data.octet) = c.in-Char-Data.is ∙ ap Read inner in
    rw is (restored-push_scrambled c.args.self.now c.self.inside.params c.in-Char-Data.octet kept c.if-self.true p readings given h)
