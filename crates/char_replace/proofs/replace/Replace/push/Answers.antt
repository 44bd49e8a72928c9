use Rattle.std.proofs.Common.{◌≡◌, sym, ap, refl}
use Rattle.char_replace.specs.kept.Ends.{Sender}
use Rattle.char_replace.proofs.Replacing.{replaced-push_inside, replaced-push_end, replaced-push_scrambled}
use Rattle.char_replace.proofs.replace.Replace.push.Goals as goal

pub returns-then-not-is_frame_end : goal.returns-then-not-is_frame_end
returns-then-not-is_frame_end c =
    let kept : c.args.self.now.params ≡ c.self.inside.params = ap (λ (s : Sender). s.params) (sym c.self.view_is) in
    replaced-push_inside c.args.self.now c.self.inside.params c.args.octet c.args.place c.is_frame_end.result kept c.self.invariant
    c.is_frame_end.ensures c.if-not-is_frame_end.true

pub returns : goal.returns
returns c =
    let kept : c.args.self.now.params ≡ c.self.inside.params = ap (λ (s : Sender). s.params) (sym c.self.view_is) in
    replaced-push_end c.args.self.now _ c.self.inside.params c.args.octet c.args.place c.at_end-c.result c.is_frame_end.result c.is_multiframe_end.result kept
    c.self.invariant c.is_frame_end.ensures c.is_multiframe_end.ensures c.if-not-is_frame_end.false c.at_end-c.ensures refl refl refl c.is_data-self-inside.ensures

pub returns-then-octet-ne-K28_7 : goal.returns-then-octet-ne-K28_7
returns-then-octet-ne-K28_7 c = λ p octets chars h at.
    let kept : c.args.self.now.params ≡ c.self.inside.params = ap (λ (s : Sender). s.params) (sym c.self.view_is) in
    replaced-push_scrambled c.args.self.now c.self.inside.params c.args.octet kept c.if-self.true c.if-octet-ne-K28_3.true c.if-octet-ne-K28_7.true p octets chars h
