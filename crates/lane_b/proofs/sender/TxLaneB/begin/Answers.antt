use Rattle.std.proofs.Common.{◌≡◌, [], sym, ◌∙◌, ap, subst}
use Rattle.std.proofs.Math.Nat.{zero-mod}
use Rattle.link_params.specs.declared.fields.Params.{Params}
use Rattle.link_params.specs.Numbers.{period}
use Rattle.char_replace.specs.kept.Ends.{HasReplaced}
use Rattle.lane_b.specs.kept.Senders.{Sender}
use Rattle.lane_b.proofs.CodedOctets.{carries-none}
use Rattle.lane_b.proofs.sender.TxLaneB.begin.Goals as goal

pub returns-clause-begun : goal.returns-clause-begun
returns-clause-begun c =
    let same : c.shape.result ≡ c.args.self.now.params = c.shape.ensures.same ∙ ap (λ (s : Sender). s.params) c.self.view_is in
    let P : Params → Type 0 = λ p. HasReplaced c.new-self-inside.result p [] [] in
    record {
      place = sym (zero-mod (period c.args.self.now.params));
      replaced_so = carries-none _ _ (subst P same c.new-self-inside.ensures);
      scrambled_so = λ scr. c.new-self-inside-2.ensures.scrambled;
    }
