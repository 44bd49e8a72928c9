use Rattle.std.proofs.Common.{◌∷◌, [], ◌++◌, if◌then◌else◌, sym, ap, subst, arith}
use Rattle.link_params.specs.declared.fields.Params.{Params}
use Rattle.link_params.specs.declared.orders.TxOrder.{TxOrder}
use Rattle.lane_b.specs.kept.Senders.{Sender, MayGoOn}
use Rattle.lane_b.specs.Sent.{data_octets}
use Rattle.lane_b.proofs.SentWords.{data_char-more, goes_on-more, other-char, other-next}
use Rattle.lane_b.proofs.Spelled.{comma-spelled, ilas-spelled}
use Rattle.lane_b.proofs.sender.TxLaneB.character.Goals as goal

pub returns-in-Data-clause-due : goal.returns-in-Data-clause-due
returns-in-Data-clause-due c = λ p lane handed h.
    let P : Params → Type 0 = λ q. MayGoOn c.args.self.now q (data_octets [] handed) c.args.self.now.next in
    let due = c.data.ensures.due (data_octets [] handed) (subst P (sym h.params) h.data_goes_on) in
    rw (c.in-Data.is, ← data_char-more p lane handed c.in-Data.place c.args.octet c.in-Data.first) (rw h.params at due)

pub returns-in-Data-clause-goes_on : goal.returns-in-Data-clause-goes_on
returns-in-Data-clause-goes_on c = λ p lane handed h.
    let P : Params → Type 0 = λ q. MayGoOn c.args.self.now q (data_octets [] handed) c.args.self.now.next in
    let R : Params → Type 0 = λ q. MayGoOn c.data.new.self q (if c.in-Data.first then c.args.octet ∷ [] else data_octets [] handed ++ c.args.octet ∷ []) c.data.new.self.next in
    let on = c.data.ensures.goes_on (data_octets [] handed) (subst P (sym h.params) h.data_goes_on) in
    let Q : TxOrder → Type 0 = λ o. MayGoOn c.data.new.self p (data_octets [] (handed ++ (record { order = o; octets = c.args.octet }) ∷ [])) c.data.new.self.next in
    subst Q (sym c.in-Data.is) (goes_on-more c.data.new.self p handed c.in-Data.place c.args.octet c.in-Data.first c.data.new.self.next (subst R h.params on))

pub returns-in-Ilas-clause-spelled : goal.returns-in-Ilas-clause-spelled
returns-in-Ilas-clause-spelled c =
    ilas-spelled c.self.inside.link.params c.self.inside.lane c.in-Ilas.place c.ilas_char.result c.ilas_char.ensures (λ o e. let h = rw e at c.ilas_char.type_inv in omega (arith, h))

pub returns-in_default : goal.returns-in_default
returns-in_default c = record {
  due = λ p lane handed h. other-char p lane _ c.args.order c.in_default.not-Ilas c.in_default.not-Data;
  goes_on = λ p lane handed h. tt;
  spelled = comma-spelled;
  next = other-next c.args.self.now.params c.args.order c.in_default.not-Ilas c.in_default.not-Data;
  same = record {
    params = ap (λ (s : Sender). s.params) c.self-in_default.view_is;
    of_lane = ap (λ (s : Sender). s.lane) c.self-in_default.view_is;
    rd = ap (λ (s : Sender). s.rd) c.self-in_default.view_is;
  };
}
