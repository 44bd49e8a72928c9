use Rattle.std.proofs.Common.{◌≡◌, Bool, true, List, sym, ◌∙◌, ap, subst}
use Rattle.std.specs.List.{flat_map}
use Rattle.jesd_base.specs.Bits.{bits}
use Rattle.lane_scramble.specs.kept.Scramblers.{HasScrambled15}
use Rattle.lane_b.specs.kept.Senders.{Sender}
use Rattle.lane_b.proofs.CodedOctets.{bits-more, coded-scrambled}
use Rattle.lane_b.proofs.sender.TxLaneB.coded.Goals as goal

pub returns-then-params-clause-coded : goal.returns-then-params-clause-coded
returns-then-params-clause-coded c = λ octets so.
    let link : c.shape.result ≡ c.args.self.now.params = c.shape.ensures.same ∙ ap (λ (s : Sender). s.params) c.self.view_is in
    let scr : c.args.self.now.params.scr ≡ true = rw (← link, ← c.params.ensures.same) c.if-params.true in
    let P : List Bool → Type 0 = λ kept. HasScrambled15 kept (flat_map (bits 8) octets) in
    let before = subst P (ap (λ (s : Sender). s.scrambler) (sym c.self.view_is)) (so scr) in
    coded-scrambled c.args.self.now.params octets c.args.octet c.scramble.result scr c.scramble.type_inv (c.scramble.ensures.answer (flat_map (bits 8) octets) before)

pub returns-then-params-clause-stands : goal.returns-then-params-clause-stands
returns-then-params-clause-stands c = λ octets so scr.
    let P : List Bool → Type 0 = λ kept. HasScrambled15 kept (flat_map (bits 8) octets) in
    let before = subst P (ap (λ (s : Sender). s.scrambler) (sym c.self.view_is)) (so scr) in
    let Q : List Bool → Type 0 = λ taken. HasScrambled15 c.scramble.new.self taken in
    subst Q (sym (bits-more octets c.args.octet)) (c.scramble.ensures.stands (flat_map (bits 8) octets) before)
