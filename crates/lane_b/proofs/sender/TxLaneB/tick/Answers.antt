use Rattle.std.proofs.Common.{◌≡◌, ℕ, ◌∷◌, [], ◌++◌, Some, option_map, sym, ◌∙◌, subst}
use Rattle.link_params.specs.Lanes.{Handed}
use Rattle.code_8b10b.specs.declared.character.Rd.{Rd}
use Rattle.code_8b10b.specs.Code.{spelling}
use Rattle.code_8b10b.proofs.Spellings.{ten_bits}
use Rattle.lane_b.specs.kept.Senders.{Sender, HasSent}
use Rattle.lane_b.proofs.Spelled.{encoded, words}
use Rattle.lane_b.proofs.Ticks.{tick-word, tick-sent}
use Rattle.lane_b.proofs.sender.TxLaneB.tick.Goals as goal

pub returns-clause-word : goal.returns-clause-word
returns-clause-word c = λ p lane handed h.
    let tick : Handed = record { order = c.args.order; octets = c.args.octet } in
    let q : ℕ × Rd = (c.in-Some.word, c.in-Some.rd) in
    let P : Sender → Type 0 = λ s. Some q ≡ option_map (words s.rd) (spelling s.rd c.character-c.result) in
    let spelled = subst P c.self.view_is (sym c.in-Some.is ∙ c.encode.ensures) in
    tick-word c.args.self.now c.character-c.new.self tick c.character-c.result q c.character-c.ensures.same spelled p lane handed h (c.character-c.ensures.due p lane handed h)

pub returns-clause-below : goal.returns-clause-below
returns-clause-below c =
    let q : ℕ × Rd = (c.in-Some.word, c.in-Some.rd) in
    ten_bits c.self.inside.rd c.character-c.result c.in-Some.word (encoded (spelling c.self.inside.rd c.character-c.result) c.self.inside.rd q (sym c.in-Some.is ∙ c.encode.ensures)).word

pub returns-clause-sent : goal.returns-clause-sent
returns-clause-sent c = λ p lane handed h.
    let tick : Handed = record { order = c.args.order; octets = c.args.octet } in
    let q : ℕ × Rd = (c.in-Some.word, c.in-Some.rd) in
    let P : Sender → Type 0 = λ s. Some q ≡ option_map (words s.rd) (spelling s.rd c.character-c.result) in
    let spelled = subst P c.self.view_is (sym c.in-Some.is ∙ c.encode.ensures) in
    let Q : Sender → Type 0 = λ s. HasSent (record s { rd = c.in-Some.rd }) p lane (handed ++ tick ∷ []) in
    subst Q (sym c.self.view_is) (tick-sent c.args.self.now c.character-c.new.self tick c.character-c.result q c.character-c.ensures.same spelled p lane handed h
    (c.character-c.ensures.due p lane handed h) (c.character-c.ensures.goes_on p lane handed h))
