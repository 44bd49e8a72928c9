use Rattle.std.proofs.Common.{◌≡◌, ◌≢◌, ℕ, ◌%◌, List, [], ◌∷◌, ◌++◌, Bool, false, get_or, set, length, suc, refl, sym, ◌∙◌, ap, subst}
use Rattle.std.specs.List.{flat_map}
use Rattle.jesd_base.specs.Bits.{bits}
use Rattle.link_params.specs.declared.fields.Mode.TheVariants.{B}
use Rattle.link_params.specs.declared.fields.Params.{Params}
use Rattle.link_params.specs.Numbers.{period}
use Rattle.lane_scramble.specs.Scrambling.{scrambled58}
use Rattle.lane_scramble.specs.kept.Scramblers.{HasScrambled58}
use Rattle.lane_c.specs.Sent.{payload_of}
use Rattle.lane_c.specs.kept.Senders.{GoesOn, IsReady, Sender}
use Rattle.lane_c.proofs.SentBlocks.{octets-more}
use Rattle.lane_c.proofs.SenderSteps.{block-due, goes-on}
use Rattle.lane_c.proofs.sender.TxLaneC.go_on.Goals as goal

before : (c : goal.After-pack) (sent : List ℕ) → IsReady c.args.self.now c.args.self.now.params sent
    c.args.place → HasScrambled58 c.self.inside.scrambler (flat_map (bits 64) sent)
before c sent h =
    let P : List Bool → Type 0 = λ kept. HasScrambled58 kept (flat_map (bits 64) sent) in
    subst P (sym (ap (λ (s : Sender). s.scrambler) c.self.view_is)) h.scrambled_so

not_b : (c : goal.After-pack) → c.args.self.now.params.mode ≢ B
not_b c = let P : Params → Type 0 = λ p. p.mode ≢ B in subst P
    (ap (λ (s : Sender). s.params) c.self.view_is) c.self.invariant.0

more : (c : goal.After-pack) (sent : List ℕ) → IsReady c.args.self.now c.args.self.now.params sent
    c.args.place
    → payload_of (sent ++ c.args.octets ∷ []) ≡ payload_of sent
    ++ bits 64 c.scramble-scrambled.result
more c sent h = ap scrambled58 (octets-more sent c.args.octets)
    ∙ c.scramble-scrambled.ensures.answer (flat_map (bits 64) sent) (before c sent h)

size : (c : goal.After-pack) → length c.args.self.now.payload ≡ 32
size c = ap (λ (s : Sender). length s.payload) (sym c.self.view_is) ∙ c.self.told

pub returns-clause-due : goal.returns-clause-due
returns-clause-due c = λ sent h.
    let bit = c.sync_bit.ensures ∙ ap (λ (s : Sender). get_or (bits 32 s.word)
    (c.args.place % 32) false) c.self.view_is in
    block-due c.args.self.now c.args.self.now.params sent c.args.place c.args.octets
    c.scramble-scrambled.result c.pack.result c.sync_bit.result (not_b c) h
    (more c sent h) bit c.pack.ensures.block

pub returns-clause-below : goal.returns-clause-below
returns-clause-below c = c.pack.ensures.below

pub returns-clause-goes_on : goal.returns-clause-goes_on
returns-clause-goes_on c = λ sent h.
    let Q : Sender → Type 0 = λ s. (new : Sender) → HasScrambled58 new.scrambler
    (flat_map (bits 64) sent ++ bits 64 c.args.octets)
    → new.payload ≡ set s.payload (c.args.place % 32) c.scramble-scrambled.result
    → new.word ≡ s.word
    → GoesOn new c.args.self.now.params (sent ++ c.args.octets ∷ [])
    (suc c.args.place % period c.args.self.now.params) in
    let all : Q c.args.self.now = λ new. goes-on c.args.self.now new c.args.self.now.params sent
    c.args.place c.args.octets c.scramble-scrambled.result (not_b c) (size c) h
    (more c sent h) in
    subst Q (sym c.self.view_is) all _ (c.scramble-scrambled.ensures.stands
    (flat_map (bits 64) sent) (before c sent h)) refl refl
