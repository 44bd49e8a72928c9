use Rattle.std.proofs.Common.{◌≡◌, ◌≢◌, ℕ, ◌%◌, ◌++◌, ◌∷◌, [], suc, List, ◌∙◌, ap, subst}
use Rattle.jesd_base.specs.Bits.{bits}
use Rattle.link_params.specs.declared.fields.Mode.TheVariants.{B}
use Rattle.link_params.specs.declared.fields.Params.{Params}
use Rattle.link_params.specs.Numbers.{period}
use Rattle.lane_c.specs.Sent.{blocks_of}
use Rattle.lane_c.specs.kept.Senders.{GoesOn, IsReady, MayGoOn, Sender}
use Rattle.lane_c.proofs.SenderSteps.{ready-inside}
use Rattle.lane_c.proofs.sender.TxLaneC.block.Goals.{then-place-eq0, else-place-eq0}
use Rattle.lane_c.proofs.sender.TxLaneC.block.Goals as goal

not_b : (c : goal.After-go_on) → c.args.self.now.params.mode ≢ B
not_b c = let P : Params → Type 0 = λ p. p.mode ≢ B in subst P
    (ap (λ (s : Sender). s.params) c.self.view_is) c.self.invariant.0

link : (c : goal.After-go_on) → c.if-place-eq0.self.params ≡ c.args.self.now.params
link c = elim c.if-place-eq0.branch [
  | then-place-eq0 w ↦ ap (λ (s : Sender). s.params) (w.self-is ∙ w.begin.ensures.same)
  | else-place-eq0 w ↦ ap (λ (s : Sender). s.params) w.self-is
]

ready : (c : goal.After-go_on) (sent : List ℕ) → MayGoOn c.args.self.now c.args.self.now.params sent
    c.args.self.now.next → IsReady c.if-place-eq0.self c.args.self.now.params sent c.args.place
ready c sent on = elim c.if-place-eq0.branch [
  | then-place-eq0 w ↦ rw w.self-is (w.begin.ensures.ready sent on)
  | else-place-eq0 w ↦ rw w.self-is (ready-inside c.args.self.now c.args.self.now.params sent
      c.args.place c.args.first (not_b c) c.requires w.if-place-eq0.false on)
]

pub returns-clause-due : goal.returns-clause-due
returns-clause-due c = λ sent on.
    let P : Params → Type 0 = λ p. IsReady c.if-place-eq0.self p sent c.args.place
    → blocks_of p (sent ++ c.args.octets ∷ []) ≡ blocks_of p sent
    ++ bits 66 c.go_on.result ∷ [] in
    subst P (link c) (c.go_on.ensures.due sent) (ready c sent on)

pub returns-clause-goes_on : goal.returns-clause-goes_on
returns-clause-goes_on c = λ sent on.
    let P : Params → Type 0 = λ p. IsReady c.if-place-eq0.self p sent c.args.place
    → GoesOn c.go_on.new.self p (sent ++ c.args.octets ∷ []) (suc c.args.place % period p) in
    subst P (link c) (c.go_on.ensures.goes_on sent) (ready c sent on)
