use Rattle.std.proofs.Common.{◌≡◌, ◌≢◌, ◌+◌, ◌==◌, ◌≤◌, None, length, sym, ◌∙◌, ap, ap₂, subst}
use Rattle.jesd_base.specs.Bits.{bits, value}
use Rattle.link_params.specs.declared.fields.Mode.TheVariants.{B}
use Rattle.link_params.specs.declared.fields.Params.{Params}
use Rattle.link_params.specs.Numbers.{period}
use Rattle.link_params.specs.Laws.{broken_law}
use Rattle.multiblock.specs.SyncWords.{sync_word}
use Rattle.fire_fec.specs.Corrects.{payload_bits}
use Rattle.lane_c.specs.Sent.{check}
use Rattle.lane_c.specs.kept.Senders.{IsReady, Sender}
use Rattle.lane_c.proofs.SenderSteps.{begun, check_due, some-multiblocks}
use Rattle.lane_c.proofs.sender.TxLaneC.begin.Goals.{then-first, else-first}
use Rattle.lane_c.proofs.sender.TxLaneC.begin.Goals as goal

same : (c : goal.After-self-1) → c.self.inside.link.params ≡ c.args.self.now.params
same c = ap (λ (s : Sender). s.params) c.self.view_is

not_b : (c : goal.After-self-1) → c.args.self.now.params.mode ≢ B
not_b c = let P : Params → Type 0 = λ p. p.mode ≢ B in subst P (same c) c.self.invariant.0

mode : (c : goal.After-self-1) → c.params-mode.result.mode ≡ c.args.self.now.params.mode
mode c = ap (λ (p : Params). p.mode) (c.params-mode.ensures.same ∙ c.shape.ensures.same ∙ same c)

some : (c : goal.After-self-1) → 1 ≤ c.args.self.now.params.e
some c =
    let P : Params → Type 0 = λ p. broken_law p ≡ None in
    some-multiblocks c.args.self.now.params (subst P (c.shape.ensures.same
    ∙ same c) c.params-mode.ensures.legal) (not_b c)

check_is : (c : goal.After-self-1) → c.if-first.check ≡ check_due c.args.first c.args.self.now
    c.args.self.now.params
check_is c = elim c.if-first.branch [
  | then-first w ↦ rw w.if-first.true w.check-is
  | else-first w ↦ rw w.if-first.false (w.check-is ∙ w.check_of-check.ensures.check
      ∙ ap₂ (λ m (s : Sender). value (check m (payload_bits s.payload))) (mode c) c.self.view_is)
]

pub returns-clause-ready : goal.returns-clause-ready
returns-clause-ready c = λ sent on.
    let now : Sender = c.args.self.now in
    let size : length now.payload ≡ 32 = ap (λ (s : Sender). length s.payload) (sym c.self.view_is)
    ∙ c.self.told in
    let is : bits 32 c.sync_word-self-inside.result ≡ sync_word now.params.mode
    (check_due c.args.first now now.params) 0 (c.args.place + 32 == period now.params) =
    c.sync_word-self-inside.ensures ∙ ap₂ (λ m k. sync_word m k 0
    (c.args.place + 32 == c.args.period)) (mode c) (check_is c)
    ∙ ap (λ n. sync_word now.params.mode (check_due c.args.first now now.params) 0
    (c.args.place + 32 == n)) c.requires.period in
    let Q : Sender → Type 0 = λ s. IsReady (record s { word = c.sync_word-self-inside.result })
    now.params sent c.args.place in
    subst Q (sym c.self.view_is) (begun now now.params sent c.args.place
    c.sync_word-self-inside.result c.args.first (not_b c)
    (some c) size c.requires.follows c.requires.begins on is)
