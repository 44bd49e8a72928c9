use Rattle.std.proofs.Common.{◌≡◌, ◌+◌, ◌≤◌, ◌==◌, ◌∙◌, false, sym, ap, arith}
use Rattle.std.specs.Int.{bit_at}
use Rattle.std.proofs.lemmas.Nat.Bits.{bit_at-zero}
use Rattle.multiblock.specs.Places.{pattern_size}
use Rattle.multiblock.specs.kept.Hunts.{is_good, sync_bit, all_words}
use Rattle.multiblock.proofs.Masks.{all-phases}
use Rattle.multiblock.proofs.Patterns.{words-step, no-words}
use Rattle.multiblock.proofs.place_hunt.PlaceHunt.phases.Goals as goal

pub loop-n-init : goal.loop-n-init
unfolding all_words
loop-n-init c = λ r low. all-phases r low

pub returns-then-phases-eq0 : goal.returns-then-phases-eq0
returns-then-phases-eq0 c = λ r low.
    let now = c.args.self.now in
    let z = c.if-phases-eq0.true in
    let none : (bit_at 0 r == 1) ≡ false = ap (λ t. t == 1) (bit_at-zero r) in
    let step = words-step now r c.loop-n.n c.loop-n.phases c.word_phases-phases.result (c.word_phases-phases.ensures r low) (c.loop-n.invariant r low) in
    let within : c.loop-n.n + 1 ≤ pattern_size now.e = rw (← c.size-size.ensures.size) (omega arith) in
    none ∙ sym (no-words (is_good now r) (sync_bit now r) (c.loop-n.n + 1) (pattern_size now.e) within
    (sym step ∙ ap (λ m. bit_at m r == 1) z ∙ none))

pub loop-n-preserved : goal.loop-n-preserved
loop-n-preserved c = λ r low.
    words-step c.args.self.now r c.loop-n.n c.loop-n.phases c.word_phases-phases.result (c.word_phases-phases.ensures r low) (c.loop-n.invariant r low)
