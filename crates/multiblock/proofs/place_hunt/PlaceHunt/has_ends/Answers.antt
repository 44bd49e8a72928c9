use Rattle.std.proofs.Common.{◌≡◌, ◌+◌, ◌-◌, ◌*◌, ◌/◌, ◌==◌, ◌%◌, ◌^◌, ◌<◌, ◌∙◌, ℕ, sym, ap, arith, bit_and}
use Rattle.std.specs.Prelude.{◌&&◌, not}
use Rattle.std.specs.Int.{bit_at}
use Rattle.std.proofs.lemmas.Nat.Bits.{shr_and_one}
use Rattle.jesd_base.specs.Bits.{add}
use Rattle.multiblock.specs.Places.{pattern_size}
use Rattle.multiblock.specs.kept.Hunts.{Kept, sync_bit, ends_of}
use Rattle.multiblock.proofs.Patterns.{ends-step, differ, agree}
use Rattle.multiblock.proofs.place_hunt.PlaceHunt.has_ends.Goals as goal

pub returns-then-end-wanted : goal.returns-then-end-wanted
returns-then-end-wanted c =
    let now = c.args.self.now in
    let n : ℕ = pattern_size now.e in
    let j : ℕ = c.loop-j.j in
    let x : (bit_and (c.aged.result / 2 ^ c.args.rest) 1 == 1) ≡ sync_bit now c.args.rest (9 + 32 * (n - 1 - j)) =
    ap (λ t. t == 1) (shr_and_one c.aged.result c.args.rest) ∙ ap (λ h. bit_at h c.args.rest == 1) c.aged.ensures
    ∙ ap (λ k. sync_bit now c.args.rest (9 + 32 * (k - 1 - j))) c.size-size.ensures.size in
    let low : j < n = rw (← c.size-size.ensures.size) (omega arith) in
    let same : c.self.inside.e ≡ now.e = ap (λ (k : Kept). k.e) c.self.view_is in
    differ _ _ _ c.if-end-wanted.true
    ∙ (λ i. not (add (x i) (j % same i == c.args.m)) && ends_of now.e c.args.m (sync_bit now c.args.rest) (j + 1) (n - (j + 1)))
    ∙ sym (ends-step now.e c.args.m (sync_bit now c.args.rest) j n low) ∙ sym c.loop-j.invariant

pub returns : goal.returns
unfolding ends_of
returns c =
    let now = c.args.self.now in
    let z : pattern_size now.e - c.loop-j.j ≡ 0 = rw (← c.size-size.ensures.size) (omega arith) in
    sym (c.loop-j.invariant ∙ ap (ends_of now.e c.args.m (sync_bit now c.args.rest) c.loop-j.j) z)

pub loop-j-preserved : goal.loop-j-preserved
loop-j-preserved c =
    let now = c.args.self.now in
    let n : ℕ = pattern_size now.e in
    let j : ℕ = c.loop-j.j in
    let x : (bit_and (c.aged.result / 2 ^ c.args.rest) 1 == 1) ≡ sync_bit now c.args.rest (9 + 32 * (n - 1 - j)) =
    ap (λ t. t == 1) (shr_and_one c.aged.result c.args.rest) ∙ ap (λ h. bit_at h c.args.rest == 1) c.aged.ensures
    ∙ ap (λ k. sync_bit now c.args.rest (9 + 32 * (k - 1 - j))) c.size-size.ensures.size in
    let low : j < n = rw (← c.size-size.ensures.size) (omega arith) in
    let same : c.self.inside.e ≡ now.e = ap (λ (k : Kept). k.e) c.self.view_is in
    c.loop-j.invariant ∙ ends-step now.e c.args.m (sync_bit now c.args.rest) j n low
    ∙ sym (λ i. not (add (x i) (j % same i == c.args.m)) && ends_of now.e c.args.m (sync_bit now c.args.rest) (j + 1) (n - (j + 1)))
    ∙ agree _ _ _ c.if-end-wanted.false
