use Rattle.std.proofs.Common.{◌≡◌, ◌+◌, ◌<◌, ◌∙◌, Bool, ℕ, sym, ap, arith}
use Rattle.jesd_base.specs.Search.{IsLeast}
use Rattle.multiblock.specs.Places.{pattern_size}
use Rattle.multiblock.specs.kept.Hunts.{Kept, sync_bit, ends_of}
use Rattle.multiblock.proofs.place_hunt.PlaceHunt.remainder.Goals as goal

pub returns-then-has_ends-clause-is : goal.returns-then-has_ends-clause-is
returns-then-has_ends-clause-is c =
    let now = c.args.self.now in
    let m : ℕ = c.loop-m.m in
    let test : ℕ → Bool = λ y. ends_of now.e y (sync_bit now c.args.rest) 0 (pattern_size now.e) in
    let same : c.self.inside.e ≡ now.e = ap (λ (k : Kept). k.e) c.self.view_is in
    let low : m < 0 + now.e = rw (← same) (omega arith) in
    let first : IsLeast test 0 m = record { from = omega arith; passes = sym c.has_ends.ensures ∙ c.if-has_ends.true; least = λ y from below. c.loop-m.invariant y below } in
    sym ((c.bits_and_numbers.ensures.least test now.e 0 m).1 first low)
