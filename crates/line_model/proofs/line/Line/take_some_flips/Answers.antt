use Rattle.std.proofs.Common.{◌≡◌, ◌<◌, ◌+◌, ◌-◌, ℕ, List, ◌∙◌, ap, ap₂, sym, arith, length, get_or, take, inl, inr, vec_len}
use Rattle.std.specs.List.{AllPairs}
use Rattle.std.proofs.lemmas.Bool.{cases_lt}
use Rattle.std.proofs.lemmas.List.Kept.{AllPairs-from_increasing}
use Rattle.line_model.specs.LineBits.{is_flipped}
use Rattle.line_model.specs.kept.Lines.{Kept, Counted, arrived}
use Rattle.line_model.proofs.LineLemmas.{Passes, counts-on, mask-is}
use Rattle.line_model.proofs.line.Line.take_some_flips.Goals as goal

passes : (c : goal.After-self-2-1) → Passes c.self.inside.flips.items c.self.inside.next c.flips_below-to.result (c.self.inside.first + c.self.inside.width)
passes c =
    let flips : List ℕ = c.self.inside.flips.items in
    let v : c.deref.result.now ≡ flips = c.deref.ensures.value in
    let w = c.from.ensures in
    let to : ℕ = c.flips_below-to.result in
    let p = c.flips_below-to.ensures in
    let len : length c.deref.result.now ≡ length flips = ap length v in
    let ascending : AllPairs (λ (x y : ℕ). x < y) flips = AllPairs-from_increasing flips c.self.invariant.10 in
    let same : (k : ℕ) → get_or c.deref.result.now k 0 ≡ get_or flips k 0 = λ k. ap (λ l. get_or l k 0) v in
    record {
      least = p.least;
      most = let m = p.most in omega arith;
      below = λ k a b. let h = p.below k a b in let g = same k in omega arith;
      above = λ k a b.
          let h = p.next (omega arith) in
          let g = same to in
          elim (cases_lt to k) [
            | inl more ↦ let r = ascending to k 0 more b in omega arith
            | inr here ↦ let e : to ≡ k = omega arith in let r = ap (λ j. get_or flips j 0) e in omega arith
          ];
      small = λ more. let h = p.early (omega arith) in omega arith;
    }

pub returns-clause-counts : goal.returns-clause-counts
returns-clause-counts c = λ n counted.
    let here : Counted c.self.inside.flips.items c.self.inside.next c.self.inside.first n = rw (← c.self.view_is) at counted in
    let w = c.from.ensures in
    let m = c.min-self-inside.ensures in
    let width : c.self.inside.width ≡ c.args.self.now.set.width = ap (λ (k : Kept). k.set.width) c.self.view_is in
    rw (← width) (counts-on c.self.inside.flips.items c.self.inside.next c.flips_below-to.result c.self.inside.first c.self.inside.width n c.min-self-inside.result
    (passes c) here (λ small. omega arith))

pub returns-clause-mask : goal.returns-clause-mask
returns-clause-mask c = λ n counted p low.
    let here : Counted c.self.inside.flips.items c.self.inside.next c.self.inside.first n = rw (← c.self.view_is) at counted in
    let first : ℕ = c.self.inside.first in
    let to : ℕ = c.flips_below-to.result in
    let v : c.deref-2.result.now ≡ c.self.inside.flips.items = c.deref-2.ensures.value in
    let w = c.from.ensures in
    let e : first + c.from.result ≡ first + c.self.inside.width = omega arith in
    let width : c.self.inside.width ≡ c.args.self.now.set.width = ap (λ (k : Kept). k.set.width) c.self.view_is in
    mask-is c.self.inside.flips.items c.self.inside.next to first c.self.inside.width n c.self.inside.delay c.flip_mask-mask.result
    (passes c) here c.flip_mask-mask.ensures.none
    (λ before q below. c.flip_mask-mask.ensures.mask (λ i high. ap (λ l. is_flipped (take c.self.inside.next l) i) v ∙ before i (omega arith)) q below
    ∙ ap₂ (λ (l : List ℕ) (x : ℕ). arrived c.self.inside.delay (x - 1 - q) (is_flipped (take to l) (x - 1 - q))) v e)
    p (omega arith)
    ∙ ap (λ (k : Kept). arrived k.set.delay (n + k.set.width - 1 - p) (is_flipped k.set.flips (n + k.set.width - 1 - p))) c.self.view_is

pub invariant_of-self : goal.invariant_of-self
invariant_of-self c =
    let i = c.self.invariant in
    let w = c.from.ensures in
    let m = c.min-self-inside.ensures in
    let p = passes c in
    let len : length c.self.inside.flips.items ≡ vec_len c.self.inside.flips = sym (ap length c.deref.ensures.value) ∙ c.deref.ensures.len in
    let most = p.most in
    (i.0, i.1, i.2, i.3, i.4, i.5, i.6, i.7, omega arith, omega arith, i.10, λ k a b. let h = p.above k a (omega arith) in omega arith, i.12)
