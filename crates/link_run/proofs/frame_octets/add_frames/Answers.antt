use Rattle.std.proofs.Common.{◌≡◌, ◌<◌, ◌≤◌, ◌+◌, ◌-◌, ◌*◌, ◌/◌, ℕ, length, sym, ap, ◌∙◌, arith}
use Rattle.std.proofs.Math.Nat.{mul-le-mul_right}
use Rattle.std.proofs.lemmas.Nat.{div_below, div-mul-add}
use Rattle.link_run.specs.kept.Handed.{with_frames}
use Rattle.link_run.proofs.FrameOctets.{frame-added, frame-within, whole-added}
use Rattle.link_run.proofs.Handing.{small-frames, small-room}
use Rattle.link_run.proofs.frame_octets.add_frames.Given.{Over}
use Rattle.link_run.proofs.frame_octets.add_frames.Goals as goal

pub overflow_mul-all : goal.overflow_mul-all
overflow_mul-all g c =
    let all : ℕ = length c.args.handed.now * c.args.size in
    let some : 1 ≤ g.n = c.requires.0 in
    let most : 1 * all ≤ g.n * all = mul-le-mul_right all some in
    let long = c.requires.1.1.0 in
    omega arith

pub loop-from-init : goal.loop-from-init
loop-from-init g c =
    let all : ℕ = length c.args.handed.now * c.args.size in
    let none : 0 ≡ 0 * all = omega arith in
    let sum : 0 ≡ 0 * all + 0 = omega arith in
    let first : 0 ≡ 0 / all = sym (ap (λ (k : ℕ). k / all) sum
    ∙ div-mul-add 0 all 0 c.requires.1.0) in
    record {
      whole = none ∙ ap (λ (k : ℕ). k * all) first;
      most = omega arith;
      is = ap (λ (k : ℕ).
          with_frames c.args.octets.now c.args.size all k c.args.handed.now) first;
    }

-- the frames before this one
before : (octets all from n : ℕ) → 0 < all → octets ≡ n * all → from < octets → from / all < n
before octets all from n some long inside =
    let below : from < n * all = omega arith in
    div_below from all n some below

on : (octets all from n : ℕ) → 0 < all → octets ≡ n * all → from < octets
    → from ≡ from / all * all → from + all ≤ octets
on octets all from n some long inside whole =
    let more = frame-within (from / all) n all (before octets all from n some long inside) in
    omega arith

pub slice_bounds-add_octets-end : goal.slice_bounds-add_octets-end
slice_bounds-add_octets-end g c =
    let all : ℕ = length c.args.handed.now * c.args.size in
    let within = on (length c.args.octets.now) all c.loop-from.from g.n c.requires.1.0
    c.requires.1.1.0 c.loop-from-test.true c.loop-from.invariant.whole in
    omega arith

pub add_octets-requires-clause-small : goal.add_octets-requires-clause-small
add_octets-requires-clause-small g c =
    let all : ℕ = length c.args.handed.now * c.args.size in
    let i : ℕ = c.loop-from.from / all in
    let few = c.requires.1.1.1.0 in
    let within = frame-within i g.n c.args.size
    (before (length c.args.octets.now) all c.loop-from.from g.n c.requires.1.0
    c.requires.1.1.0 c.loop-from-test.true) in
    small-room (i * c.args.size) c.args.size c.loop-from.handed (omega arith)
    (small-frames c.args.octets.now c.args.size all i (length c.args.handed.now)
    c.args.handed.now c.loop-from.handed
    (λ k. let octet = c.type_inv.octets k in omega arith) c.requires.1.1.1.1
    c.loop-from.invariant.is)

pub loop-from-smaller : goal.loop-from-smaller
loop-from-smaller g c =
    let some = c.requires.1.0 in
    let inside = c.loop-from-test.true in
    omega arith

pub loop-from-preserved : goal.loop-from-preserved
loop-from-preserved g c =
    let all : ℕ = length c.args.handed.now * c.args.size in
    let from : ℕ = c.loop-from.from in
    let i = c.loop-from.invariant in
    let cut : from + all - from ≡ all = omega arith in
    record {
      whole = whole-added from all c.requires.1.0 i.whole;
      most = on (length c.args.octets.now) all from g.n c.requires.1.0 c.requires.1.1.0
          c.loop-from-test.true i.whole;
      is = frame-added c.args.octets.now c.args.size all from (from + all - from)
          c.args.handed.now c.loop-from.handed c.add_octets.new.handed c.requires.1.0 i.whole cut
          i.is c.add_octets.ensures.handed;
    }

handed-is : (g : Over) (c : goal.After-loop-from g) → c.loop-from.handed
    ≡ with_frames c.args.octets.now c.args.size (length c.args.handed.now * c.args.size) g.n
    c.args.handed.now
handed-is g c =
    let all : ℕ = length c.args.handed.now * c.args.size in
    let most = c.loop-from.invariant.most in
    let end = c.loop-from-test.false in
    let long : c.loop-from.from ≡ length c.args.octets.now = omega arith in
    let none : g.n * all ≡ g.n * all + 0 = omega arith in
    c.loop-from.invariant.is
    ∙ ap (λ (k : ℕ). with_frames c.args.octets.now c.args.size all k c.args.handed.now)
    (ap (λ (k : ℕ). k / all) (long ∙ c.requires.1.1.0 ∙ none)
    ∙ div-mul-add g.n all 0 c.requires.1.0)

pub returns-clause-handed : goal.returns-clause-handed
returns-clause-handed g c = handed-is g c

pub returns-clause-small : goal.returns-clause-small
returns-clause-small g c =
    small-frames c.args.octets.now c.args.size (length c.args.handed.now * c.args.size) g.n
    (length c.args.handed.now) c.args.handed.now c.loop-from.handed
    (λ k. let octet = c.type_inv.octets k in omega arith) c.requires.1.1.1.1 (handed-is g c)
