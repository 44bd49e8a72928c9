use Rattle.std.proofs.Common.{◌≡◌, ℕ, ◌<◌, ◌≤◌, ◌+◌, ◌-◌, ◌*◌, ◌/◌, ◌%◌, ◌∙◌, List, length, take, drop, ap, sym, inl, inr, arith}
use Rattle.std.proofs.Math.Nat.{div-add-mod}
use Rattle.std.proofs.lemmas.Bool.{cases_lt}
use Rattle.std.proofs.lemmas.List.{length-drop, length-take-le}
use Rattle.std.proofs.lemmas.Nat.{div-mul-add}
use Rattle.scenario.proofs.SourceLemmas.{frame-stays, frame-within, frame-written}
use Rattle.scenario.proofs.source.repeated_frames.Goals as goal

pub loop-i-preserved : goal.loop-i-preserved
loop-i-preserved g c =
    let size : ℕ = c.args.size in
    let i : ℕ = c.loop-i.i in
    let words : List ℕ = c.loop-i.words in
    let at : ℕ = i * size in
    let frames : List ℕ = c.args.frames.now in
    let same : length words ≡ length c.args.words.now = c.loop-i.auto.words in
    let below : i < length c.args.words.now / size = omega arith in
    let fits = frame-within i size (length c.args.words.now) below in
    let within : at ≤ length words = omega arith in
    let k : at + size - at ≡ size = omega arith in
    let rest : at + size - at ≤ length (drop at words) = omega (arith, length-drop at words) in
    let old : length (take (at + size - at) (drop at words)) ≡ size =
    length-take-le (at + size - at) (drop at words) rest ∙ k in
    let new : length c.repeated_frame.new.words ≡ size = c.repeated_frame.auto.words ∙ old in
    let is : c.repeated_frame.new.words
    ≡ take size (drop ((c.args.n + i) % (length frames / size) * size) frames) =
    rw old at c.repeated_frame.ensures c.requires.1.1.1 in
    λ j lt. elim (cases_lt j i) [
      | inl before ↦ frame-stays words c.repeated_frame.new.words size i j (at + size - at) within before
          ∙ c.loop-i.invariant j before
      | inr high ↦ let e : j ≡ i = omega arith in
          rw e (frame-written words c.repeated_frame.new.words size i (at + size - at) within new ∙ is)
    ]

pub returns : goal.returns
returns g c =
    let size : ℕ = c.args.size in
    let some : 0 < size = c.requires.0 in
    let e : length c.args.words.now ≡ g.count * size + 0 = c.requires.1.0 ∙ omega arith in
    let all : length c.args.words.now / size ≡ g.count =
    ap (λ x. x / size) e ∙ div-mul-add g.count size 0 some in
    λ i lt. let below : i < c.loop-i.i = omega arith in c.loop-i.invariant i below
