use Rattle.std.proofs.Common.{◌≡◌, ℕ, List, ◌+◌, ◌*◌, ◌/◌, ◌%◌, ◌^◌, ◌∙◌, ◌≤◌, length, map, take, drop, rules, ap, ap₂, refl, sym}
use Rattle.scenario.specs.Plans.{frame_of_source, numbers_from, source_in}
use Rattle.scenario.proofs.SourceLemmas.{as-planned, repeated, some-frames}
use Rattle.scenario.proofs.source.source_frame.Goals as goal

pub returns-in-Ramp : goal.returns-in-Ramp
returns-in-Ramp c =
    let p = c.args.s.now.shape in
    let start : ℕ = c.in-Ramp.start in
    let step : ℕ = c.in-Ramp.step in
    let size : ℕ = length c.args.words.now in
    let bits : ℕ = c.word_bits.result in
    let n : ℕ = c.args.n in
    let written : c.ramp_from.new.words
    ≡ map (λ k. (start + step * (n * size + k)) % 2 ^ bits) (numbers_from 0 size) =
    c.ramp_from.ensures (n * size) refl in
    let source : c.ramp_from.new.words ≡ frame_of_source p (source_in c.args.s.now.input) n =
    written
    ∙ ap₂ (λ m b. map (λ k. (start + step * (n * m + k)) % 2 ^ b) (numbers_from 0 m))
    c.requires.size c.word_bits.ensures.value
    ∙ ap (λ i. frame_of_source p (source_in i) n) (sym c.in-Ramp.is) in
    record { source = source; plan = as-planned c.args.s.now n c.ramp_from.new.words source }

pub returns-in-Frames : goal.returns-in-Frames
returns-in-Frames c =
    let p = c.args.s.now.shape in
    let size : ℕ = p.m * p.s in
    let n : ℕ = c.args.n in
    let frames : List ℕ = c.in-Frames.frames.items in
    let whole : length frames % size ≡ 0 = rw c.in-Frames.is at c.args.s.now.whole_frames in
    let words = rw c.in-Frames.is at c.requires.some in
    let some : 1 ≤ length frames = search rules in
    let fit = some-frames size (length frames) whole some in
    let taken : c.repeated_frame.new.words
    ≡ take size (drop (n % (length frames / size) * size) frames) =
    rw (c.requires.size, c.deref.ensures.value) at c.repeated_frame.ensures fit.0 in
    let source : c.repeated_frame.new.words ≡ frame_of_source p (source_in c.args.s.now.input) n =
    taken
    ∙ repeated frames size n fit.1
    ∙ ap (λ i. frame_of_source p (source_in i) n) (sym c.in-Frames.is) in
    record { source = source; plan = as-planned c.args.s.now n c.repeated_frame.new.words source }
