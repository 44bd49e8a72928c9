use Rattle.std.proofs.Common.{◌≡◌, ℕ, List, ◌+◌, ◌*◌, ◌/◌, ◌%◌, ◌^◌, ◌∙◌, ◌≤◌, ◌<◌, length, map, take, drop, rules, ap, refl, sym, arith}
use Rattle.scenario.specs.Plans.{Frames, Ramp, frame_of_source, numbers_from, source_in}
use Rattle.scenario.proofs.SourceLemmas.{as-planned, ramp-frames, repeated-frames, some-frames}
use Rattle.scenario.proofs.source.source_frames.Goals as goal

pub returns-in-Ramp : goal.returns-in-Ramp
returns-in-Ramp g c =
    let p = c.args.s.now.shape in
    let start : ℕ = c.in-Ramp.start in
    let step : ℕ = c.in-Ramp.step in
    let bits : ℕ = c.word_bits.result in
    let n : ℕ = c.args.n in
    let words : List ℕ = c.ramp_from.new.words in
    let long : length words ≡ length c.args.words.now = c.ramp_from.auto.words in
    let written : words ≡ map (λ k. (start + step * (n * c.frame_words-size.result + k)) % 2 ^ bits)
    (numbers_from 0 (length c.args.words.now)) =
    c.ramp_from.ensures (n * c.frame_words-size.result) refl in
    let each : words ≡ map (λ k. (start + step * (n * (p.m * p.s) + k)) % 2 ^ bits)
    (numbers_from 0 (length words)) =
    rw long (rw c.frame_words-size.ensures.value at written) in
    let source : (i : ℕ) → i < g.count → take (p.m * p.s) (drop (i * (p.m * p.s)) words)
    ≡ frame_of_source p (source_in c.args.s.now.input) (n + i) =
    λ i lt. ramp-frames p start step n bits g.count words c.word_bits.ensures.value each
    (long ∙ c.requires.0) i lt
    ∙ ap (λ input. frame_of_source p (source_in input) (n + i)) (sym c.in-Ramp.is) in
    record {
      source = source;
      plan = λ plan read i lt. as-planned c.args.s.now (n + i)
          (take (p.m * p.s) (drop (i * (p.m * p.s)) words)) (source i lt) plan read;
    }

pub repeated_frames-requires : goal.repeated_frames-requires
repeated_frames-requires g c =
    let p = c.args.s.now.shape in
    let size : ℕ = p.m * p.s in
    let frames : List ℕ = c.in-Frames.frames.items in
    let whole : length frames % size ≡ 0 = rw c.in-Frames.is at c.args.s.now.whole_frames in
    let has = rw c.in-Frames.is at c.requires.1.0 in
    let some : 1 ≤ length frames = search rules in
    let fit = some-frames size (length frames) whole some in
    let value : c.frame_words-size.result ≡ size = c.frame_words-size.ensures.value in
    let long : c.frame_words-size.result ≤ length c.deref.result.now =
    rw (value, c.deref.ensures.value) fit.0 in (
      c.frame_words-size.ensures.some,
      (c.requires.0 ∙ ap (λ m. g.count * m) (sym value), (c.requires.1.1, long)),
    )

pub returns-in-Frames : goal.returns-in-Frames
returns-in-Frames g c =
    let p = c.args.s.now.shape in
    let size : ℕ = p.m * p.s in
    let n : ℕ = c.args.n in
    let words : List ℕ = c.repeated_frames.new.words in
    let frames : List ℕ = c.in-Frames.frames.items in
    let whole : length frames % size ≡ 0 = rw c.in-Frames.is at c.args.s.now.whole_frames in
    let has = rw c.in-Frames.is at c.requires.1.0 in
    let some : 1 ≤ length frames = search rules in
    let fit = some-frames size (length frames) whole some in
    let each : (i : ℕ) → i < g.count → take size (drop (i * size) words)
    ≡ take size (drop ((n + i) % (length frames / size) * size) frames) =
    rw (c.frame_words-size.ensures.value, c.deref.ensures.value) at c.repeated_frames.ensures in
    let source : (i : ℕ) → i < g.count → take size (drop (i * size) words)
    ≡ frame_of_source p (source_in c.args.s.now.input) (n + i) =
    λ i lt. repeated-frames p frames words n g.count fit.1 each i lt
    ∙ ap (λ input. frame_of_source p (source_in input) (n + i)) (sym c.in-Frames.is) in
    record {
      source = source;
      plan = λ plan read i lt. as-planned c.args.s.now (n + i)
          (take size (drop (i * size) words)) (source i lt) plan read;
    }
