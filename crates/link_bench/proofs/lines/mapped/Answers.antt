use Rattle.std.proofs.Common.{◌≡◌, ℕ, [], ◌+◌, ◌*◌, ◌-◌, ◌<◌, ◌∙◌, length, take, drop, sym, ap, ap₂, arith}
use Rattle.sample_map.specs.Layout.{IsFrame}
use Rattle.link_bench.specs.Lines.{pieces_of, octets_line}
use Rattle.link_bench.proofs.LineLemmas.{frames-more, slice-below, written-back, frame-within}
use Rattle.link_bench.proofs.lines.mapped.Goals as goal

pub loop-frame-init : goal.loop-frame-init
unfolding pieces_of
loop-frame-init c =
    record {
      octets = c.in_ok-octets.ensures
          ∙ ap₂ (λ a b. a * b) c.lanes.ensures.value c.frame_octets.ensures.value;
      digits = c.in_ok-digits.ensures ∙ ap (λ a. 2 * a) c.frame_octets-2.ensures.value;
      lines = ([], tt, c.new-text.ensures.items);
    }

pub map-requires-clause-below : goal.map-requires-clause-below
map-requires-clause-below c = λ r lt.
    let n = c.new-layout.ensures in
    let f : ℕ = c.loop-frame.frame in
    let size : ℕ = c.frame_words-size.result in
    let whole = c.frame_words-size.ensures.value in
    let some : 0 < size = omega arith in
    let within = frame-within f size (length c.args.words.now) some c.loop-frame-test.true in
    let low : r < c.args.shape.now.m * c.args.shape.now.s = rw n at lt in
    let in_slice : r < (f + 1) * size - f * size = omega arith in
    let in_words : f * size + r < length c.args.words.now = omega arith in
    rw n (slice-below c.args.words.now (f * size) ((f + 1) * size - f * size) _ r c.requires.below
    in_slice in_words)

pub loop-frame-preserved : goal.loop-frame-preserved
loop-frame-preserved c =
    let i = c.loop-frame.invariant in
    let n = c.new-layout.ensures in
    let frame : IsFrame c.args.shape.now
    (take
    ((c.loop-frame.frame + 1) * c.frame_words-size.result
    - c.loop-frame.frame * c.frame_words-size.result)
    (drop (c.loop-frame.frame * c.frame_words-size.result) c.args.words.now)) c.map.new.out =
    rw n at c.map.ensures in
    let len : length c.loop-frame.octets.items ≡ c.loop-frame.octets.len =
    ap length (sym c.deref_mut.ensures.value) ∙ c.deref_mut.ensures.len in
    let back = written-back c.loop-frame.octets.len c.map.new.out c.loop-frame.octets.items len
    (frame.whole ∙ sym i.octets) in
    let written : c.deref.result.now ≡ c.map.new.out = c.deref.ensures.value ∙ back in
    let size = c.frame_words-size.ensures.value in
    let room : length c.loop-frame.digits.items ≡ c.loop-frame.digits.len =
    ap length (sym c.deref_mut-in-loop-frame.ensures.value)
    ∙ c.deref_mut-in-loop-frame.ensures.len in
    let kept : length c.push_octets_line.new.digits ≡ length c.loop-frame.digits.items =
    c.push_octets_line.auto.digits ∙ ap length c.deref_mut-in-loop-frame.ensures.value in
    let digits = written-back c.loop-frame.digits.len c.push_octets_line.new.digits
    c.loop-frame.digits.items room kept in
    record {
      octets = ap length back ∙ frame.whole;
      digits = ap length digits ∙ kept ∙ i.digits;
      lines = frames-more (IsFrame c.args.shape.now) (octets_line c.args.shape.now)
          (c.args.shape.now.m * c.args.shape.now.s) c.loop-frame.frame c.args.words.now
          c.loop-frame.text.items c.push_octets_line.new.text.items c.map.new.out i.lines
          (rw (← size) frame) (rw (← written) c.in_ok-push_octets_line.ensures);
    }
