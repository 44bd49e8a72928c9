use Rattle.std.proofs.Common.{◌≡◌, [], ◌+◌, ◌*◌, ◌-◌, ◌∙◌, length, take, drop, sym, ap, ap₂}
use Rattle.sample_map.specs.Layout.{AreWords}
use Rattle.link_bench.specs.Lines.{pieces_of, frame_line}
use Rattle.link_bench.proofs.LineLemmas.{frames-more, written-back}
use Rattle.link_bench.proofs.lines.unmapped.Goals as goal

pub loop-frame-init : goal.loop-frame-init
unfolding pieces_of
loop-frame-init c =
    record {
      words = c.in_ok-words.ensures ∙ c.frame_words.ensures.value;
      lines = ([], tt, c.new-text.ensures.items);
    }

pub loop-frame-preserved : goal.loop-frame-preserved
loop-frame-preserved c =
    let i = c.loop-frame.invariant in
    let n = c.new-layout.ensures in
    let size = ap₂ (λ a b. a * b) c.lanes.ensures.value c.frame_octets.ensures.value in
    let frame : AreWords c.args.shape.now
    (take ((c.loop-frame.frame + 1) * (c.lanes.result * c.frame_octets.result)
    - c.loop-frame.frame * (c.lanes.result * c.frame_octets.result))
    (drop (c.loop-frame.frame * (c.lanes.result * c.frame_octets.result)) c.args.octets.now))
    c.unmap.new.words = rw n at c.unmap.ensures in
    let len : length c.loop-frame.words.items ≡ c.loop-frame.words.len =
    ap length (sym c.deref_mut.ensures.value) ∙ c.deref_mut.ensures.len in
    let back = written-back c.loop-frame.words.len c.unmap.new.words c.loop-frame.words.items len
    (frame.whole ∙ sym i.words) in
    let written : c.deref.result.now ≡ c.unmap.new.words = c.deref.ensures.value ∙ back in
    record {
      words = ap length back ∙ frame.whole;
      lines = frames-more (AreWords c.args.shape.now) (frame_line c.args.shape.now)
          (c.args.shape.now.l * c.args.shape.now.f) c.loop-frame.frame c.args.octets.now
          c.loop-frame.text.items c.push_frame_line.new.text.items c.unmap.new.words i.lines
          (rw (← size) frame) (rw (← written) c.in_ok-push_frame_line.ensures);
    }
