use Rattle.std.proofs.Common.{◌≡◌, ◌≢◌, ◌≤◌, ◌<◌, ◌-◌, ◌+◌, ◌/◌, ◌%◌, ◌==◌, ◌&&◌, min, if◌then◌else◌, Bool, false, Some, suc, length, refl, sym, ◌∙◌, ap, ap₂, arith, subst}
use Rattle.std.proofs.lemmas.Bool.{true≢false}
use Rattle.jesd_base.specs.Bits.{bits}
use Rattle.jesd_base.proofs.BitLemmas.{bits_length}
use Rattle.link_params.specs.declared.fields.Mode.TheVariants.{B}
use Rattle.link_params.specs.declared.fields.Params.{Params}
use Rattle.link_params.specs.Lanes.{Taken}
use Rattle.link_params.specs.Numbers.{period}
use Rattle.multiblock.specs.Places.{next_place}
use Rattle.lane_c.specs.declared.receiver.Held.{Held}
use Rattle.lane_c.specs.Locking.{bits_taken}
use Rattle.lane_c.specs.kept.Receivers.{start_at}
use Rattle.lane_c.proofs.Dropping.{as-read, dropping, not-started}
use Rattle.lane_c.proofs.Entering.{does-on}
use Rattle.lane_c.proofs.Firsts.{first-now}
use Rattle.lane_c.proofs.Moving.{Moves, counted-on, next-on}
use Rattle.lane_c.proofs.Placing.{place-at, place-ends, place-low}
use Rattle.lane_c.proofs.Reporting.{inside-unstarted, place-held}
use Rattle.lane_c.proofs.Ticking.{entries-unstarted}
use Rattle.lane_c.proofs.SenderSteps.{period-c, some-multiblocks}
use Rattle.lane_c.proofs.receiver.Held.take.Goals.{else-newly_lost-via-then-newly_lost+else-not-order, else-newly_lost-via-else-newly_lost}
use Rattle.lane_c.proofs.receiver.Held.take.Goals as goal

pub returns : goal.returns
returns c = λ p t lane taken h words params timing on.
    let x : Taken = record { order = c.args.order.now; word = bits 66 c.args.bits } in
    let size : length x.word ≡ 66 = bits_length 66 c.args.bits in
    let is = c.params-params.ensures.same ∙ c.shape-shape.ensures.same ∙ params in
    let not_b : p.mode ≢ B = subst (λ (q : Params). q.mode ≢ B) params c.requires.mode in
    let some : 1 ≤ p.e = subst (λ (q : Params). 1 ≤ q.e) params
    (some-multiblocks c.args.link.now.params c.shape-shape.ensures.legal c.requires.mode) in
    let low = place-low p.e h.from (bits_taken taken) h.at h.least in
    let at = place-at p h.at.remainder h.blocks c.args.self.now.place not_b h.next in
    let whole : c.period-period.result ≡ period p = c.period-period.ensures.value
    ∙ ap period (c.shape-shape.ensures.same ∙ params) in
    let ends = place-ends p h.at h.blocks c.args.self.now.place
    (c.period-period.result - 1) not_b some low h.next (ap (λ k. k - 1) whole) in
    let mode = ap (λ (q : Params). q.mode) is in
    let read = c.read-newly_lost.ensures.read p t taken x h refl mode at ends in
    let lost = c.read-newly_lost.ensures.lost p t taken x h refl mode at ends in
    let old : Held = c.args.self.now in
    let mid : Held = c.read-newly_lost.new.self in
    let new : Held = c.begin.new.self in
    let kept = c.read-newly_lost.ensures.same in
    let same = c.begin.ensures.same in
    let stood : mid.place ≡ old.place = ap (λ (k : Held). k.place) kept in
    let counted : new.after ≡ c.counted-self.result = ap (λ (k : Held). k.after) same in
    let first : Bool = c.leaves_first-first.result in
    let moves : Moves old new p t taken x h = record {
      size = size;
      same = ap (λ (k : Held). k.rest) same ∙ ap (λ (k : Held). k.rest) kept;
      read = as-read mid new p _ _ _ read (ap (λ (k : Held). k.window) same)
          (ap (λ (k : Held). k.rest) same) (ap (λ (k : Held). k.loss) same)
          (ap (λ (k : Held). k.pipeline) same);
      newly = c.read-newly_lost.result.1;
      is = lost ∙ ap (λ l. if old.loss.lost then false else l)
          (sym (ap (λ (k : Held). k.loss.lost) same));
      armed = λ newly. elim c.else-newly_lost.branch [
        | else-newly_lost-via-then-newly_lost+else-not-order w ↦ w.if-not-order.false
        | else-newly_lost-via-else-newly_lost w ↦ absurd
            (true≢false (sym newly ∙ w.if-newly_lost.false))
      ];
      count = counted
          ∙ counted-on h.blocks old.after c.counted-self.result h.count
          (c.counted-self.ensures ∙ ap (λ (k : Held). min (k.after + 1) 96) kept);
      next = ap (λ (k : Held). k.place) same
          ∙ next-on (next_place p.e h.at.remainder) h.blocks (period p) old.place
          c.place_after-self.result (omega (arith, period-c p not_b)) h.next
          (λ lt. c.place_after-self.ensures.next
          (subst (λ d. mid.place < d) (sym whole) (subst (λ n. n < period p) (sym stood) lt))
          ∙ ap₂ (λ n d. suc n % d) stood whole);
    } in
    does-on old new p t lane taken x c.read-newly_lost.result.0 h words moves
    (λ many. c.read-newly_lost.ensures.cell p t taken h many at)
    first c.step.result on
    (c.leaves_first-first.ensures ∙ ap (λ (q : Params). (old.place % 32 == 0)
    && (old.place / 32 == 2 % q.e)) is
    ∙ first-now p h.at h.blocks old.place not_b some low h.next)
    (λ b begun. c.begin.ensures.stays b (ap (λ (k : Held). k.start) kept ∙ begun))
    (λ none yes1. c.begin.ensures.begins (ap (λ (k : Held). k.start) kept ∙ none)
    (ap (λ n. first && ((n == 96) && c.args.order.now.armed)) (sym counted) ∙ yes1)
    ∙ ap (λ u. Some (start_at u c.args.order.now.offset)) timing)
    (λ none no1. c.begin.ensures.waits (ap (λ (k : Held). k.start) kept ∙ none)
    (ap (λ n. first && ((n == 96) && c.args.order.now.armed)) (sym counted) ∙ no1))
    c.step.ensures.waits c.step.ensures.started

pub returns-then-not-order : goal.returns-then-not-order
returns-then-not-order c = λ p t lane taken h words params timing on.
    let x : Taken = record { order = c.args.order.now; word = bits 66 c.args.bits } in
    let size : length x.word ≡ 66 = bits_length 66 c.args.bits in
    let is = c.params-params.ensures.same ∙ c.shape-shape.ensures.same ∙ params in
    let not_b : p.mode ≢ B = subst (λ (q : Params). q.mode ≢ B) params c.requires.mode in
    let some : 1 ≤ p.e = subst (λ (q : Params). 1 ≤ q.e) params
    (some-multiblocks c.args.link.now.params c.shape-shape.ensures.legal c.requires.mode) in
    let low = place-low p.e h.from (bits_taken taken) h.at h.least in
    let at = place-at p h.at.remainder h.blocks c.args.self.now.place not_b h.next in
    let whole : c.period-period.result ≡ period p = c.period-period.ensures.value
    ∙ ap period (c.shape-shape.ensures.same ∙ params) in
    let ends = place-ends p h.at h.blocks c.args.self.now.place
    (c.period-period.result - 1) not_b some low h.next (ap (λ k. k - 1) whole) in
    let mode = ap (λ (q : Params). q.mode) is in
    let read = c.read-newly_lost.ensures.read p t taken x h refl mode at ends in
    let lost = c.read-newly_lost.ensures.lost p t taken x h refl mode at ends in
    let held = place-held c.args.self.now p t taken h words in
    let unstarted = not-started c.args.self.now p t taken x h on c.if-not-order.true in
    let rest = ap (λ (k : Held). k.rest) c.read-newly_lost.ensures.same in (
      dropping c.args.self.now _ p t taken x h words size rest
          (as-read _ _ p _ _ _ read refl refl refl refl)
          (sym c.if-newly_lost.true ∙ lost) c.if-not-order.true,
      entries-unstarted p t lane taken h.at held unstarted,
      inside-unstarted p t lane taken h.at held unstarted,
    )
