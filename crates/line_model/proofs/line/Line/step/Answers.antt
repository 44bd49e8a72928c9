use Rattle.std.proofs.Common.{◌≡◌, ◌∙◌, ◌++◌, true, false, ap, sym}
use Rattle.std.proofs.lemmas.Nat.{xor_lt}
use Rattle.jesd_base.specs.Bits.{bits}
use Rattle.line_model.specs.LineBits.{Settings, line_word}
use Rattle.line_model.specs.kept.Lines.{Kept}
use Rattle.line_model.proofs.LineLemmas.{Stepped, step-answers, step-goes-on, nothing}
use Rattle.line_model.proofs.line.Line.step.Goals as goal

stepped-dead : (c : goal.Then-self) → Stepped c.args.self.now c.put.new.self c.take_flips-mask.new.self c.args.word c.take_flips-mask.result c.carried-carried.result
stepped-dead c = record {
  low = c.requires;
  put_set = c.put.ensures.set;
  put_next = c.put.ensures.next;
  put_first = c.put.ensures.first;
  put_words = c.put.ensures.words;
  new_set = c.take_flips-mask.ensures.set;
  new_words = c.take_flips-mask.ensures.words;
  new_at = c.take_flips-mask.ensures.at;
  counts = c.take_flips-mask.ensures.counts;
  mask_is = c.take_flips-mask.ensures.mask;
  carried_is = c.carried-carried.ensures.is;
}

stepped : (c : goal.Else-self) → Stepped c.args.self.now c.put.new.self c.take_flips-mask.new.self c.args.word c.take_flips-mask.result c.carried-carried.result
stepped c = record {
  low = c.requires;
  put_set = c.put.ensures.set;
  put_next = c.put.ensures.next;
  put_first = c.put.ensures.first;
  put_words = c.put.ensures.words;
  new_set = c.take_flips-mask.ensures.set;
  new_words = c.take_flips-mask.ensures.words;
  new_at = c.take_flips-mask.ensures.at;
  counts = c.take_flips-mask.ensures.counts;
  mask_is = c.take_flips-mask.ensures.mask;
  carried_is = c.carried-carried.ensures.is;
}

pub returns-then-self-clause-answer : goal.returns-then-self-clause-answer
returns-then-self-clause-answer c = λ s sent h.
    let set = c.take_flips-mask.ensures.set ∙ c.put.ensures.set ∙ h.keeps_settings in
    let dead : s.dead ≡ true = sym (ap (λ (k : Kept). k.set.dead) c.self.view_is ∙ ap (λ (k : Settings). k.dead) set) ∙ c.if-self.true in
    nothing (sent ++ bits s.width c.args.word) s.flips s.width s.delay
    ∙ ap (line_word s.width (sent ++ bits s.width c.args.word) s.flips s.delay) (sym dead)

pub returns-then-self-clause-goes_on : goal.returns-then-self-clause-goes_on
returns-then-self-clause-goes_on c = λ s sent h.
    let b = c.bits_and_numbers.ensures in
    step-goes-on b.length b.value_of_bits b.bits_of_value b.below b.append c.args.self.now c.put.new.self c.take_flips-mask.new.self c.args.word
    c.take_flips-mask.result c.carried-carried.result s sent (stepped-dead c) h

pub returns-clause-answer : goal.returns-clause-answer
returns-clause-answer c = λ s sent h.
    let b = c.bits_and_numbers.ensures in
    let set = c.take_flips-mask.ensures.set ∙ c.put.ensures.set ∙ h.keeps_settings in
    let alive : s.dead ≡ false = sym (ap (λ (k : Kept). k.set.dead) c.self.view_is ∙ ap (λ (k : Settings). k.dead) set) ∙ c.if-self.false in
    step-answers b.length b.value_of_bits b.bits_of_value b.below b.append c.args.self.now c.put.new.self c.take_flips-mask.new.self c.args.word
    c.take_flips-mask.result c.carried-carried.result s sent (stepped c) h alive

pub returns-clause-below : goal.returns-clause-below
returns-clause-below c =
    let p = c.put.ensures.set in
    let t = c.take_flips-mask.ensures in
    xor_lt c.args.self.now.set.width c.take_flips-mask.result c.carried-carried.result
    (rw (← ap (λ (k : Settings). k.width) p) t.below) (rw (← ap (λ (k : Settings). k.width) (t.set ∙ p)) c.carried-carried.ensures.below)

pub returns-clause-goes_on : goal.returns-clause-goes_on
returns-clause-goes_on c = λ s sent h.
    let b = c.bits_and_numbers.ensures in
    step-goes-on b.length b.value_of_bits b.bits_of_value b.below b.append c.args.self.now c.put.new.self c.take_flips-mask.new.self c.args.word
    c.take_flips-mask.result c.carried-carried.result s sent (stepped c) h
