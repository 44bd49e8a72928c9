use Rattle.std.proofs.Common.{◌≡◌, ◌*◌, ◌%◌, sym, ap, ◌∙◌, refl, inl, inr}
use Rattle.std.specs.Int.Bits.{bit_or}
use Rattle.std.proofs.lemmas.Bool.{cases_Bool}
use Rattle.jesd_base.specs.Bits.{bit}
use Rattle.lane_b.proofs.Counting.{counted-next, lost-over, lost-kept}
use Rattle.lane_b.proofs.loss.Loss.push.Goals as goal

pub returns-then-is_over : goal.returns-then-is_over
returns-then-is_over c = λ faults alignments h.
    let e : c.from.result ≡ bit c.args.fault = c.from.ensures ∙ elim (cases_Bool c.args.fault) [ inl t ↦ rw t refl | inr f ↦ rw f refl ] in
    counted-next _ _ faults alignments c.args.fault c.args.alignment (rw (← c.self.view_is) at h) (ap (bit_or (c.self.inside.faults * 2 % 65536)) e)
    c.misplaced_next-self-inside.ensures.value
    (lost-over c.self.inside.lost _ (sym c.is_over.ensures ∙ c.if-is_over.true))

pub returns-else-is_over : goal.returns-else-is_over
returns-else-is_over c = λ faults alignments h.
    let e : c.from.result ≡ bit c.args.fault = c.from.ensures ∙ elim (cases_Bool c.args.fault) [ inl t ↦ rw t refl | inr f ↦ rw f refl ] in
    counted-next _ _ faults alignments c.args.fault c.args.alignment (rw (← c.self.view_is) at h) (ap (bit_or (c.self.inside.faults * 2 % 65536)) e)
    c.misplaced_next-self-inside.ensures.value
    (lost-kept c.self.inside.lost _ (sym c.is_over.ensures ∙ c.if-is_over.false))
