use Rattle.std.proofs.Common.{◌∙◌, ap, sym}
use Rattle.jesd_base.specs.Bits.{bits}
use Rattle.code_8b10b.proofs.Windows.{length-bits}
use Rattle.lane_b.proofs.TakenLemmas.{has_taken-hunts, has_taken-locks, has_taken-stays, has_taken-drops, has_taken-keeps}
use Rattle.lane_b.proofs.receiver.RxLaneB.tick.Goals as goal

pub returns-in-Some-clause-goes_on : goal.returns-in-Some-clause-goes_on
returns-in-Some-clause-goes_on c = λ p t lane taken gave h.
    let old = rw (← c.self.view_is) at h in
    has_taken-locks _ p t lane taken gave _ (length-bits 10 c.args.bits) old c.in-Hunting.hunt c.in-Some.lock c.after.result c.in-Hunting.is
    (λ bs hunted. sym (c.push.ensures.answer bs hunted) ∙ c.in-Some.is) c.after.ensures.rest (ap (bits 10) c.after.ensures.last) c.after.ensures.rd

pub returns-in_default-clause-goes_on : goal.returns-in_default-clause-goes_on
returns-in_default-clause-goes_on c = λ p t lane taken gave h.
    let old = rw (← c.self.view_is) at h in
    has_taken-hunts _ p t lane taken gave _ (length-bits 10 c.args.bits) old c.in-Hunting.hunt c.push.new.self c.in-Hunting.is
    (λ bs hunted. c.push.ensures.hunts_on bs hunted c.in_default.is)

pub returns-in-Stay-clause-goes_on : goal.returns-in-Stay-clause-goes_on
returns-in-Stay-clause-goes_on c = λ p t lane taken gave h.
    let old = rw (← c.self.view_is) at h in
    has_taken-stays _ p t lane taken gave _ (length-bits 10 c.args.bits) old c.in-Locked.chain c.in-Locked.is c.take.new.self (rw c.in-Stay.is at c.take.ensures)

pub returns-in-Keep-clause-goes_on : goal.returns-in-Keep-clause-goes_on
returns-in-Keep-clause-goes_on c = λ p t lane taken gave h.
    let old = rw (← c.self.view_is) at h in
    has_taken-keeps _ p t lane taken gave _ (length-bits 10 c.args.bits) old c.in-Locked.chain c.in-Locked.is c.keep.new.self c.take.new.self c.in-Keep.entry
    (rw c.in-Keep.is at c.take.ensures) c.keep.ensures.same c.keep.ensures.entry

pub returns-in-Drop-clause-goes_on : goal.returns-in-Drop-clause-goes_on
returns-in-Drop-clause-goes_on c = λ p t lane taken gave h.
    let old = rw (← c.self.view_is) at h in
    has_taken-drops _ p t lane taken gave _ (length-bits 10 c.args.bits) old c.in-Locked.chain c.in-Locked.is c.take.new.self c.resume.result
    (rw c.in-Drop.is at c.take.ensures) (rw c.rest-rest.ensures.same at c.resume.ensures)
