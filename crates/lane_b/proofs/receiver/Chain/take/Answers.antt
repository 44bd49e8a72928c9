use Rattle.std.proofs.Common.{◌∙◌, sym, refl, Some}
use Rattle.lane_b.specs.Locking.{bits_taken, lock_at, since_start}
use Rattle.lane_b.proofs.StageLemmas.{next_char, goes_on, stays, starts_now, drops}
use Rattle.lane_b.proofs.receiver.Chain.take.Goals as goal

pub returns-in-Some : goal.returns-in-Some
returns-in-Some c = λ taken tens o.
    let old = c.args.self.now in
    let e = c.next-reading.ensures in
    let n = next_char old.chars c.next-reading.new.self c.args.order.now c.args.bits c.next-reading.result e.rest e.last e.rd e.reading in
    let reads = c.push.ensures c.args.link.now.params c.args.lane (since_start (lock_at (bits_taken taken) o.place)) (rw c.in-Some.is at o.started).has_read in
    goes_on old _ c.args.link.now.params c.args.link.now.timing c.args.lane taken _ c.next-reading.result tens o n
    c.in-Some.start c.push.new.self c.push.result c.in-Some.is refl reads

pub returns-in-None : goal.returns-in-None
returns-in-None c = λ taken tens o.
    let old = c.args.self.now in
    let e = c.next-reading.ensures in
    let n = next_char old.chars c.next-reading.new.self c.args.order.now c.args.bits c.next-reading.result e.rest e.last e.rd e.reading in
    stays old (record { chars = c.next-reading.new.self; start = old.start }) c.args.link.now.params c.args.link.now.timing c.args.lane taken _ c.next-reading.result tens o n c.in-None.is c.in-None.is (sym c.is_comma.ensures ∙ c.if-is_comma.true)

pub returns-in-None-2 : goal.returns-in-None-2
returns-in-None-2 c = λ taken tens o.
    let old = c.args.self.now in
    let e = c.next-reading.ensures in
    let n = next_char old.chars c.next-reading.new.self c.args.order.now c.args.bits c.next-reading.result e.rest e.last e.rd e.reading in
    let b = c.begin.ensures in
    rw b.is (starts_now old (record { chars = c.next-reading.new.self; start = Some b.start }) c.args.link.now.params c.args.link.now.timing c.args.lane taken _ c.next-reading.result tens o n
    c.in-None.is (sym c.is_comma.ensures ∙ c.if-is_comma.false)
    b.start c.begin.result c.if-order.true refl b.offset b.inside b.has_read b.step_of)

pub returns-in-None-3 : goal.returns-in-None-3
returns-in-None-3 c = λ taken tens o.
    let old = c.args.self.now in
    let e = c.next-reading.ensures in
    let n = next_char old.chars c.next-reading.new.self c.args.order.now c.args.bits c.next-reading.result e.rest e.last e.rd e.reading in
    drops old (record { chars = c.next-reading.new.self; start = old.start }) c.args.link.now.params c.args.link.now.timing c.args.lane taken _ c.next-reading.result tens o n c.in-None.is (sym c.is_comma.ensures ∙ c.if-is_comma.false) c.if-order.false
