use Rattle.std.proofs.Common.{◌≡◌, ◌∙◌, [], ◌∷◌, length, drop, refl, sym, ap, arith, length-append, length-drop}
use Rattle.link_run.specs.kept.Waits.{Waits}
use Rattle.link_run.proofs.Filling.{filled, filling-more, filling-none, none-long}
use Rattle.link_run.proofs.waiting.Waiting.fill.Goals.{then-self-len, else-self-len}
use Rattle.link_run.proofs.waiting.Waiting.fill.Goals as goal

pub loop-self-init : goal.loop-self-init
loop-self-init c =
    let cells = sym (ap (λ (v : Waits). v.cells) c.self.view_is) in
    let room = ap (λ (v : Waits). v.room) c.self.view_is in
    let dropped = length-drop c.self.inside.next c.self.inside.cells.items in
    let within = c.self.invariant.1 in
    let capacity = c.self.invariant.2 in
    elim c.if-self-len.branch [
      | then-self-len w ↦
          let all : length (drop c.self.inside.next c.self.inside.cells.items) ≡ 0 =
          (let end = w.if-self-len.true in omega arith) in
          let none = cells ∙ none-long (drop c.self.inside.next c.self.inside.cells.items) all in
          let empty = ap length w.clear.ensures.items in
          rw w.self-inside-is (record {
            filling = filling-none c.args.self.now 0 w.clear.new.self.items c.args.end.now
                (none ∙ sym w.clear.ensures.items) (λ e. refl) (omega arith);
            within = omega arith;
            capacity = (let same = w.clear.ensures.capacity in omega arith);
            room = room;
          })
      | else-self-len w ↦
          rw w.self-inside-is (record {
            filling = filling-none c.args.self.now c.self.inside.next c.self.inside.cells.items
                c.args.end.now cells
                (λ e. let none = ap length (sym cells ∙ e) in
                let apart = w.if-self-len.false in absurd (apart (omega arith)))
                c.self.invariant.0;
            within = within;
            capacity = capacity;
            room = room;
          })
    ]

pub loop-self-preserved : goal.loop-self-preserved
loop-self-preserved c =
    let h = c.loop-self.invariant in
    let below = c.if-len-self.true in
    let items = c.push_reserved.ensures.items in
    let more = filling-more c.args.self.now c.loop-self.self-inside.next
    c.loop-self.self-inside.cells.items c.args.end.now c.loop-self.end c.pop.new.self c.pop.result
    c.pop.ensures.next c.pop.ensures.received c.pop.ensures.ring h.filling in
    record {
      filling = rw items more;
      within = (let long = ap length items in
          let joined = length-append c.loop-self.self-inside.cells.items (c.pop.result ∷ []) in
          omega arith);
      capacity = (let same = c.push_reserved.ensures.capacity in let fits = h.capacity in
          omega arith);
      room = h.room;
    }

pub returns-else-len-self : goal.returns-else-len-self
returns-else-len-self c =
    let h = c.loop-self.invariant in
    filled c.args.self.now _ c.loop-self.self-inside.next c.loop-self.self-inside.cells.items
    c.args.end.now c.loop-self.end h.filling refl h.room
    (λ some. let full = c.if-len-self.false in let room = h.room in omega arith)

pub returns-after-loop-self : goal.returns-after-loop-self
returns-after-loop-self c =
    let h = c.loop-self.invariant in
    filled c.args.self.now _ c.loop-self.self-inside.next c.loop-self.self-inside.cells.items
    c.args.end.now c.loop-self.end h.filling refl h.room
    (λ some. let over = c.loop-self-test.false in absurd (omega arith))
