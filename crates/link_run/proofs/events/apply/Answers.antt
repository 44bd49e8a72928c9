use Rattle.std.proofs.Common.{◌≡◌, ◌≤◌, ◌-◌, ◌*◌, ◌∙◌, nat_le, nat_lt, true, ap, subst, sym}
use Rattle.std.proofs.lemmas.Bool.{and_parts, leb-true, ltb-true}
use Rattle.link_params.specs.Numbers.{period, width}
use Rattle.line_model.specs.LineBits.{Settings}
use Rattle.scenario.specs.Limits.{what_fits}
use Rattle.scenario.specs.declared.plan.What.{What}
use Rattle.link_run.proofs.EventLemmas.{delayed, died, reset-passes}
use Rattle.link_run.proofs.SameLanes.{keep-none}
use Rattle.link_run.proofs.events.apply.Goals as goal

pub returns-in-Reset-clause-goes_on : goal.returns-in-Reset-clause-goes_on
returns-in-Reset-clause-goes_on c s runs run =
    reset-passes c.args.lanes.now s runs c.in-Reset.field-0 c.args.what c.in-Reset.is run

pub returns-in-Delay-clause-goes_on : goal.returns-in-Delay-clause-goes_on
returns-in-Delay-clause-goes_on c s runs run =
    delayed c.set_delay.new.self s runs c.in-Delay.lane c.in-Delay.bits c.args.what c.in-Delay.is
    (c.set_delay.ensures.goes_on s runs run)

pub returns-in-Dead-clause-goes_on : goal.returns-in-Dead-clause-goes_on
returns-in-Dead-clause-goes_on c s runs run =
    died c.set_dead.new.self s runs c.in-Dead.lane c.in-Dead.on c.args.what c.in-Dead.is
    (c.set_dead.ensures.goes_on s runs run)

pub returns-in-Reset-clause-rings : goal.returns-in-Reset-clause-rings
returns-in-Reset-clause-rings c = keep-none c.args.lanes.now

pub set_delay-requires-clause-bits : goal.set_delay-requires-clause-bits
set_delay-requires-clause-bits c d =
    let r = c.requires.ran in
    let p = r.0.link.params in
    let lane = c.in-Delay.lane in
    let fits = and_parts (nat_lt lane p.l) (nat_le c.in-Delay.bits ((period p - 1) * width p))
    (subst (λ (w : What). what_fits p w ≡ true) c.in-Delay.is r.4) in
    let run = r.2.1 lane d (ltb-true lane p.l fits.0) in
    let far = ap (λ (v : Settings). v.reach) run.line.keeps_settings ∙ r.3 lane in
    subst (λ n. c.in-Delay.bits ≤ n) (sym far)
    (leb-true c.in-Delay.bits ((period p - 1) * width p) fits.1)
