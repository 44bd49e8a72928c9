use Rattle.std.proofs.Common.{◌≡◌, ap, Some}
use Rattle.code_8b10b.proofs.Phases.{fives, fives-below, power-below_ten, is_highest-one, is_highest-zero, is_highest-commas, is_highest-other_commas}
use Rattle.code_8b10b.proofs.hunt.phase_of.Goals as goal

pub returns-then-fives-eq0-clause-commas : goal.returns-then-fives-eq0-clause-commas
unfolding fives
returns-then-fives-eq0-clause-commas c = λ r small e.
    let zero : fives c.args.window ≡ 0 = c.if-fives-eq0.true in
    let h = is_highest-commas c.args.window r c.requires small e in
    absurd (is_highest-zero r (rw zero at h))

pub returns-then-fives-eq0-clause-other_commas : goal.returns-then-fives-eq0-clause-other_commas
unfolding fives
returns-then-fives-eq0-clause-other_commas c = λ r small e.
    let zero : fives c.args.window ≡ 0 = c.if-fives-eq0.true in
    let h = is_highest-other_commas c.args.window r c.requires small e in
    absurd (is_highest-zero r (rw zero at h))

pub returns-clause-below : goal.returns-clause-below
unfolding fives
returns-clause-below c = power-below_ten c.ilog2.result (fives c.args.window) (fives-below c.args.window) c.ilog2.ensures.power_le

pub returns-clause-commas : goal.returns-clause-commas
unfolding fives
returns-clause-commas c = λ r small e.
    let h = is_highest-commas c.args.window r c.requires small e in
    ap Some (is_highest-one r c.ilog2.result (fives c.args.window) h c.ilog2.ensures.power_le c.ilog2.ensures.next_power_gt)

pub returns-clause-other_commas : goal.returns-clause-other_commas
unfolding fives
returns-clause-other_commas c = λ r small e.
    let h = is_highest-other_commas c.args.window r c.requires small e in
    ap Some (is_highest-one r c.ilog2.result (fives c.args.window) h c.ilog2.ensures.power_le c.ilog2.ensures.next_power_gt)
