use Rattle.std.proofs.Common.{◌≡◌, ◌∙◌, ap, sym, arith, ◌-◌, ◌<◌, suc}
use Rattle.lane_b.specs.kept.Gives.{given}
use Rattle.lane_b.specs.Received.{entries_b}
use Rattle.lane_b.proofs.BufferLemmas.{oldest-place, oldest-cell}
use Rattle.lane_b.proofs.receiver.RxLaneB.give.Goals as goal

pub returns-then-self-gt0-clause-entry : goal.returns-then-self-gt0-clause-entry
returns-then-self-gt0-clause-entry c = λ p t lane taken gave h.
    let some : 0 < c.self.inside.placed = c.if-self-gt0.true in
    let e : c.self.inside.placed ≡ suc (c.self.inside.placed - 1) = omega arith in
    let holds = rw (← c.self.view_is, c.pop-cell.ensures, e) at h.holds in
    sym (ap given (oldest-place (entries_b p t lane taken) _ gave _ _ holds).is)

pub returns-then-self-gt0-clause-goes_on : goal.returns-then-self-gt0-clause-goes_on
returns-then-self-gt0-clause-goes_on c = λ p t lane taken gave h.
    let some : 0 < c.self.inside.placed = c.if-self-gt0.true in
    let e : c.self.inside.placed ≡ suc (c.self.inside.placed - 1) = omega arith in
    let holds = rw (← c.self.view_is, c.pop-cell.ensures, e) at h.holds in
    record {
      params = ap (λ r. r.params) c.self.view_is ∙ h.params;
      timing = ap (λ r. r.timing) c.self.view_is ∙ h.timing;
      of_lane = ap (λ r. r.lane) c.self.view_is ∙ h.of_lane;
      words = h.words;
      stands = rw (← c.self.view_is) at h.stands;
      holds = (oldest-place (entries_b p t lane taken) _ gave _ _ holds).rest;
    }

pub returns-clause-entry : goal.returns-clause-entry
returns-clause-entry c = λ p t lane taken gave h.
    let e : c.self.inside.placed ≡ 0 = omega arith in
    let holds = rw (← c.self.view_is, c.pop-cell.ensures, e) at h.holds in
    sym (ap given (oldest-cell (entries_b p t lane taken) gave _ _ holds).is)

pub returns-clause-goes_on : goal.returns-clause-goes_on
returns-clause-goes_on c = λ p t lane taken gave h.
    let e : c.self.inside.placed ≡ 0 = omega arith in
    let holds = rw (← c.self.view_is, c.pop-cell.ensures, e) at h.holds in
    record {
      params = ap (λ r. r.params) c.self.view_is ∙ h.params;
      timing = ap (λ r. r.timing) c.self.view_is ∙ h.timing;
      of_lane = ap (λ r. r.lane) c.self.view_is ∙ h.of_lane;
      words = h.words;
      stands = rw (← c.self.view_is) at h.stands;
      holds = rw e (oldest-cell (entries_b p t lane taken) gave _ _ holds).rest;
    }
