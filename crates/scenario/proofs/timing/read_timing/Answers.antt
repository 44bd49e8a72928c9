use Rattle.std.proofs.Common.{rules, ◌≡◌, ◌∙◌, Some, None, refl, length, ap}
use Rattle.scenario.specs.Reads.{texts_of, timing_checks, timing_law}
use Rattle.scenario.proofs.CheckLemmas.{fault_of-none, fault_of-more, fault_of-basic, timing_law-is}
use Rattle.scenario.proofs.timing.read_timing.Goals as goal

pub returns-in_err-timing : goal.returns-in_err-timing
returns-in_err-timing c =
    let ts = texts_of c.args.row.now in
    let p = c.args.shape.now in
    let wrong = fault_of-basic (length ts) (timing_checks p ts) _ (c.in_err-timing.ensures p) in
    search rules

pub returns-in-Ok : goal.returns-in-Ok
returns-in-Ok c =
    let ts = texts_of c.args.row.now in
    let p = c.args.shape.now in
    let t = c.in_ok-timing.ensures p in
    let s = c.in-Ok.ensures in
    let law : timing_law p ts ≡ None = timing_law-is p ts _ None t.1 s.1 in (
      fault_of-none (length ts) (timing_checks p ts) t.0 (rw law refl),
      s.0
          ∙ ap (λ x. record { params = p; timing = x }) t.1,
    )

pub returns-in-Err : goal.returns-in-Err
returns-in-Err c =
    let ts = texts_of c.args.row.now in
    let p = c.args.shape.now in
    let t = c.in_ok-timing.ensures p in
    let law : timing_law p ts ≡ Some c.in-Err.law.0 =
    timing_law-is p ts _ (Some c.in-Err.law.0) t.1 c.in-Err.ensures in
    fault_of-more (length ts) (timing_checks p ts) _ t.0
    (rw (law, c.at.ensures, c.from.ensures) refl)
