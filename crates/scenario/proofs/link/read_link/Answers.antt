use Rattle.std.proofs.Common.{rules, ◌≡◌, ◌∙◌, Some, None, refl, length}
use Rattle.scenario.specs.Reads.{texts_of, link_checks, link_law}
use Rattle.scenario.proofs.CheckLemmas.{fault_of-none, fault_of-more, fault_of-basic, link_law-is}
use Rattle.scenario.proofs.link.read_link.Goals as goal

pub returns-in_err-params : goal.returns-in_err-params
returns-in_err-params c =
    let ts = texts_of c.args.row.now in
    let wrong = fault_of-basic (length ts) (link_checks ts) _ c.in_err-params.ensures in
    search rules

pub returns-in-Ok : goal.returns-in-Ok
returns-in-Ok c =
    let ts = texts_of c.args.row.now in
    let p = c.in_ok-params.ensures in
    let s = c.in-Ok.ensures in
    let law : link_law ts ≡ None = link_law-is ts _ None p.1 s.1 in
    (fault_of-none (length ts) (link_checks ts) p.0 (rw law refl), s.0 ∙ p.1)

pub returns-in-Err : goal.returns-in-Err
returns-in-Err c =
    let ts = texts_of c.args.row.now in
    let p = c.in_ok-params.ensures in
    let law : link_law ts ≡ Some c.in-Err.law.0 =
    link_law-is ts _ (Some c.in-Err.law.0) p.1 c.in-Err.ensures in
    fault_of-more (length ts) (link_checks ts) _ p.0
    (rw (law, c.at.ensures, c.from.ensures) refl)
