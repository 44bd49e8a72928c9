use Rattle.std.proofs.Common.{◌≡◌, false, true, ℕ, ◌+◌, ◌*◌, ◌%◌, ◌<◌, ◌≤◌, ◌++◌, ◌∷◌, [], ◌∙◌, if◌then◌else◌, List, Some, ap, arith, length, length-append, sym}
use Rattle.std.proofs.lemmas.Bool.{eq-eqb}
use Rattle.link_params.specs.declared.fields.Params.{Params}
use Rattle.link_params.specs.Numbers.{octets_per_tick}
use Rattle.link_model.specs.Report.{Printed, enter_rows, prints_all}
use Rattle.link_model.specs.Sends.{begins_frame}
use Rattle.scenario.specs.declared.report_row.Row.TheVariants as row
use Rattle.scenario.specs.Plans.{numbers_from, source_frame}
use Rattle.link_run.specs.kept.Printing.{Printing}
use Rattle.link_run.specs.kept.TickCounts.{entered_at}
use Rattle.link_run.proofs.FeedLemmas.{same_params, some_plan}
use Rattle.link_run.proofs.HandedRows.{handed-failed, handed-same, shape-kept, shown-cut, shown-none, shown-then}
use Rattle.link_run.proofs.TickRows.{at-of, entered-begins, entered-to, entered_first, entries-rest, entries-shown, few-entered, frame-after, none-printed, printed-rest}
use Rattle.link_run.proofs.reporting.add_entry_rows.Goals as goal

-- the counts with these entries
abbrev with_entered : Printing → ℕ → Printing
with_entered r n = record r { totals = record r.totals { entered = n } }

pub loop-next-init : goal.loop-next-init
unfolding enter_rows numbers_from
loop-next-init g c =
    let p = c.args.s.now.shape in
    let t = c.args.t in
    let place = c.args.place in
    let next = c.octets_to_frame-next.result in
    let n = c.args.report.now.totals in
    let size = c.frame_octets-size.ensures.value in
    let below = c.octets_to_frame-next.ensures.below in
    let begins = at-of p place next _ _ c.octets_per_tick-per_tick.ensures.value size
    c.octets_to_frame-next.ensures.begins in
    let none : entered_first p t place next ≡ [] =
    entered-to p t place 0 next begins (omega arith) (omega arith) in
    let count : n.entered ≡ n.entered + length (entered_first p t place next) =
    (let long = ap length none in omega arith) in
    record {
      counts = ap (with_entered c.args.report.now) count;
      at = begins;
      below = omega arith;
      handed = λ plan is. shown-none _ c.args.report.now.short _
          (ap (λ (os : List ℕ). if prints_all plan.print then enter_rows plan n.entered os else [])
          none ∙ none-printed (prints_all plan.print));
    }

pub enter-requires-clause-count : goal.enter-requires-clause-count
enter-requires-clause-count g c =
    let few = few-entered c.args.s.now.shape c.args.t c.args.place c.loop-next.next in
    let now = ap (λ (r : Printing). r.totals.entered) c.loop-next.invariant.counts in
    let below = c.loop-next-test.true in
    let octets = c.octets_per_tick-per_tick.ensures.bound in
    let count = c.requires.count in
    omega arith

pub enter-requires-clause-shape : goal.enter-requires-clause-shape
enter-requires-clause-shape g c = λ q is.
    let (plan, there) = some_plan c.args.s.now c.requires.link in
    shape-kept c.args.report.now.params (c.loop-next.invariant.handed plan there) c.requires.shape
    q is
    ∙ sym (ap (λ (r : Printing). r.params) c.loop-next.invariant.counts)

pub returns-in_err-enter-clause-handed : goal.returns-in_err-enter-clause-handed
returns-in_err-enter-clause-handed g c = λ plan is.
    let p = c.args.s.now.shape in
    let t = c.args.t in
    let place = c.args.place in
    let j = c.loop-next.next in
    let had = c.loop-next.invariant in
    let n = c.args.report.now.totals.entered in
    let short = c.args.report.now.short in
    let prints = prints_all plan.print in
    let per_tick = c.octets_per_tick-per_tick.ensures.value in
    let below = c.loop-next-test.true in
    let (rest, split) = entries-rest plan p t place n (j + 1) (octets_per_tick p) (omega arith) in
    let first : List Printed = enter_rows plan n (entered_first p t place (j + 1)) in
    let all : first ++ rest ≡ enter_rows plan n (entered_at plan.link.params t (Some place)) = split
    ∙ ap (λ (q : Params). enter_rows plan n (entered_at q t (Some place)))
    (sym (same_params c.args.s.now plan is)) in
    handed-failed c.from_residual.result c.from_residual.ensures.0
    (shown-cut short (if prints then first else []) (if prints then rest else []) _
    (printed-rest prints first rest
    ∙ ap (λ (xs : List Printed). if prints then xs else []) all)
    (shown-then {whole = false} short c.loop-next.report.short
    (if prints then enter_rows plan n (entered_first p t place j) else [])
    (if prints then (record {
      row = row.Enter (c.octets_per_tick-per_tick.result * t + j);
      words = source_frame plan c.loop-next.report.totals.entered;
    }) ∷ [] else [])
    _ (ap (λ (r : Printing). r.short) had.counts)
    (sym (entries-shown plan p [] t place j n _ _ (eq-eqb _ 0 had.at)
    (ap (λ (k : ℕ). k * t + j) per_tick)
    (ap (λ (r : Printing). r.totals.entered) had.counts)))
    (had.handed plan is) (c.in_err-enter.ensures.handed plan is)))

pub loop-next-preserved : goal.loop-next-preserved
loop-next-preserved g c =
    let p = c.args.s.now.shape in
    let t = c.args.t in
    let place = c.args.place in
    let j = c.loop-next.next in
    let had = c.loop-next.invariant in
    let totals = c.args.report.now.totals in
    let short = c.args.report.now.short in
    let per_tick = c.octets_per_tick-per_tick.ensures.value in
    let size = c.frame_octets-size.ensures.value in
    let some = c.frame_octets-size.ensures.some in
    let here_at = had.at in
    let begins : begins_frame p place j ≡ true = eq-eqb _ 0 here_at in
    let after = frame-after p (octets_per_tick p * place) j (omega arith) here_at in
    let to : entered_first p t place (j + p.f) ≡ entered_first p t place (j + 1) =
    entered-to p t place (j + 1) (j + p.f) after (omega arith) (omega arith) in
    let here : entered_first p t place (j + c.frame_octets-size.result)
    ≡ entered_first p t place (j + 1) =
    ap (λ (n : ℕ). entered_first p t place (j + n)) size ∙ to in
    let more = c.in_ok-enter.ensures in
    let old : List ℕ = entered_first p t place j in
    let long = ap length (entered-begins p t place j begins)
    ∙ length-append old ((octets_per_tick p * t + j) ∷ []) in
    let sum : totals.entered + length old + 1
    ≡ totals.entered + length (entered_first p t place (j + 1)) = omega arith in
    rw here (record {
      counts = more.counts
          ∙ ap (λ (r : Printing). with_entered r (r.totals.entered + 1)) had.counts
          ∙ ap (with_entered c.args.report.now) sum;
      at = ap (λ (n : ℕ). (octets_per_tick p * place + (j + n)) % p.f) size ∙ after;
      below = (let below = c.loop-next-test.true in omega arith);
      handed = λ plan is.
          let prints = prints_all plan.print in
          shown-then {whole = true} short c.loop-next.report.short
          (if prints then enter_rows plan totals.entered old else [])
          (if prints then (record {
            row = row.Enter (c.octets_per_tick-per_tick.result * t + j);
            words = source_frame plan c.loop-next.report.totals.entered;
          }) ∷ [] else [])
          _ (ap (λ (r : Printing). r.short) had.counts)
          (sym (entries-shown plan p [] t place j totals.entered _ _ begins
          (ap (λ (k : ℕ). k * t + j) per_tick)
          (ap (λ (r : Printing). r.totals.entered) had.counts)))
          (had.handed plan is) (more.handed plan is);
    })

-- the octets of the tick are all over
ended : (p : Params) (t place next n f : ℕ) → n ≡ octets_per_tick p → f ≡ p.f
    → n ≤ next → next < n + f → (octets_per_tick p * place + next) % p.f ≡ 0
    → entered_first p t place next ≡ entered_at p t (Some place)
ended p t place next n f per_tick size past near at =
    entered-to p t place (octets_per_tick p) next at (omega arith) (omega arith)

pub returns-clause-handed : goal.returns-clause-handed
returns-clause-handed g c = λ plan is.
    let p = c.args.s.now.shape in
    let t = c.args.t in
    let n = c.args.report.now.totals.entered in
    let had = c.loop-next.invariant in
    let all = ended p t c.args.place c.loop-next.next _ _
    c.octets_per_tick-per_tick.ensures.value c.frame_octets-size.ensures.value
    c.loop-next-test.false had.below had.at
    ∙ ap (λ (q : Params). entered_at q t (Some c.args.place))
    (sym (same_params c.args.s.now plan is)) in
    handed-same {whole = true} _ _ (ap (λ (os : List ℕ). if c.args.report.now.short then [] else
    (if prints_all plan.print then enter_rows plan n os else [])) all) (had.handed plan is)

pub returns-clause-counts : goal.returns-clause-counts
returns-clause-counts g c =
    let p = c.args.s.now.shape in
    let t = c.args.t in
    let n = c.args.report.now.totals.entered in
    let had = c.loop-next.invariant in
    let all = ended p t c.args.place c.loop-next.next _ _
    c.octets_per_tick-per_tick.ensures.value c.frame_octets-size.ensures.value
    c.loop-next-test.false had.below had.at in
    had.counts
    ∙ ap (λ (os : List ℕ). with_entered c.args.report.now (n + length os)) all
