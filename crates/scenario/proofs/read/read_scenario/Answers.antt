use Rattle.std.proofs.Common.{Bor, List, ℕ, ◌∙◌, sym, refl, inl, inr, Some, ◌∷◌, [], ◌++◌, ◌+◌, ◌≤◌, length, length-append, arith}
use Rattle.std.proofs.lemmas.List.{length-map}
use Rattle.csv.specs.Reading.{Reached, default_config, strip_bom}
use Rattle.csv.specs.Records.{fields_of}
use Rattle.csv.specs.declared.parser.State.TheVariants as st
use Rattle.csv.proofs.ReadFacts.{rows-end, rows-more}
use Rattle.scenario.specs.Answer.{seen_of}
use Rattle.scenario.proofs.RowLemmas.{length-reached, length-strip_bom, last-short}
use Rattle.scenario.proofs.ScenarioLemmas.{came-none, came-more, reads-bad, reads-end}
use Rattle.scenario.proofs.read.read_scenario.Goals as goal

pub loop-row-init : goal.loop-row-init
unfolding Reached
loop-row-init c =
    let fr = c.from_reader-rows.ensures in
    let e = c.flexible.ensures in
    let e2 = c.has_headers.ensures in
    let start = c.into_iter-row-iterator.ensures.into_iter_gives ∙ refl in
    let rdr = c.into_byte_records-row-items.ensures.rdr in
    let left = c.into_byte_records-row-items.ensures.left in
    rw (start, rdr) (
      rw (e, e2) at fr.trim ∙ c.new.ensures.trim,
      inr (inr (rw (e, e2) at fr.has_headers, fr.headers)),
      left,
      rw (e, e2) at fr.config ∙ c.new.ensures.config,
      strip_bom c.args.bytes.now,
      fr.source,
      [],
      (sym fr.state, refl),
      refl,
      came-none c.args.job (seen_of c.new-reading.result) c.new-reading.ensures,
    )

pub overflow_add-number : goal.overflow_add-number
overflow_add-number c =
    let inv = c.loop-row.invariant in
    let few : length inv.6 ≤ length (strip_bom c.args.bytes.now) + 1 =
    length-reached default_config inv.6 st.StartRecord c.loop-row.row-iterator.rdr.state
    (strip_bom c.args.bytes.now) inv.4 inv.7 in
    let less : length (strip_bom c.args.bytes.now) ≤ length c.args.bytes.now =
    length-strip_bom c.args.bytes.now in
    omega (arith, c.requires, inv.8)

pub step-requires : goal.step-requires
step-requires c =
    let inv = c.loop-row.invariant in
    let s = rw (c.in-Some.is, c.in-Ok.is) at ((c.next.ensures.steps inv.2 inv.0).0 inv.1) in
    let m = rows-more (λ (s : Bor (List ℕ)). Some s.now) c.loop-row.row-iterator.rdr
    c.next.new.self.rdr (fields_of c.in-Ok.row) default_config st.StartRecord
    (strip_bom c.args.bytes.now) inv.4 inv.6 inv.3 inv.5 inv.7 s.0 in
    let short : length (fields_of c.in-Ok.row) ≤ length (strip_bom c.args.bytes.now) + 1 =
    last-short default_config inv.6 (fields_of c.in-Ok.row) st.StartRecord
    c.next.new.self.rdr.state (strip_bom c.args.bytes.now) m.0 m.2 in
    let less : length (strip_bom c.args.bytes.now) ≤ length c.args.bytes.now =
    length-strip_bom c.args.bytes.now in
    simp length-map (omega (arith, c.requires))

pub returns-in-Err-Bad : goal.returns-in-Err-Bad
returns-in-Err-Bad c =
    let inv = c.loop-row.invariant in
    let s = rw (c.in-Some.is, c.in-Ok.is) at ((c.next.ensures.steps inv.2 inv.0).0 inv.1) in
    let m = rows-more (λ (s : Bor (List ℕ)). Some s.now) c.loop-row.row-iterator.rdr
    c.next.new.self.rdr (fields_of c.in-Ok.row) default_config st.StartRecord
    (strip_bom c.args.bytes.now) inv.4 inv.6 inv.3 inv.5 inv.7 s.0 in
    let bad = reads-bad c.args.job c.args.bytes.now inv.6 (fields_of c.in-Ok.row) c.loop-row.number
    (seen_of c.loop-row.reading) c.in-Err-Bad.fault c.next.new.self.rdr.state m.0 inv.9
    (rw c.in-Err-Bad.field-0-is at c.in-Err-Bad.ensures) m.2 in
    rw (bad, c.number.ensures, c.in-Err-Bad.field-0-is) refl

pub loop-row-preserved : goal.loop-row-preserved
loop-row-preserved c =
    let inv = c.loop-row.invariant in
    let s = rw (c.in-Some.is, c.in-Ok.is) at ((c.next.ensures.steps inv.2 inv.0).0 inv.1) in
    let m = rows-more (λ (s : Bor (List ℕ)). Some s.now) c.loop-row.row-iterator.rdr
    c.next.new.self.rdr (fields_of c.in-Ok.row) default_config st.StartRecord
    (strip_bom c.args.bytes.now) inv.4 inv.6 inv.3 inv.5 inv.7 s.0 in (
      s.0.3 ∙ inv.0,
      inl s.1,
      s.2,
      s.0.2 ∙ inv.3,
      m.0,
      m.1,
      inv.6 ++ fields_of c.in-Ok.row ∷ [],
      m.2,
      simp length-append (omega (arith, inv.8)),
      came-more c.args.job inv.6 (fields_of c.in-Ok.row) c.loop-row.number
          (seen_of c.loop-row.reading) (seen_of c.step.new.self) inv.9 c.in-Ok-step.ensures,
    )

pub finish-requires-clause-few : goal.finish-requires-clause-few
finish-requires-clause-few c =
    let inv = c.loop-row.invariant in
    let few : length inv.6 ≤ length (strip_bom c.args.bytes.now) + 1 =
    length-reached default_config inv.6 st.StartRecord c.loop-row.row-iterator.rdr.state
    (strip_bom c.args.bytes.now) inv.4 inv.7 in
    let less : length (strip_bom c.args.bytes.now) ≤ length c.args.bytes.now =
    length-strip_bom c.args.bytes.now in
    omega (arith, c.requires, inv.8)

pub returns : goal.returns
returns c =
    let inv = c.loop-row.invariant in
    let s = rw c.in-None.is at ((c.next.ensures.steps inv.2 inv.0).0 inv.1) in
    let end = rows-end (λ (s : Bor (List ℕ)). Some s.now) c.loop-row.row-iterator.rdr
    c.next.new.self.rdr [] default_config inv.4 inv.3 inv.5 s in
    let is = reads-end c.args.job c.args.bytes.now inv.6 c.loop-row.number
    (seen_of c.loop-row.reading) inv.9 (c.loop-row.row-iterator.rdr.state, inv.4, inv.7, end) in
    rw is c.finish.ensures
