-- What a run of a bench has written once its last lines are handed on.
use Rattle.std.proofs.Common.{◌≡◌, ◌≤◌, ℕ, Bool, true, false, List, [], ◌++◌, length, take, drop, Option, Some, Result, Ok, Err, OnOk, OnErr, IfOk, IsTrue, is_ok, subst, refl, sym, ap, ◌∙◌, inl, inr}
use Rattle.std.proofs.Math.Seq.{take-length}
use Rattle.std.proofs.lemmas.Bool.{cases_Bool, false≢true}
use Rattle.std.proofs.lemmas.Grind.{flat_map-append}
use Rattle.std.proofs.lemmas.List.{take-append-drop}
use Rattle.link_params.specs.declared.fields.Params.{Params}
use Rattle.jesd_base.specs.Streams.{Added, Rose}
use Rattle.jesd_base.proofs.StreamLemmas.{added-append}
use Rattle.scenario.specs.declared.report_row.Totals.{Totals}
use Rattle.jesd_base.specs.declared.status.Status.{Status}
use Rattle.link_params.specs.Links.{Link}
use Rattle.scenario.specs.declared.scenario_type.Scenario.{Scenario}
use Rattle.scenario.specs.Plans.{Plan, plan_of, plan_with, source_in}
use Rattle.scenario.specs.ReportLines.{line_of}
use Rattle.link_model.specs.Report.{Printed, lines}
use Rattle.link_run.specs.declared.bench.Played.{Played}
use Rattle.link_run.specs.declared.bench.Played.TheVariants.{Quiet, Alarmed, Stopped}
use Rattle.link_run.specs.Rows.{HasAlarms, HasWritten, WasHanded, alarms_in, is_done, is_whole, rows_handed}
use Rattle.link_run.specs.kept.Lines.{HasPrefix, TookLines, Writing, status_of}
use Rattle.link_run.proofs.TakenRows.{added-as, prefix-longer, rose-before, rose-later, stopped, taken-all, taken-prefix}

lines-append : (s : Plan) (xs ys : List Printed) → lines s (xs ++ ys) ≡ lines s xs ++ lines s ys
unfolding lines
lines-append s xs ys = flat_map-append (λ y. line_of s.version s.link y.row y.words) xs ys

prefix-of-lines : (s : Plan) (rows : List Printed) (n k : ℕ)
    → (m : ℕ) × (take k (lines s (take n rows)) ≡ take m (lines s rows))
prefix-of-lines s rows n k =
    let whole : lines s (take n rows) ++ lines s (drop n rows) ≡ lines s rows =
    sym (lines-append s (take n rows) (drop n rows)) ∙ ap (lines s) (take-append-drop n rows) in
    let p = prefix-longer k (lines s (take n rows)) (lines s (drop n rows)) in
    (p.0, p.1 ∙ ap (take p.0) whole)

-- the last lines were written, or a prefix of them where the sink failed, then or before
pub record IsFlushed (now : Writing) (w : Option (List ℕ)) (f : ℕ) (ok : Bool) : Type 0 where
  pub fine : ok ≡ true → now.failed ≡ false
  pub all : ok ≡ true → Added now.written w now.bytes
  pub prefix : ok ≡ false → now.failed ≡ false → (n : ℕ) × Added now.written w (take n now.bytes)
  pub rose : ok ≡ false → now.failed ≡ false → Rose now.faults f
  pub kept : now.failed ≡ true → w ≡ now.written
  pub count : now.faults ≤ f

-- a taker of lines begins
pub record Begins (start : Writing) (s : Plan) : Type 0 where
  pub empty : start.bytes ≡ []
  pub fine : start.failed ≡ false
  pub plan : plan_of start.scenario ≡ Some s

all-written : (start now : Writing) (w : Option (List ℕ)) (f : ℕ) (s : Plan) (rows : List Printed)
    → Begins start s → TookLines start now rows → IsFlushed now w f true
    → Added start.written w (lines s rows)
all-written start now w f s rows begins h flushed =
    let had = taken-all start now (lines s rows) (flushed.fine refl)
    (h.took s begins.plan begins.fine) in
    added-as start.written w (had.text ++ now.bytes) (lines s rows)
    (had.rest ∙ ap (λ (b : List ℕ). b ++ lines s rows) begins.empty)
    (added-append start.written now.written w had.text now.bytes had.added (flushed.all refl))

-- a prefix was written, and the sink failed
abbrev pub HasSome : Writing → Option (List ℕ) → ℕ → List ℕ → Type 0
HasSome start w f due = Rose start.faults f × (n : ℕ) × Added start.written w (take n due)

some-written : (start now : Writing) (w : Option (List ℕ)) (f : ℕ) (s : Plan) (rows : List Printed)
    → Begins start s → TookLines start now rows → IsFlushed now w f false
    → HasSome start w f (lines s rows)
some-written start now w f s rows begins h flushed =
    let due = lines s rows in
    let bare : start.bytes ++ due ≡ due = ap (λ (b : List ℕ). b ++ due) begins.empty in
    elim (cases_Bool now.failed) [
      | inl bad ↦
          let had = taken-prefix start now due bad (h.took s begins.plan begins.fine) in
          let more = subst
          (λ (o : Option (List ℕ)). Added start.written o (take had.count (start.bytes ++ due)))
          (sym (flushed.kept bad)) had.added in (
            rose-before start.faults now.faults f h.faults had.rose flushed.count,
            had.count,
            added-as start.written w (take had.count (start.bytes ++ due))
                (take had.count due) (ap (take had.count) bare) more,
          )
      | inr fine ↦
          let had = taken-all start now due fine (h.took s begins.plan begins.fine) in
          let wrote = flushed.prefix refl fine in
          let rose = rose-later start.faults now.faults f h.faults (flushed.rose refl fine) in
          let after : Writing = record now { written = w; failed = true; faults = f } in
          let p : HasPrefix start after due = stopped start now after due wrote.0 had wrote.1 rose in (
            rose,
            p.count,
            added-as start.written w (take p.count (start.bytes ++ due))
                (take p.count due) (ap (take p.count) bare) p.added,
          )
    ]

-- a run stopped
stopped-written : (start now : Writing) (w : Option (List ℕ)) (f : ℕ) (ok : Bool) (s : Plan)
    (rows : List Printed) (n : ℕ) → Begins start s → TookLines start now (take n rows)
    → Rose start.faults now.faults → IsFlushed now w f ok → HasSome start w f (lines s rows)
stopped-written start now w f true s rows n begins h rose flushed =
    let part = lines s (take n rows) in
    let all = all-written start now w f s (take n rows) begins h flushed in
    let p = prefix-of-lines s rows n (length part) in (
      rose-before start.faults now.faults f h.faults rose flushed.count,
      p.0,
      added-as start.written w part (take p.0 (lines s rows)) (sym (take-length part) ∙ p.1) all,
    )
stopped-written start now w f false s rows n begins h rose flushed =
    let some = some-written start now w f s (take n rows) begins h flushed in
    let p = prefix-of-lines s rows n some.1 in (
      some.0,
      p.0,
      added-as start.written w (take some.1 (lines s (take n rows)))
          (take p.0 (lines s rows)) p.1 some.2,
    )

-- the rows of a run were handed to it, all of them or a prefix
pub record WasTaken (start now : Writing) (whole : Bool) (rows : List Printed) : Type 0 where
  pub all : whole ≡ true → TookLines start now rows
  pub prefix : whole ≡ false → (n : ℕ) × TookLines start now (take n rows)
  pub rose : whole ≡ false → Rose start.faults now.faults

pub has-written : (played : Played) (ok : Bool) (s : Plan) (short : Bool) (start now : Writing)
    (w : Option (List ℕ)) (f : ℕ)
    → HasAlarms played (alarms_in s) → Begins start s
    → WasTaken start now (is_whole played) (rows_handed s short) → IsFlushed now w f ok
    → HasWritten (status_of played ok) s short start.written w start.faults f
has-written Quiet true s short start now w f alarms begins taken flushed =
    (alarms, all-written start now w f s (rows_handed s short) begins (taken.all refl) flushed)
has-written Quiet false s short start now w f alarms begins taken flushed =
    some-written start now w f s (rows_handed s short) begins (taken.all refl) flushed
has-written Alarmed true s short start now w f alarms begins taken flushed =
    (alarms, all-written start now w f s (rows_handed s short) begins (taken.all refl) flushed)
has-written Alarmed false s short start now w f alarms begins taken flushed =
    some-written start now w f s (rows_handed s short) begins (taken.all refl) flushed
has-written Stopped ok s short start now w f alarms begins taken flushed =
    let part = taken.prefix refl in
    stopped-written start now w f ok s (rows_handed s short) part.0 begins part.1
    (taken.rose refl) flushed

-- the alarms that a run counts
pub alarms-of : {E : Type 0} (r : Result Totals E) (played : Played) (n : Totals)
    → is_whole played ≡ is_ok r → IfOk r (λ t. HasAlarms played t.alarms) → IfOk r (λ t. t ≡ n)
    → HasAlarms played n.alarms
alarms-of (Ok t) played n whole has is = rw (← is) has
alarms-of (Err e) Quiet n whole has is = absurd (cc)
alarms-of (Err e) Alarmed n whole has is = absurd (cc)
alarms-of (Err e) Stopped n whole has is = tt

-- what holds where there is a value, or an error
pub on-ok : {T E A : Type 0} (r : Result T E) → OnOk r A → is_ok r ≡ true → A
on-ok (Ok x) had is = had
on-ok (Err e) had is = absurd (cc)

pub on-err : {T E A : Type 0} (r : Result T E) → OnErr r A → is_ok r ≡ false → A
on-err (Ok x) had is = absurd (cc)
on-err (Err e) had is = had

-- what was handed, by another spelling
pub handed-as : {A : Type 0} {took : A → A → List Printed → Type 0} {shape : A → Option Params}
    {faults : A → ℕ} (old now : A) (s : Plan) (v w a b : Bool) → v ≡ w → a ≡ b
    → WasHanded A took shape faults old now w (rows_handed s a)
    → WasHanded A took shape faults old now v (rows_handed s b)
handed-as old now s v w a b whole same h = rw (whole, ← same) h

-- what was taken since the first state
pub record IsPart (A : Type 0) (took : A → A → List Printed → Type 0) (old now : A)
    (rows : List Printed) : Type 0 where
  pub count : ℕ
  pub part : took old now (take count rows)

pub record TookSince (A : Type 0) (took : A → A → List Printed → Type 0) (old now : A)
    (whole : Bool) (rows : List Printed) : Type 0 where
  pub all : whole ≡ true → took old now rows
  pub prefix : whole ≡ false → IsPart A took old now rows

pub took-since : {A : Type 0} {took : A → A → List Printed → Type 0} {shape : A → Option Params}
    {faults : A → ℕ} (old now : A) (whole : Bool) (rows : List Printed)
    → WasHanded A took shape faults old now whole rows → took old old []
    → TookSince A took old now whole rows
took-since old now whole rows h start = record {
  all = λ is. h.all is old [] start;
  prefix = λ is. (let p = h.prefix is old [] start in record { count = p.0; part = p.1 });
}

-- some rows were taken
pub record TookSome (A : Type 0) (took : A → A → List Printed → Type 0) (old now : A) : Type 0 where
  pub rows : List Printed
  pub taken : took old now rows

pub took-some : {A : Type 0} {took : A → A → List Printed → Type 0} (old now : A) (whole : Bool)
    (rows : List Printed) → TookSince A took old now whole rows → TookSome A took old now
took-some old now whole rows h = elim (cases_Bool whole) [
  | inl is ↦ record { rows = rows; taken = h.all is }
  | inr is ↦ (let p = h.prefix is in record { rows = take p.count rows; taken = p.part })
]

-- a scenario with a link has a plan
pub record HasPlan (s : Scenario) : Type 0 where
  pub plan : Plan
  pub is : plan_of s ≡ Some plan

pub has-plan : (s : Scenario) (k : Link) → s.link ≡ Some k → HasPlan s
has-plan s k is = record {
  plan = record {
    version = s.version;
    link = k;
    ticks = s.ticks;
    print = s.print;
    source = source_in s.input;
    events = s.events.items;
    jitters = s.jitters.items;
    flips = s.flips.items;
    wire = s.wire.items;
    route = s.route.items;
    inverted = s.inverted.items;
  };
  is = ap (λ (o : Option Link). plan_with o s) is;
}

pub written-as : (status : Status) (played : Played) (ok : Bool) (s : Plan) (short : Bool)
    (w0 w : Option (List ℕ)) (f0 f : ℕ) → status ≡ status_of played ok
    → HasWritten (status_of played ok) s short w0 w f0 f → HasWritten status s short w0 w f0 f
written-as status played ok s short w0 w f0 f is h =
    subst (λ (x : Status). HasWritten x s short w0 w f0 f) (sym is) h

-- where it is done, all rows were taken
pub done-whole : (status : Status) (played : Played) (ok : Bool) → status ≡ status_of played ok
    → IsTrue (is_done status) → is_whole played ≡ true
done-whole status Quiet ok is done = refl
done-whole status Alarmed ok is done = refl
done-whole status Stopped ok is done =
    absurd (false≢true (subst (λ (x : Status). IsTrue (is_done x)) is done))
