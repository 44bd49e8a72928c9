-- What was read, and the causes of answers.
use Rattle.std.proofs.Common.{◌≡◌, ◌∙◌, ◌≤◌, ℕ, ◌+◌, Bool, true, false, List, length, length-append, ◌++◌, inl, inr, Option, Some, None, Ok, Err, IsTrue, is_some, refl, sym, ap, arith}
use Rattle.std.specs.Prelude.{Result}
use Rattle.std.proofs.lemmas.List.{append-nil}
use Rattle.link_params.specs.Links.{Link}
use Rattle.jesd_base.specs.Streams.{Gave, IsAtEnd}
use Rattle.jesd_base.specs.declared.status.Status.{Status}
use Rattle.jesd_base.specs.declared.status.Status.TheVariants.{Done, Alarmed, BadWords, BadScenario, ReadFault, WriteFault, NoMemory, TooLong}
use Rattle.scenario.specs.declared.kind.Job.{Job}
use Rattle.scenario.specs.declared.kind.Job.TheVariants as job
use Rattle.scenario.specs.declared.scenario_type.Scenario.{Scenario}
use Rattle.scenario.specs.declared.fault.ScenarioFault.TheVariants as failed
use Rattle.scenario.specs.Answer.{Answers}
use Rattle.scenario.specs.Plans.{Plan, plan_of, plan_read, plan_with}
use Rattle.scenario.specs.Reads.{Seen, Refusal, bad_at, reads}
use Rattle.scenario.specs.Generated.{generated}
use Rattle.link_bench.specs.declared.asked.Asked.{Asked}
use Rattle.link_bench.specs.declared.asked.Asked.TheVariants.{Input, Generated}
use Rattle.link_model.specs.Kinds.{report_of}
use Rattle.link_model.specs.Report.{lines, report}
use Rattle.link_run.specs.Rows.{HasWritten, rows_handed}
use Rattle.link_bench.specs.Jobs.{IsText, alarms_in_any, alarms_of, bad_line, usage}
use Rattle.link_bench.specs.Causes.{Causes, Ends, IsComplete, IsDone, OnInput, OnPlan, OnRefusal, ReadNothing, ReadWhole, WrotePrefix}
use Rattle.link_bench.specs.kept.Written.{IsRunWritten, IsWritten}
use Rattle.link_bench.specs.kept.Scenarios.{DoesScenario, IsLines, IsTextWritten}

-- a scenario with a link has a plan
pub plan-some : (s : Scenario) → IsTrue (is_some s.link) → (plan : Plan) × (plan_of s ≡ Some plan)
plan-some s e = planned s.link s e
  where
    planned : (o : Option Link) (s : Scenario) → IsTrue (is_some o)
        → (plan : Plan) × (plan_with o s ≡ Some plan)
    planned None s e = cc e
    planned (Some k) s e = (_, refl)

-- a refused input
pub read-bad : (due : Result Seen Refusal) (r c a : ℕ) → Answers due (Err (failed.Bad r c a))
    → due ≡ Err (bad_at r c a)
read-bad (Err b) r c a e = ap Err e
read-bad (Ok seen) r c a e = absurd e

-- ---- what was written

-- the usage line
pub usage-written : (status : Status) (old new : Ends) → ReadNothing old new
    → IsWritten BadWords status usage old.written new.written old.writes_failed new.writes_failed
    → OnRefusal status old new
usage-written status old new unread (inl whole) = rw whole.status_due (unread, whole.added)
usage-written status old new unread (inr cut) =
    rw cut.status_fault (cut.rose, unread, record { count = cut.count; prefix = cut.prefix })

-- the text of a job that raises no alarm
text-written : (j : Job) (status : Status) (old new : Ends) (bytes : List ℕ) (seen : Seen)
    (text : List ℕ)
    → ReadWhole old new bytes → reads j bytes ≡ Ok seen → alarms_of j seen ≡ 0 → IsText j seen text
    → IsWritten Done status text old.written new.written old.writes_failed new.writes_failed
    → OnInput j status old new
text-written j status old new bytes seen text read accepted none due (inl whole) =
    let here : IsDone j old new seen = record {
      bytes = bytes;
      whole = read;
      accepted = accepted;
      text = text;
      due = due;
      wrote = whole.added;
    } in
    rw whole.status_due (seen, none, here)
text-written j status old new bytes seen text read accepted none due (inr cut) =
    let front : WrotePrefix old new text = record { count = cut.count; prefix = cut.prefix } in
    rw cut.status_fault (cut.rose, bytes, read, text, rw accepted due, front)

-- the same, where there may have been no memory for it
text-done : (j : Job) (s : Scenario) (status : Status) (old new : Ends) (bytes : List ℕ)
    (seen : Seen)
    → ReadWhole old new bytes → reads j bytes ≡ Ok seen → alarms_of j seen ≡ 0
    → ((text : List ℕ) → IsLines j s text → IsText j seen text)
    → IsTextWritten j s status old.written new.written old.writes_failed new.writes_failed
    → OnInput j status old new
text-done j s NoMemory old new bytes seen read accepted none due came = came
text-done j s Done old new bytes seen read accepted none due (text, lines, came) =
    text-written j Done old new bytes seen text read accepted none (due text lines) came
text-done j s Alarmed old new bytes seen read accepted none due (text, lines, came) =
    text-written j Alarmed old new bytes seen text read accepted none (due text lines) came
text-done j s BadWords old new bytes seen read accepted none due (text, lines, came) =
    text-written j BadWords old new bytes seen text read accepted none (due text lines) came
text-done j s BadScenario old new bytes seen read accepted none due (text, lines, came) =
    text-written j BadScenario old new bytes seen text read accepted none (due text lines) came
text-done j s ReadFault old new bytes seen read accepted none due (text, lines, came) =
    text-written j ReadFault old new bytes seen text read accepted none (due text lines) came
text-done j s WriteFault old new bytes seen read accepted none due (text, lines, came) =
    text-written j WriteFault old new bytes seen text read accepted none (due text lines) came
text-done j s TooLong old new bytes seen read accepted none due (text, lines, came) =
    text-written j TooLong old new bytes seen text read accepted none (due text lines) came

-- the lines of all rows are the report
report-lines : (s : Plan) → lines s (rows_handed s false) ≡ report_of s
unfolding report
report-lines s = refl

-- the lines of the run of a plan that an input spells
run-done : (status : Status) (old new : Ends) (bytes : List ℕ) (seen : Seen) (plan : Plan)
    → ReadWhole old new bytes → reads job.Run bytes ≡ Ok seen → plan_read seen ≡ Some plan
    → IsRunWritten status plan false old.written new.written old.writes_failed new.writes_failed
    → OnInput job.Run status old new
run-done Done old new bytes seen plan read accepted is (none, wrote) = (
  seen,
  ap alarms_in_any is ∙ none,
  record {
    bytes = bytes;
    whole = read;
    accepted = accepted;
    text = lines plan (rows_handed plan false);
    due = (plan, is, report-lines plan);
    wrote = wrote;
  },
)
run-done Alarmed old new bytes seen plan read accepted is (some, wrote) = (
  seen,
  rw is some,
  record {
    bytes = bytes;
    whole = read;
    accepted = accepted;
    text = lines plan (rows_handed plan false);
    due = (plan, is, report-lines plan);
    wrote = wrote;
  },
)
run-done WriteFault old new bytes seen plan read accepted is (rose, count, prefix) = (
  rose,
  bytes,
  read,
  lines plan (rows_handed plan false),
  rw accepted (plan, is, report-lines plan),
  record { count = count; prefix = prefix },
)
run-done NoMemory old new bytes seen plan read accepted is came = came
run-done BadWords old new bytes seen plan read accepted is came = absurd came
run-done BadScenario old new bytes seen plan read accepted is came = absurd came
run-done ReadFault old new bytes seen plan read accepted is came = absurd came
run-done TooLong old new bytes seen plan read accepted is came = absurd came

-- a job on a scenario that was read
does-read : (due : Result Seen Refusal) (j : Job) (s : Scenario) (status : Status) (old new : Ends)
    (bytes : List ℕ)
    → ReadWhole old new bytes → reads j bytes ≡ due → Answers due (Ok s)
    → DoesScenario j s status old.written new.written old.writes_failed new.writes_failed
    → OnInput j status old new
does-read (Ok seen) job.Map s status old new bytes read accepted a came =
    text-done job.Map s status old new bytes seen read accepted refl
    (λ text lines. (s.shape, a.shape, rw a.words lines)) came
does-read (Ok seen) job.Unmap s status old new bytes read accepted a came =
    text-done job.Unmap s status old new bytes seen read accepted refl
    (λ text lines. (s.shape, a.shape, rw a.octets lines)) came
does-read (Ok seen) job.Run s status old new bytes read accepted a (plan, is, came) =
    run-done status old new bytes seen plan read accepted (a.plan ∙ is) came
does-read (Err b) j s status old new bytes read accepted a came = absurd a

pub scenario-done : (j : Job) (s : Scenario) (status : Status) (old new : Ends) (bytes : List ℕ)
    → ReadWhole old new bytes → Answers (reads j bytes) (Ok s)
    → DoesScenario j s status old.written new.written old.writes_failed new.writes_failed
    → OnInput j status old new
scenario-done j s status old new bytes read a came =
    does-read (reads j bytes) j s status old new bytes read refl a came

-- the line of a refused input
pub refusal-written : (j : Job) (status : Status) (old new : Ends) (bytes : List ℕ) (b : Refusal)
    (text : List ℕ)
    → ReadWhole old new bytes → reads j bytes ≡ Err b → text ≡ bad_line b
    → IsWritten BadScenario status text old.written new.written old.writes_failed new.writes_failed
    → OnInput j status old new
refusal-written j status old new bytes b text read bad is (inl whole) =
    rw whole.status_due (bytes, read, b, bad, rw (← is) whole.added)
refusal-written j status old new bytes b text read bad is (inr cut) =
    let front : WrotePrefix old new text = record { count = cut.count; prefix = cut.prefix } in
    rw cut.status_fault (cut.rose, bytes, read, text, rw bad is, front)

-- the two lines of a plan's run
pub plan-done : (plan : Plan) (status : Status) (old new : Ends) → ReadNothing old new
    → IsRunWritten status plan true old.written new.written old.writes_failed new.writes_failed
    → OnPlan plan status old new
plan-done plan Done old new unread (none, wrote) = (none, unread, wrote)
plan-done plan Alarmed old new unread (some, wrote) = (some, unread, wrote)
plan-done plan WriteFault old new unread (rose, count, prefix) =
    (rose, unread, record { count = count; prefix = prefix })
plan-done plan NoMemory old new unread came = (unread, came)
plan-done plan BadWords old new unread came = absurd came
plan-done plan BadScenario old new unread came = absurd came
plan-done plan ReadFault old new unread came = absurd came
plan-done plan TooLong old new unread came = absurd came

-- a text of a scenario was written
pub scenario-text : (j : Job) (s : Scenario) (status : Status) (text : List ℕ)
    (old new : Option (List ℕ)) (old_faults new_faults : ℕ)
    → IsLines j s text → IsWritten Done status text old new old_faults new_faults
    → IsTextWritten j s status old new old_faults new_faults
scenario-text j s status text old new old_faults new_faults lines (inl whole) =
    rw whole.status_due (text, lines, inl (record { status_due = refl; added = whole.added }))
scenario-text j s status text old new old_faults new_faults lines (inr cut) =
    rw cut.status_fault (
      text,
      lines,
      inr (record {
        status_fault = refl;
        rose = cut.rose;
        count = cut.count;
        prefix = cut.prefix;
      }),
    )

-- what a run of a plan wrote
pub run-written : (status : Status) (plan : Plan) (short : Bool) (old new : Option (List ℕ))
    (old_faults new_faults : ℕ)
    → HasWritten status plan short old new old_faults new_faults
    → IsRunWritten status plan short old new old_faults new_faults
run-written NoMemory plan short old new old_faults new_faults came = absurd came
run-written Done plan short old new old_faults new_faults came = came
run-written Alarmed plan short old new old_faults new_faults came = came
run-written BadWords plan short old new old_faults new_faults came = came
run-written BadScenario plan short old new old_faults new_faults came = came
run-written ReadFault plan short old new old_faults new_faults came = came
run-written WriteFault plan short old new old_faults new_faults came = came
run-written TooLong plan short old new old_faults new_faults came = came

-- ---- completeness

-- the bytes that were read to the end are those that were left
whole-bytes : (old new : Option (List ℕ)) (given bytes : List ℕ) → Gave old new given
    → IsAtEnd new → old ≡ Some bytes → given ≡ bytes
whole-bytes (Some before) (Some after) given bytes gave end is =
    let same : before ≡ bytes = cc in
    sym (append-nil given) ∙ ap (λ t. given ++ t) (sym end) ∙ sym gave ∙ same
whole-bytes (Some before) None given bytes gave end is = absurd gave
whole-bytes None new given bytes gave end is = cc

-- bytes that were read are no more than those that were left
few-given : (old new : Option (List ℕ)) (given bytes : List ℕ) → Gave old new given
    → old ≡ Some bytes → length given ≤ length bytes
few-given (Some before) (Some after) given bytes gave is =
    let same : before ≡ bytes = cc is in
    let count : length before ≡ length given + length after =
    ap length gave ∙ length-append given after in
    let all : length before ≡ length bytes = ap length same in
    omega arith
few-given (Some before) None given bytes gave is = absurd gave
few-given None new given bytes gave is = cc is

-- one input is not both refused and read
refused-and-read : (j : Job) (given bytes : List ℕ) (seen : Seen) (b : Refusal) → given ≡ bytes
    → reads j given ≡ Err b → reads j bytes ≡ Ok seen → ⊥
refused-and-read j given bytes seen b whole bad read =
    let refused : reads j bytes ≡ Err b = rw whole at bad in
    let both : Ok seen ≡ Err b = sym read ∙ refused in
    cc both

-- a cause says that the answer is complete
complete-input : (j : Job) (status : Status) (old new : Ends) → OnInput j status old new
    → IsComplete status (Some (Input j)) old new
complete-input j Done old new cause =
    λ bytes seen left short read reads_stand writes_stand. inl refl
complete-input j Alarmed old new cause =
    λ bytes seen left short read reads_stand writes_stand. inr (inl refl)
complete-input j NoMemory old new cause =
    λ bytes seen left short read reads_stand writes_stand. inr (inr refl)
complete-input j BadWords old new cause = absurd cause
complete-input j BadScenario old new (given, whole, b, bad, wrote) =
    λ bytes seen left short read reads_stand writes_stand.
    absurd (refused-and-read j given bytes seen b
    (whole-bytes old.left new.left given bytes whole.given whole.at_end left) bad read)
complete-input j ReadFault old new cause =
    λ bytes seen left short read reads_stand writes_stand. absurd (reads_stand cause.0)
complete-input j WriteFault old new cause =
    λ bytes seen left short read reads_stand writes_stand. absurd (writes_stand cause.0)
complete-input j TooLong old new (given, gave, long, none) =
    λ bytes seen left short read reads_stand writes_stand.
    let few = few-given old.left new.left given bytes gave left in
    absurd (omega arith)

complete-plan : (number : ℕ) (status : Status) (old new : Ends)
    → OnPlan (generated number) status old new
    → IsComplete status (Some (Generated number)) old new
complete-plan number Done old new cause = λ stand. inl refl
complete-plan number Alarmed old new cause = λ stand. inr (inl refl)
complete-plan number NoMemory old new cause = λ stand. inr (inr refl)
complete-plan number BadWords old new cause = absurd cause
complete-plan number BadScenario old new cause = absurd cause
complete-plan number ReadFault old new cause = absurd cause
complete-plan number TooLong old new cause = absurd cause
complete-plan number WriteFault old new cause = λ stand. absurd (stand cause.0)

pub complete : (status : Status) (what : Option Asked) (old new : Ends)
    → Causes status what old new → IsComplete status what old new
complete status None old new cause = tt
complete status (Some (Input j)) old new cause = complete-input j status old new cause
complete status (Some (Generated number)) old new cause = complete-plan number status old new cause
