-- Where clap stands between two words, and that its walk comes to what the items ask for.
use Rattle.std.proofs.Common.{◌≡◌, ◌∙◌, ℕ, Bool, true, false, List, [], ◌∷◌, ◌++◌, Option, Some, None, refl, sym, ap, subst, codes, if◌then◌else◌, append_assoc, ◌&&◌, length, fold, ◌==◌, suc, map, arith}
use Rattle.std.specs.Prelude.{option_and_then, option_map, is_some, slice_get}
use Rattle.std.specs.Str.{bytes_eq, chars, IsUtf8}
use Rattle.clap.specs.declared.error.kind.ErrorKind.{ErrorKind}
use Rattle.clap.specs.declared.error.kind.ErrorKind.TheVariants as kind
use Rattle.clap.specs.Kinds.{Kinds, or_else}
use Rattle.clap.specs.Walk.{Text, Row, Walk, Held, Waiting, idle, option, positional, walked, settled, finished, has_row, with_default, first_of}
use Rattle.clap.specs.Faults.{turn_fault, settle_fault, defaults_fault, flags_fault}
use Rattle.clap.specs.Takes.{is_given}
use Rattle.std.specs.Borrow.{Bor}
use Rattle.std.specs.List.{All}
use Rattle.clap.specs.Lexer.{long_of, short_of}
use Rattle.std.specs.Option.{option_map_or}
use Rattle.bench_words.specs.declared.asked.Task.{Task}
use Rattle.bench_words.specs.declared.asked.Words.{Words}
use Rattle.bench_words.specs.Reading.{Slot, the_job, the_workers, the_number, Item, item, items, before, plain_items, texts, asked, task_of, setting, joined, is_dashed, asked_by_words}
use Rattle.bench_words.specs.kept.Clap.{Given, listed, read_by_clap, asked_of, given_of, clap_reading}
use Rattle.bench_words.proofs.Outcome.{shape, ending, result, from_start, at_end, goes_on, refuses}
use Rattle.bench_words.proofs.Rows.{id_of, row_at, at, put, row, Holds, has, holds_more, with_row}
use Rattle.bench_words.proofs.Look.{Look, ends, asks, gives, unknown, letters, dash, plain, look, option_slot, option_word, option_front, items_ends, items_asks, items_gives, items_dash, items_value, items_no_value}

-- ---- the texts that were read so far

pub record Seen : Type 0 where
  pub jobs : List Text
  pub workers : List Text
  pub numbers : List Text

abbrev pub more : Seen → Slot → Text → Seen
more s the_job v = record s { jobs = s.jobs ++ v ∷ [] }
more s the_workers v = record s { workers = s.workers ++ v ∷ [] }
more s the_number v = record s { numbers = s.numbers ++ v ∷ [] }

abbrev pub lists : Given → Seen
lists g = record { jobs = listed g.job; workers = listed g.workers; numbers = listed g.number }

abbrev pub asked_with : Seen → List Item → Option Words
asked_with s all = asked (s.jobs ++ texts the_job all) (s.workers ++ texts the_workers all) (s.numbers ++ texts the_number all)

abbrev pub told : Seen → Option Slot → List Text → Option Words
told s waiting words = option_and_then (asked_with s) (items waiting words)

asked_more : (s : Seen) (slot : Slot) (v : Text) (all : List Item) → asked_with s (item slot v ∷ all) ≡ asked_with (more s slot v) all
unfolding texts
asked_more s the_job v all = ap (λ xs. asked xs (s.workers ++ texts the_workers all) (s.numbers ++ texts the_number all)) (sym (append_assoc s.jobs (v ∷ []) (texts the_job all)))
asked_more s the_workers v all = ap (λ xs. asked (s.jobs ++ texts the_job all) xs (s.numbers ++ texts the_number all)) (sym (append_assoc s.workers (v ∷ []) (texts the_workers all)))
asked_more s the_number v all = ap (λ xs. asked (s.jobs ++ texts the_job all) (s.workers ++ texts the_workers all) xs) (sym (append_assoc s.numbers (v ∷ []) (texts the_number all)))

told_more : (s : Seen) (slot : Slot) (v : Text) (o : Option (List Item)) → option_and_then (asked_with s) (before (item slot v) o) ≡ option_and_then (asked_with (more s slot v)) o
told_more s slot v None = refl
told_more s slot v (Some all) = asked_more s slot v all

-- what no further item mends
abbrev Dead : Seen → Type 0
Dead s = (all : List Item) → asked_with s all ≡ None

told_dead : (s : Seen) → Dead s → (o : Option (List Item)) → option_and_then (asked_with s) o ≡ None
told_dead s d None = refl
told_dead s d (Some all) = d all

no_workers : (t : Option Task) (w n : Option ℕ) → w ≡ None → joined t w n ≡ None
no_workers None w n e = refl
no_workers (Some t) w n e = rw e refl

no_number : (t : Option Task) (w n : Option ℕ) → n ≡ None → joined t w n ≡ None
no_number None w n e = refl
no_number (Some t) None n e = refl
no_number (Some t) (Some w) n e = rw e refl

-- a slot that is filled twice
dead_twice : (g : Given) (slot : Slot) (x v : Text) → at g slot ≡ Some x → Dead (more (lists g) slot v)
dead_twice g the_job x v e = λ all. rw e refl
dead_twice g the_workers x v e = λ all.
    let n : setting 1 32 1 ((listed g.workers ++ v ∷ []) ++ texts the_workers all) ≡ None = rw e refl in
    no_workers (task_of (listed g.job ++ texts the_job all)) _ (setting 0 4294967295 1 (listed g.number ++ texts the_number all)) n
dead_twice g the_number x v e = λ all.
    let n : setting 0 4294967295 1 ((listed g.number ++ v ∷ []) ++ texts the_number all) ≡ None = rw e refl in
    no_number (task_of (listed g.job ++ texts the_job all)) (setting 1 32 1 (listed g.workers ++ texts the_workers all)) _ n

-- `-` is no number
dash_first : (low high default : ℕ) (rest : List Text) → setting low high default (codes "-" ∷ rest) ≡ None
dash_first low high default [] = refl
dash_first low high default (word ∷ rest) = refl

dead_dash : (g : Given) (o : Bool) → Dead (more (lists g) (option_slot o) (codes "-"))
dead_dash g o = go o (at g (option_slot o)) refl
  where
    go : (o : Bool) (x : Option Text) → at g (option_slot o) ≡ x → Dead (more (lists g) (option_slot o) (codes "-"))
    go o (Some x) e = dead_twice g (option_slot o) x (codes "-") e
    go true None e = λ all.
        let n : setting 1 32 1 ((listed g.workers ++ codes "-" ∷ []) ++ texts the_workers all) ≡ None = rw e (dash_first 1 32 1 (texts the_workers all)) in
        no_workers (task_of (listed g.job ++ texts the_job all)) _ (setting 0 4294967295 1 (listed g.number ++ texts the_number all)) n
    go false None e = λ all.
        let n : setting 0 4294967295 1 ((listed g.number ++ codes "-" ∷ []) ++ texts the_number all) ≡ None = rw e (dash_first 0 4294967295 1 (texts the_number all)) in
        no_number (task_of (listed g.job ++ texts the_job all)) (setting 1 32 1 (listed g.workers ++ texts the_workers all)) _ n

-- ---- where the walk stands

abbrev pub held : List Row → Option (Text × List Text) → Held
held rows pending = record { rows = rows; pending = pending; skip = 0 }

abbrev pub rows_then : List Row → Option (Text × List Text) → List Row
rows_then rows pending = (settled shape.rules (held rows pending)).rows

-- what is held stands for what was seen, or it is refused sooner or later
pub data Stands (rows : List Row) (pending : Option (Text × List Text)) (s : Seen) : Type 0 where
  good : (g : Given) → settle_fault shape.rules false (held rows pending) ≡ [] → Holds (rows_then rows pending) g → s ≡ lists g → Stands rows pending s
  dead : (k : ErrorKind) (ks : Kinds) → settle_fault shape.rules false (held rows pending) ≡ k ∷ ks → Dead s → Stands rows pending s

-- the place of the next plain word
abbrev pub place : List Text → ℕ
place [] = 1
place (x ∷ xs) = 2

abbrev pub between : List Row → Option (Text × List Text) → Seen → Walk
between rows pending s = record { held = held rows pending; waiting = idle; position = place s.jobs; is_trailing = false; stopped = None }

abbrev pub trailing : Waiting → List Row → Option (Text × List Text) → ℕ → Walk
trailing waiting rows pending position = record { held = held rows pending; waiting = waiting; position = position; is_trailing = true; stopped = None }

abbrev pub asking : Bool → List Row → Seen → Walk
asking o rows s = record { held = held rows (Some (id_of (option_slot o), [])); waiting = option (id_of (option_slot o)); position = place s.jobs; is_trailing = false; stopped = None }

-- a value that is pending
settles_free : (slot : Slot) (rows : List Row) (v : Text) → has_row (id_of slot) rows ≡ false → settle_fault shape.rules false (held rows (Some (id_of slot, v ∷ []))) ≡ []
settles_free the_job rows v e = rw e refl
settles_free the_workers rows v e = rw e refl
settles_free the_number rows v e = rw e refl

settles_twice : (slot : Slot) (rows : List Row) (v : Text) → has_row (id_of slot) rows ≡ true → settle_fault shape.rules false (held rows (Some (id_of slot, v ∷ []))) ≡ kind.ArgumentConflict ∷ []
settles_twice the_job rows v e = rw e refl
settles_twice the_workers rows v e = rw e refl
settles_twice the_number rows v e = rw e refl

settles_to : (slot : Slot) (rows : List Row) (v : Text) → with_row slot v rows ≡ rows_then rows (Some (id_of slot, v ∷ []))
settles_to the_job rows v = refl
settles_to the_workers rows v = refl
settles_to the_number rows v = refl

lists_put : (g : Given) (slot : Slot) (v : Text) → at g slot ≡ None → more (lists g) slot v ≡ lists (put g slot v)
lists_put g the_job v e = rw e refl
lists_put g the_workers v e = rw e refl
lists_put g the_number v e = rw e refl

pends : (rows : List Row) (g : Given) (slot : Slot) (v : Text) → Holds rows g → Stands rows (Some (id_of slot, v ∷ [])) (more (lists g) slot v)
pends rows g slot v h = go (at g slot) refl
  where
    go : (o : Option Text) → at g slot ≡ o → Stands rows (Some (id_of slot, v ∷ [])) (more (lists g) slot v)
    go None e = good (put g slot v) (settles_free slot rows v (has rows g h slot None e)) (subst (λ r. Holds r (put g slot v)) (settles_to slot rows v) (holds_more rows g slot v h e)) (lists_put g slot v e)
    go (Some x) e = dead kind.ArgumentConflict [] (settles_twice slot rows v (has rows g h slot (Some x) e)) (dead_twice g slot x v e)

-- ---- the end of the words

defaults_add_nothing : (rows : List Row) (a b c : Bool) → has_row (codes "job") rows ≡ a → has_row (codes "workers") rows ≡ b → has_row (codes "number") rows ≡ c
    → (fold with_default rows shape.rules ≡ rows) × (defaults_fault rows shape.rules ≡ [])
unfolding defaults_fault
defaults_add_nothing rows true true true e f g = (rw (e, f, g) refl, rw (e, f, g) refl)
defaults_add_nothing rows true true false e f g = (rw (e, f, g) refl, rw (e, f, g) refl)
defaults_add_nothing rows true false true e f g = (rw (e, f, g) refl, rw (e, f, g) refl)
defaults_add_nothing rows true false false e f g = (rw (e, f, g) refl, rw (e, f, g) refl)
defaults_add_nothing rows false true true e f g = (rw (e, f, g) refl, rw (e, f, g) refl)
defaults_add_nothing rows false true false e f g = (rw (e, f, g) refl, rw (e, f, g) refl)
defaults_add_nothing rows false false true e f g = (rw (e, f, g) refl, rw (e, f, g) refl)
defaults_add_nothing rows false false false e f g = (rw (e, f, g) refl, rw (e, f, g) refl)

given_back : (rows : List Row) (g : Given) → Holds rows g → given_of rows ≡ g
given_back rows g h =
    let j : first_of (codes "job") rows ≡ g.job = ap (option_and_then (λ (r : Row). slice_get r.values 0)) (h.found the_job) ∙ back (codes "job") g.job in
    let w : first_of (codes "workers") rows ≡ g.workers = ap (option_and_then (λ (r : Row). slice_get r.values 0)) (h.found the_workers) ∙ back (codes "workers") g.workers in
    let n : first_of (codes "number") rows ≡ g.number = ap (option_and_then (λ (r : Row). slice_get r.values 0)) (h.found the_number) ∙ back (codes "number") g.number in
    let e : given_of rows ≡ record { job = g.job; workers = g.workers; number = g.number } = cc in
    e
  where
    back : (id : Text) (o : Option Text) → option_and_then (λ (r : Row). slice_get r.values 0) (option_map (row id) o) ≡ o
    back id None = refl
    back id (Some v) = refl

listed_whole : (o : Option Text) → listed o ≡ listed o ++ []
listed_whole None = refl
listed_whole (Some v) = refl

asked_whole : (g : Given) → asked_of g ≡ asked_with (lists g) []
unfolding texts
asked_whole g =
    let j = listed_whole g.job in
    let w = listed_whole g.workers in
    let n = listed_whole g.number in
    ap (λ xs. asked xs (listed g.workers) (listed g.number)) j ∙ ap (λ xs. asked (listed g.job ++ []) xs (listed g.number)) w ∙ ap (λ xs. asked (listed g.job ++ []) (listed g.workers ++ []) xs) n

job_given : (rows : List Row) (g : Given) → Holds rows g → (o : Option Text) → g.job ≡ o → is_given (codes "job") rows ≡ is_some o
job_given rows g h None e = rw (h.found the_job, e) refl
job_given rows g h (Some v) e = rw (h.found the_job, e) refl

pub closes : (rows : List Row) (pending : Option (Text × List Text)) (s : Seen) → Stands rows pending s
    → option_and_then asked_of (read_by_clap (ending (held rows pending)) (finished shape.rules (held rows pending))) ≡ asked_with s []
closes rows pending s (dead k ks e d) = rw e (sym (d []))
closes rows pending s (good g e h seen) =
    let d = defaults_add_nothing (rows_then rows pending) _ _ _ refl refl refl in
    go g.job refl e d.0 d.1 (job_given (rows_then rows pending) g h)
  where
    go : (o : Option Text) → g.job ≡ o → settle_fault shape.rules false (held rows pending) ≡ []
        → fold with_default (rows_then rows pending) shape.rules ≡ rows_then rows pending → defaults_fault (rows_then rows pending) shape.rules ≡ []
        → ((o : Option Text) → g.job ≡ o → is_given (codes "job") (rows_then rows pending) ≡ is_some o)
        → option_and_then asked_of (read_by_clap (ending (held rows pending)) (finished shape.rules (held rows pending))) ≡ asked_with s []
    go None j e d f q =
        let x : is_given (codes "job") (rows_then rows pending) ≡ false = q None j in
        let y : asked_with s [] ≡ None = rw seen (rw (← asked_whole g, j) refl) in
        rw (e, f, d, x) (sym y)
    go (Some v) j e d f q =
        let x : is_given (codes "job") (rows_then rows pending) ≡ true = q (Some v) j in
        rw (e, f, d, x) (ap asked_of (given_back (rows_then rows pending) g h) ∙ asked_whole g ∙ ap (λ t. asked_with t []) (sym seen))

-- ---- after `--`

and_false : (b : Bool) → (b && false) ≡ false
and_false true = refl
and_false false = refl

abbrev takes_job : Option (Text × List Text) → Bool
takes_job pending = option_map_or (λ (q : Text × List Text). bytes_eq q.0 (codes "job")) pending false

trail_fault : (waiting : Waiting) (rows : List Row) (pending : Option (Text × List Text)) (word : Text)
    → turn_fault shape [] (trailing waiting rows pending 1) word ≡ settle_fault shape.rules false (held rows pending)
trail_fault waiting rows pending word = let e : (takes_job pending && false) ≡ false = and_false _ in rw e refl

trail_walks : (waiting : Waiting) (rows : List Row) (pending : Option (Text × List Text)) (word : Text)
    → walked shape.rules [] (trailing waiting rows pending 1) word ≡ trailing idle (rows_then rows pending) (Some (codes "job", word ∷ [])) 2
unfolding walked
trail_walks waiting rows pending word = let e : (takes_job pending && false) ≡ false = and_false _ in rw e refl

second_job : (s : Seen) (x : Text) (xs : List Text) (word : Text) → s.jobs ≡ x ∷ xs → Dead (more s the_job word)
second_job s x xs word e all = go xs e
  where
    go : (xs : List Text) → s.jobs ≡ x ∷ xs → asked_with (more s the_job word) all ≡ None
    go [] e = rw e refl
    go (y ∷ ys) e = rw e refl

trails_dead : (waiting : Waiting) (rows : List Row) (pending : Option (Text × List Text)) (jobs : List Text) (words : List Text) (k : ErrorKind) (ks : Kinds)
    → settle_fault shape.rules false (held rows pending) ≡ k ∷ ks → result (trailing waiting rows pending (place jobs)) words ≡ None
trails_dead waiting rows pending jobs [] k ks e = ap (option_and_then asked_of) (at_end (trailing waiting rows pending (place jobs))) ∙ rw e refl
trails_dead waiting rows pending [] (word ∷ words) k ks e =
    ap (option_and_then asked_of) (refuses (trailing waiting rows pending 1) word words k ks (trail_fault waiting rows pending word ∙ e))
trails_dead waiting rows pending (x ∷ xs) (word ∷ words) k ks e =
    ap (option_and_then asked_of) (refuses (trailing waiting rows pending 2) word words kind.UnknownArgument [] refl)

trails : (words : List Text) (rows : List Row) (pending : Option (Text × List Text)) (s : Seen) → Stands rows pending s
    → result (trailing idle rows pending (place s.jobs)) words ≡ asked_with s (plain_items words)
trails [] rows pending s st = ap (option_and_then asked_of) (at_end (trailing idle rows pending (place s.jobs))) ∙ closes rows pending s st
trails (word ∷ words) rows pending s st = go s.jobs refl st (trails words)
  where
    go : (jobs : List Text) → s.jobs ≡ jobs → Stands rows pending s
        → ((rows : List Row) (pending : Option (Text × List Text)) (s : Seen) → Stands rows pending s → result (trailing idle rows pending (place s.jobs)) words ≡ asked_with s (plain_items words))
        → result (trailing idle rows pending (place s.jobs)) (word ∷ words) ≡ asked_with s (plain_items (word ∷ words))
    go jobs e (dead k ks f d) next = trails_dead idle rows pending s.jobs (word ∷ words) k ks f ∙ sym (d (plain_items (word ∷ words)))
    go (x ∷ xs) e (good g f h seen) next =
        rw e (ap (option_and_then asked_of) (refuses (trailing idle rows pending 2) word words kind.UnknownArgument [] refl))
        ∙ sym (asked_more s the_job word (plain_items words) ∙ second_job s x xs word e (plain_items words))
    go [] e (good g f h seen) next =
        let st : Stands (rows_then rows pending) (Some (codes "job", word ∷ [])) (more s the_job word) = rw seen (pends (rows_then rows pending) g the_job word h) in
        let two : place (more s the_job word).jobs ≡ 2 = rw e refl in
        let step : result (trailing idle rows pending 1) (word ∷ words) ≡ result (trailing idle (rows_then rows pending) (Some (codes "job", word ∷ [])) 2) words =
        ap (option_and_then asked_of) (goes_on (trailing idle rows pending 1) word words (trail_fault idle rows pending word ∙ f))
        ∙ ap (λ w. result w words) (trail_walks idle rows pending word) in
        ap (λ js. result (trailing idle rows pending (place js)) (word ∷ words)) e ∙ step
        ∙ ap (λ p. result (trailing idle (rows_then rows pending) (Some (codes "job", word ∷ [])) p) words) (sym two)
        ∙ next (rows_then rows pending) (Some (codes "job", word ∷ [])) (more s the_job word) st
        ∙ sym (asked_more s the_job word (plain_items words))

-- ---- before `--`

pub record Agrees (words : List Text) : Type 0 where
  pub idle_at : (rows : List Row) (pending : Option (Text × List Text)) (s : Seen) → Stands rows pending s → result (between rows pending s) words ≡ told s None words
  pub asking_at : (o : Bool) (rows : List Row) (g : Given) → Holds rows g → result (asking o rows (lists g)) words ≡ told (lists g) (Some (option_slot o)) words

-- a step of the walk, as it shows in the result
step_on : (w : Walk) (word : Text) (words : List Text) (after : Walk) → turn_fault shape [] w word ≡ [] → walked shape.rules [] w word ≡ after → result w (word ∷ words) ≡ result after words
step_on w word words after e f = ap (option_and_then asked_of) (goes_on w word words e) ∙ ap (λ v. result v words) f

step_off : (w : Walk) (word : Text) (words : List Text) (k : ErrorKind) (ks : Kinds) → turn_fault shape [] w word ≡ k ∷ ks → result w (word ∷ words) ≡ None
step_off w word words k ks e = ap (option_and_then asked_of) (refuses w word words k ks e)

told_as : (s : Seen) (waiting : Option Slot) (words : List Text) (o : Option (List Item)) → items waiting words ≡ o → told s waiting words ≡ option_and_then (asked_with s) o
told_as s waiting words o e = ap (option_and_then (asked_with s)) e

-- `--`
ends_walks : (rows : List Row) (pending : Option (Text × List Text)) (s : Seen) → walked shape.rules [] (between rows pending s) (codes "--") ≡ trailing idle rows pending (place s.jobs)
unfolding walked
ends_walks rows pending s = refl

idle_ends : (words : List Text) (rows : List Row) (pending : Option (Text × List Text)) (s : Seen) → Stands rows pending s
    → result (between rows pending s) (codes "--" ∷ words) ≡ told s None (codes "--" ∷ words)
idle_ends words rows pending s st = step_on (between rows pending s) (codes "--") words _ refl (ends_walks rows pending s) ∙ trails words rows pending s st
    ∙ sym (told_as s None (codes "--" ∷ words) _ (items_ends words))

-- an option whose value is the next word
asks_fault : (o : Bool) (rows : List Row) (pending : Option (Text × List Text)) (s : Seen)
    → turn_fault shape [] (between rows pending s) (option_word o) ≡ or_else (settle_fault shape.rules false (held rows pending)) []
asks_fault true rows pending s = refl
asks_fault false rows pending s = refl

asks_walks : (o : Bool) (rows : List Row) (pending : Option (Text × List Text)) (s : Seen)
    → walked shape.rules [] (between rows pending s) (option_word o) ≡ asking o (rows_then rows pending) s
unfolding walked
asks_walks true rows pending s = refl
asks_walks false rows pending s = refl

idle_asks : (o : Bool) (words : List Text) → Agrees words → (rows : List Row) (pending : Option (Text × List Text)) (s : Seen) → Stands rows pending s
    → result (between rows pending s) (option_word o ∷ words) ≡ told s None (option_word o ∷ words)
idle_asks o words next rows pending s (dead k ks e d) =
    step_off (between rows pending s) (option_word o) words k ks (asks_fault o rows pending s ∙ ap (λ f. or_else f []) e)
    ∙ sym (told_dead s d (items None (option_word o ∷ words)))
idle_asks o words next rows pending s (good g e h seen) =
    step_on (between rows pending s) (option_word o) words _ (asks_fault o rows pending s ∙ ap (λ f. or_else f []) e) (asks_walks o rows pending s)
    ∙ ap (λ t. result (asking o (rows_then rows pending) t) words) seen
    ∙ next.asking_at o (rows_then rows pending) g h
    ∙ ap (λ t. told t (Some (option_slot o)) words) (sym seen)
    ∙ sym (told_as s None (option_word o ∷ words) _ (items_asks o words))

-- an option with its value
gives_fault : (o : Bool) (v : Text) (rows : List Row) (pending : Option (Text × List Text)) (s : Seen) → (twice : Bool) → has_row (id_of (option_slot o)) (rows_then rows pending) ≡ twice
    → turn_fault shape [] (between rows pending s) (option_front o ++ v) ≡ or_else (or_else (settle_fault shape.rules false (held rows pending)) (if twice then kind.ArgumentConflict ∷ [] else [])) []
gives_fault true v rows pending s true e = rw e refl
gives_fault true v rows pending s false e = rw e refl
gives_fault false v rows pending s true e = rw e refl
gives_fault false v rows pending s false e = rw e refl

gives_walks : (o : Bool) (v : Text) (rows : List Row) (pending : Option (Text × List Text)) (s : Seen)
    → walked shape.rules [] (between rows pending s) (option_front o ++ v) ≡ between (with_row (option_slot o) v (rows_then rows pending)) None s
unfolding walked
gives_walks true v rows pending s = refl
gives_walks false v rows pending s = refl

same_place : (s : Seen) (o : Bool) (v : Text) → s.jobs ≡ (more s (option_slot o) v).jobs
same_place s true v = refl
same_place s false v = refl

idle_gives : (o : Bool) (v : Text) (words : List Text) → Agrees words → (rows : List Row) (pending : Option (Text × List Text)) (s : Seen) → Stands rows pending s
    → result (between rows pending s) ((option_front o ++ v) ∷ words) ≡ told s None ((option_front o ++ v) ∷ words)
idle_gives o v words next rows pending s (dead k ks e d) =
    step_off (between rows pending s) (option_front o ++ v) words k _ (gives_fault o v rows pending s _ refl ∙ ap (λ f. or_else (or_else f (if has_row (id_of (option_slot o)) (rows_then rows pending) then kind.ArgumentConflict ∷ [] else [])) []) e)
    ∙ sym (told_dead s d (items None ((option_front o ++ v) ∷ words)))
idle_gives o v words next rows pending s (good g e h seen) = go (at g (option_slot o)) refl
    ∙ sym (told_as s None ((option_front o ++ v) ∷ words) _ (items_gives o v words) ∙ told_more s (option_slot o) v (items None words))
  where
    go : (x : Option Text) → at g (option_slot o) ≡ x → result (between rows pending s) ((option_front o ++ v) ∷ words) ≡ told (more s (option_slot o) v) None words
    go (Some x) f =
        step_off (between rows pending s) (option_front o ++ v) words kind.ArgumentConflict [] (gives_fault o v rows pending s true (has (rows_then rows pending) g h (option_slot o) (Some x) f) ∙ ap (λ k. or_else (or_else k (kind.ArgumentConflict ∷ [])) []) e)
        ∙ sym (told_dead (more s (option_slot o) v) (rw seen (dead_twice g (option_slot o) x v f)) (items None words))
    go None f =
        let rows_now = with_row (option_slot o) v (rows_then rows pending) in
        let st : Stands rows_now None (more s (option_slot o) v) = good (put g (option_slot o) v) refl (holds_more (rows_then rows pending) g (option_slot o) v h f) (ap (λ t. more t (option_slot o) v) seen ∙ lists_put g (option_slot o) v f) in
        step_on (between rows pending s) (option_front o ++ v) words _ (gives_fault o v rows pending s false (has (rows_then rows pending) g h (option_slot o) None f) ∙ ap (λ k. or_else (or_else k []) []) e) (gives_walks o v rows pending s)
        ∙ ap (λ js. result (record { held = held rows_now None; waiting = idle; position = place js; is_trailing = false; stopped = None }) words) (same_place s o v)
        ∙ next.idle_at rows_now None (more s (option_slot o) v) st

-- a plain word
plain_fault : (word : Text) (rows : List Row) (pending : Option (Text × List Text)) (s : Seen) → bytes_eq word (codes "--") ≡ false → long_of word ≡ None → short_of word ≡ None → s.jobs ≡ []
    → turn_fault shape [] (between rows pending s) word ≡ settle_fault shape.rules false (held rows pending)
plain_fault word rows pending s a b c j = let e : (takes_job pending && false) ≡ false = and_false _ in rw (a, b, c, j, e) refl

plain_fault_twice : (word : Text) (rows : List Row) (pending : Option (Text × List Text)) (s : Seen) (x : Text) (xs : List Text)
    → bytes_eq word (codes "--") ≡ false → long_of word ≡ None → short_of word ≡ None → s.jobs ≡ x ∷ xs
    → turn_fault shape [] (between rows pending s) word ≡ kind.UnknownArgument ∷ []
plain_fault_twice word rows pending s x xs a b c j = rw (a, b, c, j) refl

plain_walks : (word : Text) (rows : List Row) (pending : Option (Text × List Text)) (s : Seen) → bytes_eq word (codes "--") ≡ false → long_of word ≡ None → short_of word ≡ None → s.jobs ≡ []
    → walked shape.rules [] (between rows pending s) word ≡ between (rows_then rows pending) (Some (codes "job", word ∷ [])) (more s the_job word)
unfolding walked
plain_walks word rows pending s a b c j = let e : (takes_job pending && false) ≡ false = and_false _ in rw (a, b, c, j, e) refl

idle_plain : (word : Text) (words : List Text) → bytes_eq word (codes "--") ≡ false → long_of word ≡ None → short_of word ≡ None → items None (word ∷ words) ≡ before (item the_job word) (items None words)
    → Agrees words → (rows : List Row) (pending : Option (Text × List Text)) (s : Seen) → Stands rows pending s
    → result (between rows pending s) (word ∷ words) ≡ told s None (word ∷ words)
idle_plain word words a b c is next rows pending s st = go s.jobs refl st
    ∙ sym (told_as s None (word ∷ words) _ is ∙ told_more s the_job word (items None words))
  where
    go : (jobs : List Text) → s.jobs ≡ jobs → Stands rows pending s → result (between rows pending s) (word ∷ words) ≡ told (more s the_job word) None words
    go (x ∷ xs) j st = step_off (between rows pending s) word words kind.UnknownArgument [] (plain_fault_twice word rows pending s x xs a b c j)
        ∙ sym (told_dead (more s the_job word) (second_job s x xs word j) (items None words))
    go [] j (dead k ks e d) = step_off (between rows pending s) word words k ks (plain_fault word rows pending s a b c j ∙ e)
        ∙ sym (told_dead (more s the_job word) (λ all. sym (asked_more s the_job word all) ∙ d (item the_job word ∷ all)) (items None words))
    go [] j (good g e h seen) =
        let st : Stands (rows_then rows pending) (Some (codes "job", word ∷ [])) (more s the_job word) = rw seen (pends (rows_then rows pending) g the_job word h) in
        step_on (between rows pending s) word words _ (plain_fault word rows pending s a b c j ∙ e) (plain_walks word rows pending s a b c j)
        ∙ next.idle_at (rows_then rows pending) (Some (codes "job", word ∷ [])) (more s the_job word) st

-- other words that begin with `-`, whether an option waits or not
abbrev before_end : Waiting → List Row → Option (Text × List Text) → ℕ → Walk
before_end waiting rows pending position = record { held = held rows pending; waiting = waiting; position = position; is_trailing = false; stopped = None }

flag_fault : (waiting : Waiting) (word name : Text) (v : Option Text) (rows : List Row) (pending : Option (Text × List Text)) (position : ℕ) → bytes_eq word (codes "--") ≡ false → long_of word ≡ Some (name, v)
    → bytes_eq (codes "workers") name ≡ false → bytes_eq (codes "number") name ≡ false → turn_fault shape [] (before_end waiting rows pending position) word ≡ kind.UnknownArgument ∷ []
flag_fault idle word name v rows pending position a b c d = rw (a, b, c, d) refl
flag_fault (option id) word name v rows pending position a b c d = rw (a, b, c, d) refl
flag_fault positional word name v rows pending position a b c d = rw (a, b, c, d) refl

short_fault : (waiting : Waiting) (word flags : Text) (c n : ℕ) (rows : List Row) (pending : Option (Text × List Text)) (position : ℕ) → bytes_eq word (codes "--") ≡ false → long_of word ≡ None
    → short_of word ≡ Some flags → length flags ≡ suc n → slice_get (chars flags) 0 ≡ Some c → turn_fault shape [] (before_end waiting rows pending position) word ≡ kind.UnknownArgument ∷ []
unfolding flags_fault
short_fault idle word flags c n rows pending position end long short len char = rw (end, long, short, len, char) refl
short_fault (option id) word flags c n rows pending position end long short len char = rw (end, long, short, len, char) refl
short_fault positional word flags c n rows pending position end long short len char = rw (end, long, short, len, char) refl

letters_fault : (waiting : Waiting) (c d : ℕ) (ds : Text) (rows : List Row) (pending : Option (Text × List Text)) (position : ℕ) → (d == 45) ≡ false → slice_get (chars (d ∷ ds)) 0 ≡ Some c
    → turn_fault shape [] (before_end waiting rows pending position) (45 ∷ d ∷ ds) ≡ kind.UnknownArgument ∷ []
letters_fault waiting c d ds rows pending position a b = short_fault waiting (45 ∷ d ∷ ds) (d ∷ ds) c (length ds) rows pending position (rw a refl) (rw a refl) (rw a refl) refl b

-- a step from between two words
idle_step : (word : Text) (words : List Text) → Look word → Agrees words → (rows : List Row) (pending : Option (Text × List Text)) (s : Seen) → Stands rows pending s
    → result (between rows pending s) (word ∷ words) ≡ told s None (word ∷ words)
idle_step word words (ends is) next rows pending s st = rw is (idle_ends words rows pending s st)
idle_step word words (asks o is) next rows pending s st = rw is (idle_asks o words next rows pending s st)
idle_step word words (gives o v is) next rows pending s st = rw is (idle_gives o v words next rows pending s st)
idle_step word words (unknown name v dashed a b c d is) next rows pending s st =
    step_off (between rows pending s) word words kind.UnknownArgument [] (flag_fault idle word name v rows pending (place s.jobs) a b c d) ∙ sym (told_as s None (word ∷ words) None (is words))
idle_step word words (letters c d ds same a b is) next rows pending s st =
    step_off (between rows pending s) word words kind.UnknownArgument [] (rw same (letters_fault idle c d ds rows pending (place s.jobs) a b)) ∙ sym (told_as s None (word ∷ words) None (is words))
idle_step word words (dash is) next rows pending s st = rw is (idle_plain (codes "-") words refl refl refl (items_dash words) next rows pending s st)
idle_step word words (plain dashed a b c is) next rows pending s st = idle_plain word words a b c (is words) next rows pending s st

-- a step where an option waits for its value: it takes what does not begin with two dashes, or with one and more
no_value : (o : Bool) (rows : List Row) → settle_fault shape.rules false (held rows (Some (id_of (option_slot o), []))) ≡ kind.InvalidValue ∷ []
no_value true rows = refl
no_value false rows = refl

asking_refused : (o : Bool) (word : Text) (words : List Text) (rows : List Row) (s : Seen) (k : ErrorKind) → is_dashed word ≡ true → turn_fault shape [] (asking o rows s) word ≡ k ∷ []
    → result (asking o rows s) (word ∷ words) ≡ told s (Some (option_slot o)) (word ∷ words)
asking_refused o word words rows s k dashed e = step_off (asking o rows s) word words k [] e ∙ sym (told_as s (Some (option_slot o)) (word ∷ words) None (items_no_value o word words dashed))

asking_ends : (o : Bool) (words : List Text) (rows : List Row) (s : Seen) → result (asking o rows s) (codes "--" ∷ words) ≡ told s (Some (option_slot o)) (codes "--" ∷ words)
unfolding walked
asking_ends o words rows s = step_on (asking o rows s) (codes "--") words (trailing (option (id_of (option_slot o))) rows (Some (id_of (option_slot o), [])) (place s.jobs)) refl refl
    ∙ trails_dead (option (id_of (option_slot o))) rows (Some (id_of (option_slot o), [])) s.jobs words kind.InvalidValue [] (no_value o rows)
    ∙ sym (told_as s (Some (option_slot o)) (codes "--" ∷ words) None (items_no_value o (codes "--") words refl))

asks_no_value : (o p : Bool) (rows : List Row) (s : Seen) → turn_fault shape [] (asking o rows s) (option_word p) ≡ kind.InvalidValue ∷ []
asks_no_value true true rows s = refl
asks_no_value true false rows s = refl
asks_no_value false true rows s = refl
asks_no_value false false rows s = refl

gives_no_value : (o p : Bool) (v : Text) (rows : List Row) (s : Seen) → turn_fault shape [] (asking o rows s) (option_front p ++ v) ≡ kind.InvalidValue ∷ []
gives_no_value true true v rows s = refl
gives_no_value true false v rows s = refl
gives_no_value false true v rows s = refl
gives_no_value false false v rows s = refl

word_dashed : (p : Bool) → is_dashed (option_word p) ≡ true
word_dashed true = refl
word_dashed false = refl

front_dashed : (p : Bool) (v : Text) → is_dashed (option_front p ++ v) ≡ true
front_dashed true v = refl
front_dashed false v = refl

value_fault : (o : Bool) (word : Text) (rows : List Row) (s : Seen) → bytes_eq word (codes "--") ≡ false → long_of word ≡ None → short_of word ≡ None → turn_fault shape [] (asking o rows s) word ≡ []
value_fault true word rows s a b c = rw (a, b, c) refl
value_fault false word rows s a b c = rw (a, b, c) refl

value_walks : (o : Bool) (word : Text) (rows : List Row) (s : Seen) → bytes_eq word (codes "--") ≡ false → long_of word ≡ None → short_of word ≡ None
    → walked shape.rules [] (asking o rows s) word ≡ between rows (Some (id_of (option_slot o), word ∷ [])) (more s (option_slot o) word)
unfolding walked
value_walks true word rows s a b c = rw (a, b, c) refl
value_walks false word rows s a b c = rw (a, b, c) refl

takes_value : (o : Bool) (word : Text) (words : List Text) → Agrees words → (rows : List Row) (g : Given) → Holds rows g → bytes_eq word (codes "--") ≡ false → long_of word ≡ None → short_of word ≡ None
    → result (asking o rows (lists g)) (word ∷ words) ≡ told (more (lists g) (option_slot o) word) None words
takes_value o word words next rows g h a b c =
    step_on (asking o rows (lists g)) word words _ (value_fault o word rows (lists g) a b c) (value_walks o word rows (lists g) a b c)
    ∙ next.idle_at rows (Some (id_of (option_slot o), word ∷ [])) (more (lists g) (option_slot o) word) (pends rows g (option_slot o) word h)

asking_step : (word : Text) (words : List Text) → Look word → Agrees words → (o : Bool) (rows : List Row) (g : Given) → Holds rows g
    → result (asking o rows (lists g)) (word ∷ words) ≡ told (lists g) (Some (option_slot o)) (word ∷ words)
asking_step word words (ends is) next o rows g h = rw is (asking_ends o words rows (lists g))
asking_step word words (asks p is) next o rows g h = rw is (asking_refused o (option_word p) words rows (lists g) kind.InvalidValue (word_dashed p) (asks_no_value o p rows (lists g)))
asking_step word words (gives p v is) next o rows g h = rw is (asking_refused o (option_front p ++ v) words rows (lists g) kind.InvalidValue (front_dashed p v) (gives_no_value o p v rows (lists g)))
asking_step word words (unknown name v dashed a b c d is) next o rows g h =
    asking_refused o word words rows (lists g) kind.UnknownArgument dashed (flag_fault (option (id_of (option_slot o))) word name v rows (Some (id_of (option_slot o), [])) (place (lists g).jobs) a b c d)
asking_step word words (letters c d ds same a b is) next o rows g h =
    rw same (asking_refused o (45 ∷ d ∷ ds) words rows (lists g) kind.UnknownArgument refl (letters_fault (option (id_of (option_slot o))) c d ds rows (Some (id_of (option_slot o), [])) (place (lists g).jobs) a b))
asking_step word words (dash is) next o rows g h =
    rw is (takes_value o (codes "-") words next rows g h refl refl refl ∙ told_dead (more (lists g) (option_slot o) (codes "-")) (dead_dash g o) (items None words)
    ∙ sym (told_as (lists g) (Some (option_slot o)) (codes "-" ∷ words) None (items_no_value o (codes "-") words refl)))
asking_step word words (plain dashed a b c is) next o rows g h =
    takes_value o word words next rows g h a b c
    ∙ sym (told_as (lists g) (Some (option_slot o)) (word ∷ words) _ (items_value o word words dashed) ∙ told_more (lists g) (option_slot o) word (items None words))

abbrev pub AreTexts : List Text → Type 0
AreTexts [] = Unit {0}
AreTexts (word ∷ words) = IsUtf8 word × AreTexts words

agrees : (words : List Text) → AreTexts words → Agrees words
unfolding items
agrees [] t = record {
  idle_at = λ rows pending s st. ap (option_and_then asked_of) (at_end (between rows pending s)) ∙ closes rows pending s st;
  asking_at = λ o rows g h. ap (option_and_then asked_of) (at_end (asking o rows (lists g))) ∙ rw (no_value o rows) refl;
}
agrees (word ∷ words) t = record {
  idle_at = idle_step word words (look word t.0) (agrees words t.1);
  asking_at = asking_step word words (look word t.0) (agrees words t.1);
}

no_rows : Holds [] (record { job = None; workers = None; number = None })
no_rows = record { found = λ slot. none slot }
  where
    none : (slot : Slot) → row_at (id_of slot) [] ≡ option_map (row (id_of slot)) (at (record { job = None; workers = None; number = None }) slot)
    none the_job = refl
    none the_workers = refl
    none the_number = refl

-- what clap gives is what the words ask for
pub clap_agrees : (words : List Text) → AreTexts words → option_and_then asked_of (clap_reading words) ≡ asked_by_words words
clap_agrees words t =
    let nothing : Given = record { job = None; workers = None; number = None } in
    ap (option_and_then asked_of) (from_start words)
    ∙ (agrees words t).idle_at [] None (lists nothing) (good nothing refl no_rows refl)

pub texts_of : (words : List (Bor Text)) → All (λ w. IsUtf8 w.now) words → AreTexts (map (λ w. w.now) words)
texts_of [] t = tt
texts_of (word ∷ words) t = (t 0 word (omega arith), texts_of words (λ k d h. t (suc k) d (omega arith)))
