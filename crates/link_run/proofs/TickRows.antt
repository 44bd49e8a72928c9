-- The rows of a tick, kind by kind, and what they add to the counts.
use Rattle.std.proofs.Common.{◌≡◌, ℕ, zero, suc, ◌+◌, ◌-◌, ◌*◌, ◌/◌, ◌%◌, ◌≤◌, ◌<◌, ◌≢◌, ◌==◌, Bool, true, false, if◌then◌else◌, List, [], ◌∷◌, ◌++◌, length, map, take, drop, filter, get_or, replicate, slice_get, Option, Some, None, refl, sym, ap, ap₂, ◌∙◌, append_assoc, append-nil, length-append, arith, count_by}
use Rattle.std.proofs.lemmas.List.{length-map, length-replicate, map-append, map_push, take-append-drop, take_more}
use Rattle.std.proofs.lemmas.List.Elements.{filter-append}
use Rattle.std.proofs.lemmas.List.Folds.{sum_by-replicate}
use Rattle.std.proofs.lemmas.List.Sums.{count_by-le-length, length-filter, sum_by-append}
use Rattle.std.proofs.lemmas.Bool.{cond-false, eq-eqb, ne_eqb}
use Rattle.std.proofs.lemmas.Nat.{mod-mul-add}
use Rattle.std.proofs.lemmas.Simd.{map-map}
use Rattle.std.proofs.lemmas.Option.{get_or_from_slice_get, slice_get_within}
use Rattle.link_params.specs.declared.alarms.Alarm.{Alarm}
use Rattle.link_params.specs.declared.alarms.Device.TheVariants.{Tx, Rx}
use Rattle.link_params.specs.declared.cells.Mark.{Mark}
use Rattle.link_params.specs.declared.fields.Params.{Params}
use Rattle.link_params.specs.Laws.{is_b}
use Rattle.link_params.specs.Numbers.{octets_per_tick}
use Rattle.sample_map.specs.Frames.{words_of}
use Rattle.scenario.specs.declared.report_row.Row.TheVariants as row
use Rattle.scenario.specs.declared.report_row.Totals.{Totals}
use Rattle.scenario.specs.Plans.{Plan, numbers_from, source_frame}
use Rattle.link_run.specs.declared.ticked.Ticked.{Ticked}
use Rattle.link_model.proofs.NextMoment.{entered-next}
use Rattle.link_model.proofs.NumberLists.{length-numbers, map-numbers, map-shift, numbers-append, numbers-more}
use Rattle.link_model.proofs.RowHistory.{totals-more}
use Rattle.link_model.specs.Edges.{off}
use Rattle.link_model.specs.Kinds.{kind_of, moment_of}
use Rattle.link_model.specs.Moments.{Delivered, History}
use Rattle.link_model.specs.Report.{Printed, alarms_from, bare, bares, decision_rows, enter_rows, frame_row, is_bad, is_fixed, is_ok, marks, off_alarm, off_alarms, prints_all, prints_frames, rows_of_tick, totals}
use Rattle.link_model.specs.Sends.{beginnings, begins_frame, frames_before}
use Rattle.link_run.specs.kept.Gathered.{Whole, delivered_of, no_frame}
use Rattle.link_run.specs.kept.Printing.{counted_marks}
use Rattle.link_run.specs.kept.Reported.{AreFew, IsSeen}
use Rattle.link_run.specs.kept.TickCounts.{entered_at, with_alarms, with_marks}

-- the rows of some alarms
abbrev pub alarm_rows : ℕ → List Alarm → List Printed
alarm_rows t alarms = bares (map (row.Alarm t) alarms)

alarm-rows-append : (t : ℕ) (xs ys : List Alarm) → alarm_rows t (xs ++ ys) ≡ alarm_rows t xs
    ++ alarm_rows t ys
alarm-rows-append t xs ys = ap bares (map-append (row.Alarm t) xs ys)
    ∙ map-append bare (map (row.Alarm t) xs) (map (row.Alarm t) ys)

-- one of the alarms more
pub alarm-rows-more : (alarms : List Alarm) (rows : List Printed) (t i : ℕ) (a : Alarm)
    → slice_get alarms i ≡ Some a
    → rows ++ alarm_rows t (take (i + 1) alarms) ≡ (rows ++ alarm_rows t (take i alarms))
    ++ bare (row.Alarm t a) ∷ []
alarm-rows-more alarms rows t i a is =
    let more = take_more alarms i a (slice_get_within alarms i a is)
    ∙ ap (λ (x : Alarm). take i alarms ++ x ∷ []) (get_or_from_slice_get alarms i a a is) in
    ap (λ (xs : List Alarm). rows ++ alarm_rows t xs) more
    ∙ ap (λ (xs : List Printed). rows ++ xs) (alarm-rows-append t (take i alarms) (a ∷ []))
    ∙ sym (append_assoc rows (alarm_rows t (take i alarms)) (bare (row.Alarm t a) ∷ []))

-- and all others
pub alarm-rows-rest : (alarms : List Alarm) (t i : ℕ)
    → alarm_rows t (take i alarms) ++ alarm_rows t (drop i alarms) ≡ alarm_rows t alarms
alarm-rows-rest alarms t i =
    sym (alarm-rows-append t (take i alarms) (drop i alarms))
    ∙ ap (alarm_rows t) (take-append-drop i alarms)

-- rows and others, where they are printed
pub printed-rest : (shown : Bool) (xs ys : List Printed)
    → (if shown then xs else []) ++ (if shown then ys else []) ≡ (if shown then xs ++ ys else [])
printed-rest true xs ys = refl
printed-rest false xs ys = refl

-- a row more, where these rows are printed
shown-more : (shown : Bool) (rows old : List Printed) (x : Printed)
    → rows ++ (if shown then old ++ x ∷ [] else []) ≡ (rows ++ (if shown then old else []))
    ++ (if shown then x ∷ [] else [])
shown-more true rows old x = sym (append_assoc rows old (x ∷ []))
shown-more false rows old x = sym (append-nil (rows ++ []))

abbrev pub no_rows : List Printed
no_rows = []

pub none-printed : (shown : Bool) → (if shown then no_rows else no_rows) ≡ no_rows
none-printed true = refl
none-printed false = refl

-- ---- the frames that begin

-- the octet times of those of the first n octets of a tick that begin a frame
abbrev pub entered_first : Params → ℕ → ℕ → ℕ → List ℕ
entered_first p t place n = map (λ j. octets_per_tick p * t + j)
    (filter (begins_frame p place) (numbers_from 0 n))

firsts : (p : Params) (place n : ℕ) → filter (begins_frame p place) (numbers_from 0 (n + 1))
    ≡ filter (begins_frame p place) (numbers_from 0 n)
    ++ (if begins_frame p place n then n ∷ [] else [])
firsts p place n =
    let begins = begins_frame p place in
    let more : n + 1 ≡ suc n = omega arith in
    let last : 0 + n ≡ n = omega arith in
    ap (λ (k : ℕ). filter begins (numbers_from 0 k)) more
    ∙ ap (filter begins) (numbers-more n 0 ∙ ap (λ (k : ℕ). numbers_from 0 n ++ k ∷ []) last)
    ∙ filter-append begins (numbers_from 0 n) (n ∷ [])

pub entered-begins : (p : Params) (t place n : ℕ) → begins_frame p place n ≡ true
    → entered_first p t place (n + 1)
    ≡ entered_first p t place n ++ (octets_per_tick p * t + n) ∷ []
entered-begins p t place n is =
    let at : ℕ → ℕ = λ j. octets_per_tick p * t + j in
    let old : List ℕ = filter (begins_frame p place) (numbers_from 0 n) in
    ap (map at) (firsts p place n
    ∙ ap (λ (b : Bool). old ++ (if b then n ∷ [] else [])) is)
    ∙ map_push at old n

pub entered-not : (p : Params) (t place n : ℕ) → begins_frame p place n ≡ false
    → entered_first p t place (n + 1) ≡ entered_first p t place n
entered-not p t place n is =
    let old : List ℕ = filter (begins_frame p place) (numbers_from 0 n) in
    ap (map (λ j. octets_per_tick p * t + j)) (firsts p place n
    ∙ ap (λ (b : Bool). old ++ (if b then n ∷ [] else [])) is ∙ append-nil old)

-- where the next octets of the tick begin no frame
entered-skip : (p : Params) (t place n d : ℕ)
    → ((k : ℕ) → n ≤ k → k < n + d → begins_frame p place k ≡ false)
    → entered_first p t place (n + d) ≡ entered_first p t place n
entered-skip p t place n zero none =
    let same : n + 0 ≡ n = omega arith in ap (entered_first p t place) same
entered-skip p t place n (suc d) none =
    let same : n + suc d ≡ n + d + 1 = omega arith in
    ap (entered_first p t place) same
    ∙ entered-not p t place (n + d) (none (n + d) (omega arith) (omega arith))
    ∙ entered-skip p t place n d (λ k low high. none k low (omega arith))

-- an octet less than a frame before one that begins a frame begins none
before-frame : (q f x k : ℕ) → q * f ≡ x → k < x → x < k + f → k % f ≢ 0
before-frame zero f x k is below near = absurd (omega arith)
before-frame (suc m) f x k is below near = λ none.
    let split : suc m * f ≡ m * f + f = omega arith in
    let part : m * f + (k - m * f) ≡ k = omega arith in
    let rest = mod-mul-add m f (k - m * f) (omega arith) in
    let same = ap (λ (n : ℕ). n % f) part in
    absurd (omega arith)

begins-not : (p : Params) (place j k : ℕ) → (octets_per_tick p * place + j) % p.f ≡ 0
    → k < j → j < k + p.f → begins_frame p place k ≡ false
begins-not p place j k at below near =
    let first = octets_per_tick p * place in
    ne_eqb ((first + k) % p.f) 0 (before-frame ((first + j) / p.f) p.f (first + j) (first + k)
    (omega arith) (omega arith) (omega arith))

-- so none of these octets begins a frame
pub entered-to : (p : Params) (t place n j : ℕ) → (octets_per_tick p * place + j) % p.f ≡ 0
    → n ≤ j → j < n + p.f → entered_first p t place j ≡ entered_first p t place n
entered-to p t place n j at from near =
    let long : n + (j - n) ≡ j = omega arith in
    ap (entered_first p t place) (sym long)
    ∙ entered-skip p t place n (j - n)
    (λ k low high. begins-not p place j k at (omega arith) (omega arith))

pub frame-after : (p : Params) (x j : ℕ) → 0 < p.f → (x + j) % p.f ≡ 0
    → (x + (j + p.f)) % p.f ≡ 0
frame-after p x j some at =
    let whole : x + (j + p.f) ≡ ((x + j) / p.f + 1) * p.f + 0 = omega arith in
    ap (λ (n : ℕ). n % p.f) whole ∙ mod-mul-add ((x + j) / p.f + 1) p.f 0 some

pub few-entered : (p : Params) (t place n : ℕ) → length (entered_first p t place n) ≤ n
few-entered p t place n =
    let begins = begins_frame p place in
    let of = length-map (filter begins (numbers_from 0 n)) (λ j. octets_per_tick p * t + j) in
    let all = length-filter begins (numbers_from 0 n) in
    let few = count_by-le-length begins (numbers_from 0 n) in
    let long = length-numbers n 0 in
    omega arith

few-octets : (b : Bool) → (if b then 1 else 8) ≤ 8
few-octets true = omega arith
few-octets false = omega arith

pub few-entered-at : (p : Params) (t : ℕ) (place : Option ℕ) → length (entered_at p t place) ≤ 8
few-entered-at p t None = omega arith
few-entered-at p t (Some place) =
    let few = few-entered p t place (octets_per_tick p) in
    let octets = few-octets (is_b p.mode) in
    omega arith

enter-rows-more : (os : List ℕ) (s : Plan) (n o : ℕ)
    → enter_rows s n (os ++ o ∷ []) ≡ enter_rows s n os
    ++ (record { row = row.Enter o; words = source_frame s (n + length os) }) ∷ []
unfolding enter_rows
enter-rows-more [] s n o =
    let same : n ≡ n + 0 = omega arith in
    ap (λ (k : ℕ). let x : Printed =
    record { row = row.Enter o; words = source_frame s k } in x ∷ [])
    same
enter-rows-more (a ∷ os) s n o =
    let same : suc n + length os ≡ n + suc (length os) = omega arith in
    let first : Printed = record { row = row.Enter a; words = source_frame s n } in
    ap (λ (xs : List Printed). first ∷ xs) (enter-rows-more os s (suc n) o
    ∙ ap (λ (k : ℕ). let x : Printed = record { row = row.Enter o; words = source_frame s k } in
    enter_rows s (suc n) os ++ x ∷ []) same)

-- the row of a frame that begins with octet j
pub entries-shown : (s : Plan) (p : Params) (rows : List Printed) (t place j n time number : ℕ)
    → begins_frame p place j ≡ true → time ≡ octets_per_tick p * t + j
    → number ≡ n + length (entered_first p t place j)
    → rows ++ (if prints_all s.print then enter_rows s n (entered_first p t place (j + 1)) else [])
    ≡ (rows ++ (if prints_all s.print then enter_rows s n (entered_first p t place j) else []))
    ++ (if prints_all s.print then (record { row = row.Enter time; words = source_frame s number })
    ∷ [] else [])
entries-shown s p rows t place j n time number begins at count =
    let old : List ℕ = entered_first p t place j in
    ap (λ (xs : List Printed). rows ++ (if prints_all s.print then xs else []))
    (ap (enter_rows s n) (entered-begins p t place j begins)
    ∙ enter-rows-more old s n (octets_per_tick p * t + j)
    ∙ ap₂ (λ (o k : ℕ). let x : Printed = record { row = row.Enter o; words = source_frame s k } in
    enter_rows s n old ++ x ∷ []) (sym at) (sym count))
    ∙ shown-more (prints_all s.print) rows (enter_rows s n old)
    (record { row = row.Enter time; words = source_frame s number })

enter-rows-rest : (xs ys : List ℕ) (s : Plan) (n : ℕ)
    → (rest : List Printed) × (enter_rows s n xs ++ rest ≡ enter_rows s n (xs ++ ys))
unfolding enter_rows
enter-rows-rest [] ys s n = (enter_rows s n ys, refl)
enter-rows-rest (x ∷ xs) ys s n =
    let (rest, is) = enter-rows-rest xs ys s (suc n) in
    let first : Printed = record { row = row.Enter x; words = source_frame s n } in
    (rest, ap (λ (rows : List Printed). first ∷ rows) is)

entered-split : (p : Params) (t place n m : ℕ)
    → (rest : List ℕ) × (entered_first p t place n ++ rest ≡ entered_first p t place (n + m))
entered-split p t place n m =
    let at : ℕ → ℕ = λ j. octets_per_tick p * t + j in
    let begins = begins_frame p place in
    let these = numbers_from 0 n in
    let others = numbers_from (0 + n) m in (
      map at (filter begins others),
      sym (ap (λ (xs : List ℕ). map at (filter begins xs)) (numbers-append n m 0)
          ∙ ap (map at) (filter-append begins these others)
          ∙ map-append at (filter begins these) (filter begins others)),
    )

-- the rows of the frames that begin with other octets
pub entries-rest : (s : Plan) (p : Params) (t place n j k : ℕ) → j ≤ k
    → (rest : List Printed) × (enter_rows s n (entered_first p t place j) ++ rest
    ≡ enter_rows s n (entered_first p t place k))
entries-rest s p t place n j k within =
    let long : j + (k - j) ≡ k = omega arith in
    let (others, split) = entered-split p t place j (k - j) in
    let (rest, is) = enter-rows-rest (entered_first p t place j) others s n in (
      rest,
      is ∙ ap (enter_rows s n) (split ∙ ap (entered_first p t place) long),
    )

-- the tick's octet times and frames, by what the shape says of them
pub at-of : (p : Params) (place next n f : ℕ) → n ≡ octets_per_tick p → f ≡ p.f
    → (n * place + next) % f ≡ 0 → (octets_per_tick p * place + next) % p.f ≡ 0
at-of p place next n f per_tick size at =
    sym (ap₂ (λ (a b : ℕ). (a * place + next) % b) per_tick size) ∙ at

-- frames begin every p.f octets from octet `first` on
spaced : (p : Params) (t place first k : ℕ) → 0 < p.f
    → (octets_per_tick p * place + first) % p.f ≡ 0 → first < p.f
    → (length (entered_first p t place (first + k * p.f)) ≡ k)
    × ((octets_per_tick p * place + (first + k * p.f)) % p.f ≡ 0)
unfolding numbers_from
spaced p t place first zero some at near =
    let same : first + 0 * p.f ≡ first = omega arith in
    rw same (ap length (entered-to p t place 0 first at (omega arith) (omega arith)), at)
spaced p t place first (suc k) some at near =
    let j = first + k * p.f in
    let had = spaced p t place first k some at near in
    let counted = had.0 in
    let here = had.1 in
    let next : first + suc k * p.f ≡ j + p.f = omega arith in
    let after = frame-after p (octets_per_tick p * place) j some here in
    let begins : begins_frame p place j ≡ true = eq-eqb _ 0 here in
    let old : List ℕ = entered_first p t place j in
    let long = ap length (entered-to p t place (j + 1) (j + p.f) after (omega arith) (omega arith)
    ∙ entered-begins p t place j begins)
    ∙ length-append old ((octets_per_tick p * t + j) ∷ []) in
    rw next ((omega arith), after)

beginnings-are : (p : Params) (place first count : ℕ) → 0 < p.f
    → (octets_per_tick p * place + first) % p.f ≡ 0 → first < p.f
    → octets_per_tick p ≤ first + count * p.f → first + count * p.f < octets_per_tick p + p.f
    → count ≡ length (beginnings p (Some place))
beginnings-are p place first count some at near reach within =
    let had = spaced p 0 place first count some at near in
    sym had.0
    ∙ ap length (entered-to p 0 place (octets_per_tick p) (first + count * p.f) had.1 reach within)
    ∙ length-map (beginnings p (Some place)) (λ j. octets_per_tick p * 0 + j)

-- how many begin, where the first one begins in the tick
pub beginnings-from : (p : Params) (place first : ℕ) → 0 < p.f
    → (octets_per_tick p * place + first) % p.f ≡ 0 → first < p.f → first < octets_per_tick p
    → 1 + (octets_per_tick p - first - 1) / p.f ≡ length (beginnings p (Some place))
beginnings-from p place first some at near below =
    let q = (octets_per_tick p - first - 1) / p.f in
    let all : (1 + q) * p.f ≡ p.f + q * p.f = omega arith in
    beginnings-are p place first (1 + q) some at near (omega arith) (omega arith)

-- where it does not
pub beginnings-none : (p : Params) (place first : ℕ) → 0 < p.f
    → (octets_per_tick p * place + first) % p.f ≡ 0 → first < p.f → octets_per_tick p ≤ first
    → 0 ≡ length (beginnings p (Some place))
beginnings-none p place first some at near above =
    beginnings-are p place first 0 some at near (omega arith) (omega arith)

some-octets : (b : Bool) → 0 < (if b then 1 else 8)
some-octets true = omega arith
some-octets false = omega arith

factor-some : (n f o : ℕ) → n * f ≡ o → 0 < o → 0 < f
factor-some n zero o is some = absurd (omega arith)
factor-some n (suc f) o is some = omega arith

-- where each tick has whole frames
pub beginnings-whole : (p : Params) (place frames : ℕ) → frames * p.f ≡ octets_per_tick p
    → frames ≡ length (beginnings p (Some place))
beginnings-whole p place frames whole =
    let some = factor-some frames p.f (octets_per_tick p) whole (some-octets (is_b p.mode)) in
    let before : octets_per_tick p * place + 0 ≡ frames * place * p.f + 0 =
    ap (λ (k : ℕ). k * place + 0) (sym whole) ∙ omega arith in
    let at = ap (λ (k : ℕ). k % p.f) before ∙ mod-mul-add (frames * place) p.f 0 some in
    beginnings-are p place 0 frames some at some (omega arith) (omega arith)

-- ---- the frames that leave

-- frame i of those that leave
abbrev pub leaving : Params → ℕ → List Whole → ℕ → ℕ → Delivered
leaving p end frames begun i = record {
  left = end + i * p.f - (begun + length frames * p.f);
  mark = (get_or frames i no_frame).mark;
  words = words_of p (get_or frames i no_frame).octets;
}

-- the rows of the first n of them
abbrev pub leaving_rows : Params → ℕ → List Whole → ℕ → ℕ → List Printed
leaving_rows p end frames begun n =
    map frame_row (map (leaving p end frames begun) (numbers_from 0 n))

leaving-more : (p : Params) (end : ℕ) (frames : List Whole) (begun n : ℕ)
    → leaving_rows p end frames begun (n + 1) ≡ leaving_rows p end frames begun n
    ++ frame_row (leaving p end frames begun n) ∷ []
leaving-more p end frames begun n =
    let f = leaving p end frames begun in
    let more : n + 1 ≡ suc n = omega arith in
    let last : 0 + n ≡ n = omega arith in
    ap (λ (k : ℕ). map frame_row (map f (numbers_from 0 k))) more
    ∙ ap (λ (xs : List ℕ). map frame_row (map f xs))
    (numbers-more n 0 ∙ ap (λ (k : ℕ). numbers_from 0 n ++ k ∷ []) last)
    ∙ ap (map frame_row) (map_push f (numbers_from 0 n) n)
    ∙ map_push frame_row (map f (numbers_from 0 n)) (f n)

-- the rows of the others
pub leaving-rest : (p : Params) (end : ℕ) (frames : List Whole) (begun n m : ℕ) → n ≤ m
    → (rest : List Printed)
    × (leaving_rows p end frames begun n ++ rest ≡ leaving_rows p end frames begun m)
leaving-rest p end frames begun n m within =
    let f = leaving p end frames begun in
    let long : n + (m - n) ≡ m = omega arith in
    let these = numbers_from 0 n in
    let others = numbers_from (0 + n) (m - n) in (
      map frame_row (map f others),
      sym (ap (λ (k : ℕ). leaving_rows p end frames begun k) (sym long)
          ∙ ap (λ (xs : List ℕ). map frame_row (map f xs)) (numbers-append n (m - n) 0)
          ∙ ap (map frame_row) (map-append f these others)
          ∙ map-append frame_row (map f these) (map f others)),
    )

times-if : (b : Bool) (k : ℕ) → k * (if b then 1 else 0) ≡ (if b then k else 0)
times-if true k = omega arith
times-if false k = omega arith

count-kind : (test : Mark → Bool) (first others : Mark) (k n : ℕ)
    → n + count_by test (first ∷ replicate k others)
    ≡ n + (if test first then 1 else 0) + (if test others then k else 0)
count-kind test first others k n =
    let one : Mark → ℕ = λ m. if test m then 1 else 0 in
    let begin : 0 + (if test first then 1 else 0) ≡ (if test first then 1 else 0) = omega arith in
    let all : count_by test (first ∷ replicate k others)
    ≡ (if test first then 1 else 0) + (if test others then k else 0) =
    sum_by-append one (first ∷ []) (replicate k others)
    ∙ ap₂ (λ (a b : ℕ). a + b) begin
    (sum_by-replicate one k others ∙ times-if (test others) k) in
    omega arith

others-are : (fs : List Whole) (m : Mark)
    → ((i : ℕ) → i < length fs → (get_or fs i no_frame).mark ≡ m)
    → map (λ (f : Whole). f.mark) fs ≡ replicate (length fs) m
others-are [] m each = refl
others-are (f ∷ fs) m each =
    ap₂ (λ a more. a ∷ more) (each 0 (omega arith))
    (others-are fs m (λ i below. each (suc i) (omega arith)))

-- the mark of the first frame, and that of all others
marks-are : (f : Whole) (fs : List Whole) (first others : Mark)
    → ((i : ℕ) → i < length (f ∷ fs) → (get_or (f ∷ fs) i no_frame).mark
    ≡ (if i == 0 then first else others))
    → map (λ (x : Whole). x.mark) (f ∷ fs) ≡ first ∷ replicate (length fs) others
marks-are f fs first others each =
    ap₂ (λ a more. a ∷ more) (each 0 (omega arith)) (others-are fs others (λ i below.
    let later : suc i ≢ 0 = omega arith in
    each (suc i) (omega arith) ∙ cond-false (suc i == 0) first others (ne_eqb (suc i) 0 later)))

same-counts : (n : Totals) (d ok fixed bad d' ok' fixed' bad' : ℕ) → d ≡ d' → ok ≡ ok'
    → fixed ≡ fixed' → bad ≡ bad'
    → record n { delivered = d; ok = ok; fixed = fixed; bad = bad }
    ≡ record n { delivered = d'; ok = ok'; fixed = fixed'; bad = bad' }
same-counts n d ok fixed bad _ _ _ _ is_d is_ok is_fixed is_bad =
    rw (is_d, is_ok, is_fixed, is_bad) refl

-- the counts with these frames
pub marks-counted : (n : Totals) (frames : List Whole) (first others : Mark)
    → ((i : ℕ) → i < length frames → (get_or frames i no_frame).mark
    ≡ (if i == 0 then first else others)) → 0 < length frames
    → counted_marks (counted_marks n first 1) others (length frames - 1)
    ≡ with_marks n (map (λ (f : Whole). f.mark) frames)
marks-counted n [] first others each some = absurd (omega arith)
marks-counted n (f ∷ fs) first others each some =
    let k = length fs in
    let rest : length (f ∷ fs) - 1 ≡ k = omega arith in
    let many = length-replicate k others in
    let long : n.delivered + 1 + k ≡ n.delivered + length (first ∷ replicate k others) =
    omega arith in
    let counted : counted_marks (counted_marks n first 1) others k
    ≡ with_marks n (first ∷ replicate k others) =
    same-counts n _ _ _ _ _ _ _ _ long
    (sym (count-kind is_ok first others k n.ok)) (sym (count-kind is_fixed first others k n.fixed))
    (sym (count-kind is_bad first others k n.bad)) in
    ap (counted_marks (counted_marks n first 1) others) rest ∙ counted
    ∙ sym (ap (with_marks n) (marks-are f fs first others each))

each-is : {A B : Type 0} (g : A → B) (xs : List A) (d : A)
    → map (λ i. g (get_or xs i d)) (numbers_from 0 (length xs)) ≡ map g xs
unfolding numbers_from
each-is g [] d = refl
each-is {A} {B} g (x ∷ xs) d =
    let from : 1 ≡ 1 + 0 = omega arith in
    ap (λ (ys : List B). g x ∷ ys)
    (ap (λ (k : ℕ). map (λ i. g (get_or (x ∷ xs) i d)) (numbers_from k (length xs))) from
    ∙ map-shift (λ i. g (get_or (x ∷ xs) i d)) (length xs) 0 1
    ∙ map-numbers (λ j. g (get_or (x ∷ xs) (1 + j) d)) (λ j. g (get_or xs j d)) (length xs) 0
    (λ j below. let next : 1 + j ≡ suc j = omega arith in
    ap (λ (k : ℕ). g (get_or (x ∷ xs) k d)) next)
    ∙ each-is g xs d)

-- the row of frame i of those that leave
pub leaving-shown : (shown : Bool) (rows : List Printed) (p : Params) (end : ℕ)
    (frames : List Whole) (begun i time : ℕ) (frame : Whole)
    → time ≡ end + i * p.f - (begun + length frames * p.f) → frame ≡ get_or frames i no_frame
    → rows ++ (if shown then leaving_rows p end frames begun (i + 1) else [])
    ≡ (rows ++ (if shown then leaving_rows p end frames begun i else []))
    ++ (if shown then (record { row = row.Frame time frame.mark; words = words_of p frame.octets })
    ∷ [] else [])
leaving-shown shown rows p end frames begun i time frame left is =
    let old : List Printed = leaving_rows p end frames begun i in
    ap (λ (xs : List Printed). rows ++ (if shown then xs else []))
    (leaving-more p end frames begun i
    ∙ ap₂ (λ (at : ℕ) (f : Whole). let x : Printed =
    record { row = row.Frame at f.mark; words = words_of p f.octets } in old ++ x ∷ []) (sym left) (sym is))
    ∙ shown-more shown rows old
    (record { row = row.Frame time frame.mark; words = words_of p frame.octets })

-- ---- a tick

-- what is reported of tick t of a plan; end: the octet time after it, n: how many frames began
-- before it
pub record Tick : Type 0 where
  pub s : Plan
  pub t : ℕ
  pub end : ℕ
  pub n : ℕ
  pub x : Ticked
  pub alarms : List Alarm
  pub frames : List Whole
  pub begun : ℕ

-- its rows, as they are added, and those from each of them on
abbrev pub left_rows : Tick → List Printed
left_rows k = if prints_frames k.s.print
    then map frame_row (delivered_of k.s.link.params k.end k.frames k.begun)
    else []

abbrev pub from_decision : Tick → List Printed
from_decision k = bares (decision_rows k.t k.x.decision) ++ left_rows k

abbrev pub from_alarms : Tick → List Printed
from_alarms k = alarm_rows k.t k.alarms ++ from_decision k

abbrev pub entered_rows : Tick → List Printed
entered_rows k = if prints_all k.s.print
    then enter_rows k.s k.n (entered_at k.s.link.params k.t k.x.place)
    else []

abbrev pub from_entries : Tick → List Printed
from_entries k = entered_rows k ++ from_alarms k

abbrev pub from_rx_off : Tick → List Printed
from_rx_off k = alarm_rows k.t (off_alarm Rx k.x.rx_off) ++ from_entries k

abbrev pub from_tx_off : Tick → List Printed
from_tx_off k = alarm_rows k.t (off_alarm Tx k.x.tx_off) ++ from_rx_off k

abbrev pub reset_rows : Tick → List Printed
reset_rows k = bares (if k.x.rx_reset then row.Hunt k.t ∷ [] else [])

abbrev pub seen_rows : Tick → List Printed
seen_rows k = reset_rows k ++ from_tx_off k

-- the octet times at which frames began
entered-seen : (x : Ticked) (alarms : List Alarm) (frames : List Whole) (begun : ℕ) (s : Plan)
    (h : History)
    → IsSeen x alarms frames begun s h
    → (moment_of s h).entered ≡ entered_at s.link.params (length h) x.place
entered-seen x alarms frames begun s h seen =
    entered-next (kind_of s.link.params) s h
    ∙ ap (entered_at s.link.params (length h)) (sym seen.place)

pub seen-rows : (k : Tick) (h : History) → IsSeen k.x k.alarms k.frames k.begun k.s h
    → k.t ≡ length h → k.end ≡ octets_per_tick k.s.link.params * (k.t + 1)
    → k.n ≡ frames_before h
    → seen_rows k ≡ rows_of_tick k.s k.t (frames_before h) (moment_of k.s h)
unfolding rows_of_tick off_alarms
seen-rows k h seen at past before =
    let end : octets_per_tick k.s.link.params * (length h + 1) ≡ k.end =
    ap (λ (a : ℕ). octets_per_tick k.s.link.params * (a + 1)) (sym at) ∙ sym past in
    rw (
      at,
      ← before,
      ← seen.rx_reset,
      ← seen.tx_off,
      ← seen.rx_off,
      entered-seen k.x k.alarms k.frames k.begun k.s h seen,
      ← seen.alarms_are,
      ← seen.decision,
      seen.delivered_is,
      end,
      alarm-rows-append (length h) (off_alarm Tx k.x.tx_off) (off_alarm Rx k.x.rx_off),
    ) (ap (λ (xs : List Printed). bares (if k.x.rx_reset then row.Hunt (length h) ∷ [] else []) ++ xs)
    (sym (append_assoc (alarm_rows (length h) (off_alarm Tx k.x.tx_off))
    (alarm_rows (length h) (off_alarm Rx k.x.rx_off)) _)))

-- the counts, as they are added
unfoldable pub seen_counts : Ticked → List Alarm → List Whole → Params → ℕ → Totals → Totals
seen_counts x alarms frames p t n =
    let offs = with_alarms (with_alarms n (length (off_alarm Tx x.tx_off)))
    (length (off_alarm Rx x.rx_off)) in
    let begun : Totals = record offs {
      entered = offs.entered + length (entered_at p t x.place);
    } in
    let marks = map (λ (f : Whole). f.mark) frames in
    let left = with_marks (with_alarms begun (length alarms)) marks in
    record left { ticks = left.ticks + 1 }

marks-of : (p : Params) (end : ℕ) (frames : List Whole) (begun : ℕ)
    → map (λ (d : Delivered). d.mark) (delivered_of p end frames begun)
    ≡ map (λ (f : Whole). f.mark) frames
marks-of p end frames begun =
    map-map (λ (d : Delivered). d.mark) (leaving p end frames begun)
    (numbers_from 0 (length frames))
    ∙ each-is (λ (f : Whole). f.mark) frames no_frame

offs-of : (s : Plan) (t : ℕ) (tx rx : Option ℕ) → tx ≡ off s Tx t → rx ≡ off s Rx t
    → length (off_alarms s t) ≡ length (off_alarm Tx tx) + length (off_alarm Rx rx)
unfolding off_alarms
offs-of s t tx rx is_tx is_rx =
    rw (is_tx, is_rx) (length-append (off_alarm Tx (off s Tx t)) (off_alarm Rx (off s Rx t)))

-- the counts but for the entries that lanes held
abbrev pub bare_totals : Plan → History → Totals
bare_totals s h = record (totals s h) { fullest = 0 }

counted : (x : Ticked) (alarms : List Alarm) (frames : List Whole) (p : Params) (s : Plan)
    (h : History)
    → seen_counts x alarms frames p (length h) (bare_totals s h) ≡ record {
      ticks = length h + 1;
      entered = frames_before h + length (entered_at p (length h) x.place);
      delivered = length (marks h) + length (map (λ (f : Whole). f.mark) frames);
      ok = count_by is_ok (marks h) + count_by is_ok (map (λ (f : Whole). f.mark) frames);
      fixed = count_by is_fixed (marks h) + count_by is_fixed (map (λ (f : Whole). f.mark) frames);
      bad = count_by is_bad (marks h) + count_by is_bad (map (λ (f : Whole). f.mark) frames);
      alarms =
          alarms_from s 0 h + (length (off_alarm Tx x.tx_off) + length (off_alarm Rx x.rx_off)
          + length alarms);
      fullest = 0;
    }
unfolding seen_counts totals
counted x alarms frames p s h =
    let a = alarms_from s 0 h in
    let tx = length (off_alarm Tx x.tx_off) in
    let rx = length (off_alarm Rx x.rx_off) in
    let all : a + tx + rx + length alarms ≡ a + (tx + rx + length alarms) = omega arith in
    rw (sym all) refl

pub seen-counts : (x : Ticked) (alarms : List Alarm) (frames : List Whole) (begun : ℕ) (s : Plan)
    (h : History) (t : ℕ)
    → IsSeen x alarms frames begun s h → t ≡ length h
    → seen_counts x alarms frames s.link.params t (bare_totals s h)
    ≡ bare_totals s (h ++ moment_of s h ∷ [])
seen-counts x alarms frames begun s h t seen at =
    let m = moment_of s h in
    let p = s.link.params in
    let ms : List Mark = map (λ (f : Whole). f.mark) frames in
    let began : length m.entered ≡ length (entered_at p (length h) x.place) =
    ap length (entered-seen x alarms frames begun s h seen) in
    let same_marks : map (λ (d : Delivered). d.mark) m.delivered ≡ ms =
    ap (map (λ (d : Delivered). d.mark)) seen.delivered_is ∙ marks-of p _ frames begun in
    let gone : length m.delivered ≡ length ms =
    sym (length-map m.delivered (λ (d : Delivered). d.mark)) ∙ ap length same_marks in
    let offs : length (off_alarms s (length h)) ≡ length (off_alarm Tx x.tx_off) + length
    (off_alarm Rx x.rx_off) =
    offs-of s (length h) x.tx_off x.rx_off seen.tx_off seen.rx_off in
    let raised = ap length seen.alarms_are in
    ap (λ (k : ℕ). seen_counts x alarms frames p k (bare_totals s h)) at
    ∙ counted x alarms frames p s h
    ∙ rw (totals-more s h m, began, gone, same_marks, offs, ← raised) refl

-- few of them are added in a tick
pub few-counts : (x : Ticked) (alarms : List Alarm) (frames : List Whole) (p : Params) (t : ℕ)
    (n : Totals) → AreFew n t → length (off_alarm Tx x.tx_off) ≤ 1
    → length (off_alarm Rx x.rx_off) ≤ 1 → length (entered_at p t x.place) ≤ 8
    → length alarms ≤ 34 → length frames ≤ 8
    → AreFew (seen_counts x alarms frames p t n) (t + 1)
unfolding seen_counts
few-counts x alarms frames p t n few tx rx begun some left =
    let ms : List Mark = map (λ (f : Whole). f.mark) frames in
    let long = length-map frames (λ (f : Whole). f.mark) in
    let ok = count_by-le-length is_ok ms in
    let fixed = count_by-le-length is_fixed ms in
    let bad = count_by-le-length is_bad ms in
    let had = few.frames in
    let had_ticks = few.ticks in
    let had_entered = few.entered in
    let had_alarms = few.alarms in
    record {
      ticks = omega arith;
      entered = omega arith;
      frames = record {
        delivered = (let a = had.delivered in omega arith);
        ok = (let a = had.ok in omega arith);
        fixed = (let a = had.fixed in omega arith);
        bad = (let a = had.bad in omega arith);
      };
      alarms = omega arith;
    }
