-- What an input says that was read for `run`.
use Rattle.std.proofs.Common.{◌≡◌, ◌∙◌, ℕ, zero, suc, ◌+◌, ◌*◌, ◌/◌, ◌%◌, ◌<◌, ◌==◌, ◌&&◌, true, List, [], ◌∷◌, ◌++◌, Option, Some, None, Ok, Err, option_map, length, map, is_none, inl, inr, refl, sym, ap}
use Rattle.std.specs.Prelude.{Result, slice_index}
use Rattle.std.specs.List.{All, flat_map}
use Rattle.std.proofs.Math.Nat.{mod-lt}
use Rattle.std.proofs.lemmas.Bool.{cases_Bool, cases_lt}
use Rattle.std.proofs.lemmas.List.{get_or_past, length-map}
use Rattle.std.proofs.lemmas.Nat.{pow_pos}
use Rattle.std.proofs.lemmas.List.Elements.{All-append, All-filter, All-get_or, All-nil}
use Rattle.link_params.specs.declared.fields.Params.{Params}
use Rattle.link_params.specs.declared.fields.Timing.{Timing}
use Rattle.link_params.specs.Laws.{broken_law}
use Rattle.link_params.specs.TimingLaws.{broken_timing}
use Rattle.scenario.specs.declared.cause.Cause.TheVariants as cause
use Rattle.scenario.specs.declared.fault.Fault.{Fault}
use Rattle.scenario.specs.declared.kind.Job.{Job}
use Rattle.scenario.specs.declared.kind.Job.TheVariants as job
use Rattle.scenario.specs.declared.kind.Kind.{Kind}
use Rattle.scenario.specs.declared.kind.Kind.TheVariants as kind
use Rattle.scenario.specs.declared.plan.Event.{Event}
use Rattle.scenario.specs.declared.stage.Ramp.{Ramp as RampRead}
use Rattle.scenario.specs.declared.stage.Setup.{Setup}
use Rattle.scenario.specs.declared.stage.Stage.{Stage}
use Rattle.scenario.specs.declared.stage.Stage.TheVariants as stage
use Rattle.scenario.specs.Text.{Text}
use Rattle.scenario.specs.Check.{fault, basic_fault, fault_of, or_fault}
use Rattle.scenario.specs.Limits.{event_fits}
use Rattle.scenario.specs.Plans.{Frames, Plan, Ramp, Source, events_in, in_order, lanes_or, numbers_from, plan_at, source_frame, source_of, source_word, inverted_lanes}
use Rattle.scenario.specs.Reads.{Seen, add, misplaced, in_body, frame_checks, lanes_checks, lanes_in_fields, words_in_fields, ramp_checks, ramp_of, params_of, link_checks, link_law, timing_checks, timing_law, timing_of, of_kind, of_known, kind_of, field, version_read, version_fault, is_start, is_whole, step, ended, over, nothing, reads, rows_of, word_limit}
use Rattle.scenario.specs.laws.ReadingLaws.{IsLegalPlan, ReadsLegalPlans, ReadsPlans}
use Rattle.scenario.specs.kept.Sound.{AreSound, IsInput, IsSound}
use Rattle.scenario.proofs.LaneOrders.{length-inverted, order-or}
use Rattle.scenario.proofs.SoundLemmas.{fault-None, first-None, or_fault-Ok, step-sound}

-- ---- the link obeys its laws where it is fixed

-- parameters that a run takes
record AreLegal (p : Params) : Type 0 where
  laws : broken_law p ≡ None

record IsLegalLink (p : Params) (t : Timing) : Type 0 where
  of_params : AreLegal p
  timing : broken_timing p t ≡ None

-- at this place the parameters and the timing of a run are legal
abbrev HasLegal : Stage → Type 0
HasLegal stage.Version = Unit {0}
HasLegal (stage.Link j) = j ≡ job.Run
HasLegal (stage.Frames p) = ⊥
HasLegal (stage.Octets p) = ⊥
HasLegal (stage.Timing p) = AreLegal p
HasLegal (stage.Run k) = IsLegalLink k.params k.timing
HasLegal (stage.Body b) = IsLegalLink b.link.params b.link.timing

at-stage : (s t : Stage) → t ≡ s → HasLegal s → HasLegal t
at-stage s t e b = rw e b

link-legal : (fields : List Text) → fault_of (length fields) (link_checks fields) ≡ None
    → AreLegal (params_of fields)
unfolding link_law
link-legal fields e =
    let c = link_checks fields in
    let more = (first-None (basic_fault (length fields) c) c.more e).1 in
    let law = first-None (option_map (fault cause.Law) (link_law fields)) _ more in
    record { laws = fault-None cause.Law (link_law fields) law.0 }

timing-legal : (p : Params) (fields : List Text)
    → fault_of (length fields) (timing_checks p fields) ≡ None
    → broken_timing p (timing_of fields) ≡ None
unfolding timing_law
timing-legal p fields e =
    let c = timing_checks p fields in
    let more = (first-None (basic_fault (length fields) c) c.more e).1 in
    fault-None cause.Law (timing_law p fields)
    (first-None (option_map (fault cause.Law) (timing_law p fields)) [] more).0

-- a record that leaves the place
stays : (o : Option Fault) (seen x next : Seen) (s : Stage) → or_fault o x ≡ Ok next
    → x.stage ≡ seen.stage → seen.stage ≡ s → HasLegal s → HasLegal next.stage
stays o seen x next s e same is b =
    let ok = or_fault-Ok o x next e in
    at-stage s next.stage (ap (λ (y : Seen). y.stage) (sym ok.1) ∙ same ∙ is) b

body-legal : (seen : Seen) (ts : List Text) (b : Setup) (k : Kind) (next : Seen)
    → in_body seen ts b k ≡ Ok next → seen.stage ≡ stage.Body b
    → HasLegal (stage.Body b) → HasLegal next.stage
body-legal seen ts b kind.Frame next e is has = elim (cases_Bool (is_none b.ramp)) [
  | inl y ↦
      let added : add ts (frame_checks b.link.params ts)
      (record seen { words = seen.words ++ words_in_fields ts }) ≡ Ok next = rw y at e in
      stays _ seen _ next (stage.Body b) added refl is has
  | inr n ↦ let bad : misplaced ≡ Ok next = rw n at e in cc bad
]
body-legal seen ts b kind.Ramp next e is has =
    elim (cases_Bool (is_none b.ramp && (length seen.words == 0))) [
      | inl y ↦
          let added : add ts (ramp_checks b.link.params ts)
          (record seen { stage = stage.Body (record b { ramp = Some (ramp_of ts) }) })
          ≡ Ok next =
          rw y at e in
          let ok = or_fault-Ok _ _ next added in
          rw (← ok.1) has
      | inr n ↦ let bad : misplaced ≡ Ok next = rw n at e in cc bad
    ]
body-legal seen ts b kind.Delay next e is has = stays _ seen _ next (stage.Body b) e refl is has
body-legal seen ts b kind.Reset next e is has = stays _ seen _ next (stage.Body b) e refl is has
body-legal seen ts b kind.Dead next e is has = stays _ seen _ next (stage.Body b) e refl is has
body-legal seen ts b kind.Jitter next e is has = stays _ seen _ next (stage.Body b) e refl is has
body-legal seen ts b kind.Flip next e is has = stays _ seen _ next (stage.Body b) e refl is has
body-legal seen ts b kind.Wire next e is has = elim (cases_Bool (length seen.wire == 0)) [
  | inl y ↦
      let added : add ts (lanes_checks b.link.params ts)
      (record seen { wire = lanes_in_fields b.link.params ts }) ≡ Ok next = rw y at e in
      stays _ seen _ next (stage.Body b) added refl is has
  | inr n ↦ let bad : misplaced ≡ Ok next = rw n at e in cc bad
]
body-legal seen ts b kind.Route next e is has = elim (cases_Bool (length seen.route == 0)) [
  | inl y ↦
      let added : add ts (lanes_checks b.link.params ts)
      (record seen { route = lanes_in_fields b.link.params ts }) ≡ Ok next = rw y at e in
      stays _ seen _ next (stage.Body b) added refl is has
  | inr n ↦ let bad : misplaced ≡ Ok next = rw n at e in cc bad
]
body-legal seen ts b kind.Polarity next e is has = stays _ seen _ next (stage.Body b) e refl is has
body-legal seen ts b k next e is has = cc e

after-link : (seen : Seen) (fields : List Text) (j : Job) (next : Seen)
    → of_kind seen fields (stage.Link j) kind.Link ≡ Ok next → j ≡ job.Run → HasLegal next.stage
after-link seen fields job.Run next e is =
    let ok = or_fault-Ok _ _ next e in
    rw (← ok.1) (link-legal fields ok.0)
after-link seen fields job.Map next e is = cc is
after-link seen fields job.Unmap next e is = cc is

kind-legal : (seen : Seen) (fields : List Text) (s : Stage) (k : Kind) (next : Seen)
    → of_kind seen fields s k ≡ Ok next → seen.stage ≡ s → HasLegal s → HasLegal next.stage
kind-legal seen fields (stage.Link j) kind.Link next e is has = after-link seen fields j next e has
kind-legal seen fields (stage.Frames p) kind.Frame next e is has = absurd has
kind-legal seen fields (stage.Octets p) kind.Octets next e is has = absurd has
kind-legal seen fields (stage.Timing p) kind.Timing next e is has =
    let ok = or_fault-Ok _ _ next e in
    let legal : IsLegalLink p (timing_of fields) =
    record { of_params = has; timing = timing-legal p fields ok.0 } in
    rw (← ok.1) legal
kind-legal seen fields (stage.Run k) kind.Run next e is has =
    let ok = or_fault-Ok _ _ next e in rw (← ok.1) has
kind-legal seen fields (stage.Body b) k next e is has = body-legal seen fields b k next e is has
kind-legal seen fields s k next e is has = cc e

known-legal : (seen : Seen) (fields : List Text) (k : Option Kind) (next : Seen)
    → of_known seen fields k ≡ Ok next → HasLegal seen.stage → HasLegal next.stage
known-legal seen fields None next e has = cc e
known-legal seen fields (Some k) next e has = kind-legal seen fields seen.stage k next e refl has

step-legal : (seen : Seen) (fields : List Text) (next : Seen) → step job.Run seen fields ≡ Ok next
    → HasLegal seen.stage → HasLegal next.stage
step-legal seen fields next e has = elim (cases_Bool (is_start seen.stage)) [
  | inl y ↦
      let read : version_read job.Run seen fields ≡ Ok next = rw y at e in
      let ok = or_fault-Ok (version_fault fields) _ next read in
      rw (← ok.1) refl
  | inr n ↦ known-legal seen fields (kind_of seen.version (field fields 0)) next (rw n at e) has
]

-- ---- over all records

-- what was read so far, if it was accepted, is legal and sound
abbrev Kept : Result Seen Fault → Type 0
Kept (Ok seen) = HasLegal seen.stage × IsSound seen
Kept (Err f) = Unit {0}

kept : (r : Result Seen Fault)
    → ((next : Seen) → r ≡ Ok next → HasLegal next.stage × IsSound next) → Kept r
kept (Ok seen) h = h seen refl
kept (Err f) h = tt

-- the end: nothing is missing
record IsWhole (seen : Seen) : Type 0 where
  legal : HasLegal seen.stage
  sound : IsSound seen
  whole : is_whole seen.stage ≡ true

ended-whole : (n : ℕ) (s seen : Seen) → ended n s ≡ Ok seen → HasLegal s.stage → IsSound s
    → IsWhole seen
ended-whole n s seen e has sound = elim (cases_Bool (is_start s.stage)) [
  | inl y ↦ let bad = rw y at e in cc bad
  | inr later ↦
      let e2 = rw later at e in elim (cases_Bool (is_whole s.stage)) [
        | inl w ↦
            let e3 = rw w at e2 in
            let same : s ≡ seen = cc e3 in
            let is : IsWhole s = record { legal = has; sound = sound; whole = w } in
            rw (← same) is
        | inr w ↦ let bad = rw w at e2 in cc bad
      ]
]

rows-whole : (rows : List (List Text)) (n : ℕ) (r : Result Seen Fault) (seen : Seen)
    → over job.Run n r rows ≡ Ok seen → Kept r → IsWhole seen
unfolding over
rows-whole [] n (Err f) seen e k = cc e
rows-whole (x ∷ rows) n (Err f) seen e k = cc e
rows-whole [] n (Ok s) seen e k = ended-whole n s seen e k.0 k.1
rows-whole (x ∷ rows) n (Ok s) seen e k = rows-whole rows (n + 1) (step job.Run s x) seen e
    (kept (step job.Run s x) (λ next is. (
      step-legal s x next is k.0,
      step-sound job.Run s x next is k.1,
    )))

-- the records after `run` were reached
record IsPlanned (seen : Seen) : Type 0 where
  setup : Setup
  place : seen.stage ≡ stage.Body setup
  legal : IsLegalLink setup.link.params setup.link.timing
  sound : AreSound (stage.Body setup) seen

whole-planned : (s : Stage) (seen : Seen) → seen.stage ≡ s → HasLegal s → AreSound s seen
    → is_whole s ≡ true → IsPlanned seen
whole-planned (stage.Body b) seen is has sound e =
    record { setup = b; place = is; legal = has; sound = sound }
whole-planned (stage.Frames p) seen is has sound e = absurd has
whole-planned (stage.Octets p) seen is has sound e = absurd has
whole-planned s seen is has sound e = cc e

-- an input that is accepted for `run` fixes a legal link
planned : (bytes : List ℕ) (seen : Seen) → reads job.Run bytes ≡ Ok seen → IsPlanned seen
unfolding reads
planned bytes seen e =
    let w = rows-whole (rows_of bytes) 0 (Ok nothing) seen e
    (tt, (refl, refl, (refl, refl, refl, refl, refl))) in
    whole-planned seen.stage seen refl w.legal w.sound w.whole

pub reads-plans : ReadsPlans
reads-plans bytes seen e =
    let k = planned bytes seen e in (_, ap (λ (t : Stage). plan_at t seen) k.place)

-- ---- what the plan obeys

some-words : (p : Params) → 0 < word_limit p
some-words p = pow_pos (p.n + p.cs)

below-all : (limit : ℕ) (words : List ℕ) (i : ℕ) → 0 < limit → All (λ w. w < limit) words
    → slice_index words i < limit
below-all limit words i some all = elim (cases_lt i (length words)) [
  | inl inside ↦ All-get_or (λ w. w < limit) words i 0 inside all
  | inr past ↦ let none = get_or_past words i 0 past in rw none some
]

-- each word of a source is below the limit
abbrev IsBelow : Params → Source → Type 0
IsBelow p (Ramp start step) = Unit {0}
IsBelow p (Frames words) = All (λ w. w < word_limit p) words

source-below : (p : Params) (o : Option RampRead) (words : List ℕ) → IsInput p o words
    → IsBelow p (source_of o words)
source-below p (Some r) words is = tt
source-below p None [] is = tt
source-below p None (w ∷ words) is = is.fit

word-below : (p : Params) (source : Source) (n k : ℕ) → IsBelow p source
    → source_word p source n k < word_limit p
word-below p (Ramp start step) n k is =
    mod-lt (start + step * (n * (p.m * p.s) + k)) (some-words p)
word-below p (Frames words) n k is =
    below-all (word_limit p) words (n % (length words / (p.m * p.s)) * (p.m * p.s) + k)
    (some-words p) is

length-numbers : (n a : ℕ) → length (numbers_from a n) ≡ n
unfolding numbers_from
length-numbers zero a = refl
length-numbers (suc n) a = ap suc (length-numbers n (suc a))

-- each value of a function is below a limit, and so are all in a list of them
map-below : (f : ℕ → ℕ) (limit : ℕ) (xs : List ℕ) (r : ℕ) → 0 < limit → ((k : ℕ) → f k < limit)
    → slice_index (map f xs) r < limit
map-below f limit [] r some below = some
map-below f limit (x ∷ xs) zero some below = below x
map-below f limit (x ∷ xs) (suc r) some below = map-below f limit xs r some below

pub frame-size : (s : Plan) (n : ℕ) → length (source_frame s n) ≡ s.link.params.m * s.link.params.s
unfolding source_frame
frame-size s n =
    let size : ℕ = s.link.params.m * s.link.params.s in
    length-map (numbers_from 0 size) (source_word s.link.params s.source n) ∙ length-numbers size 0

pub frame-below : (s : Plan) (n r : ℕ) → IsBelow s.link.params s.source
    → slice_index (source_frame s n) r < word_limit s.link.params
unfolding source_frame
frame-below s n r is = map-below (source_word s.link.params s.source n) (word_limit s.link.params)
    (numbers_from 0 (s.link.params.m * s.link.params.s)) r (some-words s.link.params)
    (λ k. word-below s.link.params s.source n k is)

all-flat : (P : Event → Type 0) (f : ℕ → List Event) (ts : List ℕ) → ((t : ℕ) → All P (f t))
    → All P (flat_map f ts)
all-flat P f [] all = All-nil P
all-flat P f (t ∷ ts) all = All-append P (f t) (flat_map f ts) (all t) (all-flat P f ts all)

ordered-fit : (p : Params) (ticks : ℕ) (events : List Event)
    → All (λ e. event_fits p ticks e ≡ true) events
    → All (λ e. event_fits p ticks e ≡ true) (in_order ticks events)
unfolding in_order
ordered-fit p ticks events all =
    all-flat (λ e. event_fits p ticks e ≡ true) (λ t. events_in t events) (numbers_from 0 ticks)
    (λ t. All-filter (λ e. e.tick == t) (λ e. event_fits p ticks e ≡ true) events all)

plan-legal : (seen : Seen) (k : IsPlanned seen) (plan : Plan)
    → plan_at (stage.Body k.setup) seen ≡ Some plan → IsLegalPlan plan
plan-legal seen k plan e =
    let b = k.setup in
    let l : ℕ = b.link.params.l in
    let is : Plan = record {
      version = seen.version;
      link = b.link;
      ticks = b.ticks;
      print = b.print;
      source = source_of b.ramp seen.words;
      events = in_order b.ticks seen.events;
      jitters = seen.jitters;
      flips = seen.flips;
      wire = lanes_or l seen.wire;
      route = lanes_or l seen.route;
      inverted = inverted_lanes l seen.polarities;
    } in
    let same : is ≡ plan = cc e in
    let (input, octets, ticks, events, lanes) = k.sound in
    let legal : IsLegalPlan is = record {
      laws = k.legal.of_params.laws;
      timing = k.legal.timing;
      some_ticks = ticks.some;
      few_ticks = ticks.few;
      events = ordered-fit b.link.params b.ticks seen.events events.events_fit;
      jitters = events.jitters_fit;
      flips = events.flips_fit;
      wire = order-or l seen.wire lanes.wire_lanes;
      route = order-or l seen.route lanes.route_lanes;
      inverted = length-inverted l seen.polarities;
      size = frame-size is;
      words = λ n r. frame-below is n r (source-below b.link.params b.ramp seen.words input);
    } in
    rw (← same) legal

pub reads-legal-plans : ReadsLegalPlans
reads-legal-plans bytes seen plan e is =
    let k = planned bytes seen e in
    plan-legal seen k plan (ap (λ (t : Stage). plan_at t seen) (sym k.place) ∙ is)
