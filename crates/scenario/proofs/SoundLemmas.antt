-- What was read is sound.
use Rattle.std.proofs.Common.{◌≡◌, ◌<◌, ◌+◌, ◌*◌, ◌%◌, ◌==◌, ◌∙◌, ℕ, zero, suc, Bool, true, false, List, [], ◌∷◌, ◌++◌, Option, Some, None, Ok, map, drop, length, length-append, nat_le, nat_lt, ◌&&◌, IsTrue, is_none, option_map, inl, inr, refl, ap, arith}
use Rattle.std.proofs.Math.Nat.{add-mod_right, zero-mod}
use Rattle.std.proofs.lemmas.Bool.{cases_Bool, ltb-true, leb-true, eqb-true, and_parts, and_from}
use Rattle.std.proofs.lemmas.List.{length-map, length-drop}
use Rattle.std.proofs.lemmas.List.Elements.{All-nil, All-cons, All-append, All-push}
use Rattle.std.specs.List.{All, list_all}
use Rattle.link_params.specs.declared.fields.Params.{Params}
use Rattle.link_params.specs.Numbers.{octets_per_tick}
use Rattle.scenario.specs.declared.cause.Cause.{Cause}
use Rattle.scenario.specs.declared.cause.Cause.TheVariants as cause
use Rattle.scenario.specs.declared.fault.Fault.{Fault}
use Rattle.scenario.specs.declared.kind.Job.{Job}
use Rattle.scenario.specs.declared.kind.Job.TheVariants as job
use Rattle.scenario.specs.declared.kind.Kind.{Kind}
use Rattle.scenario.specs.declared.kind.Kind.TheVariants as kind
use Rattle.scenario.specs.declared.plan.Event.{Event}
use Rattle.scenario.specs.declared.stage.Ramp.{Ramp}
use Rattle.scenario.specs.declared.stage.Setup.{Setup}
use Rattle.scenario.specs.declared.stage.Stage.{Stage}
use Rattle.scenario.specs.declared.stage.Stage.TheVariants as stage
use Rattle.scenario.specs.Text.{Text, hex_octets, is_hex}
use Rattle.scenario.specs.Check.{first, fault, lowest, unless, Checks, fault_of, or_fault}
use Rattle.scenario.specs.Reads.{Seen, num, misplaced, room_for_event, events_so_far, with_event, in_body, add, run_checks, print_or_none, is_small_run, ramp_checks, ramp_of, delay_checks, delay_of, dead_checks, dead_of, reset_checks, reset_of, jitter_checks, jitter_of, flipped, flip_checks, flip_of, lanes_checks, lanes_in_fields, polarity_of, word_or_0, words_in_fields, word_limit, is_octets, all_octets, frame_checks, octets_checks, params_of, after_link, of_kind, of_known, kind_of, field, version_read, version_fault, is_start, step}
use Rattle.scenario.specs.Limits.{event_fits, flip_fits, is_order, jitter_fits}
use Rattle.scenario.specs.kept.Sound.{AreEvents, AreFrames, AreLanes, AreOctets, AreSound, AreTicks, HasNone, IsInput, IsSound}
use Rattle.scenario.proofs.FlipLemmas.{flipped-more}
use Rattle.scenario.proofs.LaneOrders.{length-fields, order-of-lanes}

-- what is known of a value that was read
pub or_fault-Ok : (o : Option Fault) (x y : Seen) → or_fault o x ≡ Ok y → (o ≡ None) × (x ≡ y)
or_fault-Ok None x y e = (refl, cc e)
or_fault-Ok (Some f) x y e = cc e

pub first-None : (o : Option Fault) (more : List (Option Fault)) → first (o ∷ more) ≡ None
    → (o ≡ None) × (first more ≡ None)
first-None None more e = (refl, e)
first-None (Some f) more e = cc e

pub unless-None : (b : Bool) (f : Fault) → unless b f ≡ None → b ≡ true
unless-None true f e = refl
unless-None false f e = cc e

pub fault-None : (why : Cause) (o : Option ℕ) → option_map (fault why) o ≡ None → o ≡ None
fault-None why None e = refl
fault-None why (Some at) e = cc e

-- each of these tests holds
abbrev AllTrue : List Bool → Type 0
AllTrue [] = Unit {0}
AllTrue (b ∷ bs) = (b ≡ true) × AllTrue bs

lowest-None : (bs : List Bool) (i : ℕ) → lowest i bs ≡ None → AllTrue bs
lowest-None [] i e = tt
lowest-None (b ∷ bs) i e = elim (cases_Bool b) [
  | inl y ↦ (y, lowest-None bs (i + 1) (rw y at e))
  | inr n ↦ let bad : Some i ≡ None = rw n at e in cc bad
]

-- the facts of a record with no fault
record Holds (n : ℕ) (c : Checks) : Type 0 where
  pub count : n ≡ c.count + 1
  pub forms : lowest 1 c.forms ≡ None
  pub ranges : lowest 1 c.ranges ≡ None
  pub in_range : AllTrue c.ranges
  pub more : first c.more ≡ None

holds : (n : ℕ) (c : Checks) → fault_of n c ≡ None → Holds n c
holds n c e =
    let all = first-None _ c.more e in
    let one = first-None (unless (n == c.count + 1) (fault cause.FieldCount n)) _ all.0 in
    let two = first-None (option_map (fault cause.Form) (lowest 1 c.forms)) _ one.1 in
    let three = first-None (option_map (fault cause.Range) (lowest 1 c.ranges)) _ two.1 in
    record {
      count =
          eqb-true n (c.count + 1)
          (unless-None (n == c.count + 1) (fault cause.FieldCount n) one.0);
      forms = fault-None cause.Form (lowest 1 c.forms) two.0;
      ranges = fault-None cause.Range (lowest 1 c.ranges) three.0;
      in_range = lowest-None c.ranges 1 (fault-None cause.Range (lowest 1 c.ranges) three.0);
      more = all.1;
    }

words-fit : (limit : ℕ) (ts : List Text) (i : ℕ)
    → lowest i (map (λ text. nat_lt (word_or_0 text) limit) ts) ≡ None
    → All (λ w. w < limit) (map word_or_0 ts)
words-fit limit [] i e = All-nil (λ w. w < limit)
words-fit limit (t ∷ ts) i e = elim (cases_Bool (nat_lt (word_or_0 t) limit)) [
  | inl y ↦ All-cons (λ w. w < limit) (word_or_0 t) (map word_or_0 ts)
      (ltb-true (word_or_0 t) limit y) (words-fit limit ts (i + 1) (rw y at e))
  | inr n ↦ let bad : Some i ≡ None = rw n at e in cc bad
]

octets_of-length : (t : Text) (f : ℕ) → length t ≡ 2 * f → length (hex_octets t) ≡ f
octets_of-length [] f e = omega arith
octets_of-length (a ∷ []) f e = absurd (omega arith)
octets_of-length (a ∷ b ∷ rest) zero e = absurd (omega arith)
octets_of-length (a ∷ b ∷ rest) (suc f) e = let h : length (hex_octets rest) ≡ f =
    octets_of-length rest f (omega arith) in omega arith

all_octets-length : (ts : List Text) (f i : ℕ) → lowest i (map (is_octets f) ts) ≡ None
    → length (all_octets ts) ≡ length ts * f
all_octets-length [] f i e = omega arith
all_octets-length (t ∷ ts) f i e = elim (cases_Bool (is_octets f t)) [
  | inl y ↦
      let size =
      eqb-true (length t) (2 * f) (and_parts (length t == 2 * f) (list_all is_hex t) y).0 in
      let here = octets_of-length t f size in
      let rest = all_octets-length ts f (i + 1) (rw y at e) in
      omega (arith, length-append (hex_octets t) (all_octets ts), here, rest)
  | inr n ↦ let bad : Some i ≡ None = rw n at e in cc bad
]

behind-first : (ts : List Text) (n : ℕ) → length ts ≡ n + 1 → length (drop 1 ts) ≡ n
behind-first ts n e = omega (arith, length-drop 1 ts)

whole-more : (xs ys : List ℕ) (k : ℕ) → length xs % k ≡ 0 → length ys ≡ k
    → length (xs ++ ys) % k ≡ 0
whole-more xs ys k whole e = ap (λ n. n % k) (length-append xs ys ∙ ap (λ n. length xs + n) e)
    ∙ add-mod_right (length xs) k ∙ whole

frames-more : (p : Params) (words : List ℕ) (ts : List Text) → AreFrames p words
    → fault_of (length ts) (frame_checks p ts) ≡ None → AreFrames p (words ++ words_in_fields ts)
frames-more p words ts are e =
    let h = holds (length ts) (frame_checks p ts) e in record {
      whole = whole-more words (words_in_fields ts) (p.m * p.s) are.whole (length-map (drop 1 ts) word_or_0
          ∙ behind-first ts (p.m * p.s) h.count);
      fit = All-append (λ w. w < word_limit p) words (words_in_fields ts) are.fit
          (words-fit (word_limit p) (drop 1 ts) 1 h.ranges);
    }

octets-more : (p : Params) (octets : List ℕ) (ts : List Text) → AreOctets p octets
    → fault_of (length ts) (octets_checks p ts) ≡ None
    → AreOctets p (octets ++ all_octets (drop 1 ts))
octets-more p octets ts are e =
    let h = holds (length ts) (octets_checks p ts) e in record {
      whole = whole-more octets (all_octets (drop 1 ts)) (p.l * p.f) are.whole
          (all_octets-length (drop 1 ts) p.f 1 h.forms
          ∙ ap (λ n. n * p.f) (behind-first ts p.l h.count));
    }

-- no words are whole frames, and no octets are whole ones
pub no-frames : (p : Params) (words : List ℕ) → words ≡ [] → AreFrames p words
no-frames p words e =
    record { whole = rw e (zero-mod (p.m * p.s)); fit = rw e (All-nil (λ w. w < word_limit p)) }

pub no-octets : (p : Params) (octets : List ℕ) → octets ≡ [] → AreOctets p octets
no-octets p octets e = record { whole = rw e (zero-mod (p.l * p.f)) }

-- nothing is whole
none-sound : (j : Job) (p : Params) (seen : Seen) → AreSound stage.Version seen
    → AreSound (after_link j p) seen
none-sound job.Map p seen (words, octets, none) = (no-frames p seen.words words, octets, none)
none-sound job.Unmap p seen (words, octets, none) = (words, no-octets p seen.octets octets, none)
none-sound job.Run p seen none = none

at-stage : (s t : Stage) (seen : Seen) → t ≡ s → AreSound s seen → AreSound t seen
at-stage s t seen e sound = rw e sound

-- ---- a run
no-events : (p : Params) (ticks : ℕ) (seen : Seen) → HasNone seen
    → AreEvents p ticks seen.events seen.jitters seen.flips
no-events p ticks seen (events, jitters, flips, wire, route) = record {
  events_fit = rw events (All-nil (λ e. IsTrue (event_fits p ticks e)));
  jitters_fit = rw jitters (All-nil (λ j. IsTrue (jitter_fits j)));
  flips_fit = rw flips (All-nil (λ f. IsTrue (flip_fits p ticks f)));
  few_events = rw (events, jitters) (omega arith);
  few_flips = rw flips (omega arith);
}

run-ticks : (p : Params) (ts : List Text) → fault_of (length ts) (run_checks p ts) ≡ None
    → AreTicks p (num ts 1) (print_or_none ts)
run-ticks p ts e =
    let h = holds (length ts) (run_checks p ts) e in
    let within = and_parts (nat_le 1 (num ts 1)) (nat_le (num ts 1) 1048576) h.in_range.0 in
    let small = unless-None (is_small_run p (num ts 1) (print_or_none ts)) (fault cause.RunSize 1)
    (first-None _ [] h.more).0 in
    let sizes = and_parts (nat_le (num ts 1 * p.l * octets_per_tick p) 4194304) _ small in
    record {
      some = leb-true 1 (num ts 1) within.0;
      few = leb-true (num ts 1) 1048576 within.1;
      octets = leb-true _ 4194304 sizes.0;
      words = leb-true _ 2097152 sizes.1;
    }

event-more : (p : Params) (ticks : ℕ) (seen : Seen) (e : Event)
    → AreEvents p ticks seen.events seen.jitters seen.flips → event_fits p ticks e ≡ true
    → first (room_for_event (events_so_far seen) ∷ []) ≡ None
    → AreEvents p ticks (seen.events ++ e ∷ []) seen.jitters seen.flips
event-more p ticks seen e are fits more =
    let less =
    ltb-true (events_so_far seen) 4096
    (unless-None (nat_lt (events_so_far seen) 4096) (fault cause.TooMany 0)
    (first-None _ [] more).0) in
    record {
      events_fit = All-push (λ e. IsTrue (event_fits p ticks e)) seen.events e are.events_fit fits;
      jitters_fit = are.jitters_fit;
      flips_fit = are.flips_fit;
      few_events = omega (arith, length-append seen.events (e ∷ []), less);
      few_flips = are.few_flips;
    }

delay-fits : (n : ℕ) (b : Setup) (ts : List Text) → Holds (length ts) (delay_checks n b ts)
    → event_fits b.link.params b.ticks (delay_of ts) ≡ true
delay-fits n b ts h = and_from _ _ h.in_range.0 (and_from _ _ h.in_range.1.0 h.in_range.1.1.0)

dead-fits : (n : ℕ) (b : Setup) (ts : List Text) → Holds (length ts) (dead_checks n b ts)
    → event_fits b.link.params b.ticks (dead_of ts) ≡ true
dead-fits n b ts h = and_from _ _ h.in_range.0 h.in_range.1.0

reset-fits : (n : ℕ) (b : Setup) (ts : List Text) → Holds (length ts) (reset_checks n b ts)
    → event_fits b.link.params b.ticks (reset_of ts) ≡ true
reset-fits n b ts h = and_from _ true h.in_range.0 refl

jitter-more : (p : Params) (ticks : ℕ) (seen : Seen) (ts : List Text)
    → AreEvents p ticks seen.events seen.jitters seen.flips
    → fault_of (length ts) (jitter_checks (events_so_far seen) ts) ≡ None
    → AreEvents p ticks seen.events (seen.jitters ++ jitter_of ts ∷ []) seen.flips
jitter-more p ticks seen ts are e =
    let h = holds (length ts) (jitter_checks (events_so_far seen) ts) e in
    let less =
    ltb-true (events_so_far seen) 4096
    (unless-None (nat_lt (events_so_far seen) 4096) (fault cause.TooMany 0)
    (first-None _ [] h.more).0) in
    record {
      events_fit = are.events_fit;
      jitters_fit = All-push (λ j. IsTrue (jitter_fits j)) seen.jitters
          (jitter_of ts) are.jitters_fit (and_from _ _ h.in_range.1.0 h.in_range.1.1.0);
      flips_fit = are.flips_fit;
      few_events = omega (arith, length-append seen.jitters (jitter_of ts ∷ []), less);
      few_flips = are.few_flips;
    }

flip-more : (b : Setup) (seen : Seen) (ts : List Text)
    → AreEvents b.link.params b.ticks seen.events seen.jitters seen.flips
    → fault_of (length ts) (flip_checks (flipped seen.flips) b ts) ≡ None
    → AreEvents b.link.params b.ticks seen.events seen.jitters (seen.flips ++ flip_of ts ∷ [])
flip-more b seen ts are e =
    let h = holds (length ts) (flip_checks (flipped seen.flips) b ts) e in
    let few = leb-true (flipped seen.flips + num ts 3) 65536
    (unless-None _ (fault cause.TooMany 0) (first-None _ [] h.more).0) in
    record {
      events_fit = are.events_fit;
      jitters_fit = are.jitters_fit;
      flips_fit = All-push (λ f. IsTrue (flip_fits b.link.params b.ticks f)) seen.flips
          (flip_of ts) are.flips_fit (and_from _ _ h.in_range.0 h.in_range.1.1.0);
      few_events = are.few_events;
      few_flips = rw (flipped-more seen.flips (flip_of ts)) few;
    }

ramp-fits : (p : Params) (ts : List Text) (words : List ℕ)
    → fault_of (length ts) (ramp_checks p ts) ≡ None → words ≡ []
    → IsInput p (Some (ramp_of ts)) words
ramp-fits p ts words e none =
    let h = holds (length ts) (ramp_checks p ts) e in (
      ltb-true (num ts 1) (word_limit p) h.in_range.0,
      ltb-true (num ts 2)
          (word_limit p) h.in_range.1.0,
      none,
    )

-- the lanes of a record are an order of the lanes
lanes-order : (p : Params) (ts : List Text) → fault_of (length ts) (lanes_checks p ts) ≡ None
    → is_order p.l (lanes_in_fields p ts) ≡ true
lanes-order p ts e =
    let h = holds (length ts) (lanes_checks p ts) e in
    order-of-lanes p.l (lanes_in_fields p ts) (length-fields p.l 1 ts) h.ranges

input-frames : (p : Params) (o : Option Ramp) (words : List ℕ) → is_none o ≡ true
    → IsInput p o words → AreFrames p words
input-frames p None words e input = input
input-frames p (Some r) words e input = cc e

frames-input : (p : Params) (o : Option Ramp) (words : List ℕ) → is_none o ≡ true
    → AreFrames p words → IsInput p o words
frames-input p None words e frames = frames
frames-input p (Some r) words e frames = cc e

no-length : (words : List ℕ) → length words ≡ 0 → words ≡ []
no-length [] e = refl
no-length (w ∷ words) e = absurd (omega arith)

event-sound : (seen : Seen) (b : Setup) (e : Event) → seen.stage ≡ stage.Body b
    → AreSound (stage.Body b) seen → event_fits b.link.params b.ticks e ≡ true
    → first (room_for_event (events_so_far seen) ∷ []) ≡ None → IsSound (with_event seen e)
event-sound seen b e is (input, octets, ticks, events, lanes) fits more =
    at-stage (stage.Body b) seen.stage (with_event seen e) is
    (input, octets, ticks, event-more b.link.params b.ticks seen e events fits more, lanes)

body-frame : (seen : Seen) (ts : List Text) (b : Setup) (next : Seen)
    → in_body seen ts b kind.Frame ≡ Ok next → seen.stage ≡ stage.Body b
    → AreSound (stage.Body b) seen → IsSound next
body-frame seen ts b next e is (input, octets, ticks, events, lanes) = elim (cases_Bool (is_none b.ramp)) [
  | inl y ↦
      let added : add ts (frame_checks b.link.params ts)
      (record seen { words = seen.words ++ words_in_fields ts }) ≡ Ok next = rw y at e in
      let ok = or_fault-Ok _ _ next added in
      let frames = frames-more b.link.params seen.words ts
      (input-frames b.link.params b.ramp seen.words y input) ok.0 in
      rw (← ok.1)
      (at-stage (stage.Body b) seen.stage (record seen { words = seen.words ++ words_in_fields ts }) is (
        frames-input b.link.params b.ramp (seen.words ++ words_in_fields ts) y frames,
        octets,
        ticks,
        events,
        lanes,
      ))
  | inr n ↦ let bad : misplaced ≡ Ok next = rw n at e in cc bad
]

body-ramp : (seen : Seen) (ts : List Text) (b : Setup) (next : Seen)
    → in_body seen ts b kind.Ramp ≡ Ok next
    → AreSound (stage.Body b) seen → IsSound next
body-ramp seen ts b next e (input, octets, ticks, events, lanes) =
    elim (cases_Bool (is_none b.ramp && (length seen.words == 0))) [
      | inl y ↦
          let added : add ts (ramp_checks b.link.params ts)
          (record seen { stage = stage.Body (record b { ramp = Some (ramp_of ts) }) }) ≡ Ok next =
          rw y at e in
          let ok = or_fault-Ok _ _ next added in
          let none =
          no-length seen.words
          (eqb-true (length seen.words) 0 (and_parts (is_none b.ramp) _ y).1) in
          rw (← ok.1) (ramp-fits b.link.params ts seen.words ok.0 none, octets, ticks, events, lanes)
      | inr n ↦ let bad : misplaced ≡ Ok next = rw n at e in cc bad
    ]

body-sound : (seen : Seen) (ts : List Text) (b : Setup) (k : Kind) (next : Seen)
    → in_body seen ts b k ≡ Ok next → seen.stage ≡ stage.Body b
    → AreSound (stage.Body b) seen → IsSound next
body-sound seen ts b kind.Frame next e is sound = body-frame seen ts b next e is sound
body-sound seen ts b kind.Ramp next e is sound = body-ramp seen ts b next e sound
body-sound seen ts b kind.Delay next e is sound =
    let ok = or_fault-Ok _ _ next e in
    let h = holds (length ts) (delay_checks (events_so_far seen) b ts) ok.0 in
    rw (← ok.1) (event-sound seen b (delay_of ts) is sound (delay-fits (events_so_far seen) b ts h)
    h.more)
body-sound seen ts b kind.Reset next e is sound =
    let ok = or_fault-Ok _ _ next e in
    let h = holds (length ts) (reset_checks (events_so_far seen) b ts) ok.0 in
    rw (← ok.1) (event-sound seen b (reset_of ts) is sound (reset-fits (events_so_far seen) b ts h)
    h.more)
body-sound seen ts b kind.Dead next e is sound =
    let ok = or_fault-Ok _ _ next e in
    let h = holds (length ts) (dead_checks (events_so_far seen) b ts) ok.0 in
    rw (← ok.1) (event-sound seen b (dead_of ts) is sound (dead-fits (events_so_far seen) b ts h)
    h.more)
body-sound seen ts b kind.Jitter next e is (input, octets, ticks, events, lanes) =
    let ok = or_fault-Ok _ _ next e in
    rw (← ok.1)
    (at-stage (stage.Body b) seen.stage
    (record seen { jitters = seen.jitters ++ jitter_of ts ∷ [] }) is
    (input, octets, ticks, jitter-more b.link.params b.ticks seen ts events ok.0, lanes))
body-sound seen ts b kind.Flip next e is (input, octets, ticks, events, lanes) =
    let ok = or_fault-Ok _ _ next e in
    rw (← ok.1)
    (at-stage (stage.Body b) seen.stage (record seen { flips = seen.flips ++ flip_of ts ∷ [] })
    is
    (input, octets, ticks, flip-more b seen ts events ok.0, lanes))
body-sound seen ts b kind.Wire next e is (input, octets, ticks, events, lanes) =
    elim (cases_Bool (length seen.wire == 0)) [
      | inl y ↦
          let now : List ℕ = lanes_in_fields b.link.params ts in
          let added : add ts (lanes_checks b.link.params ts) (record seen { wire = now }) ≡ Ok next =
          rw y at e in
          let ok = or_fault-Ok _ _ next added in
          rw (← ok.1)
          (at-stage (stage.Body b) seen.stage (record seen { wire = now }) is (
            input,
            octets,
            ticks,
            events,
            record {
              wire_lanes = inr (lanes-order b.link.params ts ok.0);
              route_lanes = lanes.route_lanes;
            },
          ))
      | inr n ↦ let bad : misplaced ≡ Ok next = rw n at e in cc bad
    ]
body-sound seen ts b kind.Route next e is (input, octets, ticks, events, lanes) =
    elim (cases_Bool (length seen.route == 0)) [
      | inl y ↦
          let now : List ℕ = lanes_in_fields b.link.params ts in
          let added : add ts (lanes_checks b.link.params ts) (record seen { route = now }) ≡ Ok next =
          rw y at e in
          let ok = or_fault-Ok _ _ next added in
          rw (← ok.1)
          (at-stage (stage.Body b) seen.stage (record seen { route = now }) is (
            input,
            octets,
            ticks,
            events,
            record {
              wire_lanes = lanes.wire_lanes;
              route_lanes = inr (lanes-order b.link.params ts ok.0);
            },
          ))
      | inr n ↦ let bad : misplaced ≡ Ok next = rw n at e in cc bad
    ]
body-sound seen ts b kind.Polarity next e is sound =
    let ok = or_fault-Ok _ _ next e in
    rw (← ok.1)
    (at-stage (stage.Body b) seen.stage
    (record seen { polarities = seen.polarities ++ polarity_of ts ∷ [] }) is sound)
body-sound seen ts b k next e is sound = cc e

kind-sound : (seen : Seen) (fields : List Text) (s : Stage) (k : Kind) (next : Seen)
    → of_kind seen fields s k ≡ Ok next → seen.stage ≡ s
    → AreSound s seen → IsSound next
kind-sound seen fields (stage.Link j) kind.Link next e is sound =
    let ok = or_fault-Ok _ _ next e in
    rw (← ok.1)
    (none-sound j (params_of fields) (record seen { stage = after_link j (params_of fields) })
    sound)
kind-sound seen fields (stage.Frames p) kind.Frame next e is (frames, octets, none) =
    let ok = or_fault-Ok _ _ next e in
    rw (← ok.1)
    (at-stage (stage.Frames p) seen.stage
    (record seen { words = seen.words ++ words_in_fields fields }) is
    (frames-more p seen.words fields frames ok.0, octets, none))
kind-sound seen fields (stage.Octets p) kind.Octets next e is (words, octets, none) =
    let ok = or_fault-Ok _ _ next e in
    rw (← ok.1)
    (at-stage (stage.Octets p) seen.stage
    (record seen { octets = seen.octets ++ all_octets (drop 1 fields) }) is
    (words, octets-more p seen.octets fields octets ok.0, none))
kind-sound seen fields (stage.Timing p) kind.Timing next e is sound =
    let ok = or_fault-Ok _ _ next e in rw (← ok.1) sound
kind-sound seen fields (stage.Run k) kind.Run next e is (words, octets, none) =
    let ok = or_fault-Ok _ _ next e in
    rw (← ok.1) (
      no-frames k.params seen.words words,
      octets,
      run-ticks k.params fields ok.0,
      no-events k.params (num fields 1) seen none,
      record { wire_lanes = inl none.3; route_lanes = inl none.4 },
    )
kind-sound seen fields (stage.Body b) k next e is sound = body-sound seen fields b k next e is sound
kind-sound seen fields s k next e is sound = cc e

known-sound : (seen : Seen) (fields : List Text) (k : Option Kind) (next : Seen)
    → of_known seen fields k ≡ Ok next → IsSound seen → IsSound next
known-sound seen fields None next e sound = cc e
known-sound seen fields (Some k) next e sound =
    kind-sound seen fields seen.stage k next e refl sound

known-step : (j : Job) (seen : Seen) (fields : List Text) (next : Seen)
    → is_start seen.stage ≡ false → step j seen fields ≡ Ok next → IsSound seen → IsSound next
known-step j seen fields next later e sound =
    known-sound seen fields (kind_of seen.version (field fields 0)) next (rw later at e) sound

first-step : (j : Job) (seen : Seen) (fields : List Text) (next : Seen) → is_start seen.stage ≡ true
    → step j seen fields ≡ Ok next
    → AreSound stage.Version seen → IsSound next
first-step j seen fields next start e sound =
    let read : version_read j seen fields ≡ Ok next = rw start at e in
    let ok = or_fault-Ok (version_fault fields) _ next read in rw (← ok.1) sound

-- one record more keeps it
pub step-sound : (j : Job) (seen : Seen) (fields : List Text) (next : Seen)
    → step j seen fields ≡ Ok next → IsSound seen → IsSound next
step-sound j seen fields next e sound = elim (cases_Bool (is_start seen.stage)) [
  | inl y ↦ first-step j seen fields next y e (at-start seen.stage seen y sound)
  | inr n ↦ known-step j seen fields next n e sound
]
  where
    at-start : (s : Stage) (seen : Seen) → is_start s ≡ true → AreSound s seen
        → AreSound stage.Version seen
    at-start stage.Version seen y sound = sound
    at-start s seen y sound = cc y
