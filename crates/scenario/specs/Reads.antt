-- What an input says to a job, or the first thing that is wrong with it: a table of checks for each
-- kind of record, and a fold over the records.
-- Code: one record at a time, with an early exit.
use Rattle.std.specs.Prelude.{◌≡◌, ℕ, zero, suc, ◌+◌, ◌-◌, ◌*◌, ◌/◌, ◌^◌, ◌==◌, ◌&&◌, nat_lt, nat_le, Bool, true, false, List, [], ◌∷◌, ◌++◌, length, map, not, Option, Some, None, Result, Ok, Err, if◌then◌else◌, codes, is_some, is_none, unwrap_or, option_map, drop, ℤ, pos, neg_ℤ, int_le}
use Rattle.std.specs.Str.{bytes_eq}
use Rattle.std.specs.List.{list_all, list_any, slice_index_or}
use Rattle.csv.specs.Reading.{default_config, records, strip_bom}
use Rattle.csv.specs.Records.{Row, fields_of}
use Rattle.link_params.specs.declared.fields.Params.{Params}
use Rattle.link_params.specs.declared.fields.Mode.{Mode}
use Rattle.link_params.specs.declared.fields.Mode.TheVariants as mode
use Rattle.link_params.specs.declared.fields.Timing.{Timing}
use Rattle.link_params.specs.declared.alarms.Device.{Device}
use Rattle.link_params.specs.declared.alarms.Device.TheVariants as device
use Rattle.link_params.specs.Links.{Link}
use Rattle.link_params.specs.Laws.{broken_law}
use Rattle.link_params.specs.Numbers.{octets_per_tick, period, width}
use Rattle.link_params.specs.TimingLaws.{broken_timing}
use Rattle.scenario.specs.declared.cause.Cause.TheVariants as cause
use Rattle.scenario.specs.declared.fault.Fault.{Fault}
use Rattle.scenario.specs.declared.kind.Job.{Job}
use Rattle.scenario.specs.declared.kind.Job.TheVariants as job
use Rattle.scenario.specs.declared.kind.Kind.{Kind}
use Rattle.scenario.specs.declared.kind.Kind.TheVariants as kind
use Rattle.scenario.specs.declared.plan.Print.{Print}
use Rattle.scenario.specs.declared.plan.Print.TheVariants as print
use Rattle.scenario.specs.declared.plan.What.TheVariants as what
use Rattle.scenario.specs.declared.plan.Event.{Event}
use Rattle.scenario.specs.declared.plan.Jitter.{Jitter}
use Rattle.scenario.specs.declared.plan.Flip.{Flip}
use Rattle.scenario.specs.declared.stage.Polarity.{Polarity}
use Rattle.scenario.specs.declared.stage.Ramp.{Ramp}
use Rattle.scenario.specs.declared.stage.Setup.{Setup}
use Rattle.scenario.specs.declared.stage.Stage.{Stage}
use Rattle.scenario.specs.declared.stage.Stage.TheVariants as stage
use Rattle.scenario.specs.Causes.{cause_number}
use Rattle.scenario.specs.Text.{Text, stripped, number, word, signed, is_hex, hex_octets}
use Rattle.scenario.specs.Check.{fault, unless, lowest, first, Checks, fault_of, or_fault}

-- ---- records and fields

-- the fields of one record, with no blanks at their ends
abbrev pub texts_of : Row → List Text
texts_of r = map stripped (fields_of r)

-- the records of an input, each as its fields; a byte order mark in front is no part of it
abbrev pub rows_of : List ℕ → List (List Text)
rows_of bytes = map (map stripped) (records default_config (strip_bom bytes))

-- the field at a place; the kind has place 0
abbrev pub field : List Text → ℕ → Text
field fields i = slice_index_or fields i []

-- the number in a field, 0 where there is none
abbrev pub num : List Text → ℕ → ℕ
num fields i = unwrap_or (number (field fields i)) 0

-- n fields from place i on, each a number or not
unfoldable pub are_numbers : ℕ → ℕ → List Text → List Bool
are_numbers i zero fields = []
are_numbers i (suc n) fields = is_some (number (field fields i)) ∷ are_numbers (i + 1) n fields

-- the numbers in n fields from place i on
abbrev pub numbers_in_fields : ℕ → ℕ → List Text → List ℕ
numbers_in_fields i zero fields = []
numbers_in_fields i (suc n) fields = num fields i ∷ numbers_in_fields (i + 1) n fields

-- what a reader of numbers answers: the numbers in the fields from place i on, or the first field
-- with no number
abbrev pub ReadNumbers : ℕ → List Text → List ℕ → Result (Unit {0}) Fault → Type 0
ReadNumbers i fields ns (Ok u) = (lowest i (are_numbers i (length ns) fields) ≡ None)
    × (ns ≡ numbers_in_fields i (length ns) fields)
ReadNumbers i fields ns (Err f) =
    option_map (fault cause.Form) (lowest i (are_numbers i (length ns) fields)) ≡ Some f

abbrev pub is_word : Text → Bool
is_word text = is_some (word text)

abbrev pub word_or_0 : Text → ℕ
word_or_0 text = unwrap_or (word text) 0

-- what has this name
abbrev pub find_named : {X : Type 0} → Text → List (Text × X) → Option X
find_named text [] = None
find_named text (p ∷ ps) = if bytes_eq text p.0 then Some p.1 else find_named text ps

abbrev pub mode_of : Text → Option Mode
mode_of text = find_named text ((codes "b", mode.B) ∷ (codes "ccrc", mode.CCrc)
    ∷ (codes "cfec", mode.CFec) ∷ [])

abbrev pub print_of : Text → Option Print
print_of text = find_named text ((codes "none", print.None) ∷ (codes "frames", print.Frames)
    ∷ (codes "all", print.All) ∷ [])

abbrev pub device_of : Text → Option Device
device_of text = find_named text ((codes "tx", device.Tx) ∷ (codes "rx", device.Rx) ∷ [])

-- the kinds of both versions
abbrev pub kinds_1 : List (Text × Kind)
kinds_1 = (codes "jesd", kind.Jesd) ∷ (codes "link", kind.Link) ∷ (codes "timing", kind.Timing)
    ∷ (codes "run", kind.Run)
    ∷ (codes "frame", kind.Frame) ∷ (codes "octets", kind.Octets) ∷ (codes "ramp", kind.Ramp)
    ∷ (codes "delay", kind.Delay)
    ∷ (codes "reset", kind.Reset) ∷ (codes "dead", kind.Dead) ∷ (codes "jitter", kind.Jitter)
    ∷ (codes "flip", kind.Flip) ∷ []

-- the kinds that version 2 adds
abbrev pub kinds_2 : List (Text × Kind)
kinds_2 = (codes "wire", kind.Wire) ∷ (codes "route", kind.Route)
    ∷ (codes "polarity", kind.Polarity) ∷ []

abbrev pub or_else : {X : Type 0} → Option X → Option X → Option X
or_else None o = o
or_else (Some x) o = Some x

-- the kind of this name, in a version of the format
unfoldable pub kind_of : ℕ → Text → Option Kind
kind_of version text =
    or_else (find_named text kinds_1) (if nat_le 2 version then find_named text kinds_2 else None)

-- ---- the checks of each kind, and what its records say

abbrev pub params_of : List Text → Params
params_of fields = record {
  mode = unwrap_or (mode_of (field fields 1)) mode.B;
  l = num fields 2;
  m = num fields 3;
  f = num fields 4;
  s = num fields 5;
  n = num fields 6;
  np = num fields 7;
  cs = num fields 8;
  hd = num fields 9 == 1;
  scr = num fields 10 == 1;
  k = num fields 11;
  e = num fields 12;
}

-- the first broken law of the link
unfoldable pub link_law : List Text → Option ℕ
link_law fields = broken_law (params_of fields)

-- `link`: mode, L, M, F, S, N, N', CS, HD, SCR, K, E; HD and SCR are 0 or 1, and the laws hold
abbrev pub link_checks : List Text → Checks
link_checks fields = record {
  count = 12;
  forms = is_some (mode_of (field fields 1)) ∷ are_numbers 2 11 fields;
  ranges = true ∷ true ∷ true ∷ true ∷ true ∷ true ∷ true ∷ true ∷ nat_le (num fields 9) 1
      ∷ nat_le (num fields 10) 1 ∷ [];
  more = option_map (fault cause.Law) (link_law fields) ∷ [];
}

abbrev pub timing_of : List Text → Timing
timing_of fields = record {
  sysref_period = num fields 1;
  sysref_start = num fields 2;
  tx_skew = num fields 3;
  rx_skew = num fields 4;
  tolerance = num fields 5;
  rbd = num fields 6;
  sync_delay = num fields 7;
  w_lo = num fields 8;
  w_hi = num fields 9;
}

-- the first broken law of the timing
unfoldable pub timing_law : Params → List Text → Option ℕ
timing_law p fields = broken_timing p (timing_of fields)

-- `timing`: sysref_period, sysref_start, tx_skew, rx_skew, tolerance, rbd, sync_delay, w_lo, w_hi
abbrev pub timing_checks : Params → List Text → Checks
timing_checks p fields = record {
  count = 9;
  forms = are_numbers 1 9 fields;
  ranges = [];
  more = option_map (fault cause.Law) (timing_law p fields) ∷ [];
}

abbrev pub print_or_none : List Text → Print
print_or_none fields = unwrap_or (print_of (field fields 2)) print.None

-- how often a frame is printed at most
abbrev pub copies : Print → ℕ
copies print.None = 0
copies print.Frames = 1
copies print.All = 2

-- the octets of all lanes, and the printed words, stay within their limits
abbrev pub is_small_run : Params → ℕ → Print → Bool
is_small_run p ticks how = nat_le (ticks * p.l * octets_per_tick p) 4194304
    && nat_le (copies how * (ticks * octets_per_tick p / p.f) * (p.m * p.s)) 2097152

-- `run`: ticks, print
abbrev pub run_checks : Params → List Text → Checks
run_checks p fields = record {
  count = 2;
  forms = is_some (number (field fields 1)) ∷ is_some (print_of (field fields 2)) ∷ [];
  ranges = (nat_le 1 (num fields 1) && nat_le (num fields 1) 1048576) ∷ [];
  more = unless (is_small_run p (num fields 1) (print_or_none fields)) (fault cause.RunSize 1) ∷ [];
}

abbrev pub setup_of : Link → List Text → Setup
setup_of k fields = record {
  link = k;
  ticks = num fields 1;
  print = print_or_none fields;
  ramp =
      None;
}

-- words are below this
abbrev pub word_limit : Params → ℕ
word_limit p = 2 ^ (p.n + p.cs)

-- `frame`: M·S words
abbrev pub frame_checks : Params → List Text → Checks
frame_checks p fields = record {
  count = p.m * p.s;
  forms = map is_word (drop 1 fields);
  ranges = map (λ text. nat_lt (word_or_0 text) (word_limit p)) (drop 1 fields);
  more = [];
}

abbrev pub words_in_fields : List Text → List ℕ
words_in_fields fields = map word_or_0 (drop 1 fields)

-- exactly 2·F hexadecimal digits
abbrev pub is_octets : ℕ → Text → Bool
is_octets f text = (length text == 2 * f) && list_all is_hex text

-- `octets`: L fields of F octets
abbrev pub octets_checks : Params → List Text → Checks
octets_checks p fields = record {
  count = p.l;
  forms = map (is_octets p.f) (drop 1 fields);
  ranges = [];
  more = [];
}

abbrev pub all_octets : List Text → List ℕ
all_octets [] = []
all_octets (f ∷ fs) = hex_octets f ++ all_octets fs

-- `ramp`: start word, step word, as decimal numbers
abbrev pub ramp_checks : Params → List Text → Checks
ramp_checks p fields = record {
  count = 2;
  forms = are_numbers 1 2 fields;
  ranges = nat_lt (num fields 1) (word_limit p) ∷ nat_lt (num fields 2) (word_limit p) ∷ [];
  more = [];
}

abbrev pub ramp_of : List Text → Ramp
ramp_of fields = record { start = num fields 1; step = num fields 2 }

-- with one more, n events and jitters are not too many
abbrev pub room_for_event : ℕ → Option Fault
room_for_event n = unless (nat_lt n 4096) (fault cause.TooMany 0)

-- `delay`: tick, lane, bits
abbrev pub delay_checks : ℕ → Setup → List Text → Checks
delay_checks n b fields = record {
  count = 3;
  forms = are_numbers 1 3 fields;
  ranges = nat_lt (num fields 1) b.ticks ∷ nat_lt (num fields 2) b.link.params.l
      ∷ nat_le (num fields 3) ((period b.link.params - 1) * width b.link.params) ∷ [];
  more = room_for_event n ∷ [];
}

abbrev pub delay_of : List Text → Event
delay_of fields = record { tick = num fields 1; what = what.Delay (num fields 2) (num fields 3) }

-- `dead`: tick, lane, 0 or 1
abbrev pub dead_checks : ℕ → Setup → List Text → Checks
dead_checks n b fields = record {
  count = 3;
  forms = are_numbers 1 3 fields;
  ranges = nat_lt (num fields 1) b.ticks ∷ nat_lt (num fields 2) b.link.params.l
      ∷ nat_le (num fields 3) 1 ∷ [];
  more = room_for_event n ∷ [];
}

abbrev pub dead_of : List Text → Event
dead_of fields = record { tick = num fields 1; what = what.Dead (num fields 2) (num fields 3 == 1) }

-- `reset`: tick, device
abbrev pub reset_checks : ℕ → Setup → List Text → Checks
reset_checks n b fields = record {
  count = 2;
  forms = is_some (number (field fields 1)) ∷ is_some (device_of (field fields 2)) ∷ [];
  ranges = nat_lt (num fields 1) b.ticks ∷ [];
  more = room_for_event n ∷ [];
}

abbrev pub device_or_tx : Text → Device
device_or_tx text = unwrap_or (device_of text) device.Tx

abbrev pub reset_of : List Text → Event
reset_of fields = record { tick = num fields 1; what = what.Reset (device_or_tx (field fields 2)) }

abbrev pub signed_or_0 : Text → ℤ
signed_or_0 text = unwrap_or (signed text) (pos 0)

-- `jitter`: device, edge, signed sixteenths
abbrev pub jitter_checks : ℕ → List Text → Checks
jitter_checks n fields = record {
  count = 3;
  forms = is_some (device_of (field fields 1)) ∷ is_some (number (field fields 2))
      ∷ is_some (signed (field fields 3)) ∷ [];
  ranges = true ∷ nat_le (num fields 2) 1048576
      ∷ (int_le (neg_ℤ (pos 32)) (signed_or_0 (field fields 3))
      && int_le (signed_or_0 (field fields 3)) (pos 32)) ∷ [];
  more = room_for_event n ∷ [];
}

abbrev pub jitter_of : List Text → Jitter
jitter_of fields =
    record {
      device = device_or_tx (field fields 1);
      edge = num fields 2;
      sixteenths =
          signed_or_0 (field fields 3);
    }

-- the counts of flips together
abbrev pub flipped : List Flip → ℕ
flipped [] = 0
flipped (f ∷ fs) = f.count + flipped fs

-- the received bits of a lane in the run
abbrev pub run_bits : Setup → ℕ
run_bits b = width b.link.params * b.ticks

-- `flip`: lane, first received bit, count; n bits are flipped already
abbrev pub flip_checks : ℕ → Setup → List Text → Checks
flip_checks n b fields = record {
  count = 3;
  forms = are_numbers 1 3 fields;
  ranges = nat_lt (num fields 1) b.link.params.l ∷ nat_lt (num fields 2) (run_bits b)
      ∷ (nat_le 1 (num fields 3) && nat_le (num fields 2 + num fields 3) (run_bits b)) ∷ [];
  more = unless (nat_le (n + num fields 3) 65536) (fault cause.TooMany 0) ∷ [];
}

abbrev pub flip_of : List Text → Flip
flip_of fields = record { lane = num fields 1; first = num fields 2; count = num fields 3 }

-- for each of these lanes: it is below l, and none of the lanes before it
abbrev pub are_lanes : ℕ → List ℕ → List ℕ → List Bool
are_lanes l before [] = []
are_lanes l before (x ∷ xs) = (nat_lt x l && not (list_any (λ y. y == x) before))
    ∷ are_lanes l (before ++ x ∷ []) xs

-- the lanes in the fields of a record
abbrev pub lanes_in_fields : Params → List Text → List ℕ
lanes_in_fields p fields = numbers_in_fields 1 p.l fields

-- `wire` and `route`: L lanes, each in one field alone
abbrev pub lanes_checks : Params → List Text → Checks
lanes_checks p fields = record {
  count = p.l;
  forms = are_numbers 1 p.l fields;
  ranges = are_lanes p.l [] (lanes_in_fields p fields);
  more = [];
}

-- `polarity`: lane, exchange, undo; the last two are 0 or 1
abbrev pub polarity_checks : Params → List Text → Checks
polarity_checks p fields = record {
  count = 3;
  forms = are_numbers 1 3 fields;
  ranges = nat_lt (num fields 1) p.l ∷ nat_le (num fields 2) 1 ∷ nat_le (num fields 3) 1 ∷ [];
  more = [];
}

-- the bits are inverted where the wires are exchanged and the receiver does not undo it, or the other
-- way round
abbrev pub polarity_of : List Text → Polarity
polarity_of fields =
    record { lane = num fields 1; inverted = not (num fields 2 == num fields 3) }

-- ---- one record

-- what the records so far say: the version of the format (0 before the first record), the place in
-- the order of records with what is fixed there, the words of all frames, the octets of all records
-- `octets`, what the records of each kind for a run say, in their order, and the lanes of the
-- records `wire` and `route`, none where there was no such record
pub record Seen : Type 0 where
  pub version : ℕ
  pub stage : Stage
  pub words : List ℕ
  pub octets : List ℕ
  pub events : List Event
  pub jitters : List Jitter
  pub flips : List Flip
  pub wire : List ℕ
  pub route : List ℕ
  pub polarities : List Polarity

abbrev pub nothing : Seen
nothing = record {
  version = 0;
  stage = stage.Version;
  words = [];
  octets = [];
  events =
      [];
  jitters = [];
  flips = [];
  wire = [];
  route = [];
  polarities = [];
}

-- events and jitters count together
abbrev pub events_so_far : Seen → ℕ
events_so_far seen = length seen.events + length seen.jitters

-- a record of an allowed kind: its checks, then what it adds
abbrev pub add : List Text → Checks → Seen → Result Seen Fault
add fields checks seen = or_fault (fault_of (length fields) checks) seen

-- a known kind that stands where it is not allowed
abbrev pub misplaced : Result Seen Fault
misplaced = Err (fault cause.Misplaced 0)

-- after `link` a job takes the records of one kind
abbrev pub after_link : Job → Params → Stage
after_link job.Map p = stage.Frames p
after_link job.Unmap p = stage.Octets p
after_link job.Run p = stage.Timing p

abbrev pub with_event : Seen → Event → Seen
with_event seen e = record seen { events = seen.events ++ e ∷ [] }

-- a record after `run`; a ramp stands at most once, and not together with frames, and `wire` and
-- `route` at most once each
abbrev pub in_body : Seen → List Text → Setup → Kind → Result Seen Fault
in_body seen fields b kind.Frame = if is_none b.ramp
    then add fields (frame_checks b.link.params fields)
    (record seen { words = seen.words ++ words_in_fields fields })
    else misplaced
in_body seen fields b kind.Ramp = if is_none b.ramp && (length seen.words == 0)
    then add fields (ramp_checks b.link.params fields)
    (record seen { stage = stage.Body (record b { ramp = Some (ramp_of fields) }) })
    else misplaced
in_body seen fields b kind.Delay = add fields (delay_checks (events_so_far seen) b fields)
    (with_event seen (delay_of fields))
in_body seen fields b kind.Reset = add fields (reset_checks (events_so_far seen) b fields)
    (with_event seen (reset_of fields))
in_body seen fields b kind.Dead = add fields (dead_checks (events_so_far seen) b fields)
    (with_event seen (dead_of fields))
in_body seen fields b kind.Jitter = add fields (jitter_checks (events_so_far seen) fields)
    (record seen { jitters = seen.jitters ++ jitter_of fields ∷ [] })
in_body seen fields b kind.Flip = add fields (flip_checks (flipped seen.flips) b fields)
    (record seen { flips = seen.flips ++ flip_of fields ∷ [] })
in_body seen fields b kind.Wire = if length seen.wire == 0
    then add fields (lanes_checks b.link.params fields)
    (record seen { wire = lanes_in_fields b.link.params fields })
    else misplaced
in_body seen fields b kind.Route = if length seen.route == 0
    then add fields (lanes_checks b.link.params fields)
    (record seen { route = lanes_in_fields b.link.params fields })
    else misplaced
in_body seen fields b kind.Polarity = add fields (polarity_checks b.link.params fields)
    (record seen { polarities = seen.polarities ++ polarity_of fields ∷ [] })
in_body seen fields b k = misplaced

-- a record of a known kind, at a place in the order
abbrev pub of_kind : Seen → List Text → Stage → Kind → Result Seen Fault
of_kind seen fields (stage.Link j) kind.Link =
    add fields (link_checks fields) (record seen { stage = after_link j (params_of fields) })
of_kind seen fields (stage.Frames p) kind.Frame =
    add fields (frame_checks p fields) (record seen { words = seen.words ++ words_in_fields fields })
of_kind seen fields (stage.Octets p) kind.Octets =
    add fields (octets_checks p fields)
    (record seen { octets = seen.octets ++ all_octets (drop 1 fields) })
of_kind seen fields (stage.Timing p) kind.Timing = add fields (timing_checks p fields)
    (record seen { stage = stage.Run (record { params = p; timing = timing_of fields }) })
of_kind seen fields (stage.Run k) kind.Run = add fields (run_checks k.params fields)
    (record seen { stage = stage.Body (setup_of k fields) })
of_kind seen fields (stage.Body b) k = in_body seen fields b k
of_kind seen fields s k = misplaced

abbrev pub of_known : Seen → List Text → Option Kind → Result Seen Fault
of_known seen fields None = Err (fault cause.UnknownKind 0)
of_known seen fields (Some k) = of_kind seen fields seen.stage k

-- the version of this name
abbrev pub version_of : Text → Option ℕ
version_of text = if bytes_eq text (codes "1") then Some 1 else if bytes_eq text
    (codes "2") then Some 2 else None

-- the first record names version 1 or version 2
abbrev pub version_fault : List Text → Option Fault
version_fault fields = first (
    unless (bytes_eq (field fields 0) (codes "jesd")) (fault cause.Version 0)
    ∷ unless (length fields == 2) (fault cause.FieldCount (length fields))
    ∷ unless (is_some (version_of (field fields 1))) (fault cause.Version 1)
    ∷ [])

abbrev pub version_read : Job → Seen → List Text → Result Seen Fault
version_read j seen fields = or_fault (version_fault fields)
    (record seen { version = unwrap_or (version_of (field fields 1)) 0; stage = stage.Link j })

abbrev pub is_start : Stage → Bool
is_start stage.Version = true
is_start s = false

-- one record more
abbrev pub step : Job → Seen → List Text → Result Seen Fault
step j seen fields = if is_start seen.stage then version_read j seen fields
    else of_known seen fields (kind_of seen.version (field fields 0))

-- ---- all records

-- a refused input: the first bad record, the cause, and its place in the record
pub record Refusal : Type 0 where
  pub row : ℕ
  pub cause : ℕ
  pub at : ℕ

abbrev pub bad_at : ℕ → ℕ → ℕ → Refusal
bad_at r c a = record { row = r; cause = c; at = a }

-- whether the required records are there
abbrev pub is_whole : Stage → Bool
is_whole (stage.Frames p) = true
is_whole (stage.Octets p) = true
is_whole (stage.Body b) = true
is_whole s = false

-- the end of the records, after n of them
abbrev pub ended : ℕ → Seen → Result Seen Refusal
ended n seen = if is_start seen.stage then Err (bad_at 0 (cause_number cause.NoRecord) 0) else
    if is_whole seen.stage then Ok seen else Err (bad_at (n + 1) (cause_number cause.Missing) 0)

-- what n records said, then these records: the first fault, or what all of them say
unfoldable pub over : Job → ℕ → Result Seen Fault → List (List Text) → Result Seen Refusal
over j n (Err f) rows = Err (bad_at n (cause_number f.cause) f.at)
over j n (Ok seen) [] = ended n seen
over j n (Ok seen) (fields ∷ rows) = over j (n + 1) (step j seen fields) rows

-- the input's scenario, or its refusal
unfoldable pub reads : Job → List ℕ → Result Seen Refusal
reads j bytes = over j 0 (Ok nothing) (rows_of bytes)
