-- Small runs of one 8b/10b lane, evaluated: one on which the premises of the laws hold, one whose
-- lane arrives outside its window, and one with bad characters.
use Rattle.std.proofs.Common.{◌≡◌, ℕ, zero, suc, ◌<◌, not, Bool, true, false, List, [], ◌∷◌, ◌++◌, map, get_or, slice_get, Some, None, inl, refl, sym, ap, ◌∙◌, arith, ◌&&◌, ◌+◌}
use Rattle.std.specs.List.{flat_map, list_all}
use Rattle.std.proofs.lemmas.Bool.{and_parts, le-leb, ne_eqb}
use Rattle.std.proofs.lemmas.List.Elements.{All-cons, All-nil}
use Rattle.jesd_base.specs.Bits.{bits, zeros, ones, all_zero}
use Rattle.jesd_base.specs.Search.{first_from, first_found}
use Rattle.link_params.specs.declared.alarms.Alarm.{Alarm}
use Rattle.link_params.specs.declared.alarms.Alarm.TheVariants as alarm
use Rattle.link_params.specs.declared.alarms.Device.TheVariants.{Rx}
use Rattle.link_params.specs.declared.cells.Mark.{Mark}
use Rattle.link_params.specs.declared.cells.Mark.TheVariants as mark
use Rattle.link_params.specs.declared.fields.Mode.{Mode}
use Rattle.link_params.specs.declared.fields.Mode.TheVariants.{B}
use Rattle.link_params.specs.Config.{fields, sent_values, config_octets, read_values, has_sum, config_of, masks, differs}
use Rattle.link_params.specs.Numbers.{bound, lat_ticks}
use Rattle.link_params.specs.Laws.{is_b}
use Rattle.sample_map.specs.Frames.{frame_of, words_of}
use Rattle.sysref_clock.specs.Clocks.{phase_after, off_after}
use Rattle.line_model.specs.LineBits.{numbers_from as line_numbers, line_word}
use Rattle.code_8b10b.specs.Code.{after_six, after_four, after, sixes, four_of_seven, fours, data_spelling, controls, spelling}
use Rattle.code_8b10b.specs.Commas.{commas, other_commas, begins, stands_at, least_place, found}
use Rattle.code_8b10b.specs.Reads.{place_in, data_at, control_at, char_at, reading, readings}
use Rattle.ilas.specs.Checked.{cause_at, first_fault, ilas_state}
use Rattle.ilas.specs.Sequence.{ilas_char, chars_from}
use Rattle.lane_scramble.specs.Scrambling.{scrambled, descrambled, start15, start58}
use Rattle.lane_b.specs.Locking.{tens, from_other, lock_at, lock_from, lock}
use Rattle.lane_b.specs.Loss.{faults_from, some_rest, alignments_from, is_lost}
use Rattle.lane_b.specs.Received.{report_b, restored, spread, cells, data_cells, entries_b, lanes_b}
use Rattle.lane_b.specs.Sent.{octets_of, replaced, data_char, data_octets, chars_after, spelled, sent_words}
use Rattle.bring_up.specs.declared.stage.Decision.{Decision}
use Rattle.bring_up.specs.declared.stage.Decision.TheVariants as decision
use Rattle.bring_up.specs.Decisions.{alarms_from, decide, standing_from, some_started}
use Rattle.scenario.specs.declared.plan.Event.{Event}
use Rattle.scenario.specs.declared.plan.Flip.{Flip}
use Rattle.scenario.specs.declared.plan.Print.TheVariants as print
use Rattle.scenario.specs.declared.plan.What.TheVariants.{Delay, Dead}
use Rattle.scenario.specs.Limits.{event_fits, is_order}
use Rattle.scenario.specs.Plans.{Frames, Plan, Ramp, Source, in_order, numbers_from, source_frame}
use Rattle.scenario.proofs.ReadingLaws.{frame-below, frame-size}
use Rattle.link_model.specs.Carried.{delay_at, is_dead, inverted_bits, received}
use Rattle.link_model.specs.Edges.{is_reset, last_reset, jitter, edge_tick, is_edge, edges}
use Rattle.link_model.specs.Gives.{cells_in, octets_given, frames_given}
use Rattle.link_model.specs.Hunts.{ends_in_hunt, from_hunt, is_hunt, session, standing}
use Rattle.link_model.specs.Moments.{History, Moment}
use Rattle.link_model.specs.Orders.{after_low, from_boundary, from_edge, tx_order}
use Rattle.link_model.specs.Receives.{taken_in, told_of}
use Rattle.link_model.specs.Run.{moment, run}
use Rattle.link_model.specs.Wiring.{lane_for}
use Rattle.link_model.specs.Sends.{seen_low, observed, order_of, handed_to, handed_since, last_of, sent_by}
use Rattle.link_model.specs.Sessions.{InSession, at, decides_hunt, first_tick}
use Rattle.link_model.proofs.RunTicks.{has-each-tick}
use Rattle.link_laws.specs.Checked.{checked_b, checked_frame, repeated_pieces}
use Rattle.link_laws.specs.Laws.{HasDelivered, IsFirstStarted, IsPlanRead, KeepsLatency, RaisesOutside}
use Rattle.link_laws.specs.Premises.{Clean, Inside, IsWithin, Met}
use Rattle.link_laws.proofs.BoundLaw.{no-hunt-here}
use Rattle.link_laws.proofs.RunsByLaws.{runs-by-laws}

-- a link whose multiframe has 17 ticks, with a window from 1 to 5 ticks
plan_of_one : Bool → Source → List Event → List Flip → Plan
plan_of_one scr source events flips = record {
  version = 1;
  link = record {
    params = record {
      mode = B;
      l = 1;
      m = 1;
      f = 1;
      s = 1;
      n = 8;
      np = 8;
      cs = 0;
      hd = false;
      scr =
          scr;
      k = 17;
      e = 0;
    };
    timing = record {
      sysref_period = 34;
      sysref_start = 2;
      tx_skew = 0;
      rx_skew = 0;
      tolerance =
          0;
      rbd = 5;
      sync_delay = 2;
      w_lo = 1;
      w_hi = 5;
    };
  };
  ticks = 160;
  print = print.Frames;
  source = source;
  events = events;
  jitters = [];
  flips = flips;
  wire = 0 ∷ [];
  route = 0 ∷ [];
  inverted = false ∷ [];
}

-- ---- what is told of a run

abbrev number_of : Decision → ℕ
number_of decision.Stay = 0
number_of decision.Arm = 1
number_of decision.Release = 2
number_of decision.Hunt = 3

abbrev code : Alarm → List ℕ
code (alarm.LaneWindow lane offset) = 1 ∷ lane ∷ offset ∷ []
code (alarm.LaneMissing lane) = 2 ∷ lane ∷ []
code (alarm.LaneLost lane) = 3 ∷ lane ∷ []
code (alarm.NoLock lane) = 4 ∷ lane ∷ []
code (alarm.IlasFault lane x) = 5 ∷ lane ∷ x ∷ []
code (alarm.ConfigMismatch lane x) = 6 ∷ lane ∷ x ∷ []
code (alarm.LaneId lane x) = 9 ∷ lane ∷ x ∷ []
code (alarm.SysrefPhase d x) = 7 ∷ x ∷ []
code alarm.StartTimeout = 8 ∷ []

abbrev told : ℕ → ℕ → List ℕ → List ℕ → List ℕ
told zero t alarms rest = rest
told (suc n) t alarms rest = t ∷ suc n ∷ (alarms ++ rest)

-- the ticks of decisions other than Stay, from tick t on, each with its number and its alarms
abbrev decided_ticks : ℕ → History → List ℕ
decided_ticks t [] = []
decided_ticks t (m ∷ h) =
    told (number_of m.decided.decision) t (flat_map code m.decided.alarms) (decided_ticks (suc t) h)

abbrev entered_times : History → List ℕ
entered_times h = flat_map (λ (m : Moment). m.entered) h

abbrev left_times : History → List ℕ
left_times h = flat_map (λ (m : Moment). map (λ d. d.left) m.delivered) h

abbrev words_of_frames : History → List ℕ
words_of_frames h = flat_map (λ (m : Moment). flat_map (λ d. d.words) m.delivered) h

abbrev marks_of : History → List Mark
marks_of h = flat_map (λ (m : Moment). map (λ d. d.mark) m.delivered) h

-- ---- a run on which the premises hold

small : Plan
small = plan_of_one true (Ramp 0 1) [] []

-- armed in tick 58, released in 75 = 70 + LATT
decided : decided_ticks 0 (run lanes_b small 147) ≡ 58 ∷ 1 ∷ 75 ∷ 2 ∷ []
unfolding small plan_of_one ends_in_hunt from_hunt session standing seen_low observed order_of
    handed_to handed_since last_of sent_by told_of cells_in octets_given frames_given moment lane_for run
    after_low from_boundary from_edge tx_order is_reset last_reset jitter edge_tick is_edge
    edges delay_at is_dead inverted_bits received tens from_other lock_at lock_from lock
    faults_from some_rest alignments_from is_lost report_b restored spread cells data_cells
    entries_b octets_of replaced data_char data_octets chars_after spelled sent_words
    alarms_from decide standing_from after_six after_four after sixes four_of_seven fours
    data_spelling controls spelling place_in data_at control_at char_at reading readings commas
    other_commas begins stands_at least_place found bits zeros ones all_zero first_from
    first_found line_numbers line_word phase_after off_after cause_at first_fault ilas_state
    ilas_char chars_from scrambled descrambled start15 start58 lat_ticks fields sent_values
    config_octets read_values has_sum config_of masks differs frame_of words_of numbers_from
    source_frame in_order
decided = refl

-- the frames that entered in ticks 138 to 141 left 5 ticks later, with their words
on-time : (entered_times (run lanes_b small 147) ++ (0 ∷ left_times (run lanes_b small 147)))
    ++ (0 ∷ words_of_frames (run lanes_b small 147))
    ≡ 138 ∷ 139 ∷ 140 ∷ 141 ∷ 142 ∷ 143 ∷ 144 ∷ 145 ∷ 146 ∷ 0 ∷ 143 ∷ 144 ∷ 145 ∷ 146 ∷ 0 ∷ 0 ∷ 1
    ∷ 2 ∷ 3 ∷ []
unfolding small plan_of_one ends_in_hunt from_hunt session standing seen_low observed order_of
    handed_to handed_since last_of sent_by told_of cells_in octets_given frames_given moment lane_for run
    after_low from_boundary from_edge tx_order is_reset last_reset jitter edge_tick is_edge
    edges delay_at is_dead inverted_bits received tens from_other lock_at lock_from lock
    faults_from some_rest alignments_from is_lost report_b restored spread cells data_cells
    entries_b octets_of replaced data_char data_octets chars_after spelled sent_words
    alarms_from decide standing_from after_six after_four after sixes four_of_seven fours
    data_spelling controls spelling place_in data_at control_at char_at reading readings commas
    other_commas begins stands_at least_place found bits zeros ones all_zero first_from
    first_found line_numbers line_word phase_after off_after cause_at first_fault ilas_state
    ilas_char chars_from scrambled descrambled start15 start58 lat_ticks fields sent_values
    config_octets read_values has_sum config_of masks differs frame_of words_of numbers_from
    source_frame in_order
on-time = refl

-- ---- a lane outside its window

outside : Plan
outside = plan_of_one true (Ramp 0 1) ((record { tick = 0; what = Delay 0 70 }) ∷ []) []

-- it arrives after 7 ticks: the first decision that finds a start is that of tick 92, which raises
-- LaneWindow and begins a hunt; nothing was delivered
window : decided_ticks 0 (run lanes_b outside 93) ++ left_times (run lanes_b outside 93)
    ≡ 58 ∷ 1 ∷ 92 ∷ 3 ∷ 1 ∷ 0 ∷ 7 ∷ []
unfolding outside plan_of_one ends_in_hunt from_hunt session standing seen_low observed order_of
    handed_to handed_since last_of sent_by told_of cells_in octets_given frames_given moment lane_for run
    after_low from_boundary from_edge tx_order is_reset last_reset jitter edge_tick is_edge
    edges delay_at is_dead inverted_bits received tens from_other lock_at lock_from lock
    faults_from some_rest alignments_from is_lost report_b restored spread cells data_cells
    entries_b octets_of replaced data_char data_octets chars_after spelled sent_words
    alarms_from decide standing_from after_six after_four after sixes four_of_seven fours
    data_spelling controls spelling place_in data_at control_at char_at reading readings commas
    other_commas begins stands_at least_place found bits zeros ones all_zero first_from
    first_found line_numbers line_word phase_after off_after cause_at first_fault ilas_state
    ilas_char chars_from scrambled descrambled start15 start58 lat_ticks fields sent_values
    config_octets read_values has_sum config_of masks differs frame_of words_of numbers_from
    source_frame in_order
window = refl

-- ---- marks without scrambling

marked : Plan
marked = plan_of_one false (Frames (0xB5 ∷ 0xB5 ∷ 0xB5 ∷ 0x4A ∷ []))
    ((record { tick = 150; what = Dead 0 true }) ∷ (record { tick = 151; what = Dead 0 false })
    ∷ [])
    ((record { lane = 0; first = 1453; count = 3 }) ∷ [])

-- the marks that are due by the pieces of the octets
abbrev due : ℕ → List Mark
due n = map (checked_frame checked_b marked.link.params
    (λ lane. taken_in (run lanes_b marked 156) lane)) (numbers_from 0 n)

abbrev nine_good : List Mark
nine_good = mark.Ok ∷ mark.Ok ∷ mark.Ok ∷ mark.Ok ∷ mark.Ok ∷ mark.Ok ∷ mark.Ok ∷ mark.Ok ∷ mark.Ok
    ∷ []

marks : marks_of (run lanes_b marked 156)
    ≡ nine_good ++ (mark.Bad ∷ mark.Ok ∷ mark.Bad ∷ mark.Ok ∷ [])
unfolding marked plan_of_one ends_in_hunt from_hunt session standing seen_low observed order_of
    handed_to handed_since last_of sent_by told_of cells_in octets_given frames_given moment lane_for run
    after_low from_boundary from_edge tx_order is_reset last_reset jitter edge_tick is_edge
    edges delay_at is_dead inverted_bits received tens from_other lock_at lock_from lock
    faults_from some_rest alignments_from is_lost report_b restored spread cells data_cells
    entries_b octets_of replaced data_char data_octets chars_after spelled sent_words
    alarms_from decide standing_from after_six after_four after sixes four_of_seven fours
    data_spelling controls spelling place_in data_at control_at char_at reading readings commas
    other_commas begins stands_at least_place found bits zeros ones all_zero first_from
    first_found line_numbers line_word phase_after off_after cause_at first_fault ilas_state
    ilas_char chars_from scrambled descrambled start15 start58 lat_ticks fields sent_values
    config_octets read_values has_sum config_of masks differs frame_of words_of numbers_from
    source_frame in_order
marks = refl

marks-due : due 13 ≡ nine_good ++ (mark.Bad ∷ mark.Ok ∷ mark.Bad ∷ mark.Ok ∷ [])
unfolding marked plan_of_one checked_b repeated_pieces ends_in_hunt from_hunt session standing
    seen_low observed order_of handed_to handed_since last_of sent_by told_of cells_in
    octets_given frames_given moment lane_for run after_low from_boundary from_edge tx_order is_reset
    last_reset jitter edge_tick is_edge edges delay_at is_dead inverted_bits received tens
    from_other lock_at lock_from lock faults_from some_rest alignments_from is_lost report_b
    restored spread cells data_cells entries_b octets_of replaced data_char data_octets
    chars_after spelled sent_words alarms_from decide standing_from after_six after_four after
    sixes four_of_seven fours data_spelling controls spelling place_in data_at control_at
    char_at reading readings commas other_commas begins stands_at least_place found bits zeros
    ones all_zero first_from first_found line_numbers line_word phase_after off_after cause_at
    first_fault ilas_state ilas_char chars_from scrambled descrambled start15 start58 lat_ticks
    fields sent_values config_octets read_values has_sum config_of masks differs frame_of
    words_of numbers_from source_frame in_order
marks-due = refl

-- ---- the premises of Latency hold of the first run

small-read : IsPlanRead small
unfolding small plan_of_one lat_ticks first_from is_order numbers_from
small-read = record {
  laws = refl;
  timing = refl;
  events = All-nil _;
  jitters = All-nil _;
  wire = refl;
  route = refl;
  frames = λ n. record { whole = frame-size small n; below = λ r inside. frame-below small n r tt };
}

small-met : (t : ℕ) → Met small t
unfolding small plan_of_one jitter
small-met t d i gives = omega arith

small-inside : (t : ℕ) → Inside small t
unfolding small plan_of_one delay_at
small-inside t lane below = (omega arith, omega arith)

none-inverted : (lane : ℕ) → get_or (false ∷ []) lane false ≡ false
none-inverted zero = refl
none-inverted (suc n) = refl

small-clean : (h t : ℕ) → Clean small h t
unfolding small plan_of_one is_dead numbers_from
small-clean h t = record {
  set_as_wired = record { routed = λ lane below. refl; polarity = λ lane below. none-inverted lane };
  untouched = record { no_event = λ x low up. refl; alive = λ x low up. refl };
  upright = λ lane i comes v. let bad : false ≡ true = v.flipped in absurd (cc);
}

calm : list_all (λ (m : Moment). not (is_hunt m.decided.decision)) (run lanes_b small 147) ≡ true
unfolding small plan_of_one ends_in_hunt from_hunt session standing seen_low observed order_of
    handed_to handed_since last_of sent_by told_of cells_in octets_given frames_given moment lane_for run
    after_low from_boundary from_edge tx_order is_reset last_reset jitter edge_tick is_edge
    edges delay_at is_dead inverted_bits received tens from_other lock_at lock_from lock
    faults_from some_rest alignments_from is_lost report_b restored spread cells data_cells
    entries_b octets_of replaced data_char data_octets chars_after spelled sent_words
    alarms_from decide standing_from after_six after_four after sixes four_of_seven fours
    data_spelling controls spelling place_in data_at control_at char_at reading readings commas
    other_commas begins stands_at least_place found bits zeros ones all_zero first_from
    first_found line_numbers line_word phase_after off_after cause_at first_fault ilas_state
    ilas_char chars_from scrambled descrambled start15 start58 lat_ticks fields sent_values
    config_octets read_values has_sum config_of masks differs frame_of words_of numbers_from
    source_frame in_order
calm = refl

released : (at lanes_b small 75).decided.decision ≡ decision.Release
unfolding small plan_of_one ends_in_hunt from_hunt session standing seen_low observed order_of
    handed_to handed_since last_of sent_by told_of cells_in octets_given frames_given moment lane_for run
    after_low from_boundary from_edge tx_order is_reset last_reset jitter edge_tick is_edge
    edges delay_at is_dead inverted_bits received tens from_other lock_at lock_from lock
    faults_from some_rest alignments_from is_lost report_b restored spread cells data_cells
    entries_b octets_of replaced data_char data_octets chars_after spelled sent_words
    alarms_from decide standing_from after_six after_four after sixes four_of_seven fours
    data_spelling controls spelling place_in data_at control_at char_at reading readings commas
    other_commas begins stands_at least_place found bits zeros ones all_zero first_from
    first_found line_numbers line_word phase_after off_after cause_at first_fault ilas_state
    ilas_char chars_from scrambled descrambled start15 start58 lat_ticks fields sent_values
    config_octets read_values has_sum config_of masks differs frame_of words_of numbers_from
    source_frame in_order
released = refl

all-at : {A : Type 0} (test : A → Bool) (xs : List A) (i : ℕ) (x : A) → list_all test xs ≡ true
    → slice_get xs i ≡ Some x → test x ≡ true
all-at test [] i x all is = let bad : None ≡ Some x = is in absurd (cc)
all-at test (y ∷ xs) zero x all is =
    let same : y ≡ x = cc in
    rw (← same) (and_parts (test y) (list_all test xs) all).0
all-at test (y ∷ xs) (suc i) x all is =
    all-at test xs i x (and_parts (test y) (list_all test xs) all).1 is

not-hunt : (b : Bool) → not b ≡ true → b ≡ false
not-hunt false e = refl
not-hunt true e = cc e

no-hunt-decided : (i : ℕ) → i < 147 → decides_hunt lanes_b small i ≡ false
no-hunt-decided i below = not-hunt (decides_hunt lanes_b small i)
    (all-at (λ (m : Moment). not (is_hunt m.decided.decision)) (run lanes_b small 147) i
    (at lanes_b small i) calm (has-each-tick lanes_b small i 147 below))

small-first : first_tick lanes_b small 0 ≡ 0
small-first = rw (no-hunt-decided 0 (omega arith)) refl

small-session : InSession lanes_b small 0 146
unfolding small plan_of_one is_reset
small-session = record {
  begins = refl;
  above = omega arith;
  in_run = omega arith;
  alone = λ i low below. no-hunt-here i false (decides_hunt lanes_b small i) low refl
      (no-hunt-decided i (omega arith));
}

small-mode : small.link.params.mode ≡ B
unfolding small plan_of_one
small-mode = refl

-- so the law of latency speaks of it
small-latency : KeepsLatency lanes_b small 0 75 146
small-latency =
    let first = small-first in
    (runs-by-laws small small-read small-mode).latency 0 75 146 small-session (omega arith)
    (omega arith) released (small-met 146) (small-inside 146)
    (λ other. let bad : is_b small.link.params.mode ≡ true = ap is_b small-mode in
    let both : true ≡ false = sym bad ∙ other in absurd (cc)) (inl (small-clean 0 146))

-- ---- the premises of Bound hold of the same link, run for longer

long : Plan
long = record small { ticks = 900 }

long-mode : long.link.params.mode ≡ B
unfolding long small plan_of_one
long-mode = refl

long-read : IsPlanRead long
unfolding long small plan_of_one lat_ticks first_from is_order numbers_from
long-read = record {
  laws = refl;
  timing = refl;
  events = All-nil _;
  jitters = All-nil _;
  wire = refl;
  route = refl;
  frames = λ n. record { whole = frame-size long n; below = λ r inside. frame-below long n r tt };
}

long-met : (t : ℕ) → Met long t
unfolding long small plan_of_one jitter
long-met t d i gives = omega arith

long-inside : (t : ℕ) → Inside long t
unfolding long small plan_of_one delay_at
long-inside t lane below = (omega arith, omega arith)

long-clean : (h t : ℕ) → Clean long h t
unfolding long small plan_of_one is_dead numbers_from
long-clean h t = record {
  set_as_wired = record { routed = λ lane below. refl; polarity = λ lane below. none-inverted lane };
  untouched = record { no_event = λ x low up. refl; alive = λ x low up. refl };
  upright = λ lane i comes v. let bad : false ≡ true = v.flipped in absurd (cc);
}

long-ticks : 0 + bound long.link.params long.link.timing < long.ticks
unfolding long small plan_of_one
long-ticks = omega arith

no-other : (m : Mode) → m ≡ B → is_b m ≡ false → ⊥
no-other m is other =
    let both : true ≡ false = sym (ap is_b is) ∙ other in cc both

-- so it delivers by tick 834
long-delivered : HasDelivered lanes_b long 0 (0 + bound long.link.params long.link.timing)
long-delivered = (runs-by-laws long long-read long-mode).bound 0 refl long-ticks (long-inside 0)
    (long-clean 0 _) (λ t low up. long-met t) (λ other. absurd (no-other _ long-mode other))

-- ---- the premises of Outside hold of the lane that arrives too late

outside-mode : outside.link.params.mode ≡ B
unfolding outside plan_of_one
outside-mode = refl

outside-read : IsPlanRead outside
unfolding outside plan_of_one lat_ticks first_from is_order numbers_from
outside-read = record {
  laws = refl;
  timing = refl;
  events = let fits : Event → Type 0 =
      λ e. event_fits outside.link.params outside.ticks e ≡ true in
      All-cons fits (record { tick = 0; what = Delay 0 70 }) [] refl (All-nil fits);
  jitters = All-nil _;
  wire = refl;
  route = refl;
  frames = λ n. record {
    whole = frame-size outside n;
    below = λ r inside. frame-below outside n r tt;
  };
}

outside-met : (t : ℕ) → Met outside t
unfolding outside plan_of_one jitter
outside-met t d i gives = omega arith

outside-clean : (t : ℕ) → Clean outside 0 t
unfolding outside plan_of_one is_dead numbers_from
outside-clean t = record {
  set_as_wired = record { routed = λ lane below. refl; polarity = λ lane below. none-inverted lane };
  untouched = record {
    no_event = λ x low up. rw (ne_eqb 0 x (λ z. omega arith)) refl;
    alive = λ x low up. rw (le-leb 0 x (omega arith)) refl;
  };
  upright = λ lane i comes v. let bad : false ≡ true = v.flipped in absurd (cc);
}

-- its arrival of 7 ticks is behind the window, so Inside does not hold
not-within : IsWithin outside 0 92 → ⊥
unfolding outside plan_of_one delay_at
not-within w = let high = w.1 in omega arith

not-inside : Inside outside 92 → ⊥
unfolding outside plan_of_one
not-inside inside = not-within (inside 0 (omega arith))

outside-calm : list_all (λ (m : Moment). not (is_hunt m.decided.decision)) (run lanes_b outside 92)
    ≡ true
unfolding outside plan_of_one ends_in_hunt from_hunt session standing seen_low observed order_of
    handed_to handed_since last_of sent_by told_of cells_in octets_given frames_given moment lane_for run
    after_low from_boundary from_edge tx_order is_reset last_reset jitter edge_tick is_edge
    edges delay_at is_dead inverted_bits received tens from_other lock_at lock_from lock
    faults_from some_rest alignments_from is_lost report_b restored spread cells data_cells
    entries_b octets_of replaced data_char data_octets chars_after spelled sent_words
    alarms_from decide standing_from after_six after_four after sixes four_of_seven fours
    data_spelling controls spelling place_in data_at control_at char_at reading readings commas
    other_commas begins stands_at least_place found bits zeros ones all_zero first_from
    first_found line_numbers line_word phase_after off_after cause_at first_fault ilas_state
    ilas_char chars_from scrambled descrambled start15 start58 lat_ticks fields sent_values
    config_octets read_values has_sum config_of masks differs frame_of words_of numbers_from
    source_frame in_order
outside-calm = refl

outside-idle : list_all (λ (m : Moment). not (m.decides && some_started m.reports))
    (run lanes_b outside 92) ≡ true
unfolding outside plan_of_one ends_in_hunt from_hunt session standing seen_low observed order_of
    handed_to handed_since last_of sent_by told_of cells_in octets_given frames_given moment lane_for run
    after_low from_boundary from_edge tx_order is_reset last_reset jitter edge_tick is_edge
    edges delay_at is_dead inverted_bits received tens from_other lock_at lock_from lock
    faults_from some_rest alignments_from is_lost report_b restored spread cells data_cells
    entries_b octets_of replaced data_char data_octets chars_after spelled sent_words
    alarms_from decide standing_from after_six after_four after sixes four_of_seven fours
    data_spelling controls spelling place_in data_at control_at char_at reading readings commas
    other_commas begins stands_at least_place found bits zeros ones all_zero first_from
    first_found line_numbers line_word phase_after off_after cause_at first_fault ilas_state
    ilas_char chars_from scrambled descrambled start15 start58 lat_ticks fields sent_values
    config_octets read_values has_sum config_of masks differs frame_of words_of numbers_from
    source_frame in_order
outside-idle = refl

outside-decides : (at lanes_b outside 92).decides ≡ true
unfolding outside plan_of_one ends_in_hunt from_hunt session standing seen_low observed order_of
    handed_to handed_since last_of sent_by told_of cells_in octets_given frames_given moment lane_for run
    after_low from_boundary from_edge tx_order is_reset last_reset jitter edge_tick is_edge
    edges delay_at is_dead inverted_bits received tens from_other lock_at lock_from lock
    faults_from some_rest alignments_from is_lost report_b restored spread cells data_cells
    entries_b octets_of replaced data_char data_octets chars_after spelled sent_words
    alarms_from decide standing_from after_six after_four after sixes four_of_seven fours
    data_spelling controls spelling place_in data_at control_at char_at reading readings commas
    other_commas begins stands_at least_place found bits zeros ones all_zero first_from
    first_found line_numbers line_word phase_after off_after cause_at first_fault ilas_state
    ilas_char chars_from scrambled descrambled start15 start58 lat_ticks fields sent_values
    config_octets read_values has_sum config_of masks differs frame_of words_of numbers_from
    source_frame in_order
outside-decides = refl

outside-starts : some_started (at lanes_b outside 92).reports ≡ true
unfolding outside plan_of_one ends_in_hunt from_hunt session standing seen_low observed order_of
    handed_to handed_since last_of sent_by told_of cells_in octets_given frames_given moment lane_for run
    after_low from_boundary from_edge tx_order is_reset last_reset jitter edge_tick is_edge
    edges delay_at is_dead inverted_bits received tens from_other lock_at lock_from lock
    faults_from some_rest alignments_from is_lost report_b restored spread cells data_cells
    entries_b octets_of replaced data_char data_octets chars_after spelled sent_words
    alarms_from decide standing_from after_six after_four after sixes four_of_seven fours
    data_spelling controls spelling place_in data_at control_at char_at reading readings commas
    other_commas begins stands_at least_place found bits zeros ones all_zero first_from
    first_found line_numbers line_word phase_after off_after cause_at first_fault ilas_state
    ilas_char chars_from scrambled descrambled start15 start58 lat_ticks fields sent_values
    config_octets read_values has_sum config_of masks differs frame_of words_of numbers_from
    source_frame in_order
outside-starts = refl

not-both : (a b : Bool) → not (a && b) ≡ true → a ≡ true → b ≡ false
not-both true false n e = refl
not-both true true n e = cc n
not-both false b n e = cc e

outside-no-hunt : (i : ℕ) → i < 92 → decides_hunt lanes_b outside i ≡ false
outside-no-hunt i below = not-hunt (decides_hunt lanes_b outside i)
    (all-at (λ (m : Moment). not (is_hunt m.decided.decision)) (run lanes_b outside 92) i
    (at lanes_b outside i) outside-calm (has-each-tick lanes_b outside i 92 below))

outside-first : IsFirstStarted lanes_b outside 0 92
outside-first = record {
  decides = outside-decides;
  started = outside-starts;
  first = λ i low below decides. not-both (at lanes_b outside i).decides
      (some_started (at lanes_b outside i).reports)
      (all-at (λ (m : Moment). not (m.decides && some_started m.reports)) (run lanes_b outside 92) i
      (at lanes_b outside i) outside-idle (has-each-tick lanes_b outside i 92 below)) decides;
}

no-reset : (i : ℕ) → 0 < i → is_reset outside Rx i ≡ false
unfolding outside plan_of_one is_reset
no-reset i low = rw (ne_eqb 0 i (λ z. omega arith)) refl

outside-session : InSession lanes_b outside 0 92
unfolding outside plan_of_one
outside-session = record {
  begins = refl;
  above = omega arith;
  in_run = omega arith;
  alone = λ i low below. no-hunt-here i (is_reset outside Rx i) (decides_hunt lanes_b outside i) low
      (no-reset i low) (outside-no-hunt i below);
}

outside-lane : 0 < outside.link.params.l
unfolding outside plan_of_one
outside-lane = omega arith

-- so decision 92 raises alarms for it, a hunt begins, and nothing was delivered
outside-raises : RaisesOutside lanes_b outside 0 92
outside-raises = (runs-by-laws outside outside-read outside-mode).outside 0 92 0 outside-session
    outside-first (outside-met 92) (λ other. absurd (no-other _ outside-mode other))
    (inl (outside-clean 92)) outside-lane not-within

-- ---- a dead tick disturbs

not-clean : Clean marked 0 150 → ⊥
unfolding marked plan_of_one
not-clean clean =
    let calm = clean.untouched.no_event 150 (omega arith) (omega arith) in
    let bad : true ≡ false = calm in absurd (cc)
