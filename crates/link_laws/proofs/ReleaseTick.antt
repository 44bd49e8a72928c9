-- A release comes LAT ticks after what starts the lanes was sent, on each lane.
use Rattle.std.proofs.Common.{◌≡◌, ℕ, suc, ◌+◌, ◌-◌, ◌*◌, ◌<◌, ◌≤◌, ◌%◌, ◌==◌, ◌⊎◌, ◌||◌, ◌&&◌, nat_le, nat_lt, if◌then◌else◌, Bool, true, false, length, Option, Some, None, inl, inr, refl, sym, ap, ap₂, ◌∙◌, arith}
use Rattle.std.proofs.Math.Nat.{add-mod-mod}
use Rattle.std.proofs.lemmas.Bool.{and_parts, cases_lt, leb-true, lt-ltb, ltb-true, or_parts}
use Rattle.std.proofs.lemmas.List.{length-map}
use Rattle.jesd_base.specs.Search.{first_from, IsLeast}
use Rattle.jesd_base.proofs.BitLemmas.{finds_least, finds_none}
use Rattle.link_params.specs.declared.fields.Timing.{Timing}
use Rattle.link_params.specs.declared.alarms.Device.{Device}
use Rattle.link_params.specs.declared.alarms.Device.TheVariants.{Tx, Rx}
use Rattle.link_params.specs.Lanes.{LaneKind, is_inside}
use Rattle.link_params.specs.Laws.{is_b}
use Rattle.link_params.specs.Numbers.{lat_ticks, period, rx_edge, tx_edge, wait}
use Rattle.bring_up.specs.declared.stage.Stage.TheVariants as stage
use Rattle.scenario.specs.Plans.{Plan, numbers_from}
use Rattle.link_model.specs.Edges.{edge_tick, is_reset, phase}
use Rattle.link_model.specs.Run.{moment}
use Rattle.link_model.specs.Receives.{offset_at}
use Rattle.link_model.proofs.NumberLists.{length-numbers}
use Rattle.link_model.specs.Sessions.{InSession, at, decides_hunt, first_tick, report_at}
use Rattle.link_laws.specs.Premises.{GivesPhase, Lone, Met, Pattern, Undamaged, Untouched, arrival}
use Rattle.link_laws.specs.LaneLaws.{ArmedBy, ComesAfter, HasStarted, IsStartSent, LaneStart, due_after, is_first_place}
use Rattle.link_laws.specs.Laws.{IsPlanRead}
use Rattle.link_laws.proofs.RunTicks.{offset-at}
use Rattle.link_laws.proofs.FirstPlace.{first-place}
use Rattle.link_laws.proofs.Congruences.{offset-arrival, release-tick, same-add}
use Rattle.link_laws.proofs.PlanRead.{HasNumbers, arrival-below, has-edges, numbers, reset-none}
use Rattle.link_laws.proofs.Phases.{HasEdges, edge-of-phase, edge-step, first_capture, gives-later, phase-again, phase-of, phase-stays}
use Rattle.link_laws.proofs.Stages.{before, decides-phase, phase-decides}
use Rattle.link_laws.proofs.SessionStages.{ArmedSince, Goes, arm-late, armed-since, first-low}

pub untouched : (s : Plan) (h t : ℕ) → Undamaged s h t → Untouched s h t
untouched s h t (inl c) = c.untouched
untouched s h t (inr b) = b.untouched

-- the ticks of an undamaged session go on
pub goes : (kind : LaneKind) (s : Plan) (h t : ℕ) → InSession kind s h t → Undamaged s h t
    → Goes kind s h t
goes kind s h t i u = record {
  begins = i.begins;
  above = i.above;
  quiet = λ x up down. reset-none s Rx x ((untouched s h t u).no_event x up down);
  goes = λ x up down.
      (or_parts ((x == 0) || is_reset s Rx x) (decides_hunt kind s x) (i.alone x up down)).1;
}

-- phases of a session are in step with the first capture of their device, where the edges were met
pub in-step : (s : Plan) (d : Device) (h t u x : ℕ) → HasEdges s
    → ((i : ℕ) → h < i → i ≤ t → is_reset s d i ≡ false) → Met s t → h ≤ u → u ≤ t
    → phase s d u ≡ Some x → (first_capture s.link.timing d + x) % period s.link.params
    ≡ u % period s.link.params
in-step s d h t u x e quiet met low up is =
    let n : ℕ = period s.link.params in
    let k = edge-of-phase s d u x e.regular is in
    let g : GivesPhase s d u k.0 = k.1 in
    let c : ℕ = edge_tick s d k.0 in
    let by = g.by in
    let small = met d k.0 (gives-later s d u t k.0 up (λ i a b. quiet i (omega arith) b) g) in
    let now = phase-of s d u k.0 e.regular g in
    let same : x ≡ (u - c) % n = cc in
    let whole : c + (u - c) ≡ u = omega arith in
    ap (λ (y : ℕ). (first_capture s.link.timing d + y) % n) same
    ∙ add-mod-mod (first_capture s.link.timing d) (u - c) n
    ∙ same-add n (first_capture s.link.timing d) c (u - c) (sym (edge-step s d k.0 e small))
    ∙ ap (λ (y : ℕ). y % n) whole

pub length-reports : (kind : LaneKind) (s : Plan) (t : ℕ)
    → length (at kind s t).reports ≡ s.link.params.l
unfolding moment
length-reports kind s t = length-map (numbers_from 0 s.link.params.l) _
    ∙ length-numbers s.link.params.l 0

pub inside-parts : (t : Timing) (f : ℕ) → is_inside t f ≡ true → (t.w_lo ≤ f) × (f ≤ t.w_hi)
inside-parts t f e =
    let parts = and_parts (nat_le t.w_lo f) (nat_le f t.w_hi) e in
    (leb-true t.w_lo f parts.0, leb-true f t.w_hi parts.1)

cases-some : (o : Option ℕ) → ((x : ℕ) × (o ≡ Some x)) ⊎ (o ≡ None)
cases-some (Some x) = inl (x, refl)
cases-some None = inr refl

pub lead-small : (b : Bool) (due : ℕ) → (if b then 0 else due) ≤ due
lead-small true due = omega arith
lead-small false due = omega arith

-- r is a decision of the session at which the receiver waits, and no decision since the arming
-- found a start: a release, or the first decision that finds one
module _ (kind : LaneKind) (pattern : Pattern) (s : Plan) (read : IsPlanRead s)
    (laws : LaneStart kind pattern s) (h r t : ℕ)
    (session : InSession kind s h t) (met : Met s t) (lone : Lone kind pattern s h t)
    (whole : Undamaged s h t)
    (low : first_tick kind s h ≤ r) (up : r ≤ t) (waiting : before kind s r ≡ stage.Wait)
    (deciding : (at kind s r).decides ≡ true)
    (idle : (u lane : ℕ) → first_tick kind s h ≤ u → u < r → before kind s u ≡ stage.Wait
    → before kind s (suc u) ≡ stage.Wait → (at kind s u).decides ≡ true
    → lane < s.link.params.l → (report_at kind s lane u).started ≡ None) where
  g : Goes kind s h t
  g = goes kind s h t session whole

  e : HasEdges s
  e = has-edges s read

  n : HasNumbers s.link.params s.link.timing
  n = numbers s read

  quiet : (d : Device) (i : ℕ) → h < i → i ≤ t → is_reset s d i ≡ false
  quiet d i after to = reset-none s d i ((untouched s h t whole).no_event i after to)

  -- the decision that armed the lanes
  pub arming : ArmedSince kind s (first_tick kind s h) r
  arming = armed-since kind s h t g r low up waiting

  pub armed-by : ArmedBy kind s h t arming.tick
  armed-by = let b = arming.below in
      record { in_session = arming.from; below = omega arith; arms = arming.arms }

  pub late : first_tick kind s h + 3 * period s.link.params ≤ arming.tick
  late = let b = arming.below in arm-late kind s h t g arming.tick e arming.from
      (omega arith) arming.hunts arming.arms

  -- what is known of a lane that has started by r
  pub record StartsLane (lane : ℕ) : Type 0 where
    pub sent : ℕ
    pub is : IsStartSent kind s lane h arming.tick sent
    pub started : HasStarted kind s h lane t (sent + due_after s lane h)
    pub by : sent + due_after s lane h ≤ r

  lead : ℕ → ℕ
  lead lane = if is_b s.link.params.mode then 0 else due_after s lane h

  sends : ℕ → ℕ → Bool
  sends lane i = is_first_place (at kind s i).order && nat_lt arming.tick (i + lead lane)

  sends-is : (lane i : ℕ) → sends lane i ≡ true → (is_first_place (at kind s i).order ≡ true)
      × ComesAfter s lane h arming.tick i
  unfolding sends lead
  sends-is lane i yes_sent =
      let parts = and_parts (is_first_place (at kind s i).order)
      (nat_lt arming.tick (i + lead lane)) yes_sent in
      (parts.0, ltb-true arming.tick (i + lead lane) parts.1)

  is-sends : (lane i : ℕ) → ComesAfter s lane h arming.tick i
      → is_first_place (at kind s i).order ≡ true → sends lane i ≡ true
  unfolding sends lead
  is-sends lane i comes first =
      ap₂ (λ (a b : Bool). a && b) first (lt-ltb arming.tick (i + lead lane) comes)

  pub starts-lane : (lane o : ℕ) → lane < s.link.params.l
      → (report_at kind s lane r).started ≡ Some o → StartsLane lane
  starts-lane lane o below has =
      let law = laws h lane t below session lone whole in
      let due : ℕ = due_after s lane h in
      elim (cases-some (first_from (sends lane) (t + 1) 0)) [
        | inl k ↦
            let q : ℕ = k.0 in
            let found = (finds_least (sends lane) (t + 1) 0 q).0 k.1 in
            let least : IsLeast (sends lane) 0 q = found.0 in
            let is = sends-is lane q least.passes in
            let sent : IsStartSent kind s lane h arming.tick q = record {
              sent = is.0;
              comes = is.1;
              least = λ i comes first. elim (cases_lt i q) [
                | inr over ↦ over
                | inl early ↦ let no = least.least i (omega arith) early in
                    let yes_sent = is-sends lane i comes first in absurd (cc)
              ];
            } in
            elim (cases_lt r (q + due)) [
              | inr in_time ↦
                  record {
                    sent = q;
                    is = sent;
                    started = law.starts arming.tick q armed-by sent
                        (omega arith);
                    by = in_time;
                  }
              | inl after ↦
                  let none : (report_at kind s lane r).started ≡ None =
                  elim (cases_lt t (q + due)) [
                    | inr later ↦ (law.starts arming.tick q armed-by sent later).none_before r low
                        after
                    | inl never ↦
                        law.no_other arming.tick armed-by
                        (λ i other. let over = sent.least i other.comes other.sent in omega arith) r
                        low up
                  ] in
                  absurd (cc)
            ]
        | inr nothing ↦
            let nowhere = (finds_none (sends lane) (t + 1) 0).0 nothing in
            let none = law.no_other arming.tick armed-by (λ i other. elim (cases_lt i (t + 1)) [
              | inr past ↦ omega arith
              | inl inside ↦ let no = nowhere i (omega arith) (omega arith) in
                  let yes_sent = is-sends lane i other.comes other.sent in absurd (cc)
            ]) r low up in
            absurd (cc)
      ]

  -- a lane has started by r where what starts it was sent by a tick that comes after the arming,
  -- and early enough
  pub starts-by : (lane q : ℕ) → lane < s.link.params.l → ComesAfter s lane h arming.tick q
      → is_first_place (at kind s q).order ≡ true → q + due_after s lane h ≤ r
      → (o : ℕ) × ((report_at kind s lane r).started ≡ Some o)
  starts-by lane q below comes first by =
      let law = laws h lane t below session lone whole in
      elim (cases-some (first_from (sends lane) (q + 1) 0)) [
        | inr nothing ↦
            let no = (finds_none (sends lane) (q + 1) 0).0 nothing q (omega arith) (omega arith) in
            let yes_sent = is-sends lane q comes first in
            absurd (cc)
        | inl k ↦
            let found = (finds_least (sends lane) (q + 1) 0 k.0).0 k.1 in
            let least : IsLeast (sends lane) 0 k.0 = found.0 in
            let inside = found.1 in
            let is = sends-is lane k.0 least.passes in
            let sent : IsStartSent kind s lane h arming.tick k.0 = record {
              sent = is.0;
              comes = is.1;
              least = λ i later place. elim (cases_lt i k.0) [
                | inr over ↦ over
                | inl early ↦ let no = least.least i (omega arith) early in
                    let yes_sent = is-sends lane i later place in absurd (cc)
              ];
            } in
            let started = law.starts arming.tick k.0 armed-by sent (omega arith) in
            ((at kind s (k.0 + due_after s lane h)).told.offset, started.shows r (omega arith) up)
      ]

  due-small : (lane : ℕ) → due_after s lane h < 3 * period s.link.params
  due-small lane = let a = arrival-below s lane h read in let w = n.small_wait in omega arith

  -- it was sent in the session
  pub sent-late : (lane : ℕ) (x : StartsLane lane) → h < x.sent
  sent-late lane x =
      let comes = x.is.comes in
      let small = lead-small (is_b s.link.params.mode) (due_after s lane h) in
      let due = due-small lane in
      let l = late in
      let f = first-low kind s h t g in
      omega arith

  -- the lane starts after the arming
  after-arming : (lane : ℕ) (x : StartsLane lane) → arming.tick < x.sent + due_after s lane h
  after-arming lane x =
      let comes = x.is.comes in
      let small = lead-small (is_b s.link.params.mode) (due_after s lane h) in
      omega arith

  -- the transmitter's phase where it was sent
  sent-step : (lane : ℕ) (x : StartsLane lane)
      → x.sent % period s.link.params ≡ tx_edge s.link.timing % period s.link.params
  sent-step lane x =
      let by = x.by in
      let after = sent-late lane x in
      let phase_is = first-place kind s x.sent e x.is.sent in
      let step = in-step s Tx h t x.sent 0 e (quiet Tx) met (omega arith) (omega arith) phase_is in
      let zero_more : tx_edge s.link.timing + 0 ≡ tx_edge s.link.timing = omega arith in
      sym step ∙ ap (λ (k : ℕ). k % period s.link.params) zero_more

  arming-low : h ≤ arming.tick
  arming-low = let f = first-low kind s h t g in let a = arming.from in omega arith

  -- the receiver has a phase from the arming on
  has-phase : (u : ℕ) → arming.tick ≤ u → u ≤ t → (y : ℕ) × (phase s Rx u ≡ Some y)
  has-phase u from to =
      let l = arming-low in
      phase-stays s Rx arming.tick u s.link.timing.rbd e from
      (λ i a b. quiet Rx i (omega arith) (omega arith))
      (phase-decides kind s arming.tick arming.decides)

  -- the offset of its start is its arrival
  pub offset-is : (lane : ℕ) (x : StartsLane lane)
      → (at kind s (x.sent + due_after s lane h)).told.offset ≡ arrival s lane h
  offset-is lane x =
      let p = s.link.params in
      let timing = s.link.timing in
      let start : ℕ = x.sent + due_after s lane h in
      let by = x.by in
      let after = after-arming lane x in
      let l = arming-low in
      let k = has-phase start (omega arith) (omega arith) in
      let step = in-step s Rx h t start k.0 e (quiet Rx) met (omega arith) (omega arith) k.1 in
      let join : start ≡ x.sent + arrival s lane h + wait p = omega arith in
      offset-at kind s start ∙ ap (offset_at p timing) k.1
      ∙ offset-arrival (period p) x.sent (arrival s lane h) (wait p) k.0 (rx_edge timing)
      (tx_edge timing) (arrival-below s lane h read) n.behind
      (step ∙ ap (λ (y : ℕ). y % period p) join) (sent-step lane x)

  -- the offset that the report of r shows is the arrival
  pub offset-shown : (lane o : ℕ) → (x : StartsLane lane)
      → (report_at kind s lane r).started ≡ Some o → o ≡ arrival s lane h
  offset-shown lane o x has =
      let shows = x.started.shows r x.by up in
      let same : o ≡ (at kind s (x.sent + due_after s lane h)).told.offset = cc in
      same ∙ offset-is lane x

  -- the release comes so many ticks after it was sent
  pub releases-late : (lane : ℕ) → lane < s.link.params.l → s.link.timing.w_lo ≤ arrival s lane h
      → arrival s lane h ≤ s.link.timing.w_hi → (x : StartsLane lane)
      → x.sent + lat_ticks s.link.params s.link.timing ≡ r
  releases-late lane below low_part high_part x =
      let p = s.link.params in
      let timing = s.link.timing in
      let latency : ℕ = lat_ticks p timing in
      let some = n.some in
      let late_part = n.late in
      let near_part = n.near in
      let f = first-low kind s h t g in
      let phase_r = phase-decides kind s r deciding in
      let step_r = in-step s Rx h t r timing.rbd e (quiet Rx) met (omega arith)
      (omega arith) phase_r in
      let turn : tx_edge timing + latency ≡ latency + tx_edge timing = omega arith in
      let step : (x.sent + latency) % period p ≡ r % period p =
      same-add (period p) x.sent (tx_edge timing) latency (sent-step lane x)
      ∙ ap (λ (k : ℕ). k % period p) turn ∙ n.step ∙ step_r in
      release-tick (period p) x.sent (due_after s lane h) latency r (omega arith) (omega arith)
      (omega arith) step x.by
      (λ far.
      let d : ℕ = r - period p in
      let after = after-arming lane x in
      let l = arming-low in
      let from = arming.from in
      let same : d + period p ≡ r = omega arith in
      let k = has-phase d (omega arith) (omega arith) in
      let point = phase-again s Rx d r timing.rbd e same
      (λ i a b. quiet Rx i (omega arith) (omega arith)) phase_r k.0 k.1 in
      let none = idle d lane (omega arith) (omega arith)
      (arming.waits d (omega arith) (omega arith))
      (arming.waits (suc d) (omega arith) (omega arith)) (decides-phase kind s d point) below in
      let shows = x.started.shows d (omega arith) (omega arith) in
      absurd (cc))
