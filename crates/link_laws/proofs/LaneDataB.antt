-- What an armed 8b/10b lane hands on: it is not lost and has no fault, and its entries carry what
-- was sent as many ticks before as its arrival.
use Rattle.std.proofs.Common.{◌≡◌, ◌≢◌, ◌⊎◌, ℕ, suc, ◌+◌, ◌-◌, ◌*◌, ◌%◌, ◌<◌, ◌≤◌, ◌==◌, not, min, true, false, List, [], ◌++◌, length, map, take, drop, get_or, slice_get, Some, None, inl, inr, refl, sym, subst, ap, ◌∙◌, length-append, length-drop, length-take, arith}
use Rattle.std.specs.List.{slice_index}
use Rattle.std.proofs.lemmas.Bool.{cases_lt, cond-true}
use Rattle.std.proofs.lemmas.List.{ext_get_or, get_or-append_right, get_or-drop, get_or-map, get_or_append_left, length-map}
use Rattle.std.proofs.lemmas.Option.{slice_get-get_or}
use Rattle.link_params.specs.declared.cells.LaneCell.{LaneCell}
use Rattle.link_params.specs.declared.cells.Mark.TheVariants.{Ok as Good, Bad}
use Rattle.link_params.specs.declared.fields.Mode.TheVariants.{B, CFec}
use Rattle.link_params.specs.declared.fields.Params.{Params}
use Rattle.link_params.specs.declared.lane_report.LaneReport.{LaneReport}
use Rattle.link_params.specs.declared.orders.TxOrder.TheVariants.{Data as DataOrder}
use Rattle.link_params.specs.Laws.{is_b}
use Rattle.link_params.specs.Lanes.{Entry, Placed, Held, Taken, is_inside}
use Rattle.link_params.specs.Numbers.{period}
use Rattle.bring_up.specs.declared.stage.Decision.TheVariants as decision
use Rattle.bring_up.specs.declared.stage.Stage.{Stage}
use Rattle.bring_up.specs.declared.stage.Stage.TheVariants as stage
use Rattle.bring_up.specs.Decisions.{is_hunting}
use Rattle.code_8b10b.specs.declared.character.Char.{Char}
use Rattle.code_8b10b.specs.declared.character.Char.TheVariants.{Data}
use Rattle.code_8b10b.specs.declared.character.Reading.{Reading}
use Rattle.code_8b10b.specs.declared.character.Reading.TheVariants.{Char as Read, Invalid}
use Rattle.ilas.specs.Checked.{ilas_state}
use Rattle.ilas.specs.Sequence.{ilas_char}
use Rattle.char_replace.specs.Restoring.{is_bad_char}
use Rattle.lane_b.specs.Locking.{since_start, start_of}
use Rattle.lane_b.specs.Loss.{is_fault, is_lost, alignment_at}
use Rattle.lane_b.specs.Received.{data_cells, entries_b, entries_of, entries_since, is_started_inside, lanes_b}
use Rattle.lane_b.specs.Sent.{coded_octets, replaced}
use Rattle.scenario.specs.Plans.{Plan}
use Rattle.link_params.specs.declared.alarms.Device.TheVariants.{Tx}
use Rattle.link_model.specs.Edges.{is_reset}
use Rattle.link_model.specs.Orders.{after_boundary}
use Rattle.link_model.specs.Sessions.{InSession, at, entries_at, first_tick, is_armed, report_at, taken_at}
use Rattle.link_model.specs.Wiring.{route_of, wire_of}
use Rattle.link_laws.specs.Premises.{Clean, Pattern}
use Rattle.link_laws.specs.LaneLaws.{Carries, HasNoFault, HasStarted, IsCarrying, IsEntryOf, LaneData, is_first_place}
use Rattle.link_laws.specs.Laws.{IsPlanRead}
use Rattle.link_laws.proofs.PlanRead.{numbers}
use Rattle.link_laws.proofs.RunTicks.{armed-at}
use Rattle.link_laws.proofs.Stages.{before, decision_at, released-waits}
use Rattle.link_laws.proofs.SessionStages.{Goes, armed-since, first-high, runs-since}
use Rattle.link_laws.proofs.Arming.{sees-high, sees-low}
use Rattle.link_laws.proofs.OrdersB.{count-goes, count-low, first-count, order-some}
use Rattle.link_laws.proofs.SentChars.{AreSmall, char_sent}
use Rattle.link_laws.proofs.CleanLine.{goes-on, late}
use Rattle.link_laws.proofs.ArmedReadings.{char-at, is-late, length-chars}
use Rattle.link_laws.proofs.LaneStartB.{chars, due, first-some, goes-here, has-started, is-b, lock_of, locked-report, none-of-report, quiet, since-none, since-some, some-period, started-report, undropped-none}
use Rattle.link_laws.proofs.DataBack.{data-back, good, length-reads, none-bad}
use Rattle.link_laws.proofs.DataSent.{data-sent, ilas-sent, length-octets_to, octet-to, octets-small, octets_to, order-of-data, order-of-ilas}
use Rattle.link_laws.proofs.IlasGood.{state-good}
use Rattle.link_laws.proofs.NeverLost.{IsPlaced, data-faultless, data-placed, ilas-faultless, ilas-placed, not-lost}
use Rattle.link_laws.proofs.SetAsWired.{wired}

good-not-bad : Good ≢ Bad
good-not-bad e = cc

nothing-lost : (p : Params) → is_lost p [] ≡ false
nothing-lost p = not-lost [] p (λ i lt. absurd (omega arith)) (λ i lt. absurd (omega arith))

nothing-faulty : (p : Params) (lane : ℕ) → HasNoFault (ilas_state p lane [])
unfolding ilas_state
nothing-faulty p lane = tt

module _ (s : Plan) (lane : ℕ) (read : IsPlanRead s) (mode : s.link.params.mode ≡ B)
    (below : lane < s.link.params.l)
    (h t : ℕ) (session : InSession lanes_b s h t) (clean : Clean s h t)
    (A : ℕ) (low : first_tick lanes_b s h ≤ A) (up : A < t)
    (arms : decision_at lanes_b s A ≡ decision.Arm) where
  abbrev a : ℕ
  a = late s lane read mode below h t session clean

  abbrev p : Params
  p = s.link.params

  abbrev n4 : ℕ
  n4 = 4 * period s.link.params

  some-places : 17 ≤ period s.link.params
  some-places = let n = numbers s read in n.some

  -- a lane that has started
  module _ (g : ℕ) (after : A < g) (starts : is_first_place (at lanes_b s g).order ≡ true)
      (least : (x : ℕ) → A < x → x < g → is_first_place (at lanes_b s x).order ≡ false)
      (begun : g + a ≤ t) where
    -- the order of each tick from g on
    orders : (j : ℕ) → g + j ≤ t → (at lanes_b s (g + j)).order ≡ after_boundary s.link.params j
    orders j upto =
        let b = is-b s lane read mode below h t session clean A low up arms in
        let goes = goes-here s lane read mode below h t session clean A low up arms in
        let l = is-late s lane read mode below h t session clean A low up arms in
        let far = l.far in
        let seen = l.seen in
        let one = first-count lanes_b s b g starts in
        elim (cases_lt (A + s.link.timing.sync_delay) g) [
          | inr early ↦
              let none =
              count-low lanes_b s b g
              (sees-low lanes_b s h t goes A g low (omega arith) l.hunts (omega arith) early) in
              absurd (omega arith)
          | inl high ↦
              order-some lanes_b s b (g + j) j
              (count-goes lanes_b s b g t starts
              (λ x x_low x_up. quiet s lane read mode below h t session clean A low up arms x
              (omega arith) x_up)
              (λ x x_low x_up. sees-high lanes_b s h t goes A x low arms (omega arith)
              (omega arith)) j upto)
        ]

    quiet_from : (x : ℕ) → g < x → x ≤ t → is_reset s Tx x ≡ false
    quiet_from x x_low x_up =
        let l = is-late s lane read mode below h t session clean A low up arms in
        let far = l.far in
        quiet s lane read mode below h t session clean A low up arms x (omega arith) x_up

    some_one : 0 < period s.link.params
    some_one = some-period s lane read mode below h t session clean A low up arms

    -- so many characters were read, and so many of them are data
    abbrev k : ℕ
    k = suc t - a - g

    abbrev n : ℕ
    n = k - n4

    abbrev cs : List Char
    cs = chars s lane read mode below h t session clean A low up arms g after starts least k

    abbrev rs : List Reading
    rs = map Read cs

    abbrev octets : List ℕ
    octets = octets_to s (wire_of s lane) read mode (wired s lane read below) g t some_one quiet_from orders n

    length-rs : length rs ≡ k
    length-rs = length-map cs Read ∙ length-chars s lane read mode below h t session clean A low up
        arms g k

    reads-at : (j : ℕ) → j < k
        → get_or rs j Invalid ≡ Read (char_sent s (wire_of s lane) read mode (wired s lane read below) (g + j))
    reads-at j lt =
        let long = length-chars s lane read mode below h t session clean A low up arms g k in
        get_or-map Read cs j (Data 0) Invalid (omega arith)
        ∙ ap Read (char-at s lane read mode below h t session clean A low up arms g k j
        (Data 0) lt)

    ilas-at : (j : ℕ) → j < k → j < n4 → get_or rs j Invalid ≡ Read (ilas_char s.link.params (wire_of s lane) j)
    ilas-at j lt inside = reads-at j lt
        ∙ ap Read (ilas-sent s (wire_of s lane) read mode (wired s lane read below) g t some_one quiet_from orders j
        (omega arith) inside)

    abbrev data_chars : List Char
    data_chars = replaced s.link.params (coded_octets s.link.params octets)
        (length (coded_octets s.link.params octets))

    data-at : (i : ℕ) → i < n → get_or rs (n4 + i) Invalid ≡ Read (get_or data_chars i (Data 0))
    data-at i lt =
        let e : g + (n4 + i) ≡ g + n4 + i = omega arith in
        reads-at (n4 + i) (omega arith) ∙ ap (λ m. Read (char_sent s (wire_of s lane) read mode (wired s lane read below) m)) e
        ∙ ap Read (data-sent s (wire_of s lane) read mode (wired s lane read below) g t some_one quiet_from orders n i lt
        (omega arith))

    abbrev small : AreSmall octets
    small = octets-small s (wire_of s lane) read mode (wired s lane read below) g t some_one quiet_from orders n

    length-octets : length octets ≡ n
    length-octets = length-octets_to s (wire_of s lane) read mode (wired s lane read below) g t some_one quiet_from orders n

    data-reads : drop n4 rs ≡ map Read data_chars
    data-reads =
        let long = length-rs in
        let left = length-drop n4 rs in
        let size = length-octets in
        let count = length-reads s.link.params octets read.laws mode small in
        let wide = length-map data_chars Read in
        ext_get_or Invalid (drop n4 rs) (map Read data_chars) (omega arith) (λ i lt.
        get_or-drop n4 rs i Invalid ∙ data-at i (omega arith)
        ∙ sym (get_or-map Read data_chars i (Data 0) Invalid (omega arith)))

    bad-none : (i : ℕ) → i < n → is_bad_char s.link.params i (Read (get_or data_chars i (Data 0)))
        ≡ false
    bad-none i lt = let size = length-octets in none-bad s.link.params octets read.laws mode small i
        (omega arith)

    pub kept-here : is_lost s.link.params rs ≡ false
    kept-here =
        let long = length-rs in
        not-lost rs s.link.params
        (λ j lt. elim (cases_lt j n4) [
          | inl inside ↦ ap (is_fault s.link.params j) (ilas-at j (omega arith) inside)
              ∙ ilas-faultless s.link.params (wire_of s lane) j inside
          | inr past ↦
              let i : ℕ = j - n4 in
              let e : n4 + i ≡ j = omega arith in
              let is : get_or rs j Invalid ≡ Read (get_or data_chars i (Data 0)) =
              sym (ap (λ m. get_or rs m Invalid) e) ∙ data-at i (omega arith) in
              ap (is_fault s.link.params j) is
              ∙ data-faultless s.link.params j (get_or data_chars i (Data 0)) past
              (bad-none i (omega arith))
        ])
        (λ j lt. elim (cases_lt j n4) [
          | inl inside ↦ subst (λ r. IsPlaced (alignment_at s.link.params j r))
              (sym (ilas-at j (omega arith) inside)) (ilas-placed s.link.params (wire_of s lane) j inside)
          | inr past ↦
              let i : ℕ = j - n4 in
              let e : n4 + i ≡ j = omega arith in
              let is : get_or rs j Invalid ≡ Read (get_or data_chars i (Data 0)) =
              sym (ap (λ m. get_or rs m Invalid) e) ∙ data-at i (omega arith) in
              subst (λ r. IsPlaced (alignment_at s.link.params j r)) (sym is)
              (data-placed s.link.params j (get_or data_chars i (Data 0)) past
              (bad-none i (omega arith)))
        ])

    pub checks-here : HasNoFault (ilas_state s.link.params (route_of s lane) rs)
    checks-here =
        let long = length-rs in
        subst (λ (l : ℕ). HasNoFault (ilas_state s.link.params l rs))
        (clean.set_as_wired.routed lane below)
        (state-good s.link.params (wire_of s lane) read.laws (ap is_b mode)
        (wired s lane read below) some-places rs (λ i lt inside. ilas-at i (omega arith) inside))

    since-here : since_start (lock_of s lane read mode below h t session clean A low up arms t) ≡ rs
    since-here = since-some s lane read mode below h t session clean A low up arms g after starts
        least t begun (omega arith)

    pub kept : (report_at lanes_b s lane t).lost ≡ false
    kept =
        let r = started-report s lane read mode below h t session clean A low up arms g after starts
        least t begun (omega arith) in
        ap (λ (x : LaneReport). x.lost) r.report ∙ ap (is_lost s.link.params) since-here ∙ kept-here

    pub checks : HasNoFault (report_at lanes_b s lane t).ilas
    checks =
        let r = started-report s lane read mode below h t session clean A low up arms g after starts
        least t begun (omega arith) in
        subst HasNoFault
        (sym (ap (λ (x : LaneReport). x.ilas) r.report
        ∙ ap (ilas_state s.link.params (route_of s lane)) since-here)) checks-here

    -- ---- its entries, where it started inside its window

    abbrev cells_of : List LaneCell
    cells_of = map good octets

    abbrev all_entries : List Entry
    all_entries = map (λ r. Placed) (take n4 rs) ++ map Held cells_of

    entries-are : is_inside s.link.timing (at lanes_b s (g + a)).told.offset ≡ true
        → entries_at lanes_b s lane t ≡ all_entries
    unfolding entries_b
    entries-are inside =
        let r = started-report s lane read mode below h t session clean A low up arms g after starts
        least t begun (omega arith) in
        let taken : List Taken = taken_at lanes_b s lane t in
        let l = lock_of s lane read mode below h t session clean A low up arms t in
        let start : start_of taken l ≡ Some (at lanes_b s (g + a)).told.offset =
        sym (ap (λ (x : LaneReport). x.started) r.report)
        ∙ has-started s lane read mode below h t session clean A low up arms g after starts
        least t begun (omega arith) in
        let in_window : is_started_inside s.link.timing (start_of taken l) ≡ true =
        ap (is_started_inside s.link.timing) start ∙ inside in
        ap (entries_of s.link.params s.link.timing taken) r.lock_is
        ∙ cond-true (is_started_inside s.link.timing (start_of taken l))
        (entries_since s.link.params (since_start l)) [] in_window
        ∙ ap (entries_since s.link.params) since-here
        ∙ ap (λ ds. map (λ r. Placed) (take n4 rs) ++ map Held (data_cells s.link.params ds))
        data-reads
        ∙ ap (λ cs. map (λ r. Placed) (take n4 rs) ++ map Held cs)
        (data-back s.link.params octets read.laws mode small)

    abbrev front : List Entry
    front = map (λ (r : Reading). Placed) (take n4 rs)

    length-front : length front ≡ min n4 k
    length-front = length-map (take n4 rs) (λ (r : Reading). Placed) ∙ length-take n4 rs
        ∙ ap (min n4) length-rs

    length-back : length (map Held cells_of) ≡ n
    length-back = length-map cells_of Held ∙ length-map octets good ∙ length-octets

    length-entries : length all_entries ≡ k
    length-entries =
        let f = length-front in
        let b = length-back in
        length-append front (map Held cells_of) ∙ omega arith

    placed-entry : (j : ℕ) → j < k → j < n4 → slice_get all_entries j ≡ Some Placed
    placed-entry j lt inside =
        let f = length-front in
        let all = length-entries in
        let wide = length-take n4 rs in
        let long = length-rs in
        slice_get-get_or all_entries j Placed (omega arith)
        ∙ ap Some (get_or_append_left front (map Held cells_of) Placed j (omega arith)
        ∙ get_or-map (λ (r : Reading). Placed) (take n4 rs) j Invalid Placed (omega arith))

    held-entry : (i : ℕ) → i < n
        → slice_get all_entries (n4 + i) ≡ Some (Held (good (get_or octets i 0)))
    held-entry i lt =
        let f = length-front in
        let all = length-entries in
        let size = length-octets in
        let wide = length-map octets good in
        let at_i : n4 + i - n4 ≡ i = omega arith in
        slice_get-get_or all_entries (n4 + i) Placed (omega arith)
        ∙ ap Some (get_or-append_right front (map Held cells_of) n4 (n4 + i) Placed (omega arith)
        (omega arith)
        ∙ ap (λ m. get_or (map Held cells_of) m Placed) at_i
        ∙ get_or-map Held cells_of i (good 0) Placed (omega arith)
        ∙ ap Held (get_or-map good octets i 0 (good 0) (omega arith)))

    pub entry-of : (j : ℕ) → is_inside s.link.timing (at lanes_b s (g + a)).told.offset ≡ true
        → j < k → IsEntryOf lanes_b s h lane t j (g + j)
    entry-of j inside lt = elim (cases_lt j n4) [
      | inl early ↦
          let order = order-of-ilas s (wire_of s lane) read mode (wired s lane read below) g t some_one quiet_from orders j
          (omega arith) early in
          record {
            entry = Placed;
            found = ap (λ es. slice_get es j) (entries-are inside) ∙ placed-entry j lt early;
            carries = subst (λ o. Carries o (slice_index (at lanes_b s (g + j)).handed (wire_of s lane)) Placed)
                (sym order) tt;
            well = tt;
          }
      | inr past ↦
          let i : ℕ = j - n4 in
          let e : n4 + i ≡ j = omega arith in
          let m : g + n4 + i ≡ g + j = omega arith in
          let order : (at lanes_b s (g + j)).order
          ≡ DataOrder ((4 * period s.link.params + i) % period s.link.params) (i == 0) =
          sym (ap (λ (q : ℕ). (at lanes_b s q).order) m)
          ∙ order-of-data s (wire_of s lane) read mode (wired s lane read below) g t some_one quiet_from orders i
          (omega arith) in
          let octet : get_or octets i 0 ≡ slice_index (at lanes_b s (g + j)).handed (wire_of s lane) =
          octet-to s (wire_of s lane) read mode (wired s lane read below) g t some_one quiet_from orders n i (omega arith)
          ∙ ap (λ (q : ℕ). slice_index (at lanes_b s q).handed (wire_of s lane)) m in
          record {
            entry = Held (good (get_or octets i 0));
            found = ap (λ es. slice_get es j) (entries-are inside)
                ∙ sym (ap (slice_get all_entries) e) ∙ held-entry i (omega arith);
            carries =
                subst (λ o. Carries o (slice_index (at lanes_b s (g + j)).handed (wire_of s lane))
                (Held (good (get_or octets i 0)))) (sym order) octet;
            well = (λ c. refl, good-not-bad);
          }
    ]

    -- it started in tick g + a
    start-is : (x : ℕ) → HasStarted lanes_b s h lane t x → x ≡ g + a
    start-is x started =
        let from = started.from in
        let by = started.by in
        elim (cases_lt x (g + a)) [
          | inl early ↦
              let yes = started.shows x (omega arith) by in
              let none = none-of-report s lane read mode below h t session clean A low up arms x
              from by (λ y y_low y_up. least y y_low (omega arith)) in
              let bad : None ≡ Some (at lanes_b s x).told.offset = sym none ∙ yes in absurd (cc)
          | inr not_early ↦ elim (cases_lt (g + a) x) [
            | inl late_one ↦
                let none = started.none_before (g + a) (omega arith) late_one in
                let yes = has-started s lane read mode below h t session clean A low up arms g after
                starts least (g + a) (omega arith) begun in
                let bad : None ≡ Some (at lanes_b s (g + a)).told.offset = sym none ∙ yes in
                absurd (cc)
            | inr same ↦ omega arith
          ]
        ]

    pub carrying : IsCarrying lanes_b s h lane t
    carrying = record {
      kept = kept;
      no_fault = checks;
      entries = λ x y q started inside low_y up_y is.
          let same = start-is x started in
          let d = due s lane read mode below h t session clean A low up arms in
          let window : is_inside s.link.timing (at lanes_b s (g + a)).told.offset ≡ true =
          sym (ap (λ (m : ℕ). is_inside s.link.timing (at lanes_b s m).told.offset) same)
          ∙ inside in
          let j : ℕ = y - x in
          let tick : g + j ≡ q = omega arith in
          subst (λ m. IsEntryOf lanes_b s h lane t j m) tick (entry-of j window (omega arith));
    }

  -- a lane that has not started
  carrying-none : ((x : ℕ) → A < x → x + a ≤ t → is_first_place (at lanes_b s x).order ≡ false)
      → IsCarrying lanes_b s h lane t
  carrying-none absent =
      let l = lock_of s lane read mode below h t session clean A low up arms t in
      let none = since-none s lane read mode below h t session clean A low up arms t (omega arith)
      (omega arith) absent in
      let r = locked-report s lane read mode below h t session clean A low up arms t (omega arith)
      (omega arith) (undropped-none (taken_at lanes_b s lane t) l none) in
      record {
        kept = ap (λ (x : LaneReport). x.lost) r.report ∙ ap (is_lost s.link.params) none
            ∙ nothing-lost s.link.params;
        no_fault =
            subst HasNoFault
            (sym (ap (λ (x : LaneReport). x.ilas) r.report
            ∙ ap (ilas_state s.link.params (route_of s lane)) none))
            (nothing-faulty s.link.params (route_of s lane));
        entries = λ x y q started inside low_y up_y is.
            let from = started.from in
            let by = started.by in
            let yes = started.shows t by (omega arith) in
            let no_start = none-of-report s lane read mode below h t session clean A low up arms t
            (omega arith) (omega arith) absent in
            let bad : None ≡ Some (at lanes_b s x).told.offset = sym no_start ∙ yes in absurd (cc);
      }

  pub carries-all : IsCarrying lanes_b s h lane t
  carries-all = elim (first-some s lane read mode below h t session clean A low up arms t) [
    | inl absent ↦ carrying-none absent
    | inr k ↦ carrying k.0 k.1 k.3 k.4 k.2
  ]

-- ---- the arming of armed lanes

armed-stage : (k : Stage) → not (is_hunting k) ≡ true → (k ≡ stage.Wait) ⊎ (k ≡ stage.Run)
armed-stage stage.Hunt e = let bad : false ≡ true = e in absurd (cc)
armed-stage stage.Wait e = inl refl
armed-stage stage.Run e = inr refl

-- the lanes were armed by some decision of the session
pub arming-of : (s : Plan) (h t : ℕ) → Goes lanes_b s h t → is_armed lanes_b s t ≡ true
    → (A : ℕ) × (first_tick lanes_b s h ≤ A) × (A < t) × (decision_at lanes_b s A ≡ decision.Arm)
arming-of s h t g armed =
    let above = g.above in
    let soon = first-high lanes_b s h t g in
    elim (armed-stage (before lanes_b s t) (sym (armed-at lanes_b s t) ∙ armed)) [
      | inl waits ↦ let k = armed-since lanes_b s h t g t (omega arith) (omega arith) waits in
          (k.tick, k.from, k.below, k.arms)
      | inr runs ↦
          let r = runs-since lanes_b s h t g t (omega arith) (omega arith) runs in
          let from = r.from in
          let below = r.below in
          let k = armed-since lanes_b s h t g r.tick (omega arith) (omega arith)
          (released-waits lanes_b s r.tick r.releases) in
          let earlier = k.below in
          (k.tick, k.from, omega arith, k.arms)
    ]

-- the law of an 8b/10b lane's data
pub lane-data-b : (s : Plan) → IsPlanRead s → s.link.params.mode ≡ B → (pattern : Pattern)
    → LaneData lanes_b pattern s
lane-data-b s read mode pattern h lane t below session lone (inl clean) armed =
    let k = arming-of s h t (goes-on s lane read mode below h t session clean) armed in
    carries-all s lane read mode below h t session clean k.0 k.1 k.2 k.3
lane-data-b s read mode pattern h lane t below session lone (inr burst) armed = let fec =
    burst.fec in let bad : B ≡ CFec = sym mode ∙ fec in absurd (cc)
