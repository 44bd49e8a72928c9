-- What lasts in a hunt: a start, a loss, and how the alignment sequence ended.
use Rattle.std.proofs.Common.{◌≡◌, ◌≢◌, ℕ, suc, ◌+◌, ◌==◌, ◌≤◌, ◌⊎◌, not, ◌&&◌, ◌||◌, nat_le, if◌then◌else◌, Bool, true, false, List, [], ◌∷◌, ◌++◌, length, reverse, take, Option, Some, None, refl, sym, ◌∙◌, ap, ap₂, arith, inl, inr, length-append, append_assoc, ne_eqb}
use Rattle.std.proofs.lemmas.Bool.{cases_Bool, cases_lt, cond-false}
use Rattle.std.proofs.lemmas.List.{append-nil, take_all}
use Rattle.link_params.specs.declared.fields.Params.{Params}
use Rattle.link_params.specs.declared.fields.Timing.{Timing}
use Rattle.link_params.specs.declared.orders.RxOrder.{RxOrder}
use Rattle.link_params.specs.declared.ilas_state.IlasCause.{IlasCause}
use Rattle.link_params.specs.declared.ilas_state.IlasState.{IlasState}
use Rattle.link_params.specs.declared.ilas_state.IlasState.TheVariants.{Done, Fault, Going, Idle}
use Rattle.link_params.specs.declared.lane_report.LaneReport.{LaneReport}
use Rattle.link_params.specs.Lanes.{Taken}
use Rattle.code_8b10b.specs.declared.character.Reading.{Reading}
use Rattle.ilas.specs.Checked.{cause_at, fault_or, first_fault, ilas_state}
use Rattle.ilas.proofs.Faults.{first_fault-more}
use Rattle.lane_b.specs.laws.LaneLaws.{DoneLasts, FaultLasts, LossLasts, StartLasts}
use Rattle.lane_b.specs.Locking.{Lock, bits_taken, is_empty, lock, lock_at, order_at, since_start, start_of, tick_of_start}
use Rattle.lane_b.specs.Loss.{alignment_at, alignments_from, faults_from, has_four_faults, has_four_misplaced, ilas_length, is_fault, is_lost, some_rest, with_option}
use Rattle.lane_b.specs.kept.Counts.{misplaced_after}
use Rattle.lane_b.specs.Received.{report_b, report_of}
use Rattle.lane_b.specs.kept.Receivers.{AreTens}
use Rattle.lane_b.proofs.ChainLemmas.{is_empty-nil}
use Rattle.lane_b.proofs.Histories.{four_faults-next, late}
use Rattle.lane_b.proofs.LaneEntries.{Holds, Nowhere, lock-held, search-stands, start-begun, start-unbegun}
use Rattle.lane_b.proofs.Misplaced.{four_misplaced-more}
use Rattle.lane_b.proofs.SearchLemmas.{begun-more, bits_taken-append, later_readings, least-more, lock-none, order_of_start-more, searches-more, since_start-append}
use Rattle.lane_b.proofs.Starting.{alignments-push, faults-push, state-not_done, state-stays}

-- ---- a started lane in longer lists

are_tens-append : (taken later : List Taken) → AreTens taken → AreTens later
    → AreTens (taken ++ later)
are_tens-append [] later h more = more
are_tens-append (t ∷ ts) later h more = (h.0, are_tens-append ts later h.1 more)

-- the lock stays, and the readings since the start go on
pub record GoesOn (taken later : List Taken) : Type 0 where
  pub before : Lock
  pub after : Lock
  pub was : lock taken ≡ Some before
  pub is : lock (taken ++ later) ≡ Some after
  pub more : List Reading
  pub since : since_start after ≡ since_start before ++ more
  pub start : start_of (taken ++ later) after ≡ start_of taken before

-- no reading since a start
pub record IsIdle (taken : List Taken) : Type 0 where
  pub report : (p : Params) (t : Timing) (lane : ℕ) → LaneReport
  pub is : (p : Params) (t : Timing) (lane : ℕ) → report_b p t lane taken ≡ report p t lane
  pub started : (p : Params) (t : Timing) (lane : ℕ) → (report p t lane).started ≡ None
  pub lost : (p : Params) (t : Timing) (lane : ℕ) → (report p t lane).lost ≡ false
  pub ilas : (p : Params) (t : Timing) (lane : ℕ) → (report p t lane).ilas ≡ Idle

idle-nowhere : (taken : List Taken) (x : ℕ) → AreTens taken → Nowhere taken x → IsIdle taken
unfolding report_b
idle-nowhere taken x tens n =
    let none = lock-none taken x tens n.searches n.none in
    record {
      report = λ p t lane. report_of p lane taken None;
      is = λ p t lane. ap (report_of p lane taken) none;
      started = λ p t lane. refl;
      lost = λ p t lane. refl;
      ilas = λ p t lane. refl;
    }

lost-nothing : (p : Params) → is_lost p [] ≡ false
unfolding is_lost faults_from alignments_from some_rest
lost-nothing p = refl

idle-held : (taken : List Taken) (x y : ℕ) → AreTens taken → Holds taken x y
    → is_empty (since_start (lock_at (bits_taken taken) y)) ≡ true → IsIdle taken
unfolding report_b ilas_state
idle-held taken x y tens o empty =
    let l : Lock = lock_at (bits_taken taken) y in
    let none : since_start l ≡ [] = is_empty-nil (since_start l) empty in
    record {
      report = λ p t lane. report_of p lane taken (Some l);
      is = λ p t lane. ap (report_of p lane taken) (lock-held taken x y tens o);
      started = λ p t lane. start-unbegun taken l empty;
      lost = λ p t lane. ap (is_lost p) none ∙ lost-nothing p;
      ilas = λ p t lane. ap (ilas_state p lane) none;
    }

armed-of : (a b : Bool) → a ≡ false → not a && not b ≡ false → b ≡ true
armed-of false true e h = refl
armed-of false false e h = cc
armed-of true b e h = cc

module _ (taken later : List Taken) (tens : AreTens taken) (ten : AreTens later) where
  goes_on-held : (x y : ℕ) → Holds taken x y → is_empty (since_start (lock_at (bits_taken taken) y))
      ≡ false → GoesOn taken later
  goes_on-held x y o begun =
      let old : Lock = lock_at (bits_taken taken) y in
      let now : Lock = lock_at (bits_taken (taken ++ later)) y in
      let order = order_of_start-more taken y later tens o.inside begun in
      let on = begun-more taken y later o.inside begun in
      let bits = bits_taken-append taken later in
      let long = ap length bits ∙ length-append (bits_taken taken) (bits_taken later) in
      let fits = o.inside in
      let was = armed-of (is_empty (since_start old)) (order_at taken (tick_of_start old)).armed
      begun o.held in
      let held : Holds (taken ++ later) x y = record {
        searches = searches-more taken x later o.searches;
        least = least-more taken x y later o.searches.inside o.least;
        inside = omega arith;
        held = ap₂ (λ (a b : Bool). not a && not b) on (ap (λ (q : RxOrder). q.armed) order ∙ was);
      } in
      record {
        before = old;
        after = now;
        was = lock-held taken x y tens o;
        is = lock-held (taken ++ later) x y (are_tens-append taken later tens ten) held;
        more = later_readings (bits_taken taken) y (bits_taken later);
        since = ap (λ bs. since_start (lock_at bs y)) bits ∙ since_start-append (bits_taken taken) y
            (bits_taken later) o.inside begun;
        start = start-begun (taken ++ later) now on ∙ ap (λ (q : RxOrder). Some q.offset) order
            ∙ sym (start-begun taken old begun);
      }

  stands : IsIdle taken ⊎ GoesOn taken later
  stands = elim (search-stands taken tens) [
    | inl n ↦ inl (idle-nowhere taken n.0 tens n.1)
    | inr k ↦ elim (cases_Bool (is_empty (since_start (lock_at (bits_taken taken) k.1)))) [
      | inl empty ↦ inl (idle-held taken k.0 k.1 tens k.2 empty)
      | inr begun ↦ inr (goes_on-held k.0 k.1 k.2 begun)
    ]
  ]

report-lock : (p : Params) (t : Timing) (lane : ℕ) (taken : List Taken) (l : Lock)
    → lock taken ≡ Some l → report_b p t lane taken ≡ report_of p lane taken (Some l)
unfolding report_b
report-lock p t lane taken l e = ap (report_of p lane taken) e

-- ---- a start

pub start-lasts : StartLasts
start-lasts p t lane taken later f tens ten some = elim (stands taken later tens ten) [
  | inl idle ↦
      let none = ap (λ (r : LaneReport). r.started) (idle.is p t lane) ∙ idle.started p t lane in
      absurd (cc)
  | inr g ↦
      let old = report-lock p t lane taken g.before g.was in
      let now = report-lock p t lane (taken ++ later) g.after g.is in (
        ap (λ (r : LaneReport). r.started) now ∙ g.start
            ∙ sym (ap (λ (r : LaneReport). r.started) old) ∙ some,
        ap (λ (r : LaneReport). r.locked) now,
      )
]

-- ---- a loss

or-more : (a b c d : Bool) → (a || b) ≡ true → ((a || c) || (b || d)) ≡ true
or-more true b c d e = refl
or-more false true true d e = refl
or-more false true false d e = refl
or-more false false c d e = cc

lost-more : (p : Params) (since : List Reading) (r : Reading) → is_lost p since ≡ true
    → is_lost p (since ++ r ∷ []) ≡ true
unfolding is_lost
lost-more p since r e =
    let n : ℕ = 0 + length since in
    let faults : List Bool = faults_from p 0 since in
    let aligned : List Bool = alignments_from p 0 since in
    let a : Option Bool = alignment_at p n r in
    let one = ap has_four_faults (faults-push since p 0 r)
    ∙ four_faults-next faults (is_fault p n r) in
    let two = ap has_four_misplaced (alignments-push since p 0 r) ∙ four_misplaced-more aligned a in
    ap₂ (λ (x y : Bool). x || y) one two
    ∙ or-more (has_four_faults faults) (has_four_misplaced aligned)
    (late (is_fault p n r) (reverse faults))
    (nat_le 4 (misplaced_after 0 (aligned ++ with_option a []))) e

lost-append : (more since : List Reading) (p : Params) → is_lost p since ≡ true
    → is_lost p (since ++ more) ≡ true
lost-append [] since p e = ap (is_lost p) (append-nil since) ∙ e
lost-append (r ∷ more) since p e =
    sym (ap (is_lost p) (append_assoc since (r ∷ []) more)) ∙ lost-append more (since ++ r ∷ []) p
    (lost-more p since r e)

pub loss-lasts : LossLasts
loss-lasts p t lane taken later tens ten lost = elim (stands taken later tens ten) [
  | inl idle ↦
      let not_lost = ap (λ (r : LaneReport). r.lost) (idle.is p t lane) ∙ idle.lost p t lane in
      absurd (cc)
  | inr g ↦
      let old = ap (λ (r : LaneReport). r.lost) (report-lock p t lane taken g.before g.was) in
      let now =
      ap (λ (r : LaneReport). r.lost) (report-lock p t lane (taken ++ later) g.after g.is) in
      now ∙ ap (is_lost p) g.since ∙ lost-append g.more (since_start g.before) p (sym old ∙ lost)
]

-- ---- the alignment sequence

fault_or-keeps : (x y : ℕ) (cause : Option IlasCause) (why : IlasCause) (a b : IlasState)
    → (a ≡ Fault y why → b ≡ Fault y why)
    → fault_or x cause a ≡ Fault y why → fault_or x cause b ≡ Fault y why
fault_or-keeps x y (Some cause) why a b h e = e
fault_or-keeps x y None why a b h e = h e

-- the first fault doesn't depend on what stands where there is none
first_fault-keeps : (xs : List Reading) (p : Params) (lane : ℕ) (rs : List Reading) (x y : ℕ)
    (why : IlasCause) (a b : IlasState) → a ≢ Fault y why
    → first_fault p lane rs x xs a ≡ Fault y why → first_fault p lane rs x xs b ≡ Fault y why
unfolding first_fault
first_fault-keeps [] p lane rs x y why a b apart e = absurd (apart e)
first_fault-keeps (r ∷ xs) p lane rs x y why a b apart e =
    fault_or-keeps x y (cause_at p lane rs x r) why (first_fault p lane rs (suc x) xs a)
    (first_fault p lane rs (suc x) xs b)
    (first_fault-keeps xs p lane rs (suc x) y why a b apart) e

state-cons : (p : Params) (lane : ℕ) (rs : List Reading) → 1 ≤ length rs
    → ilas_state p lane rs
    ≡ (let ts = take (ilas_length p) rs in
    first_fault p lane ts 0 ts (if length ts == ilas_length p then Done else Going))
unfolding ilas_state
state-cons p lane [] some = absurd (omega arith)
state-cons p lane (r ∷ rs) some = refl

-- the state after so few readings
abbrev ends_in : Params → List Reading → IlasState
ends_in p rs = if length rs == ilas_length p then Done else Going

state-short : (p : Params) (lane : ℕ) (rs : List Reading) → 1 ≤ length rs
    → length rs ≤ ilas_length p
    → ilas_state p lane rs ≡ first_fault p lane rs 0 rs (ends_in p rs)
state-short p lane rs some few =
    let all = take_all (ilas_length p) rs few in
    state-cons p lane rs some
    ∙ ap (λ (ts : List Reading). first_fault p lane ts 0 ts (ends_in p ts)) all

some-reading : (p : Params) (lane : ℕ) (rs : List Reading) (s : IlasState) → s ≢ Idle
    → ilas_state p lane rs ≡ s → 1 ≤ length rs
unfolding ilas_state
some-reading p lane [] s apart e = absurd (apart (sym e))
some-reading p lane (r ∷ rs) s apart e = omega arith

fault-more : (p : Params) (lane : ℕ) (rs : List Reading) (r : Reading) (y : ℕ) (why : IlasCause)
    → ilas_state p lane rs ≡ Fault y why
    → ilas_state p lane (rs ++ r ∷ []) ≡ Fault y why
fault-more p lane rs r y why e =
    let some = some-reading p lane rs (Fault y why) (λ i. cc) e in
    elim (cases_lt (length rs) (ilas_length p)) [
      | inr past ↦ state-stays rs p lane r some past ∙ e
      | inl short ↦
          let all : List Reading = rs ++ r ∷ [] in
          let long : length all ≡ length rs + 1 = length-append rs (r ∷ []) in
          let apart : (length rs == ilas_length p) ≡ false =
          ne_eqb (length rs) (ilas_length p) (λ i. omega arith) in
          let goes : ends_in p rs ≡ Going =
          cond-false (length rs == ilas_length p) Done Going apart in
          let before : first_fault p lane rs 0 rs Going ≡ Fault y why =
          ap (first_fault p lane rs 0 rs) (sym goes)
          ∙ sym (state-short p lane rs some (omega arith)) ∙ e in
          state-short p lane all (omega arith) (omega arith)
          ∙ first_fault-more p lane rs r (ends_in p all)
          ∙ first_fault-keeps rs p lane rs 0 y why Going
          (fault_or (length rs) (cause_at p lane all (length rs) r) (ends_in p all))
          (λ i. cc) before
    ]

done-more : (p : Params) (lane : ℕ) (rs : List Reading) (r : Reading) → ilas_state p lane rs ≡ Done
    → ilas_state p lane (rs ++ r ∷ []) ≡ Done
done-more p lane rs r e =
    let some = some-reading p lane rs Done (λ i. cc) e in
    elim (cases_lt (length rs) (ilas_length p)) [
      | inr past ↦ state-stays rs p lane r some past ∙ e
      | inl short ↦ absurd (state-not_done rs p lane short e)
    ]

-- what one reading more leaves, more of them leave
state-append : (s : IlasState) (p : Params) (lane : ℕ)
    → ((rs : List Reading) (r : Reading) → ilas_state p lane rs ≡ s
    → ilas_state p lane (rs ++ r ∷ []) ≡ s)
    → (more since : List Reading) → ilas_state p lane since ≡ s
    → ilas_state p lane (since ++ more) ≡ s
state-append s p lane one [] since e = ap (ilas_state p lane) (append-nil since) ∙ e
state-append s p lane one (r ∷ more) since e =
    sym (ap (ilas_state p lane) (append_assoc since (r ∷ []) more))
    ∙ state-append s p lane one more (since ++ r ∷ []) (one since r e)

state-lasts : (s : IlasState) (p : Params) (t : Timing) (lane : ℕ) (taken later : List Taken)
    → AreTens taken → AreTens later → s ≢ Idle
    → ((rs : List Reading) (r : Reading) → ilas_state p lane rs ≡ s
    → ilas_state p lane (rs ++ r ∷ []) ≡ s)
    → (report_b p t lane taken).ilas ≡ s → (report_b p t lane (taken ++ later)).ilas ≡ s
state-lasts s p t lane taken later tens ten apart one e = elim (stands taken later tens ten) [
  | inl idle ↦
      absurd
      (apart (sym e ∙ ap (λ (r : LaneReport). r.ilas) (idle.is p t lane) ∙ idle.ilas p t lane))
  | inr g ↦
      let old = ap (λ (r : LaneReport). r.ilas) (report-lock p t lane taken g.before g.was) in
      let now =
      ap (λ (r : LaneReport). r.ilas) (report-lock p t lane (taken ++ later) g.after g.is) in
      now ∙ ap (ilas_state p lane) g.since ∙ state-append s p lane one g.more (since_start g.before)
      (sym old ∙ e)
]

pub fault-lasts : FaultLasts
fault-lasts p t lane taken later x cause tens ten e =
    state-lasts (Fault x cause) p t lane taken later tens ten (λ i. cc)
    (λ rs r. fault-more p lane rs r x cause) e

pub done-lasts : DoneLasts
done-lasts p t lane taken later tens ten e = state-lasts Done p t lane taken later tens ten
    (λ i. cc) (done-more p lane) e
