-- Loops over the lanes.
use Rattle.std.proofs.Common.{◌≡◌, ◌≢◌, ◌<◌, ◌≤◌, ℕ, zero, suc, ◌+◌, ◌*◌, List, [], ◌∷◌, ◌++◌, map, length, get_or, set, take, refl, sym, ap, ap₂, ◌∙◌, subst, drop, inl, inr, arith, length-set, Option, None, Some, max, fold}
use Rattle.std.specs.Prelude.{All, IsTrue, true, nat_le, nat_lt, ◌&&◌, slice_index}
use Rattle.std.proofs.lemmas.Bool.{and_parts, cases_lt, leb-true}
use Rattle.std.proofs.lemmas.List.{get_or-set_same, get_or-set_other, get_or_push, get_or_append_left, get_or_default, length_push, map_more, append-nil, drop_all, take_all}
use Rattle.std.proofs.lemmas.List.Sums.{fold_push}
use Rattle.link_params.specs.declared.fields.Params.{Params}
use Rattle.link_params.specs.declared.lane_report.LaneReport.{LaneReport}
use Rattle.link_params.specs.Links.{Link}
use Rattle.link_params.specs.Numbers.{width}
use Rattle.scenario.specs.declared.plan.Flip.{Flip}
use Rattle.scenario.specs.Limits.{flip_fits}
use Rattle.scenario.specs.declared.scenario_type.Scenario.{Scenario}
use Rattle.scenario.specs.Plans.{Plan, numbers_from, plan_of}
use Rattle.link_model.specs.Wiring.{has_inverted_polarity, route_of}
use Rattle.link_model.specs.Kinds.{kind_of}
use Rattle.link_model.specs.kept.LaneRuns.{LaneRun, no_run}
use Rattle.lane_threads.specs.kept.LaneEnds.{next_in, params_in}
use Rattle.rtrb.specs.Ring.{known_items, received, sent}
use Rattle.lane_threads.specs.declared.cell_end.CellEnd.{CellEnd}
use Rattle.lane_threads.specs.declared.lane_pair.LanePair.{LanePair}
use Rattle.lane_threads.specs.Segments.{IsOnePair}
use Rattle.lane_threads.specs.kept.LaneRuns.{HasRunLane}
use Rattle.lane_threads.specs.kept.SegmentRuns.{IsReady}
use Rattle.link_run.specs.kept.LaneRuns.{AreAt, ArePut, AreSameLanes, HaveRunLanes, IsSameLane, KeepsRing}

-- the first n lanes have changed as R says of a lane before and after, and the others are as they
-- were
pub record HaveChanged {A : Type 0} (R : ℕ → A → A → Type 0) (old new : List A) (n : ℕ) :
    Type 0 where
  pub count : length new ≡ length old
  pub changed : (k : ℕ) (d : A) → k < n → R k (get_or old k d) (get_or new k d)
  pub left : (k : ℕ) (d : A) → n ≤ k → k < length old → get_or new k d ≡ get_or old k d

pub changed-none : {A : Type 0} (R : ℕ → A → A → Type 0) (lanes : List A)
    → HaveChanged R lanes lanes 0
changed-none R lanes = record {
  count = refl;
  changed = λ k d low. absurd (omega arith);
  left =
      λ k d from below. refl;
}

pub changed-more : {A : Type 0} (R : ℕ → A → A → Type 0) (old new : List A) (n : ℕ) (x y e : A)
    → n < length new → x ≡ get_or new n e → R n x y
    → HaveChanged R old new n → HaveChanged R old (set new n y) (n + 1)
changed-more {A} R old new n x y e below is step h = record {
  count = length-set new n y ∙ h.count;
  changed = λ k d low. elim (cases_lt k n) [
    | inl before ↦ let apart : k ≢ n = λ same. omega arith in
        subst (λ (q : A). R k (get_or old k d) q) (sym (get_or-set_other new n k y d apart))
        (h.changed k d before)
    | inr here ↦
        let count = h.count in
        let same : n ≡ k = omega arith in
        let before : x ≡ get_or old n d = is ∙ get_or_default new n e d below
        ∙ h.left n d (omega arith) (omega arith) in
        let after : y ≡ get_or (set new n y) n d = sym (get_or-set_same new n y d below) in
        subst (λ m. R m (get_or old m d) (get_or (set new n y) m d)) same
        (subst (λ (q : A). R n (get_or old n d) q) after
        (subst (λ (q : A). R n q y) before step))
  ];
  left = λ k d from within. let apart : k ≢ n = λ same. omega arith in
      get_or-set_other new n k y d apart ∙ h.left k d (omega arith) within;
}

-- the lanes after a loop over references into them
pub written-back : {A : Type 0} (n : ℕ) (lanes items : List A) → length lanes ≡ n → length items ≡ n
    → take n (items ++ drop (length items) lanes) ≡ items
written-back n lanes items long same =
    ap (λ l. take n (items ++ l)) (drop_all (length items) lanes (omega arith))
    ∙ ap (take n) (append-nil items) ∙ take_all n items (omega arith)

pub have-run-below : (R : ℕ → LanePair → LanePair → Type 0) (old new : List LanePair) (n : ℕ) (s : Plan)
    (runs next : ℕ → LaneRun) → HaveChanged R old new n → length new ≤ n
    → ((k : ℕ) (x y : LanePair) → k < s.link.params.l → R k x y → HasRunLane x.lane s k (runs k)
    → HasRunLane y.lane s k (next k))
    → HaveRunLanes old s runs → HaveRunLanes new s next
have-run-below R old new n s runs next h all step run =
    let same = h.count in
    let count = run.0 in (
      h.count ∙ run.0,
      λ lane d below. step lane (get_or old lane d) (get_or new lane d) below
          (h.changed lane d (omega arith)) (run.1 lane d below),
    )

pub have-run : (R : ℕ → LanePair → LanePair → Type 0) (old new : List LanePair) (n : ℕ) (s : Plan)
    (runs next : ℕ → LaneRun) → HaveChanged R old new n → length new ≤ n
    → ((k : ℕ) (x y : LanePair) → R k x y → HasRunLane x.lane s k (runs k) → HasRunLane y.lane s k (next k))
    → HaveRunLanes old s runs → HaveRunLanes new s next
have-run R old new n s runs next h all step run =
    have-run-below R old new n s runs next h all (λ k x y below. step k x y) run

pub are-at : (R : ℕ → LanePair → LanePair → Type 0) (old new : List LanePair) (n : ℕ) (p : Params)
    (place next : Option ℕ) → HaveChanged R old new n → length new ≤ n
    → ((k : ℕ) (x y : LanePair) → R k x y → (params_in x.lane.tx ≡ p) × (next_in x.lane.tx ≡ place)
    → (params_in y.lane.tx ≡ p) × (next_in y.lane.tx ≡ next)) → AreAt old p place → AreAt new p next
are-at R old new n p place next h all step at =
    let same = h.count in
    λ lane d below. step lane (get_or old lane d) (get_or new lane d)
    (h.changed lane d (omega arith)) (at lane d (omega arith))

-- ---- what is written for each lane

pub record AreWritten {A : Type 0} (W : ℕ → LanePair → A → Type 0) (lanes : List LanePair) (out : List A)
    (n : ℕ) : Type 0 where
  pub written : (k : ℕ) (d : LanePair) (e : A) → k < n → W k (get_or lanes k d) (get_or out k e)

pub written-none : {A : Type 0} (W : ℕ → LanePair → A → Type 0) (lanes : List LanePair) (out : List A)
    → AreWritten W lanes out 0
written-none W lanes out = record { written = λ k d e low. absurd (omega arith) }

pub written-more : {A : Type 0} (W : ℕ → LanePair → A → Type 0) (lanes : List LanePair) (out : List A)
    (n : ℕ) (x e : LanePair) (y : A) → n < length lanes → n < length out
    → x ≡ get_or lanes n e → W n x y → AreWritten W lanes out n
    → AreWritten W lanes (set out n y) (n + 1)
written-more {A} W lanes out n x f y inside below is one h = record {
  written = λ k d e low. elim (cases_lt k n) [
    | inl before ↦ let apart : k ≢ n = λ same. omega arith in
        subst (λ (q : A). W k (get_or lanes k d) q) (sym (get_or-set_other out n k y e apart))
        (h.written k d e before)
    | inr here ↦
        let same : n ≡ k = omega arith in
        subst (λ m. W m (get_or lanes m d) (get_or (set out n y) m e)) same
        (subst (λ (q : A). W n (get_or lanes n d) q) (sym (get_or-set_same out n y e below))
        (subst (λ q. W n q y) (is ∙ get_or_default lanes n f d inside) one))
  ];
}

mapped : {A : Type 0} (n a : ℕ) (xs : List A) (f : ℕ → A) → length xs ≡ n
    → ((k : ℕ) (e : A) → k < n → get_or xs k e ≡ f (a + k)) → xs ≡ map f (numbers_from a n)
unfolding numbers_from
mapped zero a [] f len is = refl
mapped zero a (x ∷ xs) f len is = absurd (omega arith)
mapped (suc n) a [] f len is = absurd (omega arith)
mapped {A} (suc n) a (x ∷ xs) f len is =
    let z : a + 0 ≡ a = omega arith in
    ap₂ {C = List A} (λ y l. y ∷ l) (is 0 x (omega arith) ∙ ap f z)
    (mapped n (suc a) xs f (omega arith) (λ k e low. let up : a + suc k ≡ suc a + k = omega arith in
    is (suc k) e (omega arith) ∙ ap f up))

pub head-of : (lanes : List LanePair) → 0 < length lanes → LanePair
head-of [] some = absurd (omega arith)
head-of (x ∷ xs) some = x

pub all-written : {A : Type 0} (W : ℕ → LanePair → A → Type 0) (lanes : List LanePair) (out : List A)
    (n : ℕ) (s : Plan) (runs : ℕ → LaneRun) (f : ℕ → A)
    → AreWritten W lanes out n → length lanes ≤ n → length out ≡ length lanes → HaveRunLanes lanes s runs
    → ((k : ℕ) (x : LanePair) (y : A) → W k x y → HasRunLane x.lane s k (runs k) → y ≡ f k)
    → out ≡ map f (numbers_from 0 s.link.params.l)
all-written W lanes out n s runs f h all len run is =
    let count = run.0 in
    mapped s.link.params.l 0 out f (len ∙ run.0) (λ k e low.
    let z : k ≡ 0 + k = omega arith in
    let d = head-of lanes (omega arith) in
    is k (get_or lanes k d) (get_or out k e) (h.written k d e (omega arith)) (run.1 k d low)
    ∙ ap f z)

-- ---- the most entries that the lanes held

abbrev pub fullest_in : LanePair → ℕ
fullest_in a = a.fullest

pub fullest-more : (lanes : List LanePair) (n : ℕ) (d : LanePair) → n < length lanes
    → fold max 0 (map fullest_in (take (n + 1) lanes))
    ≡ max (fold max 0 (map fullest_in (take n lanes))) (get_or lanes n d).fullest
fullest-more lanes n d below =
    ap (fold max 0) (map_more fullest_in lanes n d below)
    ∙ fold_push max 0 (map fullest_in (take n lanes))
    (get_or lanes n d).fullest

-- ---- what is done to a lane

pub record IsCleared (lane : ℕ) (x y : LanePair) : Type 0 where
  pub goes_on : (s : Plan) (k : ℕ) (r : LaneRun) → HasRunLane x.lane s k r
      → HasRunLane y.lane s k (record r { handed = [] })
  pub next : next_in y.lane.tx ≡ None
  pub same : params_in y.lane.tx ≡ params_in x.lane.tx
  pub ring : KeepsRing x y

-- a lane gave an entry
abbrev pub HasGiven : ℕ → LanePair → LanePair → Type 0
HasGiven = λ lane x y. IsReady true x y

pub record IsPut (wire : List ℕ) (i : ℕ) (handed : List ℕ) (lane : ℕ) (x y : LanePair) : Type 0 where
  pub octets : y.octets.items ≡ set x.octets.items i (slice_index handed (slice_index wire lane))
  pub same : IsSameLane x y

pub are-put : (old new : List LanePair) (wire : List ℕ) (n i : ℕ) (handed : List ℕ)
    → HaveChanged (IsPut wire i handed) old new n → length new ≤ n → ArePut old new wire i handed
are-put old new wire n i handed h all =
    let same = h.count in
    record { put = λ lane d below. (h.changed lane d (omega arith)).octets }

pub are-same-put : (old new : List LanePair) (wire : List ℕ) (n i : ℕ) (handed : List ℕ)
    → HaveChanged (IsPut wire i handed) old new n → length new ≤ n → AreSameLanes old new
are-same-put old new wire n i handed h all =
    let same = h.count in
    record {
      count = h.count;
      each = λ lane d below. (h.changed lane d (omega arith)).same;
    }

pub record IsReport (lane : ℕ) (x : LanePair) (report : LaneReport) : Type 0 where
  pub is : (s : Plan) (k : ℕ) (r : LaneRun) → HasRunLane x.lane s k r
      → report ≡ (kind_of s.link.params).report s.link.params s.link.timing (route_of s k) r.taken

-- ---- lanes and ends that met

-- a lane once it met the end of its ring
pub record HasMet (lane : ℕ) (x y : LanePair) : Type 0 where
  pub lane_is : y.lane ≡ x.lane
  pub fullest : y.fullest ≡ x.fullest
  pub room : y.room ≡ x.room
  pub sent_is : sent y.ring ≡ sent x.ring

-- an end once it met its lane
pub record HasMetEnd (lane : ℕ) (x y : CellEnd) : Type 0 where
  pub received_is : received y.ring ≡ received x.ring

-- the end of a lane knows of what was sent and not received
pub record IsMet (a : LanePair) (end : CellEnd) : Type 0 where
  pub pair : IsOnePair a end
  pub fifo : received end.ring ++ known_items end.ring ≡ sent a.ring

-- the first n lanes met their ends
pub record HaveMet (old new : List LanePair) (before after : List CellEnd) (n : ℕ) : Type 0 where
  pub lanes : HaveChanged HasMet old new n
  pub ends : HaveChanged HasMetEnd before after n
  pub met : (k : ℕ) (d : LanePair) (e : CellEnd) → k < n
      → IsMet (get_or new k d) (get_or after k e)

pub met-none : (lanes : List LanePair) (ends : List CellEnd) → HaveMet lanes lanes ends ends 0
met-none lanes ends = record {
  lanes = changed-none HasMet lanes;
  ends = changed-none HasMetEnd ends;
  met = λ k d e low. absurd (omega arith);
}

pub met-more : (old new : List LanePair) (before after : List CellEnd) (n : ℕ) (x y : LanePair)
    (v w : CellEnd) → n < length new → n < length after → x ≡ get_or new n x
    → v ≡ get_or after n v → HasMet n x y → HasMetEnd n v w → IsMet y w
    → HaveMet old new before after n
    → HaveMet old (set new n y) before (set after n w) (n + 1)
met-more old new before after n x y v w below inside is at one two met h = record {
  lanes = changed-more HasMet old new n x y x below is one h.lanes;
  ends = changed-more HasMetEnd before after n v w v inside at two h.ends;
  met = λ k d e low. elim (cases_lt k n) [
    | inl earlier ↦ let apart : k ≢ n = λ same. omega arith in
        rw (get_or-set_other new n k y d apart, get_or-set_other after n k w e apart)
        (h.met k d e earlier)
    | inr here ↦ let same : k ≡ n = omega arith in
        rw (same, get_or-set_same new n y d below, get_or-set_same after n w e inside) met
  ];
}

-- ---- lanes that are opened

pub record AreOpened {A : Type 0} (P : ℕ → A → Type 0) (xs : List A) (n : ℕ) : Type 0 where
  pub count : length xs ≡ n
  pub each : (k : ℕ) (d : A) → k < n → P k (get_or xs k d)

pub opened-none : {A : Type 0} (P : ℕ → A → Type 0) (xs : List A) → xs ≡ [] → AreOpened P xs 0
opened-none P xs none = record { count = ap length none; each = λ k d low. absurd (omega arith) }

pub opened-more : {A : Type 0} (P : ℕ → A → Type 0) (xs : List A) (n : ℕ) (x : A) → P n x
    → AreOpened P xs n → AreOpened P (xs ++ x ∷ []) (n + 1)
opened-more {A} P xs n x one h =
    let count = h.count in
    record {
      count = length_push xs x ∙ ap (λ m. m + 1) count;
      each = λ k d low. elim (cases_lt k n) [
        | inl before ↦ subst (P k) (sym (get_or_append_left xs (x ∷ []) d k (omega arith)))
            (h.each k d before)
        | inr here ↦ let same : n ≡ k = omega arith in
            subst (λ m. P m (get_or (xs ++ x ∷ []) m d)) same
            (subst (P n) (sym (get_or_push xs x d n count)) one)
      ];
    }

-- the first n ends have these lanes
pub record ArePaired (lanes : List LanePair) (ends : List CellEnd) (n : ℕ) : Type 0 where
  pub lane_count : length lanes ≡ n
  pub end_count : length ends ≡ n
  pub each : (k : ℕ) (d : LanePair) (e : CellEnd) → k < n
      → IsOnePair (get_or lanes k d) (get_or ends k e)

pub paired-none : (lanes : List LanePair) (ends : List CellEnd) → lanes ≡ [] → ends ≡ []
    → ArePaired lanes ends 0
paired-none lanes ends none nothing = record {
  lane_count = ap length none;
  end_count = ap length nothing;
  each = λ k d e low. absurd (omega arith);
}

pub paired-more : (lanes : List LanePair) (ends : List CellEnd) (n : ℕ) (x : LanePair)
    (y : CellEnd) → IsOnePair x y → ArePaired lanes ends n
    → ArePaired (lanes ++ x ∷ []) (ends ++ y ∷ []) (n + 1)
paired-more lanes ends n x y one h =
    let long = h.lane_count in
    let same = h.end_count in
    record {
      lane_count = length_push lanes x ∙ ap (λ m. m + 1) long;
      end_count = length_push ends y ∙ ap (λ m. m + 1) same;
      each = λ k d e low. elim (cases_lt k n) [
        | inl before ↦
            rw (
              get_or_append_left lanes (x ∷ []) d k (omega arith),
              get_or_append_left ends (y ∷ []) e k (omega arith),
            ) (h.each k d e before)
        | inr here ↦
            let top : k ≡ n = omega arith in
            rw (top, get_or_push lanes x d n long, get_or_push ends y e n same) one
      ];
    }

-- flips lie within the ticks' bits
pub fits-within : (p : Params) (ticks : ℕ) (flips : List Flip)
    → All (λ f. IsTrue (flip_fits p ticks f)) flips
    → All (λ f. f.first + f.count ≤ width p * ticks) flips
fits-within p ticks flips fit k d below =
    let f = get_or flips k d in
    let a =
    and_parts (nat_lt f.lane p.l)
    (nat_le 1 f.count && nat_le (f.first + f.count) (width p * ticks)) (fit k d below) in
    let b = and_parts (nat_le 1 f.count) (nat_le (f.first + f.count) (width p * ticks)) a.1 in
    leb-true (f.first + f.count) (width p * ticks) b.1
