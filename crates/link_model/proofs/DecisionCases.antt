-- What the receiver's decisions at release points say of its lanes.
use Rattle.std.proofs.Common.{◌≡◌, ℕ, zero, suc, ◌+◌, ◌<◌, ◌==◌, ◌⊎◌, ◌&&◌, Bool, true, false, not, nat_le, List, [], ◌∷◌, ◌++◌, length, get_or, Option, Some, None, is_some, inl, inr, refl, sym, ap, ap₂, ◌∙◌, add-zero, arith}
use Rattle.std.specs.List.{list_all}
use Rattle.std.proofs.lemmas.Bool.{and_parts, or_parts, cases_Bool, cond-true}
use Rattle.link_params.specs.declared.fields.Params.{Params}
use Rattle.link_params.specs.declared.fields.Timing.{Timing}
use Rattle.link_params.specs.declared.ilas_state.IlasState.TheVariants.{Idle}
use Rattle.link_params.specs.declared.lane_report.LaneReport.{LaneReport}
use Rattle.link_params.specs.declared.alarms.Alarm.{Alarm}
use Rattle.link_params.specs.declared.alarms.Alarm.TheVariants.{LaneWindow, LaneMissing}
use Rattle.link_params.specs.Lanes.{is_inside}
use Rattle.bring_up.specs.declared.stage.Stage.TheVariants as stage
use Rattle.bring_up.specs.declared.stage.Decision.{Decision}
use Rattle.bring_up.specs.declared.stage.Decision.TheVariants as decision
use Rattle.bring_up.specs.Decisions.{Decided, alarms_from, all_started, calm_in_wait, decide, first_class, hunt_on, idle, lane_missing, lane_window, lost_or_faulty, missing, outside_or_missing, some_started, window_alarm}

abbrev pub no_report : LaneReport
no_report = record { locked = false; started = None; lost = false; ilas = Idle }

cases-alarms : (xs : List Alarm) → ((a : Alarm) × (rest : List Alarm) × (xs ≡ a ∷ rest)) ⊎ (xs ≡ [])
cases-alarms [] = inr refl
cases-alarms (a ∷ rest) = inl (a, rest, refl)

none-twice : (xs bs : List Alarm) → xs ++ bs ≡ [] → (xs ≡ []) × (bs ≡ [])
none-twice [] bs e = (refl, e)
none-twice (a ∷ xs) bs e = let bad : a ∷ (xs ++ bs) ≡ [] = e in absurd (cc)

no-class : (xs bs : List Alarm) → first_class xs bs ≡ [] → (xs ≡ []) × (bs ≡ [])
no-class [] bs e = (refl, e)
no-class (a ∷ xs) bs e = let bad : a ∷ xs ≡ [] = e in absurd (cc)

-- no lane raises an alarm
alarms-none : (rs : List LaneReport) (lane i : ℕ) (alarm : ℕ → LaneReport → List Alarm)
    → alarms_from lane alarm rs ≡ [] → i < length rs
    → alarm (lane + i) (get_or rs i no_report) ≡ []
unfolding alarms_from
alarms-none [] lane i alarm e below = absurd (omega arith)
alarms-none (r ∷ rs) lane zero alarm e below = ap (λ k. alarm k r) (add-zero lane)
    ∙ (none-twice (alarm lane r) (alarms_from (suc lane) alarm rs) e).0
alarms-none (r ∷ rs) lane (suc i) alarm e below =
    let same : lane + suc i ≡ suc lane + i = omega arith in
    ap (λ k. alarm k (get_or rs i no_report)) same
    ∙ alarms-none rs (suc lane) i alarm
    (none-twice (alarm lane r) (alarms_from (suc lane) alarm rs) e).1 (omega arith)

cases-start : (o : Option ℕ) → ((f : ℕ) × (o ≡ Some f)) ⊎ (o ≡ None)
cases-start (Some f) = inl (f, refl)
cases-start None = inr refl

not-missing : (lane : ℕ) (r : LaneReport) → lane_missing lane r ≡ [] → is_some r.started ≡ true
not-missing lane r e = elim (cases_Bool (is_some r.started)) [
  | inl some ↦ some
  | inr none ↦
      let one : lane_missing lane r ≡ LaneMissing lane ∷ [] =
      cond-true (not (is_some r.started)) (LaneMissing lane ∷ []) [] (ap not none) in
      let bad : LaneMissing lane ∷ [] ≡ [] = sym one ∙ e in absurd (cc)
]

-- none is missing
all-there : (rs : List LaneReport) (lane : ℕ) → alarms_from lane lane_missing rs ≡ []
    → all_started rs ≡ true
unfolding alarms_from
all-there [] lane e = refl
all-there (r ∷ rs) lane e =
    let parts = none-twice (lane_missing lane r) (alarms_from (suc lane) lane_missing rs) e in
    ap₂ (λ (a b : Bool). a && b) (not-missing lane r parts.0) (all-there rs (suc lane) parts.1)

all-at : (rs : List LaneReport) (i : ℕ) → all_started rs ≡ true → i < length rs
    → is_some (get_or rs i no_report).started ≡ true
all-at [] i e below = absurd (omega arith)
all-at (r ∷ rs) zero e below = (and_parts (is_some r.started) (all_started rs) e).0
all-at (r ∷ rs) (suc i) e below = all-at rs i (and_parts (is_some r.started) (all_started rs) e).1
    (omega arith)

none-at : (rs : List LaneReport) (i : ℕ) → some_started rs ≡ false → i < length rs
    → is_some (get_or rs i no_report).started ≡ false
none-at [] i e below = absurd (omega arith)
none-at (r ∷ rs) zero e below = (or_parts (is_some r.started) (some_started rs) e).0
none-at (r ∷ rs) (suc i) e below = none-at rs i (or_parts (is_some r.started) (some_started rs) e).1
    (omega arith)

is-none : (o : Option ℕ) → is_some o ≡ false → o ≡ None
is-none None e = refl
is-none (Some x) e = let bad : true ≡ false = e in absurd (cc)

in-window : (t : Timing) (lane : ℕ) (o : Option ℕ) → window_alarm t lane o ≡ [] → is_some o ≡ true
    → (f : ℕ) × (o ≡ Some f) × (is_inside t f ≡ true)
in-window t lane None e some = let bad : false ≡ true = some in absurd (cc)
in-window t lane (Some f) e some = elim (cases_Bool (is_inside t f)) [
  | inl inside ↦ (f, refl, inside)
  | inr outside ↦
      let one : window_alarm t lane (Some f) ≡ LaneWindow lane f ∷ [] =
      cond-true (not (is_inside t f)) (LaneWindow lane f ∷ []) [] (ap not outside) in
      let bad : LaneWindow lane f ∷ [] ≡ [] = sym one ∙ e in absurd (cc)
]

-- the lane has started inside its window
pub record IsStartedInside (t : Timing) (started : Option ℕ) : Type 0 where
  pub offset : ℕ
  pub is : started ≡ Some offset
  pub inside : is_inside t offset ≡ true

-- a release, where all lanes have started inside their windows
pub record Releases (t : Timing) (d : Decision) (reports : List LaneReport) : Type 0 where
  pub is : d ≡ decision.Release
  pub lanes : (i : ℕ) → i < length reports → IsStartedInside t (get_or reports i no_report).started

-- the receiver goes on to wait, where no lane has started
pub record WaitsOn (d : Decision) (reports : List LaneReport) : Type 0 where
  pub is : d ≡ decision.Stay
  pub lanes : (i : ℕ) → i < length reports → (get_or reports i no_report).started ≡ None

module _ (p : Params) (t : Timing) (before : List (List LaneReport)) (rs : List LaneReport) where
  pub hunt-cases : ((decide p t stage.Hunt before rs).decision ≡ decision.Arm)
      ⊎ ((decide p t stage.Hunt before rs).decision ≡ decision.Stay)
  unfolding decide
  hunt-cases = elim (cases_Bool (nat_le 4 (length before + 1) && list_all (λ r. r.locked) rs)) [
    | inl e ↦ inl (rw e refl)
    | inr e ↦ inr (rw e refl)
  ]

  pub run-cases : ((decide p t stage.Run before rs).decision ≡ decision.Hunt)
      ⊎ ((decide p t stage.Run before rs).decision ≡ decision.Stay)
  unfolding decide
  run-cases = elim (cases-alarms (lost_or_faulty p rs)) [
    | inl k ↦ inl (rw k.2 refl)
    | inr none ↦ inr (rw none refl)
  ]

  pub calm : outside_or_missing t rs ≡ []
      → ((calm_in_wait before rs).decision ≡ decision.Hunt)
      ⊎ (Releases t (calm_in_wait before rs).decision rs
      ⊎ WaitsOn (calm_in_wait before rs).decision rs)
  calm none =
      let parts = no-class (alarms_from 0 (lane_window t) rs) (missing rs) none in
      elim (cases_Bool (all_started rs)) [
        | inl all ↦ inr (inl (record {
          is = rw all refl;
          lanes = λ i below.
              let w = in-window t (0 + i) (get_or rs i no_report).started
              (alarms-none rs 0 i (lane_window t) parts.0 below) (all-at rs i all below) in
              record { offset = w.0; is = w.1; inside = w.2 };
        }))
        | inr some ↦ elim (cases_Bool (idle before == 8)) [
          | inl eight ↦ inl (rw (some, eight) refl)
          | inr fewer ↦ inr (inr (record {
            is = rw (some, fewer) refl;
            lanes = λ i below. elim (cases_Bool (some_started rs)) [
              | inl begun ↦
                  let m : alarms_from 0 lane_missing rs ≡ [] =
                  sym (cond-true (some_started rs) (alarms_from 0 lane_missing rs) [] begun)
                  ∙ parts.1 in
                  let all = all-there rs 0 m in
                  absurd (cc)
              | inr nobody ↦ is-none (get_or rs i no_report).started (none-at rs i nobody below)
            ];
          }))
        ]
      ]

  pub wait-cases : ((decide p t stage.Wait before rs).decision ≡ decision.Hunt)
      ⊎ (Releases t (decide p t stage.Wait before rs).decision rs
      ⊎ WaitsOn (decide p t stage.Wait before rs).decision rs)
  unfolding decide
  wait-cases = elim (cases-alarms (first_class (lost_or_faulty p rs) (outside_or_missing t rs))) [
    | inl k ↦ inl (rw k.2 refl)
    | inr none ↦
        let parts = no-class (lost_or_faulty p rs) (outside_or_missing t rs) none in
        let goes : decide p t stage.Wait before rs ≡ calm_in_wait before rs = unfold decide in
        ap (λ (xs : List Alarm). hunt_on xs (calm_in_wait before rs)) none in
        elim (calm parts.1) [
          | inl h ↦ inl (ap (λ (d : Decided). d.decision) goes ∙ h)
          | inr more ↦ inr (elim more [
            | inl r ↦
                inl (record { is = ap (λ (d : Decided). d.decision) goes ∙ r.is; lanes = r.lanes })
            | inr w ↦
                inr (record { is = ap (λ (d : Decided). d.decision) goes ∙ w.is; lanes = w.lanes })
          ])
        ]
  ]
