-- What an 8b/10b lane took in a session, tick by tick, and what it reports.
use Rattle.std.proofs.Common.{◌≡◌, ℕ, zero, suc, ◌+◌, ◌-◌, ◌<◌, ◌≤◌, nat_le, ◌&&◌, true, List, [], ◌∷◌, ◌++◌, length, drop, get_or, inl, inr, refl, sym, ap, ◌∙◌, length-drop, arith}
use Rattle.std.specs.List.{list_all}
use Rattle.std.proofs.lemmas.Bool.{cases_Bool, cases_lt, and_parts}
use Rattle.std.proofs.lemmas.List.{drop-append-le, drop_all, get_or-drop, get_or-map, length-map, map-append}
use Rattle.link_params.specs.declared.fields.Mode.TheVariants.{B}
use Rattle.link_params.specs.declared.fields.Params.{Params}
use Rattle.link_params.specs.declared.fields.Timing.{Timing}
use Rattle.link_params.specs.declared.lane_report.LaneReport.{LaneReport}
use Rattle.link_params.specs.declared.orders.RxOrder.{RxOrder}
use Rattle.link_params.specs.Lanes.{Taken}
use Rattle.bring_up.specs.declared.stage.Stage.TheVariants as stage
use Rattle.bring_up.specs.declared.stage.Decision.TheVariants as decision
use Rattle.bring_up.specs.Decisions.{decide}
use Rattle.lane_b.specs.Locking.{no_order, order_at}
use Rattle.lane_b.specs.kept.Receivers.{AreTens}
use Rattle.lane_b.specs.Received.{lanes_b, report_b}
use Rattle.lane_b.proofs.SearchLemmas.{are_tens-more}
use Rattle.scenario.specs.Plans.{Plan, numbers_from}
use Rattle.link_model.specs.Moments.{History, Moment}
use Rattle.link_model.specs.Run.{run}
use Rattle.link_model.specs.Hunts.{session}
use Rattle.link_model.specs.Receives.{taken_in}
use Rattle.link_model.proofs.LaneHistory.{taken-in-more}
use Rattle.link_model.proofs.NextMoment.{reports-next, took}
use Rattle.link_model.proofs.NumberLists.{get_or-numbers, length-numbers}
use Rattle.link_model.specs.Sessions.{InSession, at, no_report, report_at, taken_at}
use Rattle.link_model.specs.Wiring.{route_of}
use Rattle.link_laws.specs.Premises.{Clean}
use Rattle.link_laws.specs.Laws.{IsPlanRead}
use Rattle.link_laws.proofs.RunTicks.{told-at, stands}
use Rattle.link_model.proofs.RunTicks.{length-run, run-longer, run-suc}
use Rattle.link_laws.proofs.SessionTicks.{session-with}
use Rattle.link_laws.proofs.OrdersGo.{run-at}
use Rattle.link_laws.proofs.Stages.{decides-as, decision_at}
use Rattle.link_laws.proofs.Arming.{arms-hunting}
use Rattle.link_laws.proofs.ReleaseTick.{length-reports}
use Rattle.link_laws.proofs.CleanLine.{first, goes-on, length-word_taken}

all-of : (rs : List LaneReport) → list_all (λ (r : LaneReport). r.locked) rs ≡ true → (i : ℕ)
    → i < length rs → (get_or rs i no_report).locked ≡ true
all-of [] all i lt = absurd (omega arith)
all-of (r ∷ rs) all zero lt =
    (and_parts r.locked (list_all (λ (r : LaneReport). r.locked) rs) all).0
all-of (r ∷ rs) all (suc i) lt =
    all-of rs (and_parts r.locked (list_all (λ (r : LaneReport). r.locked) rs) all).1 i
    (omega arith)

arm-locked : (p : Params) (t : Timing) (since : List (List LaneReport)) (rs : List LaneReport)
    → (decide p t stage.Hunt since rs).decision ≡ decision.Arm
    → list_all (λ (r : LaneReport). r.locked) rs ≡ true
unfolding decide
arm-locked p t since rs arms =
    elim (cases_Bool (nat_le 4 (length since + 1) && list_all (λ (r : LaneReport). r.locked) rs)) [
      | inl e ↦
          (and_parts (nat_le 4 (length since + 1)) (list_all (λ (r : LaneReport). r.locked) rs) e).1
      | inr e ↦ let bad : decision.Stay ≡ decision.Arm = sym (rw e refl) ∙ arms in absurd (cc)
    ]

-- at the arming each lane is locked
pub armed-locked : (s : Plan) (A lane : ℕ) → decision_at lanes_b s A ≡ decision.Arm
    → lane < s.link.params.l → (report_at lanes_b s lane A).locked ≡ true
armed-locked s A lane arms below =
    let a = arms-hunting lanes_b s A arms in
    let long = length-reports lanes_b s A in
    all-of (at lanes_b s A).reports
    (arm-locked s.link.params s.link.timing (stands lanes_b s A).since (at lanes_b s A).reports
    (sym (decides-as lanes_b s A stage.Hunt a.1 a.0) ∙ arms)) lane (omega arith)

-- what a lane reports
pub report-is : (s : Plan) (lane u : ℕ) → lane < s.link.params.l
    → report_at lanes_b s lane u ≡ report_b s.link.params s.link.timing (route_of s lane)
    (taken_at lanes_b s lane u)
report-is s lane u below =
    let r : History = run lanes_b s u in
    let n = length-numbers s.link.params.l 0 in
    let same : 0 + lane ≡ lane = omega arith in
    let f : ℕ → LaneReport = λ l. report_b s.link.params s.link.timing (route_of s l) (took lanes_b s r l) in
    let taken : took lanes_b s r lane ≡ taken_at lanes_b s lane u =
    ap (λ (o : RxOrder). taken_in (session s r) lane
    ++ (record { order = o; word = get_or (at lanes_b s u).taken lane [] }) ∷ [])
    (sym (told-at lanes_b s u))
    ∙ sym (taken-in-more (session s r) (at lanes_b s u) lane) in
    ap (λ l. get_or l lane no_report) (reports-next lanes_b s r)
    ∙ get_or-map f (numbers_from 0 s.link.params.l) lane 0 no_report (omega arith)
    ∙ ap f (get_or-numbers s.link.params.l lane 0 0 below ∙ same)
    ∙ ap (report_b s.link.params s.link.timing (route_of s lane)) taken

module _ (s : Plan) (lane : ℕ) (read : IsPlanRead s) (mode : s.link.params.mode ≡ B)
    (below : lane < s.link.params.l)
    (h t : ℕ) (session : InSession lanes_b s h t) (clean : Clean s h t) where
  abbrev f : ℕ
  f = first s lane read mode below h t session clean

  abbrev pub took_before : ℕ → List Taken
  took_before v = taken_in (drop f (run lanes_b s v)) lane

  took-one : (v : ℕ) → f ≤ v → took_before (suc v) ≡ took_before v
      ++ (record { order = (at lanes_b s v).told; word = get_or (at lanes_b s v).taken lane [] })
      ∷ []
  took-one v low =
      let long = length-run lanes_b s v in
      ap (λ r. taken_in (drop f r) lane) (run-suc lanes_b s v)
      ∙ ap (λ r. taken_in r lane)
      (drop-append-le f (run lanes_b s v) (at lanes_b s v ∷ []) (omega arith))
      ∙ taken-in-more (drop f (run lanes_b s v)) (at lanes_b s v) lane

  tens-before : (v : ℕ) → v ≤ suc t → AreTens (took_before v)
  tens-before zero up =
      let none : drop f (run lanes_b s 0) ≡ [] =
      drop_all f (run lanes_b s 0) (let l = length-run lanes_b s 0 in omega arith) in
      rw none tt
  tens-before (suc v) up = elim (cases_lt v f) [
    | inl new ↦
        let none : drop f (run lanes_b s (suc v)) ≡ [] =
        drop_all f (run lanes_b s (suc v)) (let l = length-run lanes_b s (suc v) in
        omega arith) in
        rw none tt
    | inr old ↦
        rw (took-one v old)
        (are_tens-more (took_before v) _ (tens-before v (omega arith))
        (length-word_taken s lane read mode below h t session clean v))
  ]

  pub taken-is : (u : ℕ) → f ≤ u → u ≤ t → taken_at lanes_b s lane u ≡ took_before (suc u)
  taken-is u low up =
      ap (λ r. taken_in r lane)
      (session-with lanes_b s h t (goes-on s lane read mode below h t session clean) u low up)

  pub are-tens : (u : ℕ) → f ≤ u → u ≤ t → AreTens (taken_at lanes_b s lane u)
  are-tens u low up = rw (taken-is u low up) (tens-before (suc u) (omega arith))

  -- what was taken up to a tick begins with what was taken up to an earlier one
  pub taken-longer : (A u : ℕ) → f ≤ A → A ≤ u → u ≤ t
      → (more : List Taken) × (taken_at lanes_b s lane u ≡ taken_at lanes_b s lane A ++ more)
  taken-longer A u low on up =
      let m = run-longer (u - A) lanes_b s (suc A) in
      let end : suc A + (u - A) ≡ suc u = omega arith in
      let long = length-run lanes_b s (suc A) in
      let g : Moment → Taken = λ x. record { order = x.told; word = get_or x.taken lane [] } in (
        taken_in m.0 lane,
        taken-is u (omega arith) up
            ∙ ap took_before (sym end) ∙ ap (λ r. taken_in (drop f r) lane) m.1
            ∙ ap (λ r. taken_in r lane) (drop-append-le f (run lanes_b s (suc A)) m.0 (omega arith))
            ∙ map-append g (drop f (run lanes_b s (suc A))) m.0
            ∙ ap (λ l. l ++ taken_in m.0 lane) (sym (taken-is A low (omega arith))),
      )

  pub length-took : (u : ℕ) → f ≤ u → u ≤ t → length (taken_at lanes_b s lane u) ≡ suc u - f
  length-took u low up =
      let g : Moment → Taken = λ x. record { order = x.told; word = get_or x.taken lane [] } in
      let long = length-run lanes_b s (suc u) in
      ap length (taken-is u low up) ∙ length-map (drop f (run lanes_b s (suc u))) g
      ∙ length-drop f (run lanes_b s (suc u)) ∙ ap (λ n. n - f) long

  -- the order of a tick
  pub order-is : (u i : ℕ) → f ≤ u → u ≤ t → f + i ≤ u
      → order_at (taken_at lanes_b s lane u) i ≡ (at lanes_b s (f + i)).told
  order-is u i low up inside =
      let g : Moment → Taken = λ x. record { order = x.told; word = get_or x.taken lane [] } in
      let r : History = run lanes_b s (suc u) in
      let long = length-run lanes_b s (suc u) in
      let rest = length-drop f r in
      let d : Moment = at lanes_b s 0 in
      let e : Taken = record { order = no_order; word = [] } in
      ap (λ l. order_at l i) (taken-is u low up)
      ∙ ap (λ (x : Taken). x.order) (get_or-map g (drop f r) i d e (omega arith))
      ∙ ap (λ (x : Moment). x.told)
      (get_or-drop f r i d ∙ run-at lanes_b s (suc u) (f + i) d (omega arith))
