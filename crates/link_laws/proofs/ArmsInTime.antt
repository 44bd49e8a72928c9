-- The lanes are armed in time: a decision with three before it arms them where all are locked.
use Rattle.std.proofs.Common.{◌≡◌, ℕ, zero, suc, ◌+◌, ◌*◌, ◌<◌, ◌≤◌, ◌⊎◌, ◌&&◌, not, nat_le, Bool, true, false, List, [], ◌∷◌, length, get_or, Option, Some, None, is_some, inl, inr, refl, sym, ap, ap₂, ◌∙◌, arith}
use Rattle.std.specs.List.{list_all}
use Rattle.std.proofs.lemmas.Bool.{cases_Bool, and_parts, le-leb}
use Rattle.link_params.specs.declared.alarms.Device.TheVariants.{Tx, Rx}
use Rattle.link_params.specs.declared.fields.Params.{Params}
use Rattle.link_params.specs.declared.fields.Timing.{Timing}
use Rattle.link_params.specs.declared.lane_report.LaneReport.{LaneReport}
use Rattle.link_params.specs.Laws.{is_b}
use Rattle.link_params.specs.Lanes.{LaneKind}
use Rattle.link_params.specs.Numbers.{period}
use Rattle.link_params.proofs.LawFacts.{legal_sizes}
use Rattle.bring_up.specs.declared.stage.Stage.{Stage}
use Rattle.bring_up.specs.declared.stage.Stage.TheVariants as stage
use Rattle.bring_up.specs.declared.stage.Decision.TheVariants as decision
use Rattle.bring_up.specs.Decisions.{decide, is_hunting}
use Rattle.scenario.specs.Plans.{Plan}
use Rattle.link_model.specs.Edges.{phase}
use Rattle.link_model.proofs.DecisionCases.{no_report}
use Rattle.link_model.specs.Sessions.{InSession, at, first_tick, is_armed, report_at}
use Rattle.link_laws.specs.Premises.{Clean, Lone, Pattern}
use Rattle.link_laws.specs.LaneLaws.{LaneLock, LaneSender, lock_ticks}
use Rattle.link_laws.specs.Laws.{IsPlanRead}
use Rattle.link_laws.proofs.RunTicks.{armed-at, stands}
use Rattle.link_laws.proofs.PlanRead.{has-edges, numbers}
use Rattle.link_laws.proofs.Phases.{phase-stays}
use Rattle.link_laws.proofs.PhaseComes.{phase-at}
use Rattle.link_laws.proofs.DecisionCounts.{StaysIn, count-grows, count-many, count_at}
use Rattle.link_laws.proofs.Stages.{before, decides-as, decides-phase, decision_at}
use Rattle.link_laws.proofs.SessionStages.{ArmedSince, first-high, first-low, hunted, stays-hunting}
use Rattle.link_laws.proofs.ReleaseTick.{goes, length-reports}
use Rattle.link_laws.proofs.Earlier.{clean-earlier, session-earlier}

every-locked : (rs : List LaneReport)
    → ((i : ℕ) → i < length rs → (get_or rs i no_report).locked ≡ true)
    → list_all (λ (r : LaneReport). r.locked) rs ≡ true
every-locked [] each = refl
every-locked (r ∷ rs) each = ap₂ (λ (a b : Bool). a && b) (each 0 (omega arith))
    (every-locked rs (λ i below. each (suc i) (omega arith)))

pub locked-at : (rs : List LaneReport) (i : ℕ) → list_all (λ (r : LaneReport). r.locked) rs ≡ true
    → i < length rs → (get_or rs i no_report).locked ≡ true
locked-at [] i e below = absurd (omega arith)
locked-at (r ∷ rs) zero e below =
    (and_parts r.locked (list_all (λ (r : LaneReport). r.locked) rs) e).0
locked-at (r ∷ rs) (suc i) e below =
    locked-at rs i (and_parts r.locked (list_all (λ (r : LaneReport). r.locked) rs) e).1
    (omega arith)

locked-arms : (p : Params) (t : Timing) (since : List (List LaneReport)) (rs : List LaneReport)
    → 3 ≤ length since → list_all (λ (r : LaneReport). r.locked) rs ≡ true
    → (decide p t stage.Hunt since rs).decision ≡ decision.Arm
unfolding decide
locked-arms p t since rs many all =
    let due : (nat_le 4 (length since + 1) && list_all (λ (r : LaneReport). r.locked) rs) ≡ true =
    ap₂ (λ (a b : Bool). a && b) (le-leb 4 (length since + 1) (omega arith)) all in
    rw due refl

pub arms-locked : (p : Params) (t : Timing) (since : List (List LaneReport)) (rs : List LaneReport)
    → (decide p t stage.Hunt since rs).decision ≡ decision.Arm
    → list_all (λ (r : LaneReport). r.locked) rs ≡ true
unfolding decide
arms-locked p t since rs arms =
    elim (cases_Bool (nat_le 4 (length since + 1) && list_all (λ (r : LaneReport). r.locked) rs)) [
      | inl e ↦
          (and_parts (nat_le 4 (length since + 1)) (list_all (λ (r : LaneReport). r.locked) rs) e).1
      | inr e ↦ let bad : decision.Stay ≡ decision.Arm = sym (rw e refl) ∙ arms in absurd (cc)
    ]

pub arms-here : (kind : LaneKind) (s : Plan) (u : ℕ) → (at kind s u).decides ≡ true
    → before kind s u ≡ stage.Hunt → 3 ≤ count_at kind s u
    → list_all (λ (r : LaneReport). r.locked) (at kind s u).reports ≡ true
    → decision_at kind s u ≡ decision.Arm
arms-here kind s u decides hunts many all =
    decides-as kind s u stage.Hunt decides hunts ∙ locked-arms s.link.params s.link.timing
    (stands kind s u).since (at kind s u).reports many all

-- the transmitter has a phase, with 64b/66b lanes
abbrev pub HasSender : Plan → ℕ → Type 0
HasSender s t = is_b s.link.params.mode ≡ false → (y : ℕ) × (phase s Tx t ≡ Some y)

cases-some : (o : Option ℕ) → ((x : ℕ) × (o ≡ Some x)) ⊎ (o ≡ None)
cases-some (Some x) = inl (x, refl)
cases-some None = inr refl

module _ (kind : LaneKind) (pattern : Pattern) (s : Plan) (read : IsPlanRead s)
    (law : LaneLock kind pattern s) (h end : ℕ)
    (clean : Clean s h end) (lone : (t : ℕ) → InSession kind s h t → t ≤ end → HasSender s t
    → Lone kind pattern s h t) where
  -- while the receiver hunts the lanes are locked from some tick on
  locked : (lane t : ℕ) → lane < s.link.params.l → InSession kind s h t → t ≤ end → HasSender s t
      → before kind s t ≡ stage.Hunt → h + lock_ticks s.link ≤ t
      → (report_at kind s lane t).locked ≡ true
  locked lane t below session up sent is late =
      let unarmed : is_armed kind s t ≡ false = armed-at kind s t
      ∙ ap (λ (q : Stage). not (is_hunting q)) is in
      (law h lane t below session (lone t session up sent) (clean-earlier s h end t up clean)).locks
      late unarmed

  -- so it hunts no longer: a is a tick of the session with a phase, and t0 one by which the lanes
  -- are locked and four periods have gone
  pub not-hunting : (a y t0 t : ℕ) → InSession kind s h t → t ≤ end → h < a → phase s Rx a ≡ Some y
      → a + 4 * period s.link.params ≤ t0 → h + lock_ticks s.link ≤ t0
      → ((u : ℕ) → t0 ≤ u → u ≤ end → HasSender s u) → t0 + period s.link.params ≤ t
      → before kind s t ≡ stage.Hunt → ⊥
  not-hunting a y t0 t session up above is four late sent room hunting =
      let p = s.link.params in
      let n = numbers s read in
      let some = n.some in
      let g = goes kind s h t session (inl (clean-earlier s h end t up clean)) in
      let high = first-high kind s h t g in
      let low = first-low kind s h t g in
      let still : (i : ℕ) → first_tick kind s h ≤ i → i ≤ t → before kind s i ≡ stage.Hunt =
      hunted kind s h t g t (omega arith) (omega arith) hunting in
      let stay : StaysIn kind s a t = record {
        quiet = λ i from to. g.quiet i (omega arith) to;
        stays = λ i from to. stays-hunting kind s h t g i (omega arith) to
            (still i (omega arith) (omega arith)) (still (suc i) (omega arith) (omega arith));
      } in
      let k = phase-stays s Rx a t0 y (has-edges s read) (omega arith)
      (λ i from to. g.quiet i (omega arith) (omega arith)) is in
      let d = phase-at s Rx t0 k.0 s.link.timing.rbd read
      (λ i from to. g.quiet i (omega arith) (omega arith)) k.1 n.rbd in
      let from = d.1 in
      let below = d.2 in
      let decides = decides-phase kind s d.0 d.3 in
      let many = count-many kind s 4 a t y read stay is (omega arith) in
      let grows = count-grows kind s d.0 a t (a + 4 * period p) stay (omega arith) (omega arith)
      (omega arith) in
      let here = still d.0 (omega arith) (omega arith) in
      let long = length-reports kind s d.0 in
      let inside = session-earlier kind s h t d.0 (omega arith) (omega arith) session in
      let all = every-locked (at kind s d.0).reports
      (λ i in_list. locked i d.0 (omega arith) inside (omega arith)
      (sent d.0 (omega arith) (omega arith)) here (omega arith)) in
      let arms = arms-here kind s d.0 decides here (omega arith) all in
      let stays = stay.stays d.0 (omega arith) (omega arith) in
      let bad : decision.Arm ≡ decision.Stay = sym arms ∙ stays in
      absurd (cc)

  -- 64b/66b lanes are armed where the transmitter has a phase
  pub armed-to-sender : LaneSender kind s → (first u : ℕ) → (a : ArmedSince kind s first u)
      → InSession kind s h a.tick → a.tick ≤ end → HasSender s a.tick
  armed-to-sender law first u a session up c =
      let all = arms-locked s.link.params s.link.timing (stands kind s a.tick).since
      (at kind s a.tick).reports (sym (decides-as kind s a.tick stage.Hunt a.decides a.hunts)
      ∙ a.arms) in
      let long = length-reports kind s a.tick in
      let sizes = legal_sizes s.link.params read.laws in
      let some : 0 < s.link.params.l = (let k = sizes.l_low in omega arith) in
      let locks = locked-at (at kind s a.tick).reports 0 all (omega arith) in
      let is = law h 0 a.tick c some session (clean-earlier s h end a.tick up clean) locks in
      elim (cases-some (phase s Tx a.tick)) [
        | inl k ↦ k
        | inr none ↦ let bad : false ≡ true = sym (ap is_some none) ∙ is in absurd (cc)
      ]
