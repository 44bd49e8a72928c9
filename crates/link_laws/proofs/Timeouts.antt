-- The receiver waits for no more than eight periods; a hunt for a timeout begins more than seven
-- periods after the arming.
use Rattle.std.proofs.Common.{◌≡◌, ℕ, zero, suc, ◌+◌, ◌*◌, ◌<◌, ◌≤◌, ◌==◌, ◌⊎◌, not, if◌then◌else◌, Bool, false, List, [], ◌∷◌, ◌++◌, count_by, length, get_or, None, is_some, inl, inr, refl, sym, ap, ◌∙◌, arith}
use Rattle.std.proofs.lemmas.Bool.{cases_Bool, cases_lt, eq-eqb, or_from}
use Rattle.std.proofs.lemmas.List.Sums.{fold_push}
use Rattle.link_params.specs.declared.alarms.Alarm.{Alarm}
use Rattle.link_params.specs.declared.alarms.Device.TheVariants.{Rx}
use Rattle.link_params.specs.declared.fields.Params.{Params}
use Rattle.link_params.specs.declared.fields.Timing.{Timing}
use Rattle.link_params.specs.declared.lane_report.LaneReport.{LaneReport}
use Rattle.link_params.specs.Lanes.{LaneKind}
use Rattle.link_params.specs.Numbers.{period}
use Rattle.bring_up.specs.declared.stage.Stage.TheVariants as stage
use Rattle.bring_up.specs.declared.stage.Decision.TheVariants as decision
use Rattle.bring_up.specs.Decisions.{Standing, after_decision, all_started, calm_in_wait, decide, first_class, hunt_on, idle, lost_or_faulty, outside_or_missing, some_started}
use Rattle.scenario.specs.Plans.{Plan}
use Rattle.link_model.specs.Edges.{is_reset}
use Rattle.link_model.proofs.DecisionCases.{no_report}
use Rattle.link_model.specs.Sessions.{at, first_tick}
use Rattle.link_laws.specs.Laws.{IsPlanRead}
use Rattle.link_laws.proofs.RunTicks.{stands}
use Rattle.link_laws.proofs.PlanRead.{has-edges}
use Rattle.link_laws.proofs.Phases.{phase-stays}
use Rattle.link_laws.proofs.Stages.{StaysWaiting, before, before-suc, decides-as, phase-decides, stands-decided, wait-step}
use Rattle.link_laws.proofs.SessionStages.{ArmedSince, Goes, armed-since, first-low}
use Rattle.link_laws.proofs.DecisionCounts.{StaysIn, count-few, count-decided, count-many, count-undecided, count_at, since-decided, since-undecided}

cases-alarms : (xs : List Alarm) → ((a : Alarm) × (rest : List Alarm) × (xs ≡ a ∷ rest)) ⊎ (xs ≡ [])
cases-alarms [] = inr refl
cases-alarms (a ∷ rest) = inl (a, rest, refl)

pub nobody-started : (rs : List LaneReport)
    → ((i : ℕ) → i < length rs → (get_or rs i no_report).started ≡ None) → some_started rs ≡ false
nobody-started [] none = refl
nobody-started (r ∷ rs) none =
    or_from (is_some r.started) (some_started rs) (ap is_some (none 0 (omega arith)))
    (nobody-started rs (λ i below. none (suc i) (omega arith)))

-- an eighth idle decision does not stay
stay-few : (p : Params) (t : Timing) (since : List (List LaneReport)) (rs : List LaneReport)
    → (decide p t stage.Wait since rs).decision ≡ decision.Stay → (idle since == 8) ≡ false
unfolding decide
stay-few p t since rs stays =
    elim (cases-alarms (first_class (lost_or_faulty p rs) (outside_or_missing t rs))) [
      | inl k ↦ let bad : decision.Hunt ≡ decision.Stay =
          sym (ap (λ (xs : List Alarm). (hunt_on xs (calm_in_wait since rs)).decision) k.2)
          ∙ stays in
          absurd (cc)
      | inr none ↦
          let is : (calm_in_wait since rs).decision ≡ decision.Stay =
          sym (ap (λ (xs : List Alarm). (hunt_on xs (calm_in_wait since rs)).decision) none)
          ∙ stays in
          elim (cases_Bool (idle since == 8)) [
            | inr few ↦ few
            | inl eight ↦ elim (cases_Bool (all_started rs)) [
              | inl all ↦ let bad : decision.Release ≡ decision.Stay = sym (rw all refl) ∙ is in
                  absurd (cc)
              | inr some ↦ let bad : decision.Hunt ≡ decision.Stay = sym (rw (some, eight) refl)
                  ∙ is in
                  absurd (cc)
            ]
          ]
    ]

idle-push : (xs : List (List LaneReport)) (rs : List LaneReport) → some_started rs ≡ false
    → idle (xs ++ rs ∷ []) ≡ idle xs + 1
idle-push xs rs none =
    let more : count_by (λ reports. not (some_started reports)) (xs ++ rs ∷ [])
    ≡ count_by (λ reports. not (some_started reports)) xs
    + (if not (some_started rs) then 1 else 0) =
    fold_push
    (λ (k : ℕ) (reports : List LaneReport). k + (if not (some_started reports) then 1 else 0)) 0
    xs rs in
    let one : (if not (some_started rs) then 1 else 0) ≡ suc zero =
    ap (λ (b : Bool). let n : ℕ = if not b then 1 else 0 in n) none in
    omega arith

module _ (kind : LaneKind) (s : Plan) (h t : ℕ) (g : Goes kind s h t) where
  -- a tick of the session after which it still waits
  pub still-waits : (u : ℕ) → first_tick kind s h ≤ u → u < t → before kind s u ≡ stage.Wait
      → before kind s (suc u) ≡ stage.Wait → StaysWaiting kind s u
  still-waits u from below is later =
      let low = first-low kind s h t g in
      let on = before-suc kind s u (g.quiet (suc u) (omega arith) (omega arith)) in
      elim (wait-step kind s u is) [
        | inl a ↦ let no = a.1 in absurd (cc)
        | inr a ↦ elim a [ inl r ↦ let no = r.runs in absurd (cc) | inr w ↦ w ]
      ]

  module _ (u : ℕ) (from : first_tick kind s h ≤ u) (up : u ≤ t)
      (waits : before kind s u ≡ stage.Wait) where
    pub arming : ArmedSince kind s (first_tick kind s h) u
    arming = armed-since kind s h t g u from up waits

    pub arming-from : h ≤ arming.tick
    arming-from = let low = first-low kind s h t g in let a = arming.from in omega arith

    pub waits-on : StaysIn kind s (suc arming.tick) u
    waits-on =
        let a = arming.from in
        let low = arming-from in
        record {
          quiet = λ i above to. g.quiet i (omega arith) (omega arith);
          stays =
              λ i above to.
              (still-waits i (omega arith) (omega arith)
              (arming.waits i (omega arith) (omega arith))
              (arming.waits (suc i) (omega arith) (omega arith))).stays;
        }

    first-quiet : is_reset s Rx (suc arming.tick) ≡ false
    first-quiet = let a = arming.below in
        let low = arming-from in g.quiet (suc arming.tick) (omega arith) (omega arith)

    fresh : (stands kind s (suc arming.tick)).since ≡ []
    fresh =
        ap (λ (x : Standing). x.since) (stands-decided kind s arming.tick first-quiet arming.decides
        ∙ ap (after_decision (stands kind s arming.tick) (at kind s arming.tick).reports)
        arming.arms)

    -- all decisions since the arming were idle, and they are seven at most
    record IsIdle (v : ℕ) : Type 0 where
      all : idle (stands kind s v).since ≡ count_at kind s v + 1
      few : count_at kind s v ≤ 7

    idle-so-far : (v : ℕ) → arming.tick < v → v ≤ u → IsIdle v
    idle-so-far zero low to = absurd (omega arith)
    idle-so-far (suc v) low to = elim (cases_lt arming.tick v) [
      | inr here ↦
          let e : v ≡ arming.tick = omega arith in
          let none : (stands kind s (suc v)).since ≡ [] =
          ap (λ (x : ℕ). (stands kind s (suc x)).since) e ∙ fresh in
          let no_count : count_at kind s (suc v) ≡ 0 = ap length none in
          let one : idle (stands kind s (suc v)).since ≡ 1 = ap idle none in
          record { all = omega arith; few = omega arith }
      | inl later ↦
          let k = idle-so-far v later (omega arith) in
          let all = k.all in
          let few = k.few in
          let a = arming.from in
          let l = arming-from in
          let quiet = g.quiet (suc v) (omega arith) (omega arith) in
          let is = arming.waits v later (omega arith) in
          let w = still-waits v (omega arith) (omega arith) is
          (arming.waits (suc v) (omega arith) (omega arith)) in
          elim (cases_Bool (at kind s v).decides) [
            | inr e ↦
                let same = since-undecided kind s v quiet e in
                let count = count-undecided kind s v quiet e in
                let idles = ap idle same in
                record { all = omega arith; few = omega arith }
            | inl e ↦
                let none = nobody-started (at kind s v).reports (w.nobody e) in
                let more = ap idle (since-decided kind s v quiet w.stays e)
                ∙ idle-push (stands kind s v).since (at kind s v).reports none in
                let count = count-decided kind s v quiet w.stays e in
                let stay = sym (decides-as kind s v stage.Wait e is) ∙ w.stays in
                let not_eight = stay-few s.link.params s.link.timing (stands kind s v).since
                (at kind s v).reports stay in
                record {
                  all = omega arith;
                  few = elim (cases_lt (count_at kind s v) 7) [
                    | inl less ↦ let q : count_at kind s (suc v) ≤ 7 = omega arith in q
                    | inr seven ↦
                        let eight : idle (stands kind s v).since ≡ 8 = omega arith in
                        let bad = eq-eqb (idle (stands kind s v).since) 8 eight in
                        absurd (cc)
                  ];
                }
          ]
    ]

    -- the receiver waits no longer than eight periods
    pub waits-short : IsPlanRead s → u ≤ arming.tick + 8 * period s.link.params
    waits-short read = elim (cases_lt (arming.tick + 8 * period s.link.params) u) [
      | inr short ↦ short
      | inl long ↦
          let p : ℕ = period s.link.params in
          let A : ℕ = arming.tick in
          let low = arming-from in
          let below = arming.below in
          let y = phase-stays s Rx A (suc A) s.link.timing.rbd (has-edges s read) (omega arith)
          (λ i a b. let same : i ≡ suc A = omega arith in ap (is_reset s Rx) same ∙ first-quiet)
          (phase-decides kind s A arming.decides) in
          let many = count-many kind s 8 (suc A) u y.0 read waits-on y.1 (omega arith) in
          let k = idle-so-far (suc A + 8 * p) (omega arith) (omega arith) in
          let few = k.few in
          absurd (omega arith)
    ]

    -- an eighth idle decision comes more than seven periods after the arming
    pub eighth-late : IsPlanRead s → idle (stands kind s u).since ≡ 8
        → arming.tick + 7 * period s.link.params < u
    eighth-late read eight =
        let below = arming.below in
        let k = idle-so-far u below (omega arith) in
        let all = k.all in
        let seven : count_at kind s u ≡ 7 = omega arith in
        let c = count-few kind s u arming.tick u read waits-on first-quiet arming.decides
        (ap length fresh) below (omega arith) in
        let spaced = c.spaced in
        let last = c.below in
        let product : count_at kind s u * period s.link.params ≡ 7 * period s.link.params =
        ap (λ (x : ℕ). x * period s.link.params) seven in
        omega arith
