-- In a session the lanes stay armed once they are: only a hunt disarms them.
use Rattle.std.proofs.Common.{◌≡◌, ℕ, zero, suc, ◌-◌, Bool, true, false, not, if◌then◌else◌, List, [], ◌∷◌, ◌++◌, length, get_or, inl, inr, refl, sym, ap, ◌∙◌}
use Rattle.std.proofs.lemmas.Bool.{cases_Bool, or_parts, true≢false}
use Rattle.link_params.specs.declared.alarms.Device.TheVariants.{Rx}
use Rattle.link_params.specs.declared.lane_report.LaneReport.{LaneReport}
use Rattle.link_params.specs.declared.orders.RxOrder.{RxOrder}
use Rattle.link_params.specs.Lanes.{LaneKind, Taken}
use Rattle.bring_up.specs.declared.stage.Decision.{Decision}
use Rattle.bring_up.specs.declared.stage.Decision.TheVariants as decision
use Rattle.bring_up.specs.Decisions.{Decided, Standing, after_decision, decide, is_hunting}
use Rattle.lane_c.specs.Locking.{order_at}
use Rattle.lane_c.specs.kept.Receivers.{IsArmedOn}
use Rattle.scenario.specs.Plans.{Plan}
use Rattle.link_model.proofs.KindFacts.{StayArmed, armed-more, armed-none, order-end}
use Rattle.link_model.proofs.LaneHistory.{HasHunt, current-session, has-hunt-run, hunt-next, session-goes-on, session-hunt, taken-in-more}
use Rattle.link_model.proofs.NextMoment.{decided-next, next, stage-next, told-next, with_next}
use Rattle.link_model.proofs.RxHistory.{ends-in-hunt-more, stage-standing, standing-kept, standing_after}
use Rattle.link_model.specs.kept.Before.{current}
use Rattle.link_model.specs.Edges.{is_reset}
use Rattle.link_model.specs.Hunts.{begins_hunt, ends_in_hunt, from_hunt, is_hunt, session, standing}
use Rattle.link_model.specs.Moments.{History}
use Rattle.link_model.specs.Receives.{taken_in, told_of}
use Rattle.link_model.specs.Run.{run}

-- the last order of these armed the lane
abbrev pub IsArmed : List Taken → Type 0
IsArmed taken = (order_at taken (length taken - 1)).armed ≡ true

-- the session of the last tick: its orders stay armed, and an armed receiver does not hunt
pub record HasArmed (s : Plan) (h : History) : Type 0 where
  pub stays : (lane : ℕ) → StayArmed (taken_in (current h) lane)
  pub goes : ends_in_hunt h ≡ false → (lane : ℕ) → IsArmed (taken_in (current h) lane)
      → is_hunting (standing_after s h).stage ≡ false

-- the session to which the tick that comes belongs
pub record IsArming (s : Plan) (h : History) (lane : ℕ) : Type 0 where
  pub stays : StayArmed (taken_in (session s h) lane)
  pub on : IsArmedOn (taken_in (session s h) lane) (told_of s h)

not-false : (b : Bool) → b ≡ false → not b ≡ true
not-false b e = ap not e

not-true : (b : Bool) → not b ≡ true → b ≡ false
not-true true e = absurd (true≢false (sym e))
not-true false e = refl

arming-none : (s : Plan) (h : History) (lane : ℕ) → session s h ≡ [] → IsArming s h lane
arming-none s h lane none = record {
  stays = rw none armed-none;
  on = rw none (λ e. absurd (true≢false (sym e)));
}

pub arming : (kind : LaneKind) (s : Plan) (h : History) (lane : ℕ) → HasArmed s h
    → IsArming s h lane
unfolding told_of
arming kind s h lane kept = elim (cases_Bool (begins_hunt s h)) [
  | inl e ↦ arming-none s h lane (session-hunt kind s h (hunt-next kind s h ∙ e))
  | inr e ↦
      let parts = or_parts (is_reset s Rx (length h)) (ends_in_hunt h) e in
      let same : session s h ≡ current h = session-goes-on kind s h (hunt-next kind s h ∙ e) in
      let stands = standing-kept s h parts.0 in
      record {
        stays = rw same (kept.stays lane);
        on = λ armed.
            let last : IsArmed (taken_in (current h) lane) =
            ap (λ (l : History). (order_at (taken_in l lane) (length (taken_in l lane) - 1)).armed)
            (sym same) ∙ armed in
            not-false (is_hunting (standing s h).stage)
            (ap (λ (x : Standing). is_hunting x.stage) stands ∙ kept.goes parts.1 lane last);
      }
]

-- an order that goes on with a session is armed where the one before it was
pub armed-on : (kind : LaneKind) (s : Plan) (h : History) (lane : ℕ) → HasArmed s h
    → IsArmedOn (taken_in (session s h) lane) (told_of s h)
armed-on kind s h lane kept = (arming kind s h lane kept).on

-- ---- a tick more

out-of-hunt : (before : Standing) (reports : List LaneReport) (d : Decision) → is_hunt d ≡ false
    → is_hunting before.stage ≡ false
    → is_hunting (after_decision before reports d).stage ≡ false
out-of-hunt before reports decision.Stay calm out = out
out-of-hunt before reports decision.Arm calm out = refl
out-of-hunt before reports decision.Release calm out = refl
out-of-hunt before reports decision.Hunt calm out = absurd (true≢false calm)

next-out : (kind : LaneKind) (s : Plan) (h : History)
    → is_hunt (next kind s h).decided.decision ≡ false
    → is_hunting (standing s h).stage ≡ false → is_hunting (next kind s h).stage ≡ false
next-out kind s h calm out =
    let p = s.link.params in
    let t = s.link.timing in
    let m = next kind s h in
    let before : Standing = standing s h in
    let d : Decision = (decide p t before.stage before.since m.reports).decision in
    let decided_is : m.decided.decision ≡ (if m.decides then d else decision.Stay) =
    ap (λ (x : Decided). x.decision) (decided-next kind s h)
    ∙ elim (cases_Bool m.decides) [ inl e ↦ rw e refl | inr e ↦ rw e refl ] in
    let stage_is : m.stage
    ≡ (if m.decides then (after_decision before m.reports d).stage else before.stage) =
    stage-next kind s h in
    elim (cases_Bool m.decides) [
      | inl e ↦
          let same : m.decided.decision ≡ d = rw e at decided_is in
          let after : m.stage ≡ (after_decision before m.reports d).stage = rw e at stage_is in
          ap is_hunting after
          ∙ out-of-hunt before m.reports d (sym (ap is_hunt same) ∙ calm) out
      | inr e ↦
          let after : m.stage ≡ before.stage = rw e at stage_is in
          ap is_hunting after ∙ out
    ]

pub armed-next : (kind : LaneKind) (s : Plan) (h : History) → HasHunt h → HasArmed s h
    → HasArmed s (with_next kind s h)
unfolding told_of
armed-next kind s h begun kept =
    let m = next kind s h in
    let told = told-next kind s h in
    let now : ℕ → Taken = λ lane. record { order = m.told; word = get_or m.taken lane [] } in
    let taken : (lane : ℕ) → taken_in (current (with_next kind s h)) lane
    ≡ taken_in (session s h) lane ++ now lane ∷ [] =
    λ lane. ap (λ (l : History). taken_in l lane) (current-session kind s h begun)
    ∙ taken-in-more (session s h) m lane in
    let ends = ends-in-hunt-more h m in
    let after = stage-standing kind s h in
    record {
      stays = λ lane.
          let a = arming kind s h lane kept in
          rw (taken lane) (armed-more (taken_in (session s h) lane) (now lane) a.stays
          (λ e. ap (λ (o : RxOrder). o.armed) told ∙ a.on e));
      goes = λ e lane last.
          let end = ap (λ (ts : List Taken). (order_at ts (length ts - 1)).armed) (taken lane)
          ∙ ap (λ (o : RxOrder). o.armed) (order-end (taken_in (session s h) lane) (now lane)
          ∙ told) in
          let out = not-true (is_hunting (standing s h).stage) (sym end ∙ last) in
          ap is_hunting (sym after) ∙ next-out kind s h (sym ends ∙ e) out;
    }

pub armed-start : (s : Plan) → HasArmed s []
unfolding from_hunt ends_in_hunt
armed-start s = record {
  stays = λ lane. armed-none;
  goes = λ e. absurd (true≢false e);
}

pub armed-run : (kind : LaneKind) (t : ℕ) (s : Plan) → HasArmed s (run kind s t)
unfolding run
armed-run kind zero s = armed-start s
armed-run kind (suc t) s = armed-next kind s (run kind s t) (has-hunt-run kind t s)
    (armed-run kind t s)
