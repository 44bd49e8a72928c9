-- A tick of a run, field by field, for any kind of lane.
use Rattle.std.proofs.Common.{◌≡◌, ℕ, suc, if◌then◌else◌, true, false, not, refl, ap, ◌∙◌}
use Rattle.link_params.specs.declared.alarms.Device.TheVariants.{Rx}
use Rattle.link_params.specs.declared.orders.RxOrder.{RxOrder}
use Rattle.link_params.specs.Lanes.{LaneKind}
use Rattle.bring_up.specs.Decisions.{Standing, after_reports, begin, is_hunting, standing_from}
use Rattle.scenario.specs.Plans.{Plan}
use Rattle.link_model.specs.Edges.{is_reset, last_reset, phase}
use Rattle.link_model.specs.Hunts.{standing}
use Rattle.link_model.specs.Run.{decided_in, is_at, moment, run, stage_after}
use Rattle.link_model.specs.Receives.{offset_at, told_of}
use Rattle.link_model.specs.Sends.{order_of}
use Rattle.link_model.proofs.RxHistory.{standing_after, standing-after-more, standing-kept, standing-reset}
use Rattle.link_model.specs.Sessions.{at}
use Rattle.link_model.proofs.RunTicks.{length-run, run-suc}

pub told-at : (kind : LaneKind) (s : Plan) (t : ℕ) → (at kind s t).told ≡ told_of s (run kind s t)
unfolding moment
told-at kind s t = refl

pub decides-at : (kind : LaneKind) (s : Plan) (t : ℕ)
    → (at kind s t).decides ≡ is_at (phase s Rx t) s.link.timing.rbd
unfolding moment
decides-at kind s t = ap (λ (n : ℕ). is_at (phase s Rx n) s.link.timing.rbd) (length-run kind s t)

-- where the receiver stands before tick t
abbrev pub stands : LaneKind → Plan → ℕ → Standing
stands kind s t = standing s (run kind s t)

pub decided-at : (kind : LaneKind) (s : Plan) (t : ℕ)
    → (at kind s t).decided ≡ decided_in s (stands kind s t) (at kind s t).decides
    (at kind s t).reports
unfolding moment
decided-at kind s t = refl

pub stage-at : (kind : LaneKind) (s : Plan) (t : ℕ)
    → (at kind s t).stage ≡ stage_after s (stands kind s t) (at kind s t).decides
    (at kind s t).reports
unfolding moment
stage-at kind s t = refl

pub armed-at : (kind : LaneKind) (s : Plan) (t : ℕ)
    → (at kind s t).told.armed ≡ not (is_hunting (stands kind s t).stage)
unfolding told_of
armed-at kind s t = ap (λ (o : RxOrder). o.armed) (told-at kind s t)

pub offset-at : (kind : LaneKind) (s : Plan) (t : ℕ)
    → (at kind s t).told.offset ≡ offset_at s.link.params s.link.timing (phase s Rx t)
unfolding told_of
offset-at kind s t =
    ap (λ (o : RxOrder). o.offset) (told-at kind s t)
    ∙ ap (λ (n : ℕ). offset_at s.link.params s.link.timing (phase s Rx n)) (length-run kind s t)

pub order-at : (kind : LaneKind) (s : Plan) (t : ℕ)
    → (at kind s t).order ≡ order_of s (run kind s t)
unfolding moment
order-at kind s t = refl

-- where it stands after tick t
abbrev pub stands_after : LaneKind → Plan → ℕ → Standing
stands_after kind s t = if (at kind s t).decides then after_reports s.link.params s.link.timing
    (stands kind s t) (at kind s t).reports else stands kind s t

stood : (kind : LaneKind) (s : Plan) (t : ℕ)
    → standing_after s (run kind s (suc t)) ≡ stands_after kind s t
stood kind s t = ap (standing_after s) (run-suc kind s t) ∙ standing-after-more s (run kind s t)
    (at kind s t)

pub stands-reset : (kind : LaneKind) (s : Plan) (t : ℕ) → is_reset s Rx t ≡ true
    → stands kind s t ≡ begin
stands-reset kind s t e = standing-reset s (run kind s t) (ap (is_reset s Rx) (length-run kind s t)
    ∙ e)

pub stands-suc : (kind : LaneKind) (s : Plan) (t : ℕ) → is_reset s Rx (suc t) ≡ false
    → stands kind s (suc t) ≡ stands_after kind s t
stands-suc kind s t e = standing-kept s (run kind s (suc t))
    (ap (is_reset s Rx) (length-run kind s (suc t)) ∙ e) ∙ stood kind s t

pub stands-first : (kind : LaneKind) (s : Plan) → stands kind s 0 ≡ begin
unfolding run standing standing_from last_reset
stands-first kind s = refl
