use Rattle.std.proofs.Common.{◌≡◌, ◌∷◌, [], ◌++◌, List, sym, ◌∙◌, ap, arith, append-nil, length-append}
use Rattle.std.proofs.lemmas.Grind.{common_steps}
use Rattle.link_params.specs.declared.alarms.Alarm.{Alarm}
use Rattle.bring_up.specs.kept.Classes.{class_alarm, listed}
use Rattle.bring_up.specs.Decisions.{alarms_from}
use Rattle.bring_up.proofs.Raising.{raised-next}
use Rattle.bring_up.proofs.class.Class.raise.Goals as goal
use Rattle.bring_up.proofs.class.Class.raise.Goals.{in-Some, in_default}

pub loop-lane-init : goal.loop-lane-init
unfolding alarms_from
loop-lane-init c = record { raised = grind (arith, common_steps); room = omega arith }

pub loop-lane-preserved : goal.loop-lane-preserved
loop-lane-preserved c =
    let alarm = class_alarm c.args.link.now.params c.args.link.now.timing c.args.self in
    elim c.match-alarm.branch [
      | in-Some w ↦
          let here : listed c.alarm.result ≡ w.in-Some.alarm ∷ [] = ap listed w.in-Some.is in
          let after : c.match-alarm.alarms ≡ c.loop-lane.alarms ++ w.in-Some.alarm ∷ [] = w.alarms-is ∙ w.push.ensures in
          record {
            raised = raised-next alarm c.args.reports.now c.loop-lane.lane _ c.args.alarms.now c.loop-lane.alarms c.match-alarm.alarms (w.in-Some.alarm ∷ [])
                c.loop-lane-test.true c.loop-lane.invariant.raised (sym here ∙ c.alarm.ensures) after;
            room = rw (after, length-append c.loop-lane.alarms (w.in-Some.alarm ∷ [])) (omega arith);
          }
      | in_default w ↦
          let none : List Alarm = [] in
          let here : listed c.alarm.result ≡ none = ap listed w.in_default.is in
          record {
            raised = raised-next alarm c.args.reports.now c.loop-lane.lane _ c.args.alarms.now c.loop-lane.alarms c.match-alarm.alarms none
                c.loop-lane-test.true c.loop-lane.invariant.raised (sym here ∙ c.alarm.ensures) (w.alarms-is ∙ sym (append-nil c.loop-lane.alarms));
            room = rw w.alarms-is (omega arith);
          }
    ]
