-- What a plan is of its scenario.
use Rattle.std.proofs.Common.{◌≡◌, Option, Some, None, sym, ap, ◌∙◌, refl, unwrap_or}
use Rattle.link_params.specs.Links.{Link}
use Rattle.scenario.specs.declared.scenario_type.Scenario.{Scenario}
use Rattle.scenario.specs.Plans.{Plan, plan_of, plan_with}

pub record IsPlan (s : Scenario) (plan : Plan) : Type 0 where
  pub link : s.link ≡ Some plan.link
  pub ticks : plan.ticks ≡ s.ticks
  pub print : plan.print ≡ s.print
  pub events : plan.events ≡ s.events.items
  pub jitters : plan.jitters ≡ s.jitters.items
  pub flips : plan.flips ≡ s.flips.items
  pub version : plan.version ≡ s.version
  pub wire : plan.wire ≡ s.wire.items
  pub route : plan.route ≡ s.route.items
  pub inverted : plan.inverted ≡ s.inverted.items

plan-with : (link : Option Link) (s : Scenario) (plan : Plan) → s.link ≡ link
    → plan_with link s ≡ Some plan → IsPlan s plan
plan-with None s plan of is = absurd (cc)
plan-with (Some k) s plan of is = record {
  link = of ∙ ap (λ o. Some (unwrap_or o plan).link) is;
  ticks = sym (ap (λ o. (unwrap_or o plan).ticks) is);
  print = sym (ap (λ o. (unwrap_or o plan).print) is);
  events = sym (ap (λ o. (unwrap_or o plan).events) is);
  jitters = sym (ap (λ o. (unwrap_or o plan).jitters) is);
  flips = sym (ap (λ o. (unwrap_or o plan).flips) is);
  version = sym (ap (λ o. (unwrap_or o plan).version) is);
  wire = sym (ap (λ o. (unwrap_or o plan).wire) is);
  route = sym (ap (λ o. (unwrap_or o plan).route) is);
  inverted = sym (ap (λ o. (unwrap_or o plan).inverted) is);
}

pub plan-facts : (s : Scenario) (plan : Plan) → plan_of s ≡ Some plan → IsPlan s plan
plan-facts s plan is = plan-with s.link s plan refl is
