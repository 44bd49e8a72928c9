use Rattle.std.proofs.Common.{◌≡◌, ◌<◌, ◌^◌, ℕ, [], ◌∷◌, Some, refl, sym, lit<}
use Rattle.std.proofs.lemmas.List.Elements.{All-nil, All-cons}
use Rattle.std.specs.List.{All}
use Rattle.link_params.specs.declared.fields.Mode.TheVariants.{CCrc}
use Rattle.scenario.specs.declared.scenario_type.Scenario.{Scenario}
use Rattle.scenario.specs.Generated.{draw, generated, params_with, state}
use Rattle.scenario.specs.Plans.{plan_of}
use Rattle.scenario.proofs.SourceLemmas.{plan-kept}
use Rattle.scenario.proofs.tests_generated.other_frames.Goals as goal

-- the parameters that are drawn from 2
shape-of-two : (s : Scenario) → plan_of s ≡ Some (generated 2) → s.shape ≡ params_with CCrc 3 1
unfolding generated draw state
shape-of-two s is = sym (plan-kept s (generated 2) is).params

small : All (λ w. w < 2 ^ 16) (1 ∷ 0 ∷ 1 ∷ 1 ∷ 0 ∷ 0 ∷ [])
small =
    let P : ℕ → Type 0 = (λ w. w < 2 ^ 16) in
    All-cons P 1 (0 ∷ 1 ∷ 1 ∷ 0 ∷ 0 ∷ []) (lit< tt)
    (All-cons P 0 (1 ∷ 1 ∷ 0 ∷ 0 ∷ []) (lit< tt)
    (All-cons P 1 (1 ∷ 0 ∷ 0 ∷ []) (lit< tt)
    (All-cons P 1 (0 ∷ 0 ∷ []) (lit< tt)
    (All-cons P 0 (0 ∷ []) (lit< tt)
    (All-cons P 0 [] (lit< tt)
    (All-nil P))))))

pub replace_frames-after-requires-clause-whole : goal.replace_frames-after-requires-clause-whole
replace_frames-after-requires-clause-whole g c =
    let is = shape-of-two c.in_ok-gen_scenario.field-0 c.in_ok-gen_scenario.ensures.plan in
    rw (is, c.in_ok-from_slice.ensures.items) refl

pub replace_frames-after-requires-clause-below : goal.replace_frames-after-requires-clause-below
replace_frames-after-requires-clause-below g c =
    let is = shape-of-two c.in_ok-gen_scenario.field-0 c.in_ok-gen_scenario.ensures.plan in
    rw (is, c.in_ok-from_slice.ensures.items) small
