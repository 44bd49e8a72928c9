use Rattle.std.proofs.Common.{◌≡◌, true, refl}
use Rattle.bring_up.specs.declared.stage.Stage.{Stage}
use Rattle.bring_up.specs.declared.stage.Stage.TheVariants as stage
use Rattle.bring_up.specs.Decisions.{begin, is_hunting, standing_from}
use Rattle.bring_up.proofs.Standings.{standing-snoc}
use Rattle.bring_up.proofs.laws.decision_laws.Goals as goal

hunts-low : (s : Stage) → (is_hunting s ≡ true → s ≡ stage.Hunt)
    × (s ≡ stage.Hunt → is_hunting s ≡ true)
hunts-low stage.Hunt = (λ e. refl, λ e. refl)
hunts-low stage.Wait = (λ e. cc, λ e. cc)
hunts-low stage.Run = (λ e. cc, λ e. cc)

pub returns : goal.returns
returns c = record {
  low = λ p t before. hunts-low (standing_from p t begin before).stage;
  last = λ p t before reports. standing-snoc p t before begin reports;
}
