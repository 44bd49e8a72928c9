-- What a clock keeps of the ticks that it took; its period and its phase are in ticks.
-- Code: the fields themselves.
use Rattle.std.specs.Prelude.{◌≡◌, ℕ, Bool, List, Option}
use Rattle.sysref_clock.specs.Clocks.{phase_after}

-- a clock, seen as its period and its phase in the last tick
pub record Clock : Type 0 where
  pub period : ℕ
  pub phase : Option ℕ

-- a clock of this period has taken these edges since it was made or cleared, one item a tick
pub record HasTicked (now : Clock) (period : ℕ) (edges : List Bool) : Type 0 where
  pub same_period : now.period ≡ period
  pub kept_phase : now.phase ≡ phase_after period edges
