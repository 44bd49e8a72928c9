-- Laws of captured edges and of phases. Skew and jitter are in sixteenths of a tick, all else in
-- ticks.
-- Code: none of this is computed.
use Rattle.std.specs.Prelude.{◌≡◌, ℕ, ◌+◌, ◌-◌, ◌*◌, ◌%◌, ◌<◌, ◌≤◌, Bool, true, false, List, [], ◌∷◌, ◌++◌, length, get_or, Some, None, ℤ, pos, ◌≤ℤ◌}
use Rattle.sysref_clock.specs.Clocks.{place_of_edge, captured, phase_after}

-- an edge is captured in the least tick that is not before its place
abbrev pub CapturedIsLeast : Type 0
CapturedIsLeast = (nominal skew : ℕ) (jitter : ℤ) → pos 0 ≤ℤ place_of_edge nominal skew jitter
    → (place_of_edge nominal skew jitter ≤ℤ pos (16 * captured nominal skew jitter))
    × ((t : ℕ) → place_of_edge nominal skew jitter ≤ℤ pos (16 * t) → captured nominal skew jitter ≤ t)

-- edge x is the first one
pub record IsFirstEdge (edges : List Bool) (x : ℕ) : Type 0 where
  pub comes : get_or edges x false ≡ true
  pub first : (y : ℕ) → y < x → get_or edges y false ≡ false

-- the phase says how far the last tick is from the first edge, and there is none exactly where no edge came
abbrev pub PhaseIsOfFirst : Type 0
PhaseIsOfFirst = (period : ℕ) (edges : List Bool)
    → ((x : ℕ) → IsFirstEdge edges x → phase_after period edges ≡ Some ((length edges - 1 - x) % period))
    × (phase_after period edges ≡ None → (x : ℕ) → get_or edges x false ≡ false)
    × (((x : ℕ) → get_or edges x false ≡ false) → phase_after period edges ≡ None)

-- once there is a phase it goes up by one a tick, modulo the period, whether or not an edge comes
abbrev pub NextPhase : Type 0
NextPhase = (period : ℕ) (edges : List Bool) (edge : Bool) (p : ℕ) → 0 < period → phase_after period edges ≡ Some p
    → phase_after period (edges ++ edge ∷ []) ≡ Some ((p + 1) % period)
