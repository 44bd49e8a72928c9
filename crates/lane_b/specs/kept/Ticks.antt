-- What a tick does to a receiver lane that is locked.
-- Code: one step for each state of a lane.
use Rattle.std.specs.Prelude.{◌≡◌, ℕ, ◌-◌, Bool, true, false, List, [], ◌∷◌, ◌++◌, drop, Option, Some}
use Rattle.link_params.specs.declared.fields.Params.{Params}
use Rattle.link_params.specs.declared.fields.Timing.{Timing}
use Rattle.link_params.specs.declared.cells.LaneCell.{LaneCell}
use Rattle.link_params.specs.Lanes.{Entry, Taken, is_inside}
use Rattle.code_8b10b.specs.declared.character.Reading.{Reading}
use Rattle.code_8b10b.specs.Commas.{HasHunted}
use Rattle.lane_b.specs.declared.receiver.Chain.{Chain}
use Rattle.lane_b.specs.declared.receiver.Start.{Start}
use Rattle.lane_b.specs.declared.receiver.Step.{Step}
use Rattle.lane_b.specs.declared.receiver.Step.TheVariants.{Stay, Keep, Drop}
use Rattle.lane_b.specs.kept.Gives.{given, ComesInOrder}
use Rattle.lane_b.specs.Received.{entries_b}
use Rattle.lane_b.specs.kept.Starts.{HasRead, GivesEntry}
use Rattle.lane_b.specs.kept.Receivers.{Receiver, HuntsOn, IsLocked}

-- only the entries that wait change
pub record Keeps (old new : Receiver) : Type 0 where
  pub params : new.params ≡ old.params
  pub timing : new.timing ≡ old.timing
  pub lane : new.lane ≡ old.lane
  pub state : new.state ≡ old.state
  pub depth : new.buffer.depth ≡ old.buffer.depth

-- a started lane read one more, and its entry comes into the buffer where the start is inside the window
abbrev pub StepOf : Step → Bool → Params → List Reading → Reading → Type 0
StepOf Stay inside p since r = inside ≡ false
StepOf (Keep e) inside p since r = (inside ≡ true) × GivesEntry p since r e
StepOf Drop inside p since r = ⊥

pub record Reads (step : Step) (old new : Start) (p : Params) (lane : ℕ) (since : List Reading) (r : Reading) : Type 0 where
  pub offset : new.offset ≡ old.offset
  pub inside : new.inside ≡ old.inside
  pub has_read : HasRead new.lane p lane (since ++ r ∷ [])
  pub step_of : StepOf step new.inside p since r

-- the lane starts with this reading
pub record Begins (step : Step) (old new : Chain) (p : Params) (t : Timing) (lane due : ℕ) (r : Reading) : Type 0 where
  pub start : Start
  pub is : new ≡ record old { start = Some start }
  pub offset : start.offset ≡ due
  pub inside : start.inside ≡ is_inside t start.offset
  pub has_read : HasRead start.lane p lane (r ∷ [])
  pub step_of : StepOf step start.inside p [] r

-- an entry more, given so
pub record HasEntry (e : Option LaneCell) (old new : List Entry) : Type 0 where
  pub entry : Entry
  pub added : new ≡ old ++ entry ∷ []
  pub gives : e ≡ given entry
  pub in_order : ComesInOrder old entry

-- what a tick of a locked lane does
abbrev pub Does : Step → Chain → Params → Timing → ℕ → List Taken → Taken → Type 0
Does Stay new p t lane taken x = IsLocked new p t lane (taken ++ x ∷ []) × (entries_b p t lane (taken ++ x ∷ []) ≡ entries_b p t lane taken)
Does (Keep e) new p t lane taken x = IsLocked new p t lane (taken ++ x ∷ []) × HasEntry e (entries_b p t lane taken) (entries_b p t lane (taken ++ x ∷ []))
Does Drop new p t lane taken x = ((h : List Bool) → HasHunted h (drop (10 - new.chars.rest) x.word) → HuntsOn h (taken ++ x ∷ []))
    × (entries_b p t lane taken ≡ [])
