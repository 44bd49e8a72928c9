-- The checks of one record: the first that fails counts (this project's own format).
-- Code: early returns.
use Rattle.std.specs.Prelude.{◌≡◌, ℕ, ◌+◌, ◌==◌, Bool, List, [], ◌∷◌, Option, Some, None, Result, Ok, Err, if◌then◌else◌, option_map}
use Rattle.scenario.specs.declared.cause.Cause.{Cause}
use Rattle.scenario.specs.declared.cause.Cause.TheVariants as cause
use Rattle.scenario.specs.declared.fault.Fault.{Fault}
use Rattle.scenario.specs.declared.fault.RecordFault.{RecordFault}
use Rattle.scenario.specs.declared.fault.RecordFault.TheVariants.{Bad, NoMemory}

-- a fault: the cause, and the place in the record
abbrev pub fault : Cause → ℕ → Fault
fault c a = record { cause = c; at = a }

-- the first fault of these
abbrev pub first : List (Option Fault) → Option Fault
first [] = None
first (None ∷ more) = first more
first (Some f ∷ more) = Some f

-- the fault, where the test fails
abbrev pub unless : Bool → Fault → Option Fault
unless holds f = if holds then None else Some f

-- the first place, from i on, where the test is false
abbrev pub lowest : ℕ → List Bool → Option ℕ
lowest i [] = None
lowest i (b ∷ bs) = if b then lowest (i + 1) bs else Some i

-- what a record is checked for, in this order: how many fields follow the kind, the written form of
-- each, the range of each, and what is special to the kind
pub record Checks : Type 0 where
  pub count : ℕ
  pub forms : List Bool
  pub ranges : List Bool
  pub more : List (Option Fault)

-- the first fault of the count, the forms and the ranges
abbrev pub basic_fault : ℕ → Checks → Option Fault
basic_fault fields c = first (
    unless (fields == c.count + 1) (fault cause.FieldCount fields)
    ∷ option_map (fault cause.Form) (lowest 1 c.forms)
    ∷ option_map (fault cause.Range) (lowest 1 c.ranges)
    ∷ [])

-- the first fault of a record with so many fields
abbrev pub fault_of : ℕ → Checks → Option Fault
fault_of fields c = first (basic_fault fields c ∷ c.more)

-- what was read, where nothing is wrong
abbrev pub or_fault : {X : Type 0} → Option Fault → X → Result X Fault
or_fault None x = Ok x
or_fault (Some f) x = Err f

-- what a reader answers: the value that is due, or what is wrong
abbrev pub ReadOr : {X : Type 0} → Option Fault → X → Result X Fault → Type 0
ReadOr wrong due (Ok x) = (wrong ≡ None) × (x ≡ due)
ReadOr wrong due (Err f) = wrong ≡ Some f

-- the same of a reader that keeps items, and so may want memory
abbrev pub KeptOr : {X : Type 0} → Option Fault → List X → List X → Result (Unit {0}) RecordFault
    → Type 0
KeptOr wrong new due (Ok u) = (wrong ≡ None) × (new ≡ due)
KeptOr wrong new due (Err (Bad f)) = wrong ≡ Some f
KeptOr wrong new due (Err NoMemory) = Unit {0}
