-- What reading comes to where memory may be refused.
use Rattle.std.specs.Prelude.{List, ℕ, Option, Some, None, Result, Ok, Err}
use Rattle.markup_parts.specs.Outcomes.{Construct, Outcome, Found, Stopped, Reads}
use Rattle.markup_tags.specs.declared.fault.Fault.{Fault}
use Rattle.markup_tags.specs.declared.fault.Fault.TheVariants as fault

-- an outcome is right for a text; without memory there is none
abbrev pub ReadsUnlessMemory : {V : Type 0} → Construct V → List ℕ → Option (Outcome V) → Type 0
ReadsUnlessMemory Is text (Some o) = Reads Is text o
ReadsUnlessMemory Is text None = Unit {0}

-- the outcome that a fault tells, if it tells one
abbrev pub fault_outcome : {V : Type 0} → Fault → Option (Outcome V)
fault_outcome (fault.Stopped stop) = Some (Stopped stop)
fault_outcome fault.NoMemory = None

-- the outcome of a function's result, by the value and the text after it that are seen in it
abbrev pub attempt : {X V : Type 0} → (X → V) → (X → List ℕ) → Result X Fault → Option (Outcome V)
attempt value after (Ok x) = Some (Found (value x) (after x))
attempt value after (Err e) = fault_outcome e
