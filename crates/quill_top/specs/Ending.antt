-- The stop of each ending, and what the steps of a run may stop by.
use Rattle.std.specs.Prelude.{◌≡◌, ℕ, ◌⊎◌, List, Option, Some, Result, Err}
use Rattle.std.specs.Option.{ForSome}
use Rattle.quill_io.specs.Shelf.{Files}
use Rattle.quill_top.specs.declared.ending.Ending.{Ending}
use Rattle.quill_top.specs.declared.ending.Ending.TheVariants.{Usage, NotPlain, Refused, BadLine, Absent, ShelfFault, OutputFault, NoMemory, TooLong}
use Rattle.quill_top.specs.Stop.{Stop, not_plain, refused, usage, bad_line, absent, shelf_fault, output_fault, no_memory, too_long}
use Rattle.doc_load.specs.declared.offence.LoadFault.{LoadFault}
use Rattle.doc_load.specs.declared.offence.LoadFault.TheVariants as fault
use Rattle.quill_top.specs.Words.{Task}
use Rattle.quill_top.specs.Outcome.{Outcome, IsOutcomeOf}
use Rattle.quill_top.specs.Answer.{Only, IsNamedBy, IsFileRefusal, Tells}

-- the status and line of an ending
abbrev pub stop_of : Ending → Stop
stop_of Usage = usage
stop_of NotPlain = not_plain
stop_of (Refused offence) = refused offence
stop_of (BadLine number) = bad_line number
stop_of (Absent name) = absent name.now
stop_of (ShelfFault name) = shelf_fault name.now
stop_of OutputFault = output_fault
stop_of NoMemory = no_memory
stop_of (TooLong name) = too_long name.now

-- a stop is told: its status is answered and its line put, or those of want of memory
abbrev pub IsTold : Stop → ℕ → Option (List ℕ) → Option (List ℕ) → ℕ → ℕ → Type 0
IsTold stop status old new before now = ((status ≡ stop.status) × Tells stop.line old new before now) ⊎ ((status ≡ 7) × Tells no_memory.line old new before now)

-- a stop by a fault: of the shelf at the file of this name, or want of memory
abbrev pub IsFaultAt : List ℕ → Stop → Type 0
IsFaultAt name stop = (stop ≡ shelf_fault name) ⊎ (stop ≡ no_memory)

-- a stop for what is under a name: no file, or one that is too long
abbrev pub IsUnread : List ℕ → Stop → Type 0
IsUnread name stop = (stop ≡ absent name) ⊎ (stop ≡ too_long name)

-- what a step finds in files: the one result of the relation, where they are told
abbrev pub Finds : {A : Type 0} → Option Files → (Files → Result A Stop → Type 0) → Result A Stop → Type 0
Finds files Is result = ForSome files (λ at. Only (Is at) result)

-- a task stops by a fault at one of its files, or for what they are
abbrev pub IsTaskStop : Option Files → Task → Stop → Type 0
IsTaskStop files task stop =
    ((name : List ℕ) × IsNamedBy task name × IsFaultAt name stop)
    ⊎ (IsFileRefusal task stop × Finds files (λ at. IsOutcomeOf at (Some task)) (Err stop))

-- the stop of a file that isn't loaded
abbrev pub fault_stop : LoadFault → Stop
fault_stop (fault.Offence offence) = refused offence
fault_stop fault.NoMemory = no_memory
