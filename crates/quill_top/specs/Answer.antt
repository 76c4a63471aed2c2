-- How a run answers an outcome: by its status, and by what it puts.
use Rattle.std.specs.Prelude.{◌≡◌, ℕ, ◌⊎◌, List, take, Option, None, Some, Ok, Err, IsSomeAnd}
use Rattle.std.specs.Option.{ForSome}
use Rattle.std.specs.Io.KnownBytes.{Appends}
use Rattle.quill_io.specs.Faults.{Rose}
use Rattle.quill_io.specs.Shelf.{Files}
use Rattle.doc_load.specs.declared.offence.Offence.{Offence}
use Rattle.quill_top.specs.Words.{Task, Run, Save, accepted}
use Rattle.quill_top.specs.Stop.{Stop, not_plain, refused, usage, bad_line, absent, shelf_fault, output_fault, no_memory, too_long}
use Rattle.quill_top.specs.Outcome.{Outcome, IsOutcome}

-- the relation holds of this value, and of no other
abbrev pub Only : {A : Type 0} → (A → Type 0) → A → Type 0
Only {A} Holds value = Holds value × ((other : A) → Holds other → other ≡ value)

-- the statuses that may come whatever the files are: a fault of the shelf, and want of memory
abbrev pub IsFault : ℕ → Type 0
IsFault status = (status ≡ 5) ⊎ (status ≡ 7)

-- the status of an outcome: for a text 0, or 6 where it could not be put; for a stop its own
abbrev pub HasStatus : Outcome → ℕ → Type 0
HasStatus (Ok done) status = (status ≡ 0) ⊎ (status ≡ 6)
HasStatus (Err stop) status = status ≡ stop.status

-- FILE or SCRIPT has this name
abbrev pub IsNamedBy : Task → List ℕ → Type 0
IsNamedBy (Run names) name = (name ≡ names.file) ⊎ (name ≡ names.script)
IsNamedBy (Save file) name = name ≡ file

abbrev pub IsNamed : List (List ℕ) → List ℕ → Type 0
IsNamed words name = IsSomeAnd (accepted words) (λ task. IsNamedBy task name)

-- a stop for another cause than what the files are: a fault of the shelf at one of the two, a fault of the output, want of memory
abbrev pub IsFaultStop : List (List ℕ) → Stop → Type 0
IsFaultStop words stop = ((name : List ℕ) × IsNamed words name × (stop ≡ shelf_fault name)) ⊎ (stop ≡ output_fault) ⊎ (stop ≡ no_memory)

-- a stop for what the files of a task are
abbrev pub IsFileRefusal : Task → Stop → Type 0
IsFileRefusal task stop =
    (stop ≡ not_plain) ⊎ ((offence : Offence) × (stop ≡ refused offence)) ⊎ ((number : ℕ) × (stop ≡ bad_line number))
    ⊎ ((name : List ℕ) × IsNamedBy task name × ((stop ≡ absent name) ⊎ (stop ≡ too_long name)))

-- a stop for what the words or the files are
abbrev pub IsRefusal : List (List ℕ) → Stop → Type 0
IsRefusal words stop = ((accepted words ≡ None) × (stop ≡ usage)) ⊎ IsSomeAnd (accepted words) (λ task. IsFileRefusal task stop)

-- a stop that a run may make: by a fault, or the outcome of the files where they are told
abbrev pub IsStop : Option Files → List (List ℕ) → Stop → Type 0
IsStop files words stop = IsFaultStop words stop ⊎ (IsRefusal words stop × ForSome files (λ at. Only (IsOutcome at words) (Err stop)))

-- a line was put: all of it, or a prefix while the count of faults rose
abbrev pub Tells : List ℕ → Option (List ℕ) → Option (List ℕ) → ℕ → ℕ → Type 0
Tells line old new before now = Appends old new line ⊎ (Rose before now × ((taken : ℕ) × Appends old new (take taken line)))

-- a line was put so, if there is one
abbrev pub Reports : Option (List ℕ) → Option (List ℕ) → Option (List ℕ) → ℕ → ℕ → Type 0
Reports None old new before now = new ≡ old
Reports (Some line) old new before now = Tells line old new before now
