-- What files and words come to: the text of a run, or the first stop in the order of work.
use Rattle.std.specs.Prelude.{◌≡◌, ℕ, ◌<◌, ◌≤◌, ◌⊎◌, List, length, Option, None, Some, Result, Ok, Err, IsSomeAnd}
use Rattle.doc_model.specs.declared.document.Document.{Document}
use Rattle.desk_model.specs.declared.script.Numbered.{Numbered}
use Rattle.doc_model.specs.declared.report.Report.{Report}
use Rattle.doc_model.specs.Plain.{IsPlain}
use Rattle.doc_load.specs.declared.offence.Offence.{Offence}
use Rattle.doc_load.specs.Loads.{HasOffence}
use Rattle.file_save.specs.Lines.{report_line}
use Rattle.file_save.specs.Saves.{Saves}
use Rattle.spelling_model.specs.Spelling.{canonical}
use Rattle.desk_model.specs.Script.{IsScript, IsFirstBadLine}
use Rattle.desk_model.specs.Runs.{script_text}
use Rattle.quill_io.specs.Shelf.{Files}
use Rattle.quill_top.specs.Words.{Names, Task, Run, Save, accepted}
use Rattle.quill_top.specs.Stop.{Stop, not_plain, refused, usage, bad_line, absent, too_long}

-- how many bytes of a file are read at most
abbrev pub most_bytes : ℕ
most_bytes = 268435456

-- the text that is put, and the line that tells what was left out of FILE, if something was
pub record Done : Type 0 where
  pub text : List ℕ
  pub report : Option (List ℕ)

-- what is put, or why there is nothing
abbrev pub Outcome : Type 0
Outcome = Result Done Stop

-- the bytes of the file of this name, or that it is absent or too long
abbrev pub IsFetched : Files → List ℕ → Result (List ℕ) Stop → Type 0
IsFetched at name (Ok bytes) = (at name ≡ Some bytes) × (length bytes ≤ most_bytes)
IsFetched at name (Err stop) =
    ((at name ≡ None) × (stop ≡ absent name))
    ⊎ (IsSomeAnd (at name) (λ bytes. most_bytes < length bytes) × (stop ≡ too_long name))

-- the plain document whose canonical bytes the file has, or why there is none
abbrev pub IsLoaded : Files → List ℕ → Result Document Stop → Type 0
IsLoaded at name (Ok doc) = IsPlain doc × IsFetched at name (Ok (canonical doc))
IsLoaded at name (Err stop) =
    IsFetched at name (Err stop)
    ⊎ ((bytes : List ℕ) × IsFetched at name (Ok bytes) × ((doc : Document) → IsPlain doc → canonical doc ≡ bytes → ⊥) × (stop ≡ not_plain))

-- the commands of the script in the file, or why there are none
abbrev pub IsRead : Files → List ℕ → Result (List Numbered) Stop → Type 0
IsRead at name (Ok commands) = (bytes : List ℕ) × IsFetched at name (Ok bytes) × IsScript bytes commands
IsRead at name (Err stop) =
    IsFetched at name (Err stop)
    ⊎ ((bytes : List ℕ) × (number : ℕ) × IsFetched at name (Ok bytes) × IsFirstBadLine bytes number × (stop ≡ bad_line number))

-- the text of SCRIPT over the document of FILE, or the first stop: FILE is loaded first, and SCRIPT read after it
abbrev pub IsRun : Files → Names → Outcome → Type 0
IsRun at names (Ok done) =
    (doc : Document) × (commands : List Numbered)
    × IsLoaded at names.file (Ok doc) × IsRead at names.script (Ok commands) × (done ≡ record { text = script_text doc commands; report = None })
IsRun at names (Err stop) =
    IsLoaded at names.file (Err stop)
    ⊎ ((doc : Document) × IsLoaded at names.file (Ok doc) × IsRead at names.script (Err stop))

-- the canonical bytes of the document that bytes are loaded as, with the line of its report, or why there are none
abbrev pub IsSaved : List ℕ → Outcome → Type 0
IsSaved bytes (Ok done) = (report : Report) × Saves bytes done.text report × (done.report ≡ report_line report)
IsSaved bytes (Err stop) = (offence : Offence) × HasOffence bytes offence × (stop ≡ refused offence)

-- the same of FILE
abbrev pub IsSave : Files → List ℕ → Outcome → Type 0
IsSave at file (Ok done) = (bytes : List ℕ) × IsFetched at file (Ok bytes) × IsSaved bytes (Ok done)
IsSave at file (Err stop) = IsFetched at file (Err stop) ⊎ ((bytes : List ℕ) × IsFetched at file (Ok bytes) × IsSaved bytes (Err stop))

-- what files come to for what words ask for, or for words that aren't accepted
abbrev pub IsOutcomeOf : Files → Option Task → Outcome → Type 0
IsOutcomeOf at None outcome = outcome ≡ Err usage
IsOutcomeOf at (Some (Run names)) outcome = IsRun at names outcome
IsOutcomeOf at (Some (Save file)) outcome = IsSave at file outcome

-- what files and words come to
abbrev pub IsOutcome : Files → List (List ℕ) → Outcome → Type 0
IsOutcome at words outcome = IsOutcomeOf at (accepted words) outcome
