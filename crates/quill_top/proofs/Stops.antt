-- What a run stops by is a fault, or what the words or the files are.
use Rattle.std.proofs.Common.{◌≡◌, ℕ, ◌⊎◌, List, Option, Some, None, Ok, Err, IsSomeAnd, refl, sym, ◌∙◌, subst, inl, inr}
use Rattle.doc_model.specs.declared.document.Document.{Document}
use Rattle.desk_model.specs.declared.script.Numbered.{Numbered}
use Rattle.desk_model.specs.Runs.{script_text}
use Rattle.quill_io.specs.Shelf.{Files}
use Rattle.doc_load.specs.declared.offence.Offence.{Offence}
use Rattle.quill_top.specs.Words.{Names, Task, Run, Save, accepted}
use Rattle.quill_top.specs.Stop.{Stop, no_memory, not_plain, refused, usage, bad_line}
use Rattle.quill_top.specs.Outcome.{IsFetched, IsLoaded, IsRead, IsSaved, IsOutcome, IsOutcomeOf}
use Rattle.quill_top.specs.Answer.{Only, IsFileRefusal, IsNamedBy, IsStop}
use Rattle.quill_top.specs.Ending.{IsFaultAt, IsTaskStop, IsUnread, Finds}
use Rattle.quill_top.proofs.Found.{unloaded, unread, unsaved, run, run_unloaded, run_unread, save, outcome, outcome_usage}

-- a file that isn't fetched isn't loaded
pub stop_loading : (files : Option Files) (name : List ℕ) (stop : Stop)
    → IsFaultAt name stop ⊎ (IsUnread name stop × Finds files (λ at. IsFetched at name) (Err stop))
    → IsFaultAt name stop ⊎ ((IsUnread name stop ⊎ (stop ≡ not_plain)) × Finds files (λ at. IsLoaded at name) (Err stop))
stop_loading files name stop (inl fault) = inl fault
stop_loading files name stop (inr (why, found)) = inr (inl why, λ at told. unloaded at name stop (found at told))

-- a file that isn't fetched isn't read
pub stop_reading : (files : Option Files) (name : List ℕ) (stop : Stop)
    → IsFaultAt name stop ⊎ (IsUnread name stop × Finds files (λ at. IsFetched at name) (Err stop))
    → IsFaultAt name stop ⊎ ((IsUnread name stop ⊎ ((number : ℕ) × (stop ≡ bad_line number))) × Finds files (λ at. IsRead at name) (Err stop))
stop_reading files name stop (inl fault) = inl fault
stop_reading files name stop (inr (why, found)) = inr (inl why, λ at told. unread at name stop (found at told))

-- words that aren't accepted
pub stop_usage : (files : Option Files) (words : List (List ℕ)) → accepted words ≡ None → IsStop files words usage
stop_usage files words e = inr (inl (e, refl), λ at told. outcome_usage at words e)

-- what words ask for isn't done
pub stop_task : (files : Option Files) (words : List (List ℕ)) (task : Task) (stop : Stop) → accepted words ≡ Some task → IsTaskStop files task stop → IsStop files words stop
stop_task files words task stop e (inl (name, named, inl fault)) =
    inl (inl (name, subst (λ (asked : Option Task). IsSomeAnd asked (λ (one : Task). IsNamedBy one name)) (sym e) named, fault))
stop_task files words task stop e (inl (name, named, inr memory)) = inl (inr (inr memory))
stop_task files words task stop e (inr (why, found)) = inr (
  inr (subst (λ (asked : Option Task). IsSomeAnd asked (λ (one : Task). IsFileRefusal one stop)) (sym e) why),
  λ at told. outcome at words task (Err stop) e (found at told),
)

-- FILE of a run isn't loaded
pub stop_unloaded : (files : Option Files) (names : Names) (stop : Stop)
    → IsFaultAt names.file stop ⊎ ((IsUnread names.file stop ⊎ (stop ≡ not_plain)) × Finds files (λ at. IsLoaded at names.file) (Err stop))
    → IsTaskStop files (Run names) stop
stop_unloaded files names stop (inl fault) = inl (names.file, inl refl, fault)
stop_unloaded files names stop (inr (why, found)) = inr (refusal why, λ at told. run_unloaded at names stop (found at told)) where
  refusal : IsUnread names.file stop ⊎ (stop ≡ not_plain) → IsFileRefusal (Run names) stop
  refusal (inl is) = inr (inr (inr (names.file, inl refl, is)))
  refusal (inr is) = inl is

-- FILE is loaded, and SCRIPT isn't read
pub stop_unread : (files later : Option Files) (names : Names) (doc : Document) (stop : Stop) → later ≡ files → Finds files (λ at. IsLoaded at names.file) (Ok doc)
    → IsFaultAt names.script stop ⊎ ((IsUnread names.script stop ⊎ ((number : ℕ) × (stop ≡ bad_line number))) × Finds later (λ at. IsRead at names.script) (Err stop))
    → IsTaskStop files (Run names) stop
stop_unread files later names doc stop kept loaded (inl fault) = inl (names.script, inr refl, fault)
stop_unread files later names doc stop kept loaded (inr (why, found)) = inr (refusal why, λ at told. run_unread at names doc stop (loaded at told) (found at (kept ∙ told))) where
  refusal : IsUnread names.script stop ⊎ ((number : ℕ) × (stop ≡ bad_line number)) → IsFileRefusal (Run names) stop
  refusal (inl is) = inr (inr (inr (names.script, inr refl, is)))
  refusal (inr is) = inr (inr (inl is))

-- the text of a run is found
pub run_found : (files later : Option Files) (names : Names) (doc : Document) (commands : List Numbered) (text : List ℕ)
    → later ≡ files → Finds files (λ at. IsLoaded at names.file) (Ok doc) → Finds later (λ at. IsRead at names.script) (Ok commands)
    → text ≡ script_text doc commands → Finds files (λ at. IsOutcomeOf at (Some (Run names))) (Ok (record { text = text; report = None }))
run_found files later names doc commands text kept loaded read made = λ at told.
    subst (λ (t : List ℕ). Only (IsOutcomeOf at (Some (Run names))) (Ok (record { text = t; report = None }))) (sym made) (run at names doc commands (loaded at told) (read at (kept ∙ told)))

-- FILE isn't fetched
pub stop_unsaved : (files : Option Files) (file : List ℕ) (stop : Stop)
    → IsFaultAt file stop ⊎ (IsUnread file stop × Finds files (λ at. IsFetched at file) (Err stop)) → IsTaskStop files (Save file) stop
stop_unsaved files file stop (inl fault) = inl (file, refl, fault)
stop_unsaved files file stop (inr (why, found)) = inr (inr (inr (inr (file, refl, why))), λ at told. unsaved at file stop (found at told))

-- FILE is fetched, and its bytes have an offence
pub stop_offence : (files : Option Files) (file bytes : List ℕ) (stop : Stop) → Finds files (λ at. IsFetched at file) (Ok bytes)
    → (stop ≡ no_memory) ⊎ (((offence : Offence) × (stop ≡ refused offence)) × Only (IsSaved bytes) (Err stop)) → IsTaskStop files (Save file) stop
stop_offence files file bytes stop fetched (inl memory) = inl (file, refl, inr memory)
stop_offence files file bytes stop fetched (inr (why, saved)) = inr (inr (inl why), λ at told. save at file bytes (Err stop) (fetched at told) saved)
