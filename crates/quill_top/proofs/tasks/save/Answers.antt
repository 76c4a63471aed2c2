-- What a save finds, or stops by, is what its file comes to.
use Rattle.std.proofs.Common.{◌≡◌, ℕ, ◌⊎◌, List, Ok, Err, subst}
use Rattle.doc_load.specs.declared.offence.Offence.{Offence}
use Rattle.quill_top.specs.Answer.{Only}
use Rattle.quill_top.specs.Ending.{stop_of}
use Rattle.quill_top.specs.Made.{done_of}
use Rattle.quill_top.specs.Outcome.{IsSaved}
use Rattle.quill_top.specs.Stop.{no_memory, refused}
use Rattle.quill_top.proofs.Found.{save}
use Rattle.quill_top.proofs.Stops.{stop_unsaved, stop_offence}
use Rattle.quill_top.proofs.tasks.save.Goals as goal

pub returns-in-Err-clause-stops : goal.returns-in-Err-clause-stops
returns-in-Err-clause-stops g c = stop_unsaved _ c.args.file.now (stop_of c.in-Err.ending) c.in-Err.ensures.stops

pub returns-in-Ok-save_bytes-clause-found : goal.returns-in-Ok-save_bytes-clause-found
returns-in-Ok-save_bytes-clause-found g c = λ at told.
    let done = done_of c.in-Ok-save_bytes.made in
    save at c.args.file.now c.in-Ok.bytes.items (Ok done) (c.in-Ok.ensures.found at told)
    (subst (λ (bytes : List ℕ). Only (IsSaved bytes) (Ok done)) c.deref.ensures.value c.in-Ok-save_bytes.ensures.found)

pub returns-clause-stops : goal.returns-clause-stops
returns-clause-stops g c =
    let stop = stop_of c.in-Err-save_bytes.ending in
    stop_offence _ c.args.file.now c.in-Ok.bytes.items stop c.in-Ok.ensures.found
    (subst (λ (bytes : List ℕ). (stop ≡ no_memory) ⊎ (((offence : Offence) × (stop ≡ refused offence)) × Only (IsSaved bytes) (Err stop))) c.deref.ensures.value c.in-Err-save_bytes.ensures.stops)
