-- What is saved, or why nothing is, is the one thing that the bytes come to.
use Rattle.std.proofs.Common.{◌≡◌, ◌⊎◌, Err, sym, subst}
use Rattle.doc_load.specs.declared.offence.Offence.{Offence}
use Rattle.quill_top.specs.Answer.{Only}
use Rattle.quill_top.specs.Outcome.{IsSaved}
use Rattle.quill_top.specs.Stop.{Stop, no_memory, refused}
use Rattle.quill_top.proofs.Saved.{saved, faulted}
use Rattle.quill_top.proofs.tasks.save_bytes.Goals as goal

pub returns-in-Err-clause-stops : goal.returns-in-Err-clause-stops
returns-in-Err-clause-stops c =
    subst (λ (stop : Stop). (stop ≡ no_memory) ⊎ (((offence : Offence) × (stop ≡ refused offence)) × Only (IsSaved c.args.bytes.now) (Err stop))) (sym c.load_ending.ensures)
    (faulted c.args.bytes.now c.in-Err.fault c.in-Err.ensures.offence c.in-Err.ensures.only c.in-Err.ensures.told)

pub returns-in-Ok-report_line-clause-found : goal.returns-in-Ok-report_line-clause-found
returns-in-Ok-report_line-clause-found c =
    saved c.args.bytes.now c.in-Ok.saved.text c.in-Ok.saved.report _ c.in-Ok.ensures.saved c.in-Ok-report_line.ensures c.in-Ok.ensures.only c.in-Ok.ensures.told
