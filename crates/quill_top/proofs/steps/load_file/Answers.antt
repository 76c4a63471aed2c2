-- What isn't loaded was not fetched, or is no plain document.
use Rattle.std.proofs.Common.{refl, sym, ◌∙◌, inr}
use Rattle.quill_top.specs.Ending.{stop_of}
use Rattle.quill_top.proofs.Found.{refused}
use Rattle.quill_top.proofs.Stops.{stop_loading}
use Rattle.quill_top.proofs.steps.load_file.Goals as goal

pub returns-in-Err-clause-stops : goal.returns-in-Err-clause-stops
returns-in-Err-clause-stops g c = stop_loading _ c.args.name.now (stop_of c.in-Err.ending) c.in-Err.ensures.stops

pub returns-in-Err-NotPlain-clause-stops : goal.returns-in-Err-NotPlain-clause-stops
returns-in-Err-NotPlain-clause-stops g c =
    let only = c.in-Err-NotPlain.ensures.only c.in-Err-NotPlain.field-0-is in
    inr (inr refl, λ at told. refused at c.args.name.now c.in-Ok.bytes.items (c.in-Ok.ensures.found at told) (λ doc plain e. only doc plain (e ∙ sym c.deref.ensures.value)))
