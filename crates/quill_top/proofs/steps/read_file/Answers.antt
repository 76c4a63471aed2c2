-- What isn't read was not fetched, or has a bad line.
use Rattle.std.proofs.Common.{ℕ, List, refl, sym, subst, inr}
use Rattle.desk_model.specs.Script.{IsScript, IsFirstBadLine}
use Rattle.quill_top.specs.Ending.{stop_of}
use Rattle.script_run.proofs.Lines.{plain_script}
use Rattle.quill_top.proofs.Found.{read, bad}
use Rattle.quill_top.proofs.Stops.{stop_reading}
use Rattle.quill_top.proofs.steps.read_file.Goals as goal

pub returns-in-Err-clause-stops : goal.returns-in-Err-clause-stops
returns-in-Err-clause-stops g c = stop_reading _ c.args.name.now (stop_of c.in-Err.ending) c.in-Err.ensures.stops

pub returns-in-Ok-read_script-clause-found : goal.returns-in-Ok-read_script-clause-found
returns-in-Ok-read_script-clause-found g c = λ at told.
    let same = c.deref.ensures.value in
    let script = subst (λ (bytes : List ℕ). IsScript bytes c.in-Ok-read_script.script) same c.in-Ok-read_script.ensures.found in
    read at c.args.name.now c.in-Ok.bytes.items c.in-Ok-read_script.script (c.in-Ok.ensures.found at told) script
    (λ other is. c.in-Ok-read_script.ensures.only other (subst (λ (bytes : List ℕ). IsScript bytes other) (sym same) is))

pub returns-in-Ok-read_script-clause-plain : goal.returns-in-Ok-read_script-clause-plain
returns-in-Ok-read_script-clause-plain g c = plain_script c.deref.result.now c.in-Ok-read_script.script c.in-Ok-read_script.ensures.found

pub returns-in-Err-BadLine-clause-stops : goal.returns-in-Err-BadLine-clause-stops
returns-in-Err-BadLine-clause-stops g c =
    let number = c.in-Err-BadLine.number in
    let first = rw c.in-Err-BadLine.field-0-is at c.in-Err-BadLine.ensures.bad in
    let here = subst (λ (bytes : List ℕ). IsFirstBadLine bytes number) c.deref.ensures.value first in
    inr (inr (number, refl), λ at told. bad at c.args.name.now c.in-Ok.bytes.items number (c.in-Ok.ensures.found at told) here)
