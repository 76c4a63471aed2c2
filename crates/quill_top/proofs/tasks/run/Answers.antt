-- What a run finds, or stops by, is what its files come to.
use Rattle.std.proofs.Common.{refl, ap, ◌∙◌, inl, inr}
use Rattle.desk_model.specs.Runs.{script_text}
use Rattle.quill_top.specs.Words.{Names}
use Rattle.quill_top.specs.Ending.{stop_of}
use Rattle.quill_top.proofs.Stops.{stop_unloaded, stop_unread, run_found}
use Rattle.quill_top.proofs.tasks.run.Goals as goal

pub returns-in-Err-clause-stops : goal.returns-in-Err-clause-stops
returns-in-Err-clause-stops g c =
    let names : Names = record { file = c.args.names.file.now; script = c.args.names.script.now } in
    stop_unloaded _ names (stop_of c.in-Err.ending) c.in-Err.ensures.stops

pub returns-in-Err-read_file-clause-stops : goal.returns-in-Err-read_file-clause-stops
returns-in-Err-read_file-clause-stops g c =
    let names : Names = record { file = c.args.names.file.now; script = c.args.names.script.now } in
    stop_unread _ _ names c.in-Ok.doc (stop_of c.in-Err-read_file.ending) c.in-Ok.ensures.keeps_files c.in-Ok.ensures.found c.in-Err-read_file.ensures.stops

pub returns-in-Ok-run_script-clause-found : goal.returns-in-Ok-run_script-clause-found
returns-in-Ok-run_script-clause-found g c =
    let names : Names = record { file = c.args.names.file.now; script = c.args.names.script.now } in
    run_found _ _ names c.in-Ok.doc c.in-Ok-read_file.script c.from_list.result c.in-Ok.ensures.keeps_files c.in-Ok.ensures.found c.in-Ok-read_file.ensures.found
    (c.from_list.ensures ∙ c.in-Ok-run_script.ensures ∙ ap (script_text c.in-Ok.doc) c.get.ensures)

pub returns-clause-stops : goal.returns-clause-stops
returns-clause-stops g c = inl (c.args.names.file.now, inl refl, inr refl)
