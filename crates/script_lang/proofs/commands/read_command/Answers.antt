use Rattle.std.proofs.Common.{Option, subst}
use Rattle.doc_model.specs.declared.edit.EditOp.{EditOp}
use Rattle.desk_model.specs.declared.script.ScriptCommand.{ScriptCommand}
use Rattle.desk_model.specs.Script.{IsEditLine}
use Rattle.script_lang.specs.Parts.{Finds, IsNameCommand}
use Rattle.script_lang.proofs.CommandLemmas.{no_command}
use Rattle.script_lang.proofs.commands.read_command.Goals as goal

pub returns-in-None : goal.returns-in-None
returns-in-None c =
    let line = c.args.line.now in
    no_command line c.in_default.ensures c.in_default-number_command.ensures
    (subst (λ (found : Option ScriptCommand). Finds (IsNameCommand line) found) c.in_default-2.is c.in_ok-command.ensures)
    (subst (λ (found : Option EditOp). Finds (IsEditLine line) found) c.in-None.is c.in_ok-edit.ensures)
