-- The lines of scripts over plain documents: their commands are plain.
use Rattle.std.proofs.Common.{◌≡◌, ℕ, ◌+◌, List, [], ◌∷◌, sym, subst, inl, inr}
use Rattle.std.specs.List.{AllByRecursion as Each}
use Rattle.doc_model.specs.declared.edit.EditOp.{EditOp}
use Rattle.doc_model.specs.declared.edit.EditOp.TheVariants.{InsertText, DeleteRange}
use Rattle.desk_model.specs.declared.script.ScriptCommand.{ScriptCommand}
use Rattle.desk_model.specs.declared.script.ScriptCommand.TheVariants.{Edit}
use Rattle.desk_model.specs.declared.script.Numbered.{Numbered}
use Rattle.desk_model.specs.Script.{IsEditLine, IsGroupOfOne, IsCommandLine, AreCommandsFrom, IsScript}
use Rattle.edit_ops.specs.PlainOps.{IsPlainOp}
use Rattle.script_run.specs.PlainScript.{IsPlainScriptCommand}

-- the commands are all plain
abbrev ArePlain : List Numbered → Type 0
ArePlain commands = Each (λ (numbered : Numbered). IsPlainScriptCommand numbered.command) commands

plain_edit : (line : List ℕ) (op : EditOp) → IsEditLine line op → IsPlainOp op
plain_edit line (InsertText par at text) is = is.5.1
plain_edit line (DeleteRange par from to) is = tt
plain_edit line _ is = absurd is

plain_group : (line : List ℕ) (ops : List EditOp) → IsGroupOfOne line ops → Each IsPlainOp ops
plain_group line [] is = absurd is
plain_group line (op ∷ []) is = (plain_edit line op is, tt)
plain_group line (op ∷ other ∷ ops) is = absurd is

-- a line's command is plain
plain_command : (line : List ℕ) (command : ScriptCommand) → IsCommandLine line command → IsPlainScriptCommand command
plain_command line (Edit group) is = plain_group line group.0 is
plain_command line _ is = tt

plain_commands : (number : ℕ) (lines : List (List ℕ)) (commands : List Numbered) → AreCommandsFrom number lines commands → ArePlain commands
plain_commands number [] commands are = subst ArePlain (sym are) tt
plain_commands number (line ∷ lines) [] are = tt
plain_commands number (line ∷ lines) (command ∷ commands) (inl are) = plain_commands (number + 1) lines (command ∷ commands) are.1
plain_commands number (line ∷ lines) (command ∷ commands) (inr are) =
    (plain_command line command.command are.2, plain_commands (number + 1) lines commands are.3)

-- the commands of a script are plain
pub plain_script : (bytes : List ℕ) (commands : List Numbered) → IsScript bytes commands → ArePlain commands
plain_script bytes commands is = plain_commands 1 _ commands is
