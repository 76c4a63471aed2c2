-- The commands of scripts over plain documents.
use Rattle.std.specs.List.{AllByRecursion as Each}
use Rattle.desk_model.specs.declared.script.ScriptCommand.{ScriptCommand}
use Rattle.desk_model.specs.declared.script.ScriptCommand.TheVariants.{Edit}
use Rattle.edit_ops.specs.PlainOps.{IsPlainOp}

-- a command whose edits, if it has any, are plain
abbrev pub IsPlainScriptCommand : ScriptCommand → Type 0
IsPlainScriptCommand (Edit group) = Each IsPlainOp group.0
IsPlainScriptCommand _ = Unit {0}
