-- The commands to plain documents.
use Rattle.std.specs.List.{AllByRecursion as Each}
use Rattle.desk_model.specs.declared.command.Command.{Command}
use Rattle.desk_model.specs.declared.command.Command.TheVariants.{Edit}
use Rattle.edit_ops.specs.PlainOps.{IsPlainOp}

-- a command whose edits, if it has any, are plain
abbrev pub IsPlainCommand : Command → Type 0
IsPlainCommand (Edit group) = Each IsPlainOp group.0
IsPlainCommand _ = Unit {0}
