-- What is printed, and what the commands that are left will print, is the text of the script.
use Rattle.std.proofs.Common.{◌≡◌, ◌++◌, drop}
use Rattle.desk_model.specs.Runs.{printed, script_text}
use Rattle.script_run.proofs.run.run_script.Given as goal

abbrev pub invariant-commands : goal.invariant-commands
invariant-commands l = l.text.items ++ printed l.run (drop l.numbered-index l.commands) ≡ script_text l.fn.doc l.commands
