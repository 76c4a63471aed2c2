use Rattle.std.proofs.Common.{◌+◌, ◌≤◌, length}
use Rattle.std.specs.Str.Lines.{lines}
use Rattle.script_lang.proofs.ScriptLemmas.{HasRead}
use Rattle.script_lang.proofs.script.read_script.Given as goal

-- the lines before the rest are read, and there are no more of them than bytes
abbrev pub invariant-lines : goal.invariant-lines
invariant-lines l = HasRead (lines l.bytes) (lines l.rest) l.number l.commands × (l.number + length l.rest ≤ length l.bytes)

abbrev pub decreases-lines : goal.decreases-lines
decreases-lines l = length l.rest
