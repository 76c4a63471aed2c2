-- Why no script is read.
use Rattle.std.specs.Prelude.{ℕ}
use Rattle.script_lang.specs.declared.script.ScriptFault.{ScriptFault}
use Rattle.script_lang.specs.declared.script.ScriptFault.TheVariants.{BadLine, NoMemory}

-- a fact about the number of the bad line, if the fault is one
abbrev pub OnBadLine : (ℕ → Type 0) → ScriptFault → Type 0
OnBadLine fact (BadLine number) = fact number
OnBadLine fact NoMemory = Unit {0}
