use Rattle.std.proofs.Common.{◌≡◌, ◌++◌, string_bytes, replicate}
use Rattle.break_units.proofs.printing.push_spaces.Given as goal

abbrev pub invariant-loop : goal.invariant-loop
invariant-loop l = string_bytes l.row ≡ string_bytes l.fn.row ++ replicate l.counter 0x20
