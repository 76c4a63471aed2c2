use Rattle.std.proofs.Common.{◌≡◌, ◌++◌, string_bytes, map}
use Rattle.line_model.specs.Rows.{printed_byte}
use Rattle.break_units.proofs.printing.push_printed.Given as goal

abbrev pub invariant-loop-char : goal.invariant-loop-char
invariant-loop-char l =
    string_bytes l.row ++ map printed_byte l.char-iterator.rest.now ≡ string_bytes l.fn.row ++ map printed_byte l.text
