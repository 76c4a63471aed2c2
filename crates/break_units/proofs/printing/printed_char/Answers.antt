use Rattle.std.proofs.Common.{sym}
use Rattle.break_units.proofs.Printed.{printed-encode_utf8}
use Rattle.break_units.proofs.printing.printed_char.Goals as goal

pub returns-else-char-eq9 : goal.returns-else-char-eq9
returns-else-char-eq9 c = sym (printed-encode_utf8 c.args.char c.if-char-eq9.false)
