use Rattle.std.proofs.Common.{◌≡◌, ◌++◌, map, take, chars}
use Rattle.line_model.specs.Rows.{printed_row}
use Rattle.idle_queue.proofs.agenda.push_lines.Given as goal

abbrev pub invariant-lines : goal.invariant-lines
invariant-lines l = l.rows ≡ l.fn.rows ++ map (λ line. chars (printed_row l.key line)) (take l.line-index l.lines)
