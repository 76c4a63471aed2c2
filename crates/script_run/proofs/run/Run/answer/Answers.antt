-- The run after a command.
use Rattle.std.proofs.Common.{rules}
use Rattle.script_run.proofs.Jobs.{always}
use Rattle.script_run.proofs.run.Run.answer.Goals as goal
use Rattle.script_run.proofs.run.Run.answer.Goals.{in-Edit+in_ok-reply-in-Edit, in-Undo+in_ok-reply-in-Undo, in-Redo+in_ok-reply-in-Redo, in-Take+in_ok-reply-in-Take, in-Turn+in_ok-reply-in-Turn, in-Page+in_ok-reply-in-Page, in-Text+in_ok-reply-in-Text, in-Save+in_ok-reply-in-Save, in-Debt, in-Version}

pub returns-clause-after : goal.returns-clause-after
returns-clause-after c = always c.push_reply.result (elim c.match-numbered.branch [
  | in-Edit+in_ok-reply-in-Edit w ↦ search rules
  | in-Undo+in_ok-reply-in-Undo w ↦ search rules
  | in-Redo+in_ok-reply-in-Redo w ↦ search rules
  | in-Take+in_ok-reply-in-Take w ↦ search rules
  | in-Turn+in_ok-reply-in-Turn w ↦ search rules
  | in-Page+in_ok-reply-in-Page w ↦ search rules
  | in-Text+in_ok-reply-in-Text w ↦ search rules
  | in-Save+in_ok-reply-in-Save w ↦ search rules
  | in-Debt w ↦ search rules
  | in-Version w ↦ search rules
])
