use Rattle.std.proofs.Common.{◌≡◌, take}
use Rattle.desk_model.specs.Desk.{steps}
use Rattle.desk.proofs.desk.Desk.answer.Given as goal

-- The commands so far were answered by the replies so far, and led to the present state.
abbrev pub invariant-commands : goal.invariant-commands
invariant-commands l = steps l.fn.self (take l.command-index l.commands) ≡ (l.replies, l.self)
