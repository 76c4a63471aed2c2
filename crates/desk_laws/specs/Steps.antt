-- The desk in steps: what it replies, and the state after.
use Rattle.std.specs.Prelude.{◌≡◌, List}
use Rattle.desk_model.specs.declared.command.Command.{Command}
use Rattle.desk_model.specs.declared.command.Command.TheVariants.{Save}
use Rattle.desk_model.specs.declared.reply.Reply.{Reply}
use Rattle.desk_model.specs.Desk.{State, present, step, steps}

-- the reply to a command
abbrev pub reply_to : State → Command → Reply
reply_to state command = (step state command).0

-- the state after a command
abbrev pub after : State → Command → State
after state command = (step state command).1

-- the state after commands one after another
abbrev pub after_all : State → List Command → State
after_all state commands = (steps state commands).1

-- two states show one document: it is present in both, and both save the same bytes
pub record ShowSame (state other : State) : Type 0 where
  pub document : present other ≡ present state
  pub bytes : reply_to other Save ≡ reply_to state Save
