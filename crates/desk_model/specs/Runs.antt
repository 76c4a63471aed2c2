-- What a script prints: the replies of the desk to its commands, one after another.
use Rattle.std.specs.Prelude.{ℕ, ◌+◌, ◌==◌, if◌then◌else◌, List, [], ◌∷◌, ◌++◌, Option, Some, None, zero, suc}
use Rattle.std.specs.Map.{lookup}
use Rattle.std.specs.Str.{bytes_eq}
use Rattle.doc_model.specs.declared.document.Document.{Document}
use Rattle.line_model.specs.declared.job.Job.{Job}
use Rattle.desk_model.specs.declared.command.Command.{Command}
use Rattle.desk_model.specs.declared.command.Command.TheVariants as desk
use Rattle.desk_model.specs.declared.reply.Reply.{Reply}
use Rattle.desk_model.specs.declared.reply.Reply.TheVariants as reply
use Rattle.desk_model.specs.declared.script.ScriptCommand.{ScriptCommand}
use Rattle.desk_model.specs.declared.script.ScriptCommand.TheVariants as script
use Rattle.desk_model.specs.declared.script.Numbered.{Numbered}
use Rattle.desk_model.specs.Desk.{State, start_at, step}
use Rattle.desk_model.specs.Replies.{reply_words, no_job_words, settled_words, numbered_words}

-- a desk with the jobs that are kept under names, each name once
pub record Run : Type 0 where
  pub state : State
  pub jobs : List (List ℕ × Job)

-- the job that is kept under a name
abbrev pub job_under : List ℕ → List (List ℕ × Job) → Option Job
job_under name jobs = lookup (bytes_eq name) jobs

-- the jobs with one put under a name: in the place of the one that was there, else as the last
abbrev pub with_job : List ℕ → Job → List (List ℕ × Job) → List (List ℕ × Job)
with_job name job [] = (name, job) ∷ []
with_job name job (kept ∷ more) = if bytes_eq name kept.0 then (kept.0, job) ∷ more else kept ∷ with_job name job more

-- the jobs after a reply to a take for a name
abbrev pub with_reply : List ℕ → Reply → List (List ℕ × Job) → List (List ℕ × Job)
with_reply name (reply.Job job) jobs = with_job name job jobs
with_reply name _ jobs = jobs

-- a turn: a take, and, where it is answered by a job, the publish of its lines
abbrev pub turn : State → Reply × State
turn state = of_take (step state desk.Take) where
  of_take : Reply × State → Reply × State
  of_take (reply.Job job, taken) = step taken (desk.Publish job)
  of_take other = other

-- turns until no debt is left, at most so many: their number, and the state after them
abbrev pub turns : ℕ → State → ℕ × State
turns zero state = (0, state)
turns (suc most) state =
    if state.idle.debt == 0 then (0, state) else ((turns most (turn state).1).0 + 1, (turns most (turn state).1).1)

-- turns until no debt is left. Each lowers the debt, so there are at most as many as the debt tells
abbrev pub settle : State → ℕ × State
settle state = turns state.idle.debt state

-- the words that a command of the desk is answered with, and the run after it
abbrev pub of_desk : Run → Command → List ℕ × Run
of_desk run command = (reply_words (step run.state command).0, record run { state = (step run.state command).1 })

-- the words that a command of a script is answered with, and the run after it
abbrev pub after_command : Run → ScriptCommand → List ℕ × Run
after_command run (script.Edit group) = of_desk run (desk.Edit group)
after_command run script.Undo = of_desk run desk.Undo
after_command run script.Redo = of_desk run desk.Redo
after_command run (script.Take name) =
    (reply_words (step run.state desk.Take).0, record { state = (step run.state desk.Take).1; jobs = with_reply name (step run.state desk.Take).0 run.jobs })
after_command run (script.Publish name) = of_job (job_under name run.jobs) where
  of_job : Option Job → List ℕ × Run
  of_job None = (no_job_words, run)
  of_job (Some job) = of_desk run (desk.Publish job)
after_command run script.Turn = (reply_words (turn run.state).0, record run { state = (turn run.state).1 })
after_command run script.Settle = (settled_words (settle run.state).0, record run { state = (settle run.state).1 })
after_command run (script.Page index) = of_desk run (desk.Page index)
after_command run (script.Text par) = of_desk run (desk.Text par)
after_command run script.Save = of_desk run desk.Save
after_command run script.Debt = of_desk run desk.Debt
after_command run script.Version = of_desk run desk.Version

-- the printed answers to commands one after another
abbrev pub printed : Run → List Numbered → List ℕ
printed run [] = []
printed run (numbered ∷ more) = numbered_words numbered.line (after_command run numbered.command).0 ++ printed (after_command run numbered.command).1 more

-- the text of a script over a document: what it prints from version 1 on
abbrev pub script_text : Document → List Numbered → List ℕ
script_text doc commands = printed (record { state = start_at doc 1; jobs = [] }) commands
