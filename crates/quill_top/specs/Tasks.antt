-- What the code's tasks are.
use Rattle.quill_top.specs.Words.{Task, Run, Save}
use Rattle.quill_top.specs.declared.words.Task.{Task as Asked}
use Rattle.quill_top.specs.declared.words.Task.TheVariants as asked

-- a task with the names as they are written
abbrev pub task_of : Asked → Task
task_of (asked.Run names) = Run (record { file = names.file.now; script = names.script.now })
task_of (asked.Save file) = Save file.now
