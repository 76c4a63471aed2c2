-- What words come to is what they ask for comes to.
use Rattle.std.proofs.Common.{Ok}
use Rattle.quill_top.specs.Words.{texts_of}
use Rattle.quill_top.specs.Tasks.{task_of}
use Rattle.quill_top.specs.Ending.{stop_of}
use Rattle.quill_top.specs.Made.{done_of}
use Rattle.quill_top.proofs.Found.{outcome}
use Rattle.quill_top.proofs.Stops.{stop_task}
use Rattle.quill_top.proofs.tasks.prepare.Goals as goal

pub returns-in-Ok-clause-found : goal.returns-in-Ok-clause-found
returns-in-Ok-clause-found g c = λ at told.
    outcome at (texts_of c.args.words.now) (task_of c.in-Some.task) (Ok (done_of c.in-Ok.made)) c.in-Some.ensures (c.in-Ok.ensures.found at told)

pub returns-in-Err-clause-stops : goal.returns-in-Err-clause-stops
returns-in-Err-clause-stops g c = stop_task _ (texts_of c.args.words.now) (task_of c.in-Some.task) (stop_of c.in-Err.ending) c.in-Some.ensures c.in-Err.ensures.stops
