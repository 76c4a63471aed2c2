-- A task is what it is.
use Rattle.quill_top.proofs.tasks.perform.Goals as goal

pub returns-in-Run-clause-stops : goal.returns-in-Run-clause-stops
returns-in-Run-clause-stops g c = rw c.in-Run.is c.run.ensures.stops

pub returns-in-Save-clause-found : goal.returns-in-Save-clause-found
returns-in-Save-clause-found g c = rw c.in-Save.is c.save.ensures.found

pub returns-in-Save-clause-stops : goal.returns-in-Save-clause-stops
returns-in-Save-clause-stops g c = rw c.in-Save.is c.save.ensures.stops
