use Rattle.std.proofs.Common.{◌≡◌}
use Rattle.idle_queue.proofs.Settled.{rows_up_to}
use Rattle.idle_queue.proofs.agenda.Agenda.pages.Given as goal

abbrev pub invariant-paragraphs : goal.invariant-paragraphs
invariant-paragraphs l = l.rows ≡ rows_up_to l.doc l.place
