use Rattle.std.proofs.Common.{arith}
use Rattle.idle_queue.proofs.Turns.{live_count}
use Rattle.idle_queue.proofs.Publishing.{own_numbers, stamped, may_enter, already}
use Rattle.idle_queue.proofs.agenda.Agenda.publish.Goals as goal

pub stamp-requires : goal.stamp-requires
stamp-requires c = own_numbers c.args.doc.now c.args.self.now c.requires.plain c.requires.reached

pub overflow_sub-job : goal.overflow_sub-job
overflow_sub-job c = (stamped c.args.doc.now c.args.self.now c.requires.plain c.requires.reached c.job-job.result.now.par.0 c.in-Some.now c.in-Some.ensures).place.some

pub keeps-requires : goal.keeps-requires
keeps-requires c =
    omega (
      arith,
      (stamped c.args.doc.now c.args.self.now c.requires.plain c.requires.reached c.job-job.result.now.par.0 c.in-Some.now c.in-Some.ensures).place.within,
      live_count c.args.doc.now c.args.self.now c.requires.plain c.requires.reached,
    )

pub returns-then-keeps-clause-ok : goal.returns-then-keeps-clause-ok
returns-then-keeps-clause-ok c =
    already c.args.doc.now c.args.self.now c.requires.plain c.requires.reached c.args.formed.now c.job-job.result.now c.in-Some.now c.keeps.result c.job-job.ensures c.in-Some.ensures
    (c.is_same.ensures.0 c.if-not-is_same.false) c.keeps.ensures c.if-keeps.true

pub enter-requires-clause-may : goal.enter-requires-clause-may
enter-requires-clause-may c =
    may_enter c.args.doc.now c.args.self.now c.requires.plain c.requires.reached c.args.formed.now c.job-job.result.now c.in-Some.now c.keeps.result c.job-job.ensures c.in-Some.ensures
    (c.is_same.ensures.0 c.if-not-is_same.false) c.keeps.ensures c.if-keeps.false
