use Rattle.std.proofs.Common.{ap}
use Rattle.round_model.specs.Idle.{Idle}
use Rattle.idle_queue.proofs.PlainPlaces.{few_items}
use Rattle.idle_queue.proofs.Turns.{read_live, job_kept, job_wanted}
use Rattle.idle_queue.proofs.agenda.Agenda.job_at.Goals as goal

pub key_of-requires : goal.key_of-requires
key_of-requires c = record { few = few_items c.args.doc.now c.requires.plain c.args.place c.par_at-par.result.now c.par_at-par.ensures }

pub returns-then-keeps : goal.returns-then-keeps
returns-then-keeps c = λ round.
    job_kept c.args.doc.now c.args.self.now c.requires.plain c.requires.reached round c.args.place c.par_at-par.result.now c.index-live.result.now c.in_ok-key.key c.keeps.result c.par_at-par.ensures
    (read_live c.args.doc.now c.args.self.now c.requires.plain c.requires.reached c.args.place c.self.inside.live.items c.index-live.result.now (ap (λ (idle : Idle). idle.live) c.self.view_is) c.requires.within c.index-live.ensures)
    c.in_ok-key.ensures c.keeps.ensures c.if-keeps.true

pub returns : goal.returns
returns c = λ round.
    job_wanted c.args.doc.now c.args.self.now c.requires.plain c.requires.reached round c.args.place c.par_at-par.result.now c.index-live.result.now c.in_ok-key.key c.keeps.result c.stamp_of-stamp.result c.par_at-par.ensures
    (read_live c.args.doc.now c.args.self.now c.requires.plain c.requires.reached c.args.place c.self.inside.live.items c.index-live.result.now (ap (λ (idle : Idle). idle.live) c.self.view_is) c.requires.within c.index-live.ensures)
    c.in_ok-key.ensures c.keeps.ensures c.if-keeps.false c.stamp_of-stamp.ensures
