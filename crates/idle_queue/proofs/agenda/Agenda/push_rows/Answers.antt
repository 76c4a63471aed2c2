use Rattle.std.proofs.Common.{ap}
use Rattle.round_model.specs.Idle.{Idle, keeps}
use Rattle.idle_queue.proofs.PlainPlaces.{few_items}
use Rattle.idle_queue.proofs.Turns.{read_live}
use Rattle.idle_queue.proofs.Entering.{never}
use Rattle.idle_queue.proofs.Settled.{settled_keeps}
use Rattle.idle_queue.proofs.agenda.Agenda.push_rows.Goals as goal

pub key_of-requires : goal.key_of-requires
key_of-requires c = record { few = few_items c.args.doc.now c.requires.plain c.args.place c.par_at.result.now c.par_at.ensures }

pub unreachable-requires : goal.unreachable-requires
unreachable-requires c =
    never (keeps c.index.result.now c.in_ok-key.key)
    (settled_keeps c.args.doc.now c.args.self.now c.requires.plain c.requires.reached c.requires.settled c.args.place c.par_at.result.now c.index.result.now c.in_ok-key.key c.par_at.ensures
    (read_live c.args.doc.now c.args.self.now c.requires.plain c.requires.reached c.args.place c.self.inside.live.items c.index.result.now (ap (λ (idle : Idle). idle.live) c.self.view_is) c.requires.within c.index.ensures)
    c.in_ok-key.ensures)
    c.in_default.ensures
