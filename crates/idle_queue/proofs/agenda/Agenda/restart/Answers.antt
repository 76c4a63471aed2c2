use Rattle.std.proofs.Common.{◌∙◌, ap, sym, subst, refl, map, List, ℕ, length}
use Rattle.std.specs.Prelude.{if◌then◌else◌}
use Rattle.round_model.specs.Idle.{Idle, Live}
use Rattle.round_model.specs.Reached.{IsReached}
use Rattle.idle_queue.specs.Marked.{marked}
use Rattle.idle_queue.proofs.Marks.{same_numbers, restart-is, reached_restarted}
use Rattle.idle_queue.proofs.agenda.Agenda.restart.Goals as goal

pub touch_all-requires : goal.touch_all-requires
touch_all-requires c = same_numbers c.args.next.now c.requires.plain c.self.inside.live.items c.args.self.now.live (ap (λ (idle : Idle). idle.live) c.self.view_is) c.requires.same

pub returns-clause-restarted : goal.returns-clause-restarted
returns-clause-restarted c =
    restart-is c.args.self.now (record { epoch = c.epoch_behind-self-inside.result; live = c.touch_all.new.live.items; debt = c.full_debt-self-inside.result }) c.args.next.now c.requires.plain c.args.touched.now
    c.args.restyling c.args.version c.epoch_behind-self-inside.result c.paragraph_count.result c.full_debt-self-inside.result c.touch_all.new.live.items c.requires.same
    (c.touch_all.ensures ∙ ap (λ (idle : Idle). map (marked c.args.version c.args.touched.now) idle.live) c.self.view_is)
    (c.epoch_behind-self-inside.ensures ∙ ap (λ (idle : Idle). if c.args.restyling then c.args.version else idle.epoch) c.self.view_is)
    c.paragraph_count.ensures.count c.full_debt-self-inside.ensures refl

pub returns-clause-reached : goal.returns-clause-reached
returns-clause-reached c = λ few.
    subst (λ (idle : Idle). IsReached c.args.next.now idle) (sym (returns-clause-restarted c))
    (reached_restarted c.args.self.now c.args.next.now c.requires.plain c.args.touched.now c.args.restyling c.args.version c.requires.same few)
