use Rattle.std.proofs.Common.{ap, sym, ◌∙◌, subst}
use Rattle.doc_model.specs.Plain.{IsPlain}
use Rattle.round_model.specs.Stops.{paragraph_count}
use Rattle.desk_model.specs.Desk.{State}
use Rattle.desk.proofs.Edits.{edited_by_group-count}
use Rattle.desk.proofs.desk.Desk.edit.Goals as goal

pub change-requires-clause-count : goal.change-requires-clause-count
change-requires-clause-count c =
    edited_by_group-count c.present.result.now c.in-Ok.document (subst IsPlain (sym c.present.ensures) c.self.invariant.plain.present) c.args.group.now.0 c.requires c.in-Ok.ensures.done
    ∙ ap paragraph_count (c.present.ensures ∙ ap (λ (state : State). state.past.present) c.self.view_is)
