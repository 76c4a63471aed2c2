use Rattle.std.proofs.Common.{◌≡◌, ◌+◌, drop}
use Rattle.page_model.specs.BodyRows.{note_pars}
use Rattle.paginate.proofs.rows.note_pars.Given as goal

abbrev pub invariant-loop-note : goal.invariant-loop-note
invariant-loop-note l = l.count + note_pars (drop l.note-index l.notes) ≡ note_pars l.notes
