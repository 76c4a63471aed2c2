use Rattle.std.proofs.Common.{◌≡◌, ◌+◌, drop}
use Rattle.page_model.specs.BodyRows.{note_pars}
use Rattle.paginate.specs.Uncited.{cited}
use Rattle.paginate.proofs.notes.cite_notes.Given as goal

abbrev pub invariant-notes : goal.invariant-notes
invariant-notes l = record {
  added : cited l.place (drop l.note-index l.notes) l.rows.items ≡ cited l.fn.place l.notes l.fn.rows.items;
  few : l.place + note_pars (drop l.note-index l.notes) ≡ l.fn.place + note_pars l.notes;
}
