use Rattle.paragraph_rows.proofs.NoteEdits.{note_inserted, range_deleted}
use Rattle.paragraph_rows.proofs.NoteRows.{parts_by_notes}
use Rattle.paragraph_rows.proofs.laws.edits_of_notes_change_note_rows.Goals as goal

pub returns : goal.returns
returns c = record { note = note_inserted; range = range_deleted; parts = parts_by_notes }
