use Rattle.row_edits.proofs.NoteKept.{note_kept, range_kept}
use Rattle.row_edits.proofs.laws.edits_of_notes_keep_rows_sound.Goals as goal

pub returns : goal.returns
returns c = record {
  note = λ old par before head items behind stands outside at class id sound. note_kept old par before head items behind stands sound outside at class id;
  range = λ old par before head items behind stands from to order sound. range_kept old par before head items behind stands sound from to order;
}
