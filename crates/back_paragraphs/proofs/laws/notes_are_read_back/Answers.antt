use Rattle.back_paragraphs.proofs.Notes.{note_read}
use Rattle.back_paragraphs.proofs.laws.notes_are_read_back.Goals as goal

pub returns : goal.returns
returns c = note_read
