use Rattle.row_checks.proofs.NoteHeld.{held_row, open_row}
use Rattle.row_checks.proofs.NoteOpen.{container_told}
use Rattle.row_checks.proofs.laws.notes_are_open_round_rows.Goals as goal

pub returns : goal.returns
returns c = record { held = held_row; round = open_row; container = container_told }
