use Rattle.paragraph_rows.proofs.Standing.{row_found, row_changed}
use Rattle.paragraph_rows.proofs.laws.one_row_is_spliced.Goals as goal

pub returns : goal.returns
returns c = record { found = row_found; changed = row_changed }
