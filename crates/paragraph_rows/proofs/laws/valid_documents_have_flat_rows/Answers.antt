use Rattle.paragraph_rows.proofs.ValidRows.{flat_rows, row_numbers, apart_rows}
use Rattle.paragraph_rows.proofs.laws.valid_documents_have_flat_rows.Goals as goal

pub returns : goal.returns
returns c = record { flat = flat_rows; numbers = row_numbers; apart = apart_rows }
