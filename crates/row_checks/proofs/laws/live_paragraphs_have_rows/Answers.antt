use Rattle.row_checks.proofs.Live.{live_row, absent_row, count_row}
use Rattle.row_checks.proofs.laws.live_paragraphs_have_rows.Goals as goal

pub returns : goal.returns
returns c = record { live = live_row; absent = absent_row; count = count_row }
