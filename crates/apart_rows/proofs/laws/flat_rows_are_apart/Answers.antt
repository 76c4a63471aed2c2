use Rattle.apart_rows.proofs.Apart.{apart_by_rows, apart_where_sound}
use Rattle.apart_rows.proofs.laws.flat_rows_are_apart.Goals as goal

pub returns : goal.returns
returns c = record { rows = apart_by_rows; sound = apart_where_sound }
