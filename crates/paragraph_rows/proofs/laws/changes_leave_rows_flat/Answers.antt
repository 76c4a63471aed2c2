use Rattle.paragraph_rows.proofs.Instances.{flat_head, flat_items}
use Rattle.paragraph_rows.proofs.laws.changes_leave_rows_flat.Goals as goal

pub returns : goal.returns
returns c = record { head = flat_head; items = flat_items }
