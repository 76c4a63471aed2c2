use Rattle.paragraph_rows.proofs.Changed.{rows_changed}
use Rattle.paragraph_rows.proofs.Instances.{heads_changed, items_changed}
use Rattle.paragraph_rows.proofs.laws.changes_of_paragraphs_are_changes_of_rows.Goals as goal

pub returns : goal.returns
returns c = record { all = rows_changed; head = heads_changed; items = items_changed }
