use Rattle.item_name_changes.proofs.Dropped.{removal_follows}
use Rattle.item_name_changes.proofs.laws.removed_names_are_dropped.Goals as goal

pub returns : goal.returns
returns c = removal_follows
