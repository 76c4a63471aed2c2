use Rattle.name_index.proofs.Changed.{added, repeated, dropped, followed}
use Rattle.name_index.proofs.laws.changes_are_followed.Goals as goal

pub returns : goal.returns
returns c = record { added = added; repeated = repeated; dropped = dropped; followed = followed }
