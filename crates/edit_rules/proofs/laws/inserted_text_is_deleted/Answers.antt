use Rattle.edit_rules.proofs.Items.{inserted_and_deleted}
use Rattle.edit_rules.proofs.laws.inserted_text_is_deleted.Goals as goal

pub returns : goal.returns
returns c = inserted_and_deleted
