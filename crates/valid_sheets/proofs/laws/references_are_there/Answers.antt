use Rattle.valid_sheets.proofs.References.{references_there}
use Rattle.valid_sheets.proofs.laws.references_are_there.Goals as goal

pub returns : goal.returns
returns c = references_there
