use Rattle.valid_sheets.proofs.Legal.{names_good}
use Rattle.valid_sheets.proofs.laws.names_are_legal.Goals as goal

pub returns : goal.returns
returns c = names_good
