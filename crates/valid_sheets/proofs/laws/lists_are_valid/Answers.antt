use Rattle.valid_sheets.proofs.Levels.{lists_valid}
use Rattle.valid_sheets.proofs.laws.lists_are_valid.Goals as goal

pub returns : goal.returns
returns c = lists_valid
