use Rattle.edit_rules.proofs.Halves.{joined_halves}
use Rattle.edit_rules.proofs.laws.halves_are_joined.Goals as goal

pub returns : goal.returns
returns c = joined_halves
