use Rattle.edit_rules.proofs.Numbers.{never_falls}
use Rattle.edit_rules.proofs.laws.numbers_never_fall.Goals as goal

pub returns : goal.returns
returns c = never_falls
