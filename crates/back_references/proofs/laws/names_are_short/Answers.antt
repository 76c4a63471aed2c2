use Rattle.back_references.proofs.Short.{names_short}
use Rattle.back_references.proofs.laws.names_are_short.Goals as goal

pub returns : goal.returns
returns c = names_short
