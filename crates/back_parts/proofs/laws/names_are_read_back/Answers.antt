use Rattle.back_parts.proofs.Names.{names_back}
use Rattle.back_parts.proofs.laws.names_are_read_back.Goals as goal

pub returns : goal.returns
returns c = names_back
