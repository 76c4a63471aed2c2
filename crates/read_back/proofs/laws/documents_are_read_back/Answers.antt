use Rattle.read_back.proofs.Whole.{loaded_back}
use Rattle.read_back.proofs.laws.documents_are_read_back.Goals as goal

pub returns : goal.returns
returns c = loaded_back
