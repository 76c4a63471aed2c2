use Rattle.back_masters.proofs.Masters.{master_back}
use Rattle.back_masters.proofs.laws.masters_are_read_back.Goals as goal

pub returns : goal.returns
returns c = master_back
