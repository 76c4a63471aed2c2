use Rattle.back_parts.proofs.Heads.{each_master_back}
use Rattle.back_parts.proofs.laws.valid_masters_are_read_back.Goals as goal

pub returns : goal.returns
returns c = each_master_back
