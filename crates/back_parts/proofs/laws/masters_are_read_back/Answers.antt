use Rattle.back_parts.proofs.Masters.{masters_back, masters_whole}
use Rattle.back_parts.proofs.laws.masters_are_read_back.Goals as goal

pub returns-clause-masters : goal.returns-clause-masters
returns-clause-masters c = masters_back

pub returns-clause-left : goal.returns-clause-left
returns-clause-left c = masters_whole
