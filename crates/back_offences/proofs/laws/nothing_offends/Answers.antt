use Rattle.back_offences.proofs.Everything.{none_offends}
use Rattle.back_offences.proofs.laws.nothing_offends.Goals as goal

pub returns : goal.returns
returns c = none_offends
