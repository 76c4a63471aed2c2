use Rattle.back_valid.proofs.Assembled.{sections_readable}
use Rattle.back_valid.proofs.laws.sections_are_readable.Goals as goal

pub returns : goal.returns
returns c = sections_readable
