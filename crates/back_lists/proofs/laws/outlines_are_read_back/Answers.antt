use Rattle.back_lists.proofs.Lists.{outline_back}
use Rattle.back_lists.proofs.laws.outlines_are_read_back.Goals as goal

pub returns : goal.returns
returns c = outline_back
