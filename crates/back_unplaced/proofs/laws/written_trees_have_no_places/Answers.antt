use Rattle.back_unplaced.proofs.Root.{written_still}
use Rattle.back_unplaced.proofs.laws.written_trees_have_no_places.Goals as goal

pub returns : goal.returns
returns c = written_still
