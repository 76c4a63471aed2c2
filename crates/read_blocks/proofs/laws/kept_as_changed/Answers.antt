use Rattle.read_blocks.proofs.LawLemmas.{kept_changed}
use Rattle.read_blocks.proofs.laws.kept_as_changed.Goals as goal

pub returns : goal.returns
returns c = kept_changed
