use Rattle.tree_text.proofs.TreeWritten.{read_back}
use Rattle.tree_text.proofs.laws.reads_back.Goals as goal

pub returns : goal.returns
returns c = read_back
