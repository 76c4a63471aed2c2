use Rattle.plain_doc.proofs.Spelled.{canonical-plain}
use Rattle.plain_doc.proofs.laws.plain_spelling.Goals as goal

pub returns : goal.returns
returns c = canonical-plain
