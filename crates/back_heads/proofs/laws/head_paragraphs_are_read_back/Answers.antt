use Rattle.back_heads.proofs.Heads.{head_back}
use Rattle.back_heads.proofs.laws.head_paragraphs_are_read_back.Goals as goal

pub returns : goal.returns
returns c = head_back
