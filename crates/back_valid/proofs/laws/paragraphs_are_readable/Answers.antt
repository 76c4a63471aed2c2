use Rattle.back_valid.proofs.Assembled.{paragraphs_readable}
use Rattle.back_valid.proofs.laws.paragraphs_are_readable.Goals as goal

pub returns : goal.returns
returns c = paragraphs_readable
