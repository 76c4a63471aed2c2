use Rattle.back_blocks.proofs.Unnumbered.{numbers_unwritten}
use Rattle.back_blocks.proofs.laws.numbers_are_not_written.Goals as goal

pub returns : goal.returns
returns c = numbers_unwritten
