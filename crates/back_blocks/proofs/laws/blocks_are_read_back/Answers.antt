use Rattle.back_blocks.proofs.Sections.{blocks_read}
use Rattle.back_blocks.proofs.laws.blocks_are_read_back.Goals as goal

pub returns : goal.returns
returns c = blocks_read
