use Rattle.back_blocks.proofs.Text.{text_read}
use Rattle.back_blocks.proofs.laws.text_is_read_back.Goals as goal

pub returns : goal.returns
returns c = text_read
