use Rattle.back_items.proofs.Pieces.{content_back}
use Rattle.back_items.proofs.laws.content_is_read_back.Goals as goal

pub returns : goal.returns
returns c = content_back
