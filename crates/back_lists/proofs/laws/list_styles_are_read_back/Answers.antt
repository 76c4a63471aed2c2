use Rattle.back_lists.proofs.Lists.{list_back}
use Rattle.back_lists.proofs.laws.list_styles_are_read_back.Goals as goal

pub returns : goal.returns
returns c = list_back
