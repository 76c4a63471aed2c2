use Rattle.back_sheet_places.proofs.Files.{heads_bare}
use Rattle.back_sheet_places.proofs.laws.head_lengths_need_no_places.Goals as goal

pub returns : goal.returns
returns c = heads_bare
