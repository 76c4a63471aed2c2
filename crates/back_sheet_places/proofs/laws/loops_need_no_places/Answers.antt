use Rattle.back_sheet_places.proofs.Files.{no_loops}
use Rattle.back_sheet_places.proofs.laws.loops_need_no_places.Goals as goal

pub returns : goal.returns
returns c = no_loops
