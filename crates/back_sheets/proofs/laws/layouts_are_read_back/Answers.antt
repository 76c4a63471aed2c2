use Rattle.back_sheets.proofs.Layouts.{layout_back}
use Rattle.back_sheets.proofs.laws.layouts_are_read_back.Goals as goal

pub returns : goal.returns
returns c = layout_back
