use Rattle.edit_limits.proofs.HeadEdits.{style_passes, level_passes, list_passes}
use Rattle.edit_limits.proofs.laws.heads_pass_no_limit.Goals as goal

pub returns : goal.returns
returns c = record { style = style_passes; level = level_passes; list = list_passes }
