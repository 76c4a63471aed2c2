use Rattle.paragraph_rows.proofs.Instances.{style_set, level_set, list_set}
use Rattle.paragraph_rows.proofs.laws.edits_of_heads_change_heads.Goals as goal

pub returns : goal.returns
returns c = record { style = style_set; level = level_set; list = list_set }
