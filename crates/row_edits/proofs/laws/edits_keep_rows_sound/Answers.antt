use Rattle.row_edits.proofs.Kept.{style_kept, level_kept, list_kept, text_kept, span_kept, field_kept, bookmark_kept, removal_kept}
use Rattle.row_edits.proofs.laws.edits_keep_rows_sound.Goals as goal

pub returns : goal.returns
returns c = record { style = style_kept; level = level_kept; list = list_kept; text = text_kept; span = span_kept; field = field_kept; bookmark = bookmark_kept; removal = removal_kept }
