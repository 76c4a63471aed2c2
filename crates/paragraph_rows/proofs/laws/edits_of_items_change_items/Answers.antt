use Rattle.paragraph_rows.proofs.Instances.{text_inserted, span_set, field_inserted, bookmark_added, bookmark_removed}
use Rattle.paragraph_rows.proofs.laws.edits_of_items_change_items.Goals as goal

pub returns : goal.returns
returns c = record { text = text_inserted; span = span_set; field = field_inserted; bookmark = bookmark_added; removal = bookmark_removed }
