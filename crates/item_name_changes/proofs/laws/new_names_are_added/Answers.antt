use Rattle.item_name_changes.proofs.Added.{field_follows, field_unnamed, note_follows, note_unnamed}
use Rattle.item_name_changes.proofs.laws.new_names_are_added.Goals as goal

pub returns : goal.returns
returns c = record { field = field_follows; unnamed_field = field_unnamed; note = note_follows; unnamed_note = note_unnamed }
