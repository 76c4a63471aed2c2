use Rattle.std.proofs.Common.{◌≡◌, ◌≤◌, take}
use Rattle.container_rows.specs.Texts.{note_count}
use Rattle.row_ends.proofs.counts.notes_among.Given as goal

abbrev pub invariant-loop-item : goal.invariant-loop-item
invariant-loop-item l = record { counted : l.count ≡ note_count (take l.item-index l.items); few : l.count ≤ l.item-index }
