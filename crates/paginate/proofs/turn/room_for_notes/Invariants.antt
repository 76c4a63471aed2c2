use Rattle.std.proofs.Common.{◌≡◌, ◌+◌, ◌-◌, length, drop}
use Rattle.page_model.specs.Breaking.{blanks_of}
use Rattle.paginate.proofs.turn.room_for_notes.Given as goal

abbrev pub invariant-rows : goal.invariant-rows
invariant-rows l = l.left - (length (drop l.index l.rows) + blanks_of (drop l.index l.rows)) ≡ l.room - (length l.rows + blanks_of l.rows + 1)
