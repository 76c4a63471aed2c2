use Rattle.std.proofs.Common.{◌≡◌, false, take}
use Rattle.std.specs.List.{list_any}
use Rattle.line_model.specs.Keys.{is_same_key}
use Rattle.idle_queue.proofs.Rows.{keys_of}
use Rattle.idle_queue.proofs.kept.LivePar.keeps.Given as goal

abbrev pub invariant-rows : goal.invariant-rows
invariant-rows l = list_any (is_same_key l.key) (keys_of (take l.row-index l.row-items)) ≡ false
