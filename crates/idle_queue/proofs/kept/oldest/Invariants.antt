use Rattle.std.specs.Option.{option_copied}
use Rattle.idle_queue.specs.Current.{is_current}
use Rattle.idle_queue.proofs.Rows.{AreInUse}
use Rattle.idle_queue.proofs.kept.oldest.Given as goal

abbrev pub invariant-rows : goal.invariant-rows
invariant-rows l = AreInUse (is_current (option_copied l.in_use)) l.rows l.place
