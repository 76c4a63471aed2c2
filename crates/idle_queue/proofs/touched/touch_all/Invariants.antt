use Rattle.std.proofs.Common.{◌≡◌, map, take}
use Rattle.idle_queue.specs.Marked.{marked}
use Rattle.idle_queue.proofs.touched.touch_all.Given as goal

abbrev pub invariant-touched : goal.invariant-touched
invariant-touched l = l.live.items ≡ map (marked l.version (take l.number-index l.touched)) l.fn.live.items
