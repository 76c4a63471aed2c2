use Rattle.turn_lock.specs.Numbers.{SameNumbers}
use Rattle.turn_lock.specs.Seats.{IsOf, known}
use Rattle.turn_lock.proofs.tests.add_all.Given as goal

abbrev pub invariant-loop-n : goal.invariant-loop-n
invariant-loop-n g l = IsOf l.lock l.seat × SameNumbers (known l.fn.seat) (known l.seat)
