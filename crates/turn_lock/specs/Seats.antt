-- What clauses read of a lock and its seats.
use Rattle.std.specs.Prelude.{◌≡◌, ◌≢◌, ℕ, ◌+◌, ◌<◌, List, length, Some}
use Rattle.atomic_table.specs.Seated.{TableId}
use Rattle.turn_lock.specs.declared.machine.Machine.{Ghosts}
use Rattle.turn_lock.specs.declared.machine.Entry.{Entry}
use Rattle.turn_lock.specs.declared.view.Known.{Known}
use Rattle.turn_lock.specs.declared.lock.TurnLock.{TurnLock}
use Rattle.turn_lock.specs.declared.seat.Seat.{Seat}
use Rattle.turn_lock.specs.declared.booked.Booked.{Booked}
use Rattle.turn_lock.specs.declared.fault.CallFault.{CallFault}
use Rattle.turn_lock.specs.declared.fault.CallFault.TheVariants as call
use Rattle.turn_lock.specs.declared.fault.TryFault.{TryFault}
use Rattle.turn_lock.specs.declared.fault.TryFault.TheVariants as try
use Rattle.turn_lock.specs.History.{calls_of, IsLegal}

module _ {M C R S : Type 0} {g : Ghosts M C R S} where
  -- which lock it is: no other has this
  abbrev pub lock_id : TurnLock M C R S g → TableId
  lock_id lock = lock.table.shared.table_id

  -- the state of the machine that the lock was made round
  abbrev pub start_of : TurnLock M C R S g → S
  start_of lock = g.state lock.terms.start.value

  abbrev pub seats_of : TurnLock M C R S g → ℕ
  seats_of lock = lock.terms.seats

  abbrev pub limit_of : TurnLock M C R S g → ℕ
  limit_of lock = lock.terms.limit

  -- the history is one of the lock's machine, from its start
  abbrev pub IsLegalIn : TurnLock M C R S g → List (Entry M C R S) → Type 0
  IsLegalIn lock h = IsLegal g.reply g.after (start_of lock) h

  -- a seat's numbers and its history
  abbrev pub known : Seat M C R S g → Known M C R S
  known seat = seat.pass.me.0.known

  -- the history that a seat has seen
  abbrev pub seen : Seat M C R S g → List (Entry M C R S)
  seen seat = seat.pass.me.0.known.seen

  -- how often the seat has tried for the turn
  abbrev pub tries : Seat M C R S g → ℕ
  tries seat = seat.pass.me.0.tries

  -- what the last try read
  abbrev pub last_read : Seat M C R S g → ℕ
  last_read seat = seat.pass.me.0.read

  -- the seat's own calls
  abbrev pub own_calls : Seat M C R S g → List (Entry M C R S)
  own_calls seat = calls_of (known seat).number (seen seat)

  -- the seat is one of the lock's
  abbrev pub IsOf : TurnLock M C R S g → Seat M C R S g → Type 0
  IsOf lock seat = (seat.pass.table_id ≡ lock_id lock) × (seat.pass.me.0.terms ≡ Some lock.terms)

  abbrev pub IsUntried : Seat M C R S g → Seat M C R S g → Type 0
  IsUntried old new = (tries new ≡ tries old) × (last_read new ≡ last_read old)

  -- the machine and the journal of a closed lock
  abbrev pub machine_of : Booked M C R S g → M
  machine_of booked = booked.book.machine

  abbrev pub journal_of : Booked M C R S g → List (Entry M C R S)
  journal_of booked = booked.book.journal.items

  -- the lock that they came from
  abbrev pub closed_id : Booked M C R S g → TableId
  closed_id booked = booked.seat.value.pass.table_id

  -- where the seat tried for the turn, the last try found it free
  abbrev pub HadTurn : Seat M C R S g → Seat M C R S g → Type 0
  HadTurn old new = tries old < tries new → last_read new ≡ 0

  -- why a call that waits is refused
  abbrev pub CallCause : TurnLock M C R S g → Seat M C R S g → Seat M C R S g → CallFault → Type 0
  CallCause lock old new (call.JournalFull n) = (n ≡ limit_of lock) × (length (seen new) ≡ limit_of lock) × (tries old < tries new) × (last_read new ≡ 0)
  CallCause lock old new call.NoMemory = HadTurn old new

  -- why a call that does not wait is refused
  abbrev pub TryCause : TurnLock M C R S g → Seat M C R S g → Seat M C R S g → TryFault → Type 0
  TryCause lock old new (try.JournalFull n) = (n ≡ limit_of lock) × (length (seen new) ≡ limit_of lock) × (tries new ≡ tries old + 1) × (last_read new ≡ 0)
  TryCause lock old new (try.Held n) = (tries new ≡ tries old + 1) × (last_read new ≡ n) × (n ≢ 0) × (n ≢ (known old).number + 1)
  TryCause lock old new try.NoMemory = HadTurn old new
