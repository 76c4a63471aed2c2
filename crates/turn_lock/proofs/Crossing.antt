-- Seats and locks may cross threads where the machine, its commands and its replies may: a set for `search`, beside `sendable`.
use denote.RattleType.{RattleType}
use denote.Param.Send.{IsSend, IsSync, sendable}
use Rattle.std.proofs.Crossing as std
use Rattle.atomic_table.proofs.shared.Seat.TheSendSync as pass
use Rattle.atomic_table.proofs.shared.Shared.TheSendSync as shared
use Rattle.atomic_table.proofs.send_lease.SendLease.TheSendSync as lease
use Rattle.turn_lock.specs.declared.machine.Machine.{Ghosts}
use Rattle.turn_lock.specs.contracts.machine.Entry as Entry
use Rattle.turn_lock.specs.contracts.book.Book as Book
use Rattle.turn_lock.specs.contracts.seat.Seat as Seat
use Rattle.turn_lock.specs.contracts.lock.TurnLock as TurnLock

module _ (M C R S : RattleType) where
  pub Entry-send : IsSend C → IsSend R → IsSend (Entry.the_row M C R S)
  Entry-send c r = search sendable depth 20

module _ (M C R S : RattleType) (g : Ghosts M.Denot C.Denot R.Denot S.Denot) where
  pub Book-send : IsSend M → IsSend C → IsSend R → IsSend (Book.the_row M C R S g)
  Book-send m c r = search (Entry-send, sendable, std.crosses) depth 20

  pub Seat-send : IsSend M → IsSend C → IsSend R → IsSend (Seat.the_row M C R S g)
  Seat-send m c r = let book = Book-send m c r in search (pass.the_send, sendable, std.crosses) depth 20

  pub TurnLock-sync : IsSend M → IsSend C → IsSend R → IsSync (TurnLock.the_row M C R S g)
  TurnLock-sync m c r = let book = Book-send m c r in search (shared.the_sync, lease.the_sync, std.sync, sendable, std.crosses) depth 20

pub ruleset crosses = (Entry-send, Book-send, Seat-send, TurnLock-sync)
