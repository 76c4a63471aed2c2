-- Each ending is told by its own line.
use Rattle.std.proofs.Common.{inl, inr}
use Rattle.quill_top.proofs.ending.tell.Goals as goal

pub returns-in-NotPlain-clause-told : goal.returns-in-NotPlain-clause-told
returns-in-NotPlain-clause-told g c = rw c.in-NotPlain.is (inl (c.say.ensures.status, c.say.ensures.told))

pub returns-in-Usage-clause-told : goal.returns-in-Usage-clause-told
returns-in-Usage-clause-told g c = rw c.in-Usage.is (inl (c.say-in-Usage.ensures.status, c.say-in-Usage.ensures.told))

pub returns-in-OutputFault-clause-told : goal.returns-in-OutputFault-clause-told
returns-in-OutputFault-clause-told g c = rw c.in-OutputFault.is (inl (c.say-in-OutputFault.ensures.status, c.say-in-OutputFault.ensures.told))

pub returns-in-NoMemory-clause-told : goal.returns-in-NoMemory-clause-told
returns-in-NoMemory-clause-told g c = inr (c.say-in-NoMemory.ensures.status, c.say-in-NoMemory.ensures.told)

pub returns-in-BadLine-clause-told : goal.returns-in-BadLine-clause-told
returns-in-BadLine-clause-told g c = rw c.in-BadLine.is (c.say_made-in-BadLine.ensures.told _ c.numbered_line.ensures)

pub returns-in-Absent-clause-told : goal.returns-in-Absent-clause-told
returns-in-Absent-clause-told g c = rw c.in-Absent.is (c.say_made-in-Absent.ensures.told _ c.named_line.ensures)

pub returns-in-ShelfFault-clause-told : goal.returns-in-ShelfFault-clause-told
returns-in-ShelfFault-clause-told g c = rw c.in-ShelfFault.is (c.say_made-in-ShelfFault.ensures.told _ c.named_line-in-ShelfFault.ensures)

pub returns-in-TooLong-clause-told : goal.returns-in-TooLong-clause-told
returns-in-TooLong-clause-told g c = rw c.in-TooLong.is (c.say_made-in-TooLong.ensures.told _ c.named_line-in-TooLong.ensures)
