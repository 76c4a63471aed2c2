use Rattle.std.proofs.Common.{ap, sym}
use Rattle.std.specs.Str.{chars}
use Rattle.paragraph_write.specs.Around.{entry_name}
use Rattle.paragraph_write.proofs.lists.entry_name.Goals as goal

pub returns-then-item : goal.returns-then-item
unfolding chars
returns-then-item c = ap entry_name (sym c.if-item.true)

pub returns-else-item : goal.returns-else-item
unfolding chars
returns-else-item c = ap entry_name (sym c.if-item.false)
