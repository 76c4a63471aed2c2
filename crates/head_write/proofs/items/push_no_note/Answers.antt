use Rattle.std.specs.Str.{chars}
use Rattle.head_write.proofs.items.push_no_note.Goals as goal

pub returns : goal.returns
unfolding chars
returns c = c.push_bare.ensures
