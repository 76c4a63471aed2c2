use Rattle.std.proofs.Common.{refl}
use Rattle.std.specs.Str.{chars}
use Rattle.block_parts.proofs.lists.Lists.outside.Goals as goal

pub returns : goal.returns
unfolding chars
returns c = record { level = refl; style = refl; in_note = refl }
