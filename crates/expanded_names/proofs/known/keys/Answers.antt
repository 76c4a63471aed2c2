use Rattle.std.proofs.Common.{refl}
use Rattle.expanded_names.specs.Rows.{key_rows}
use Rattle.expanded_names.proofs.known.keys.Goals as goal

pub returns : goal.returns
unfolding key_rows
returns c = refl
