use Rattle.std.proofs.Common.{refl}
use Rattle.expanded_names.specs.Rows.{tag_rows}
use Rattle.expanded_names.proofs.known.tags.Goals as goal

pub returns : goal.returns
unfolding tag_rows
returns c = refl
