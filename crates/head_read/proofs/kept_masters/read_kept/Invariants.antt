use Rattle.std.proofs.Common.{map, take}
use Rattle.load_model.specs.Styles.{Names}
use Rattle.sheet_names.specs.Known.{Knows}
use Rattle.head_read.specs.Masters.{KeptAre}
use Rattle.head_read.proofs.kept_masters.read_kept.Given as goal

abbrev pub invariant-kept : goal.invariant-kept
invariant-kept l = (known : Names) → Knows l.names known → KeptAre l.read known (map (λ one. one.now) (take l.element-index l.kept))
