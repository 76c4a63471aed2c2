use Rattle.std.proofs.Common.{map, take}
use Rattle.sheet_values.specs.Read.{ListStylesAre}
use Rattle.sheet_values.proofs.lists.read_list_styles.Given as goal

abbrev pub invariant-kept : goal.invariant-kept
invariant-kept l = ListStylesAre l.read (map (λ element. element.now) (take l.element-index l.kept))
