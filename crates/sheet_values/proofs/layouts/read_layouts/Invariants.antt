use Rattle.std.proofs.Common.{map, take}
use Rattle.sheet_values.specs.Read.{LayoutsAre}
use Rattle.sheet_values.proofs.layouts.read_layouts.Given as goal

abbrev pub invariant-kept : goal.invariant-kept
invariant-kept l = LayoutsAre l.read (map (λ element. element.now) (take l.element-index l.kept))
