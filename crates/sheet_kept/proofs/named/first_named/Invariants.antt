use Rattle.std.proofs.Common.{map, take}
use Rattle.sheet_kept.specs.Kept.{Keeps}
use Rattle.sheet_kept.proofs.named.first_named.Given as goal

abbrev pub invariant-held : goal.invariant-held
invariant-held l = Keeps l.tag (map (λ one. one.element.now) (take l.one-index l.held)) l.kept
