use Rattle.std.proofs.Common.{◌≡◌, map, take}
use Rattle.std.specs.List.{flat_map}
use Rattle.sheet_kept.specs.Held.{seen, held_by}
use Rattle.sheet_kept.proofs.held.in_parts.Given as goal

abbrev pub invariant-parts : goal.invariant-parts
invariant-parts l = map seen l.held.items ≡ flat_map held_by (map (λ part. part.now) (take l.part-index l.part-items))
