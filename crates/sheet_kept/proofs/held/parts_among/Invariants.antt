use Rattle.std.proofs.Common.{◌≡◌, map, take}
use Rattle.sheet_kept.specs.Held.{parts_of}
use Rattle.sheet_kept.proofs.held.parts_among.Given as goal

abbrev pub invariant-turns : goal.invariant-turns
invariant-turns l = map (λ part. part.now) l.parts.items ≡ parts_of (map (λ turn. turn.elem) (take l.turn-index l.turns))
