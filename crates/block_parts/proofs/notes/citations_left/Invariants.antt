use Rattle.std.proofs.Common.{◌≡◌, map, take}
use Rattle.element_parts.specs.Shown.{shown}
use Rattle.block_parts.specs.Notes.{attributes_in, citations}
use Rattle.block_parts.proofs.notes.citations_left.Given as goal

abbrev pub invariant-turns : goal.invariant-turns
invariant-turns l = l.total ≡ shown (attributes_in (citations (map (λ turn. turn.elem) (take l.turn-index l.turns))))
