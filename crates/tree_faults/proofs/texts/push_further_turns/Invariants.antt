use Rattle.std.proofs.Common.{map, take}
use Rattle.tree_faults.specs.Texts.{Goes}
use Rattle.tree_faults.proofs.texts.push_further_turns.Given as goal

abbrev pub invariant-turns : goal.invariant-turns
invariant-turns l = Goes l.wanted (map (λ turn. turn.elem) (take l.turn-index l.turns)) l.fn.places.items l.places.items l.met
