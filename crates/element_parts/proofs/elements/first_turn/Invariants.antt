use Rattle.std.proofs.Common.{◌≡◌, drop}
use Rattle.element_parts.specs.Turns.{first_turn}
use Rattle.element_parts.proofs.elements.first_turn.Given as goal

abbrev pub invariant-turns : goal.invariant-turns
invariant-turns l = first_turn l.wanted (drop l.turn-index l.turns) ≡ first_turn l.wanted l.turns
