use Rattle.std.proofs.Common.{◌≡◌, ◌++◌, map, take}
use Rattle.sheet_kept.specs.Held.{seen, held_turn}
use Rattle.sheet_kept.proofs.held.add_turns.Given as goal

abbrev pub invariant-turns : goal.invariant-turns
invariant-turns l = map seen l.held.items ≡ map seen l.initial.held.items ++ map (held_turn l.is_auto) (take l.turn-index l.turns)
