use Rattle.std.proofs.Common.{◌≡◌, ◌<◌, ℕ, List, ◌++◌, length, map}
use Rattle.std.specs.List.{AllByRecursion as Each}
use Rattle.std.specs.Vec.Iter.{into_iter_items, into_iter_len}
use Rattle.markup_nodes.specs.declared.nodes.Turn.{Turn}
use Rattle.markup_nodes.specs.declared.tree.Elem.{Elem}
use Rattle.markup_nodes.specs.declared.tree.Elem.TheViews.{size-Elem}
use Rattle.load_model.specs.Names.{Binding}
use Rattle.expanded_names.specs.Scope.{in_force, Holds}
use Rattle.expanded_names.specs.Places.{first_place, turn_in}
use Rattle.expanded_names.proofs.TreeLemmas.{bad_in_turns}
use Rattle.expanded_names.proofs.tree.+resolve_in.Given as goal

abbrev pub decreases-resolve_in : goal.decreases-resolve_in
decreases-resolve_in l = goal.size-resolve_in l

abbrev pub invariant-turns : goal.invariant-turns
invariant-turns l = record {
  smaller : Each (λ (turn : Turn Elem). size-Elem turn.elem < size-Elem l.fn.elem) (into_iter_items l.turn-iterator);
  counted : into_iter_len l.turn-iterator ≡ length (into_iter_items l.turn-iterator);
  scope : (prefix : List ℕ) → in_force l.scope prefix ≡ in_force l.initial.scope prefix;
  read : (within : List Binding) → Holds l.initial.scope within
      → map (turn_in within) (into_iter_items l.initial.turn-iterator) ≡ l.read.items ++ map (turn_in within) (into_iter_items l.turn-iterator);
  bad : (within : List Binding) → Holds l.initial.scope within
      → first_place l.bad (bad_in_turns within (into_iter_items l.turn-iterator)) ≡ first_place l.initial.bad (bad_in_turns within (into_iter_items l.initial.turn-iterator));
}
