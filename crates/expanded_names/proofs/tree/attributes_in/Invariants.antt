use Rattle.std.proofs.Common.{◌≡◌, List, ◌++◌, length, map}
use Rattle.std.specs.Vec.Iter.{into_iter_items, into_iter_len}
use Rattle.load_model.specs.Names.{Binding, resolved_attribute}
use Rattle.expanded_names.specs.Scope.{Holds}
use Rattle.expanded_names.proofs.tree.attributes_in.Given as goal

abbrev pub invariant-attributes : goal.invariant-attributes
invariant-attributes l = record {
  read : (bindings : List Binding) → Holds l.scope bindings
      → map (resolved_attribute bindings) (into_iter_items l.initial.attr-iterator) ≡ l.read.items ++ map (resolved_attribute bindings) (into_iter_items l.attr-iterator);
  counted : into_iter_len l.attr-iterator ≡ length (into_iter_items l.attr-iterator);
}
