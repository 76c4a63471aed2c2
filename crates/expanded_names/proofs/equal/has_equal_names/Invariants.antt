use Rattle.std.proofs.Common.{◌≡◌, false, List, map, take}
use Rattle.std.specs.List.{filter_map, AllByRecursion as Each}
use Rattle.markup_nodes.specs.declared.words.Attr.{Attr}
use Rattle.load_model.specs.Names.{Binding, attribute_name, has_twice}
use Rattle.expanded_names.specs.Scope.{Holds}
use Rattle.expanded_names.proofs.EqualLemmas.{name_of, AreTexts}
use Rattle.expanded_names.proofs.equal.has_equal_names.Given as goal

abbrev pub invariant-loop-attr : goal.invariant-loop-attr
invariant-loop-attr l = record {
  names : (bindings : List Binding) → Holds l.scope bindings → map name_of l.seen.keys ≡ filter_map (λ (attr : Attr). attribute_name attr.name bindings) (take l.attr-index l.attrs);
  once : has_twice (map name_of l.seen.keys) ≡ false;
  texts : Each AreTexts l.seen.keys;
}
