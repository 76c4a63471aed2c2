use Rattle.std.proofs.Common.{◌≡◌, List, drop}
use Rattle.std.specs.List.{list_any}
use Rattle.std.specs.Option.{is_none}
use Rattle.markup_nodes.specs.declared.words.Attr.{Attr}
use Rattle.load_model.specs.Names.{Binding, attribute_name}
use Rattle.expanded_names.specs.Scope.{Holds}
use Rattle.expanded_names.proofs.equal.has_undeclared.Given as goal

abbrev pub invariant-loop-attr : goal.invariant-loop-attr
invariant-loop-attr l = (bindings : List Binding) → Holds l.scope bindings
    → list_any (λ (attr : Attr). is_none (attribute_name attr.name bindings)) l.attrs ≡ list_any (λ (attr : Attr). is_none (attribute_name attr.name bindings)) (drop l.attr-index l.attrs)
