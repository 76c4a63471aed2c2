-- The first of some places, and turns whose elements are resolved.
use Rattle.std.specs.Prelude.{ℕ, List, [], ◌∷◌, Option, Some, None}
use Rattle.markup_nodes.specs.declared.nodes.Turn.{Turn}
use Rattle.markup_nodes.specs.declared.tree.Elem.{Elem}
use Rattle.load_model.specs.declared.element.Element.{Element as Read}
use Rattle.load_model.specs.Names.{Binding, resolved_in}

-- the place that is known already, else the first of some
abbrev pub first_place : Option ℕ → List ℕ → Option ℕ
first_place (Some place) places = Some place
first_place None [] = None
first_place None (place ∷ places) = Some place

-- an element with the characters behind it, resolved
abbrev pub turn_in : List Binding → Turn Elem → Turn Read
turn_in bindings turn = record { elem = resolved_in turn.elem bindings; after = turn.after }
