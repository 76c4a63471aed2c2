-- Written nodes as they are read.
use Rattle.std.specs.Prelude.{List, [], map}
use Rattle.markup_nodes.specs.declared.tree.Elem.{Elem}
use Rattle.markup_nodes.specs.Node.{Node, Element, Char}
use Rattle.markup_nodes.specs.Nodes.{elems}
use Rattle.load_model.specs.declared.names.Tag.TheVariants as tag
use Rattle.load_model.specs.declared.element.Element.{Element as Read, roll-Element}
use Rattle.back_names.specs.Named.{named, named_node}

-- a node as it is read, where it is an element
abbrev pub shown : Node Elem → Read
shown (Element elem) = named elem
shown (Char c) = roll-Element (record { place = 0; tag = tag.Other; attributes = []; nodes = [] })

-- the elements among nodes, as they are read
abbrev pub held_of : List (Node Elem) → List Read
held_of nodes = elems (map named_node nodes)
