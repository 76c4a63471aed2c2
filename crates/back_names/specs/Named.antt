-- What names mean in a document that was written, wherever they stand in it.
use Rattle.std.specs.Prelude.{ℕ, List, map}
use Rattle.std.specs.List.{flat_map}
use Rattle.markup_nodes.specs.declared.words.Attr.{Attr}
use Rattle.markup_nodes.specs.declared.tree.Elem.{Elem}
use Rattle.markup_nodes.specs.declared.tree.Elem.TheOpen.{Elem-F}
use Rattle.markup_nodes.specs.declared.tree.Elem.TheFolds.{fold-Elem}
use Rattle.markup_nodes.specs.Node.{Node, Element, Char}
use Rattle.load_model.specs.declared.names.Tag.{Tag}
use Rattle.load_model.specs.declared.names.Key.{Key}
use Rattle.load_model.specs.declared.element.Attribute.{Attribute}
use Rattle.load_model.specs.declared.element.Element.{Element as Read, roll-Element}
use Rattle.load_model.specs.declared.element.Element.TheOpen.{Element-F}
use Rattle.load_model.specs.declared.element.Element.TheFolds.{fold-Element}
use Rattle.load_model.specs.Names.{Binding, declared_by, element_name, attribute_name, tag_of, key_of}
use Rattle.written_model.specs.Written.{namespaces}

-- the prefixes that the root of a written document binds
abbrev pub bound : List Binding
bound = flat_map declared_by namespaces

-- what an element is by its name, where these are bound
unfoldable pub tag_named : List ℕ → Tag
tag_named name = tag_of (element_name name bound)

-- what an attribute is by its name
unfoldable pub key_named : List ℕ → Key
key_named name = key_of (attribute_name name bound)

-- an attribute by what its name means
abbrev pub named_attribute : Attr → Attribute
named_attribute attr = record { key = key_named attr.name; text = attr.value }

-- an element by what its name means, and those of its attributes
abbrev pub named_elem : Elem-F Read → Read
named_elem elem = roll-Element (record { place = elem.place; tag = tag_named elem.name; attributes = map named_attribute elem.attrs; nodes = elem.nodes })

-- an element and all in it by what their names mean
abbrev pub named : Elem → Read
named = fold-Elem Read named_elem

-- a node so
abbrev pub named_node : Node Elem → Node Read
named_node (Element elem) = Element (named elem)
named_node (Char c) = Char c

-- an element with 0 for the place of each in it
abbrev pub placeless_elem : Element-F Read → Read
placeless_elem element = roll-Element (record { place = 0; tag = element.tag; attributes = element.attributes; nodes = element.nodes })

abbrev pub placeless : Read → Read
placeless = fold-Element Read placeless_elem

-- a node so
abbrev pub placeless_node : Node Read → Node Read
placeless_node (Element element) = Element (placeless element)
placeless_node (Char c) = Char c
