-- Attributes to be written.
use Rattle.std.specs.Prelude.{chars}
use Rattle.markup_nodes.specs.declared.words.Attr.{Attr}
use Rattle.element_text.specs.declared.attributes.Attribute.{Attribute}

-- the attribute of a tree that is written
abbrev pub attr_of : Attribute → Attr
attr_of attribute = record { name = chars attribute.name.now; value = chars attribute.value.now }
