-- The attributes of styles, and the levels of the outline.
use Rattle.std.specs.Prelude.{List, ◌∷◌, ◌++◌, codes}
use Rattle.markup_nodes.specs.Node.{Node}
use Rattle.markup_nodes.specs.declared.words.Attr.{Attr}
use Rattle.markup_nodes.specs.declared.tree.Elem.{Elem}
use Rattle.doc_model.specs.declared.style.Style.{Style}
use Rattle.doc_model.specs.declared.list_style.ListLevel.{ListLevel}
use Rattle.written_model.specs.Elements.{attribute, unless_empty, where_stated, empty_element}
use Rattle.written_model.specs.Styles.{outline_attribute, number_attributes}
use Rattle.written_model.specs.Values.{family_text}

-- the attributes of a style's element
abbrev pub style_attributes : Style → List Attr
style_attributes style =
    attribute (codes "style:name") style.name
    ∷ attribute (codes "style:family") (family_text style.family)
    ∷ unless_empty (codes "style:parent-style-name") style.parent
    ++ unless_empty (codes "style:next-style-name") style.next
    ++ where_stated (codes "style:master-page-name") (λ name. name) style.master
    ++ outline_attribute style.outline

-- a level of the outline
abbrev pub outline_level : ListLevel → Node Elem
outline_level level = empty_element (codes "text:outline-level-style") (number_attributes level level.what)
