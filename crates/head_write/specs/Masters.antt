-- What the element of a master page is made of.
use Rattle.std.specs.Prelude.{List, ◌∷◌, ◌++◌, map, codes}
use Rattle.markup_nodes.specs.Node.{Node}
use Rattle.markup_nodes.specs.declared.words.Attr.{Attr}
use Rattle.markup_nodes.specs.declared.tree.Elem.{Elem}
use Rattle.doc_model.specs.declared.page_layout.Master.{Master}
use Rattle.written_model.specs.Elements.{attribute, unless_empty, part}
use Rattle.written_model.specs.Styles.{head_paragraph}

-- the attributes
abbrev pub master_attributes : Master → List Attr
master_attributes master =
    attribute (codes "style:name") master.name
    ∷ unless_empty (codes "style:page-layout-name") master.layout
    ++ unless_empty (codes "style:next-style-name") master.next

-- the header and the footer
abbrev pub master_nodes : Master → List (Node Elem)
master_nodes master = part (codes "style:header") (map head_paragraph master.header) ++ part (codes "style:footer") (map head_paragraph master.footer)
