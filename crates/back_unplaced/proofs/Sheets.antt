-- Styles, list styles, page layouts and masters have no places.
use Rattle.std.proofs.Common.{ℕ, List, [], ◌∷◌, ◌++◌, map, filter, not, codes, refl}
use Rattle.markup_nodes.specs.declared.tree.Elem.{Elem}
use Rattle.markup_nodes.specs.Node.{Node}
use Rattle.doc_model.specs.declared.style.Props.{Props}
use Rattle.doc_model.specs.declared.style.Style.{Style}
use Rattle.doc_model.specs.declared.list_style.ListStyle.{ListStyle}
use Rattle.doc_model.specs.declared.list_style.ListLevel.{ListLevel}
use Rattle.doc_model.specs.declared.list_style.LevelWhat.{LevelWhat}
use Rattle.doc_model.specs.declared.list_style.LevelWhat.TheVariants.{Bullet, Number}
use Rattle.doc_model.specs.declared.page_layout.PageLayout.{PageLayout}
use Rattle.doc_model.specs.declared.page_layout.HeadPar.{HeadPar}
use Rattle.doc_model.specs.declared.page_layout.Master.{Master}
use Rattle.doc_model.specs.declared.document.Document.{Document}
use Rattle.written_model.specs.Content.{head_content, bare_items}
use Rattle.written_model.specs.Elements.{element, attribute, part, properties}
use Rattle.written_model.specs.Styles.{paragraph_attributes, text_attributes, property_elements, style_element, default_style, level_element, list_style_element, outline_style, layout_attributes, layout_element, head_paragraph, master_element, styles_part, automatic_part, masters_part}
use Rattle.back_unplaced.proofs.Content.{content_still}
use Rattle.back_unplaced.proofs.Nodes.{IsStill, AreStill, element_still, empty_still, one_still, both_still, all_still, part_still, properties_still}

property_still : (props : Props) → AreStill (property_elements props)
property_still props =
    both_still (properties (codes "style:paragraph-properties") (paragraph_attributes props)) (properties (codes "style:text-properties") (text_attributes props))
    (properties_still (codes "style:paragraph-properties") (paragraph_attributes props)) (properties_still (codes "style:text-properties") (text_attributes props))

style_still : (style : Style) → IsStill (style_element style)
style_still style = element_still (codes "style:style") _ (property_elements style.props) (property_still style.props)

-- the default style round what it holds
abbrev round : List (Node Elem) → List (Node Elem)
round [] = []
round (node ∷ nodes) = element (codes "style:default-style") (attribute (codes "style:family") (codes "paragraph") ∷ []) (node ∷ nodes) ∷ []

default_still : (props : Props) → AreStill (default_style props)
default_still props = by_nodes (property_elements props) (property_still props) where
  by_nodes : (nodes : List (Node Elem)) → AreStill nodes → AreStill (round nodes)
  by_nodes [] still = refl
  by_nodes (node ∷ nodes) still = one_still _ (element_still (codes "style:default-style") _ (node ∷ nodes) still)

level_still : (level : ListLevel) → IsStill (level_element level)
level_still level = by_what level.level level.what where
  by_what : (number : ℕ) (what : LevelWhat) → IsStill (level_element (record { level = number; what = what }))
  by_what number (Bullet c) = empty_still (codes "text:list-level-style-bullet") _
  by_what number (Number shape prefix suffix start display) = empty_still (codes "text:list-level-style-number") _

list_still : (list : ListStyle) → IsStill (list_style_element list)
list_still list = element_still (codes "text:list-style") _ (map level_element list.levels) (all_still level_element level_still list.levels)

outline_still : (outline : ListStyle) → AreStill (outline_style outline)
outline_still outline = part_still (codes "text:outline-style") _ (all_still _ (λ level. empty_still (codes "text:outline-level-style") _) outline.levels)

layout_still : (layout : PageLayout) → IsStill (layout_element layout)
layout_still layout =
    element_still (codes "style:page-layout") _ (properties (codes "style:page-layout-properties") (layout_attributes layout)) (properties_still (codes "style:page-layout-properties") (layout_attributes layout))

head_still : (par : HeadPar) → IsStill (head_paragraph par)
head_still par = element_still (codes "text:p") [] (head_content par.items) (content_still _ (λ note. empty_still (codes "text:note") []) (bare_items par.items))

master_still : (master : Master) → IsStill (master_element master)
master_still master =
    let header : List (Node Elem) = part (codes "style:header") (map head_paragraph master.header) in
    let footer : List (Node Elem) = part (codes "style:footer") (map head_paragraph master.footer) in
    element_still (codes "style:master-page") _ (header ++ footer)
    (both_still header footer (part_still (codes "style:header") _ (all_still head_paragraph head_still master.header)) (part_still (codes "style:footer") _ (all_still head_paragraph head_still master.footer)))

pub styles_part_still : (doc : Document) → AreStill (styles_part doc)
styles_part_still doc =
    let common : List Style = filter (λ style. not style.auto) doc.styles in
    part_still (codes "office:styles") _
    (both_still (default_style doc.defaults ++ map style_element common ++ outline_style doc.outline) (map list_style_element doc.lists)
    (both_still (default_style doc.defaults ++ map style_element common) (outline_style doc.outline)
    (both_still (default_style doc.defaults) (map style_element common) (default_still doc.defaults) (all_still style_element style_still common)) (outline_still doc.outline))
    (all_still list_style_element list_still doc.lists))

pub automatic_part_still : (doc : Document) → AreStill (automatic_part doc)
automatic_part_still doc =
    let automatic : List Style = filter (λ style. style.auto) doc.styles in
    part_still (codes "office:automatic-styles") _
    (both_still (map style_element automatic) (map layout_element doc.layouts) (all_still style_element style_still automatic) (all_still layout_element layout_still doc.layouts))

pub masters_part_still : (doc : Document) → AreStill (masters_part doc)
masters_part_still doc = part_still (codes "office:master-styles") _ (all_still master_element master_still doc.masters)
