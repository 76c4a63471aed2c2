-- The parts of styles and masters are plain.
use Rattle.std.proofs.Common.{not, List, [], ◌∷◌, ◌++◌, map, filter, refl, codes, decimal}
use Rattle.markup_nodes.specs.declared.tree.Elem.{Elem}
use Rattle.markup_nodes.specs.Node.{Node}
use Rattle.doc_model.specs.declared.style.Style.{Style}
use Rattle.doc_model.specs.declared.style.Props.{Props}
use Rattle.doc_model.specs.declared.list_style.ListStyle.{ListStyle}
use Rattle.doc_model.specs.declared.list_style.ListLevel.{ListLevel}
use Rattle.doc_model.specs.declared.list_style.LevelWhat.{LevelWhat}
use Rattle.doc_model.specs.declared.list_style.LevelWhat.TheVariants.{Bullet, Number}
use Rattle.doc_model.specs.declared.page_layout.PageLayout.{PageLayout}
use Rattle.doc_model.specs.declared.page_layout.HeadPar.{HeadPar}
use Rattle.doc_model.specs.declared.page_layout.Master.{Master}
use Rattle.doc_model.specs.declared.document.Document.{Document}
use Rattle.written_model.specs.Elements.{attribute, element, empty_element, part, properties}
use Rattle.written_model.specs.Styles.{paragraph_attributes, text_attributes, property_elements, style_element, default_style, number_attributes, level_element, list_style_element, outline_style, layout_attributes, layout_element, head_paragraph, master_element, styles_part, automatic_part, masters_part}
use Rattle.written_model.specs.Content.{head_content}
use Rattle.back_names.proofs.Rows.{no_rows, given_first}
use Rattle.back_names.proofs.SheetRows.{paragraph_by_rows, text_by_rows, style_attributes, style_by_rows, number_by_rows, bullet_by_rows, layout_by_rows, master_attributes, master_by_rows}
use Rattle.back_names.proofs.PlainLists.{IsPlain, ArePlain, element_plain, one_plain, both_plain, each_plain, part_plain, properties_plain}
use Rattle.back_names.proofs.PlainContent.{head_content_plain}

property_elements_plain : (props : Props) → ArePlain (property_elements props)
property_elements_plain props =
    both_plain (properties (codes "style:paragraph-properties") (paragraph_attributes props)) (properties (codes "style:text-properties") (text_attributes props))
    (properties_plain (codes "style:paragraph-properties") (paragraph_attributes props) (paragraph_by_rows props) refl)
    (properties_plain (codes "style:text-properties") (text_attributes props) (text_by_rows props) refl)

style_plain : (style : Style) → IsPlain (style_element style)
style_plain style = element_plain (codes "style:style") (style_attributes style) (property_elements style.props) (style_by_rows style) refl (property_elements_plain style.props)

abbrev round : List (Node Elem) → List (Node Elem)
round [] = []
round (node ∷ nodes) = element (codes "style:default-style") (attribute (codes "style:family") (codes "paragraph") ∷ []) (node ∷ nodes) ∷ []

round_plain : (nodes : List (Node Elem)) → ArePlain nodes → ArePlain (round nodes)
round_plain [] plain = refl
round_plain (node ∷ nodes) plain =
    one_plain (element (codes "style:default-style") (attribute (codes "style:family") (codes "paragraph") ∷ []) (node ∷ nodes)) (element_plain (codes "style:default-style") (attribute (codes "style:family") (codes "paragraph") ∷ []) (node ∷ nodes) (given_first (codes "style:family") (codes "paragraph") no_rows) refl plain)

default_plain : (defaults : Props) → ArePlain (default_style defaults)
default_plain defaults = round_plain (property_elements defaults) (property_elements_plain defaults)

level_plain : (level : ListLevel) → IsPlain (level_element level)
level_plain level = by_what level.what where
  by_what : (what : LevelWhat) → IsPlain (level_element (record { level = level.level; what = what }))
  by_what (Bullet c) =
      element_plain (codes "text:list-level-style-bullet") (attribute (codes "text:level") (decimal level.level) ∷ attribute (codes "text:bullet-char") (c ∷ []) ∷ []) [] (bullet_by_rows level.level c) refl refl
  by_what (Number format prefix suffix start display) =
      element_plain (codes "text:list-level-style-number") (number_attributes level (Number format prefix suffix start display)) [] (number_by_rows level.level format prefix suffix start display) refl refl

list_plain : (list : ListStyle) → IsPlain (list_style_element list)
list_plain list =
    element_plain (codes "text:list-style") (attribute (codes "style:name") list.name ∷ []) (map level_element list.levels) (given_first (codes "style:name") list.name no_rows) refl (each_plain level_element level_plain list.levels)

outline_level_plain : (level : ListLevel) → IsPlain (empty_element (codes "text:outline-level-style") (number_attributes level level.what))
outline_level_plain level = by_what level.what where
  by_what : (what : LevelWhat) → IsPlain (empty_element (codes "text:outline-level-style") (number_attributes level what))
  by_what (Bullet c) = element_plain (codes "text:outline-level-style") [] [] no_rows refl refl
  by_what (Number format prefix suffix start display) =
      element_plain (codes "text:outline-level-style") (number_attributes level (Number format prefix suffix start display)) [] (number_by_rows level.level format prefix suffix start display) refl refl

outline_plain : (outline : ListStyle) → ArePlain (outline_style outline)
outline_plain outline =
    let level : ListLevel → Node Elem = λ level. empty_element (codes "text:outline-level-style") (number_attributes level level.what) in
    part_plain (codes "text:outline-style") (map level outline.levels) refl (each_plain level outline_level_plain outline.levels)

layout_plain : (layout : PageLayout) → IsPlain (layout_element layout)
layout_plain layout =
    element_plain (codes "style:page-layout") (attribute (codes "style:name") layout.name ∷ []) (properties (codes "style:page-layout-properties") (layout_attributes layout))
    (given_first (codes "style:name") layout.name no_rows) refl (properties_plain (codes "style:page-layout-properties") (layout_attributes layout) (layout_by_rows layout) refl)

head_paragraph_plain : (par : HeadPar) → IsPlain (head_paragraph par)
head_paragraph_plain par = element_plain (codes "text:p") [] (head_content par.items) no_rows refl (head_content_plain par.items)

master_plain : (master : Master) → IsPlain (master_element master)
master_plain master =
    element_plain (codes "style:master-page") (master_attributes master) (part (codes "style:header") (map head_paragraph master.header) ++ part (codes "style:footer") (map head_paragraph master.footer)) (master_by_rows master) refl
    (both_plain (part (codes "style:header") (map head_paragraph master.header)) (part (codes "style:footer") (map head_paragraph master.footer))
    (part_plain (codes "style:header") (map head_paragraph master.header) refl (each_plain head_paragraph head_paragraph_plain master.header))
    (part_plain (codes "style:footer") (map head_paragraph master.footer) refl (each_plain head_paragraph head_paragraph_plain master.footer)))

pub styles_plain : (doc : Document) → ArePlain (styles_part doc)
styles_plain doc =
    let styles = map style_element (filter (λ (style : Style). not style.auto) doc.styles) in
    let outline = outline_style doc.outline in
    let lists = map list_style_element doc.lists in
    let default = default_style doc.defaults in
    part_plain (codes "office:styles") (default ++ styles ++ outline ++ lists) refl
    (both_plain (default ++ styles ++ outline) lists
    (both_plain (default ++ styles) outline (both_plain default styles (default_plain doc.defaults) (each_plain style_element style_plain (filter (λ (style : Style). not style.auto) doc.styles))) (outline_plain doc.outline))
    (each_plain list_style_element list_plain doc.lists))

pub automatic_plain : (doc : Document) → ArePlain (automatic_part doc)
automatic_plain doc =
    let styles = map style_element (filter (λ (style : Style). style.auto) doc.styles) in
    let layouts = map layout_element doc.layouts in
    part_plain (codes "office:automatic-styles") (styles ++ layouts) refl
    (both_plain styles layouts (each_plain style_element style_plain (filter (λ (style : Style). style.auto) doc.styles)) (each_plain layout_element layout_plain doc.layouts))

pub masters_plain : (doc : Document) → ArePlain (masters_part doc)
masters_plain doc = part_plain (codes "office:master-styles") (map master_element doc.masters) refl (each_plain master_element master_plain doc.masters)
