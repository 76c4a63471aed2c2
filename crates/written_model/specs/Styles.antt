-- Styles, list styles, page layouts and masters as elements.
use Rattle.std.specs.Prelude.{ℕ, not, List, [], ◌∷◌, ◌++◌, map, filter, codes, decimal, zero, suc}
use Rattle.markup_nodes.specs.declared.words.Attr.{Attr}
use Rattle.markup_nodes.specs.declared.tree.Elem.{Elem}
use Rattle.markup_nodes.specs.Node.{Node}
use Rattle.doc_model.specs.declared.style.Style.{Style}
use Rattle.doc_model.specs.declared.style.Props.{Props}
use Rattle.doc_model.specs.declared.list_style.ListStyle.{ListStyle}
use Rattle.doc_model.specs.declared.list_style.ListLevel.{ListLevel}
use Rattle.doc_model.specs.declared.list_style.LevelWhat.{LevelWhat}
use Rattle.doc_model.specs.declared.list_style.LevelWhat.TheVariants.{Bullet, Number}
use Rattle.doc_model.specs.declared.page_layout.PageLayout.{PageLayout}
use Rattle.doc_model.specs.declared.page_layout.HeadPar.{HeadPar}
use Rattle.doc_model.specs.declared.page_layout.Master.{Master}
use Rattle.doc_model.specs.declared.document.Document.{Document}
use Rattle.style_model.specs.Lengths.{length_spelling}
use Rattle.written_model.specs.Elements.{attribute, unless_empty, where_stated, element, empty_element, part, properties}
use Rattle.written_model.specs.Values.{family_text, align_text, break_text, keep_text, page_start_text, display_text, format_text}
use Rattle.written_model.specs.Content.{head_content}

-- the stated properties of a paragraph
abbrev pub paragraph_attributes : Props → List Attr
paragraph_attributes props =
    where_stated (codes "fo:margin-left") length_spelling props.margin_left
    ++ where_stated (codes "fo:margin-right") length_spelling props.margin_right
    ++ where_stated (codes "fo:margin-top") length_spelling props.margin_top
    ++ where_stated (codes "fo:margin-bottom") length_spelling props.margin_bottom
    ++ where_stated (codes "fo:text-indent") length_spelling props.indent
    ++ where_stated (codes "fo:text-align") align_text props.align
    ++ where_stated (codes "fo:break-before") break_text props.break_before
    ++ where_stated (codes "fo:break-after") break_text props.break_after
    ++ where_stated (codes "fo:keep-with-next") keep_text props.keep_next
    ++ where_stated (codes "fo:keep-together") keep_text props.keep_together
    ++ where_stated (codes "fo:widows") decimal props.widows
    ++ where_stated (codes "fo:orphans") decimal props.orphans
    ++ where_stated (codes "style:page-number") page_start_text props.page_number

-- the stated properties of text
abbrev pub text_attributes : Props → List Attr
text_attributes props = where_stated (codes "text:display") display_text props.display

-- the elements of stated properties
abbrev pub property_elements : Props → List (Node Elem)
property_elements props = properties (codes "style:paragraph-properties") (paragraph_attributes props) ++ properties (codes "style:text-properties") (text_attributes props)

-- the outline level of a style, where it has one
abbrev pub outline_attribute : ℕ → List Attr
outline_attribute zero = []
outline_attribute (suc level) = attribute (codes "style:default-outline-level") (decimal (suc level)) ∷ []

-- a style
abbrev pub style_element : Style → Node Elem
style_element style = element (codes "style:style") attrs (property_elements style.props) where
  attrs : List Attr
  attrs = attribute (codes "style:name") style.name
      ∷ attribute (codes "style:family") (family_text style.family)
      ∷ unless_empty (codes "style:parent-style-name") style.parent
      ++ unless_empty (codes "style:next-style-name") style.next
      ++ where_stated (codes "style:master-page-name") (λ name. name) style.master
      ++ outline_attribute style.outline

-- the default style of paragraphs, where it states something
abbrev pub default_style : Props → List (Node Elem)
default_style defaults = of_elements (property_elements defaults) where
  of_elements : List (Node Elem) → List (Node Elem)
  of_elements [] = []
  of_elements (node ∷ nodes) = element (codes "style:default-style") (attribute (codes "style:family") (codes "paragraph") ∷ []) (node ∷ nodes) ∷ []

-- the attributes of a level that numbers
abbrev pub number_attributes : ListLevel → LevelWhat → List Attr
number_attributes level (Bullet c) = []
number_attributes level (Number format prefix suffix start display) =
    attribute (codes "text:level") (decimal level.level)
    ∷ attribute (codes "style:num-format") (format_text format)
    ∷ attribute (codes "style:num-prefix") prefix
    ∷ attribute (codes "style:num-suffix") suffix
    ∷ attribute (codes "text:start-value") (decimal start)
    ∷ attribute (codes "text:display-levels") (decimal display) ∷ []

-- a level of a list style
abbrev pub level_element : ListLevel → Node Elem
level_element level = of_what level.what where
  of_what : LevelWhat → Node Elem
  of_what (Bullet c) = empty_element (codes "text:list-level-style-bullet") (attribute (codes "text:level") (decimal level.level) ∷ attribute (codes "text:bullet-char") (c ∷ []) ∷ [])
  of_what what = empty_element (codes "text:list-level-style-number") (number_attributes level what)

-- a list style
abbrev pub list_style_element : ListStyle → Node Elem
list_style_element list = element (codes "text:list-style") (attribute (codes "style:name") list.name ∷ []) (map level_element list.levels)

-- the outline style, where it has a level
abbrev pub outline_style : ListStyle → List (Node Elem)
outline_style outline = part (codes "text:outline-style") (map (λ level. empty_element (codes "text:outline-level-style") (number_attributes level level.what)) outline.levels)

-- the stated dimensions of a page layout
abbrev pub layout_attributes : PageLayout → List Attr
layout_attributes layout =
    where_stated (codes "fo:page-width") length_spelling layout.width
    ++ where_stated (codes "fo:page-height") length_spelling layout.height
    ++ where_stated (codes "fo:margin-left") length_spelling layout.left
    ++ where_stated (codes "fo:margin-right") length_spelling layout.right
    ++ where_stated (codes "fo:margin-top") length_spelling layout.top
    ++ where_stated (codes "fo:margin-bottom") length_spelling layout.bottom

-- a page layout
abbrev pub layout_element : PageLayout → Node Elem
layout_element layout = element (codes "style:page-layout") (attribute (codes "style:name") layout.name ∷ []) (properties (codes "style:page-layout-properties") (layout_attributes layout))

-- a paragraph of a header or footer
abbrev pub head_paragraph : HeadPar → Node Elem
head_paragraph par = element (codes "text:p") [] (head_content par.items)

-- a master page
abbrev pub master_element : Master → Node Elem
master_element master = element (codes "style:master-page") attrs (part (codes "style:header") (map head_paragraph master.header) ++ part (codes "style:footer") (map head_paragraph master.footer)) where
  attrs : List Attr
  attrs = attribute (codes "style:name") master.name
      ∷ unless_empty (codes "style:page-layout-name") master.layout
      ++ unless_empty (codes "style:next-style-name") master.next

-- the styles that aren't automatic, with the default style, the outline and the list styles
abbrev pub styles_part : Document → List (Node Elem)
styles_part doc = part (codes "office:styles") (default_style doc.defaults ++ map style_element (filter (λ style. not style.auto) doc.styles) ++ outline_style doc.outline ++ map list_style_element doc.lists)

-- the automatic styles, with the page layouts
abbrev pub automatic_part : Document → List (Node Elem)
automatic_part doc = part (codes "office:automatic-styles") (map style_element (filter (λ style. style.auto) doc.styles) ++ map layout_element doc.layouts)

-- the masters
abbrev pub masters_part : Document → List (Node Elem)
masters_part doc = part (codes "office:master-styles") (map master_element doc.masters)
