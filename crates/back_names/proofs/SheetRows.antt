-- The attributes of styles, list styles, layouts and masters by rows.
use Rattle.std.proofs.Common.{ℕ, List, [], ◌∷◌, ◌++◌, refl, codes, decimal, zero, suc, Option, Some, None}
use Rattle.markup_nodes.specs.declared.words.Attr.{Attr}
use Rattle.doc_model.specs.declared.style.Style.{Style}
use Rattle.doc_model.specs.declared.style.Props.{Props}
use Rattle.doc_model.specs.declared.field.Format.{Format}
use Rattle.doc_model.specs.declared.list_style.LevelWhat.TheVariants.{Number}
use Rattle.doc_model.specs.declared.page_layout.PageLayout.{PageLayout}
use Rattle.doc_model.specs.declared.page_layout.Master.{Master}
use Rattle.style_model.specs.Lengths.{length_spelling}
use Rattle.written_model.specs.Elements.{attribute, unless_empty, where_stated}
use Rattle.written_model.specs.Values.{family_text, align_text, break_text, keep_text, page_start_text, display_text, format_text}
use Rattle.written_model.specs.Styles.{paragraph_attributes, text_attributes, outline_attribute, number_attributes, layout_attributes}
use Rattle.back_names.proofs.Rows.{Row, AreByRows, given, unless, stated, joined, given_first, unless_row, stated_row}

-- the properties of a paragraph
abbrev pub paragraph_rows : Props → List Row
paragraph_rows props =
    stated (codes "fo:margin-left") length_spelling props.margin_left
    ∷ stated (codes "fo:margin-right") length_spelling props.margin_right
    ∷ stated (codes "fo:margin-top") length_spelling props.margin_top
    ∷ stated (codes "fo:margin-bottom") length_spelling props.margin_bottom
    ∷ stated (codes "fo:text-indent") length_spelling props.indent
    ∷ stated (codes "fo:text-align") align_text props.align
    ∷ stated (codes "fo:break-before") break_text props.break_before
    ∷ stated (codes "fo:break-after") break_text props.break_after
    ∷ stated (codes "fo:keep-with-next") keep_text props.keep_next
    ∷ stated (codes "fo:keep-together") keep_text props.keep_together
    ∷ stated (codes "fo:widows") decimal props.widows
    ∷ stated (codes "fo:orphans") decimal props.orphans
    ∷ stated (codes "style:page-number") page_start_text props.page_number ∷ []

-- one more that may be stated, behind others
behind : {X : Type 0} (name : List ℕ) (text : X → List ℕ) (value : Option X) {attrs : List Attr} {rows : List Row} → AreByRows attrs rows
    → AreByRows (attrs ++ where_stated name text value) (rows ++ stated name text value ∷ [])
behind name text value e = joined e (stated_row name text value)

pub paragraph_by_rows : (props : Props) → AreByRows (paragraph_attributes props) (paragraph_rows props)
paragraph_by_rows props =
    behind (codes "style:page-number") page_start_text props.page_number
    (behind (codes "fo:orphans") decimal props.orphans
    (behind (codes "fo:widows") decimal props.widows
    (behind (codes "fo:keep-together") keep_text props.keep_together
    (behind (codes "fo:keep-with-next") keep_text props.keep_next
    (behind (codes "fo:break-after") break_text props.break_after
    (behind (codes "fo:break-before") break_text props.break_before
    (behind (codes "fo:text-align") align_text props.align
    (behind (codes "fo:text-indent") length_spelling props.indent
    (behind (codes "fo:margin-bottom") length_spelling props.margin_bottom
    (behind (codes "fo:margin-top") length_spelling props.margin_top
    (behind (codes "fo:margin-right") length_spelling props.margin_right (stated_row (codes "fo:margin-left") length_spelling props.margin_left))))))))))))

-- those of text
abbrev pub text_rows : Props → List Row
text_rows props = stated (codes "text:display") display_text props.display ∷ []

pub text_by_rows : (props : Props) → AreByRows (text_attributes props) (text_rows props)
text_by_rows props = stated_row (codes "text:display") display_text props.display

-- a style
abbrev pub outline_value : ℕ → Option (List ℕ)
outline_value zero = None
outline_value (suc level) = Some (decimal (suc level))

abbrev pub outline_row : ℕ → Row
outline_row level = record { name = codes "style:default-outline-level"; value = outline_value level }

outline_by_row : (level : ℕ) → AreByRows (outline_attribute level) (outline_row level ∷ [])
outline_by_row zero = record { are = refl }
outline_by_row (suc level) = record { are = refl }

abbrev pub style_attributes : Style → List Attr
style_attributes style = attribute (codes "style:name") style.name
    ∷ attribute (codes "style:family") (family_text style.family)
    ∷ unless_empty (codes "style:parent-style-name") style.parent
    ++ unless_empty (codes "style:next-style-name") style.next
    ++ where_stated (codes "style:master-page-name") (λ (name : List ℕ). name) style.master
    ++ outline_attribute style.outline

abbrev pub style_rows : Style → List Row
style_rows style =
    given (codes "style:name") style.name ∷ given (codes "style:family") (family_text style.family)
    ∷ unless (codes "style:parent-style-name") style.parent ∷ unless (codes "style:next-style-name") style.next
    ∷ stated (codes "style:master-page-name") (λ (name : List ℕ). name) style.master ∷ outline_row style.outline ∷ []

pub style_by_rows : (style : Style) → AreByRows (style_attributes style) (style_rows style)
style_by_rows style =
    joined
    (behind (codes "style:master-page-name") (λ (name : List ℕ). name) style.master
    (joined
    (given_first (codes "style:name") style.name (given_first (codes "style:family") (family_text style.family) (unless_row (codes "style:parent-style-name") style.parent)))
    (unless_row (codes "style:next-style-name") style.next)))
    (outline_by_row style.outline)

-- a level
abbrev pub number_rows : ℕ → Format → List ℕ → List ℕ → ℕ → ℕ → List Row
number_rows level format prefix suffix start display =
    given (codes "text:level") (decimal level) ∷ given (codes "style:num-format") (format_text format) ∷ given (codes "style:num-prefix") prefix
    ∷ given (codes "style:num-suffix") suffix ∷ given (codes "text:start-value") (decimal start) ∷ given (codes "text:display-levels") (decimal display) ∷ []

abbrev pub bullet_rows : ℕ → ℕ → List Row
bullet_rows level c = given (codes "text:level") (decimal level) ∷ given (codes "text:bullet-char") (c ∷ []) ∷ []

pub number_by_rows : (level : ℕ) (format : Format) (prefix suffix : List ℕ) (start display : ℕ)
    → AreByRows (number_attributes (record { level = level; what = Number format prefix suffix start display }) (Number format prefix suffix start display)) (number_rows level format prefix suffix start display)
number_by_rows level format prefix suffix start display = record { are = refl }

pub bullet_by_rows : (level c : ℕ) → AreByRows (attribute (codes "text:level") (decimal level) ∷ attribute (codes "text:bullet-char") (c ∷ []) ∷ []) (bullet_rows level c)
bullet_by_rows level c = record { are = refl }

-- the dimensions of a page
abbrev pub layout_rows : PageLayout → List Row
layout_rows layout =
    stated (codes "fo:page-width") length_spelling layout.width ∷ stated (codes "fo:page-height") length_spelling layout.height
    ∷ stated (codes "fo:margin-left") length_spelling layout.left ∷ stated (codes "fo:margin-right") length_spelling layout.right
    ∷ stated (codes "fo:margin-top") length_spelling layout.top ∷ stated (codes "fo:margin-bottom") length_spelling layout.bottom ∷ []

pub layout_by_rows : (layout : PageLayout) → AreByRows (layout_attributes layout) (layout_rows layout)
layout_by_rows layout =
    behind (codes "fo:margin-bottom") length_spelling layout.bottom
    (behind (codes "fo:margin-top") length_spelling layout.top
    (behind (codes "fo:margin-right") length_spelling layout.right
    (behind (codes "fo:margin-left") length_spelling layout.left
    (behind (codes "fo:page-height") length_spelling layout.height (stated_row (codes "fo:page-width") length_spelling layout.width)))))

-- a master
abbrev pub master_attributes : Master → List Attr
master_attributes master = attribute (codes "style:name") master.name
    ∷ unless_empty (codes "style:page-layout-name") master.layout
    ++ unless_empty (codes "style:next-style-name") master.next

abbrev pub master_rows : Master → List Row
master_rows master = given (codes "style:name") master.name ∷ unless (codes "style:page-layout-name") master.layout ∷ unless (codes "style:next-style-name") master.next ∷ []

pub master_by_rows : (master : Master) → AreByRows (master_attributes master) (master_rows master)
master_by_rows master = joined (given_first (codes "style:name") master.name (unless_row (codes "style:page-layout-name") master.layout)) (unless_row (codes "style:next-style-name") master.next)
