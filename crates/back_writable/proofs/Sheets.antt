-- Styles, list styles, page layouts and masters may be written.
use Rattle.std.proofs.Common.{◌≡◌, ℕ, true, List, [], ◌∷◌, ◌++◌, map, codes, decimal, zero, suc, refl, Option, Some, None, option_to_list}
use Rattle.std.specs.List.{AllByRecursion as Each}
use Rattle.markup_nodes.specs.declared.words.Attr.{Attr}
use Rattle.markup_nodes.specs.declared.tree.Elem.{Elem}
use Rattle.markup_nodes.specs.Node.{Node}
use Rattle.markup_parts.specs.Chars.{is_legal, is_name_start, is_name_char}
use Rattle.doc_model.specs.declared.field.Format.{Format}
use Rattle.doc_model.specs.declared.style.Props.{Props}
use Rattle.doc_model.specs.declared.style.Style.{Style}
use Rattle.doc_model.specs.declared.list_style.ListStyle.{ListStyle}
use Rattle.doc_model.specs.declared.list_style.ListLevel.{ListLevel}
use Rattle.doc_model.specs.declared.list_style.LevelWhat.{LevelWhat}
use Rattle.doc_model.specs.declared.list_style.LevelWhat.TheVariants.{Bullet, Number}
use Rattle.doc_model.specs.declared.page_layout.PageLayout.{PageLayout}
use Rattle.doc_model.specs.Chars.{IsLegal}
use Rattle.doc_model.specs.Parts.{names_of_style}
use Rattle.doc_model.specs.Valid.{IsLevel}
use Rattle.style_model.specs.Lengths.{length_spelling}
use Rattle.tree_text.specs.Writing.{is_name}
use Rattle.written_model.specs.Elements.{attribute, unless_empty, where_stated, element, empty_element, properties}
use Rattle.written_model.specs.Styles.{paragraph_attributes, text_attributes, property_elements, outline_attribute, style_element, default_style, number_attributes, level_element, list_style_element, outline_style, layout_attributes, layout_element}
use Rattle.written_model.specs.Values.{family_text, align_text, break_text, keep_text, page_start_text, display_text, format_text}
use Rattle.back_writable.proofs.Chars.{AreLegal, all_legal, decimal_legal, length_legal, one_legal}
use Rattle.back_writable.proofs.Lists.{each_append, each_made}
use Rattle.back_writable.proofs.Nodes.{Fits, AreFit, IsGood, AreGood, attribute_good, unless_good, stated_good, element_fits, empty_fits, part_fits, properties_fit}
use Rattle.back_writable.proofs.Values.{family_legal, align_legal, break_legal, keep_legal, page_start_legal, display_legal, format_legal}

-- one more that may be stated, behind others
behind : {X : Type 0} (name : List ℕ) (text : X → List ℕ) (value : Option X) (attrs : List Attr) → is_name name ≡ true → ((x : X) → AreLegal (text x)) → AreGood attrs → AreGood (attrs ++ where_stated name text value)
behind name text value attrs named legal good = each_append IsGood attrs (where_stated name text value) good (stated_good name text value named legal)

-- thirteen lists of attributes, one behind the other
thirteen : (a b c d e f g h i j k l m : List Attr) → AreGood a → AreGood b → AreGood c → AreGood d → AreGood e → AreGood f → AreGood g → AreGood h → AreGood i → AreGood j → AreGood k → AreGood l → AreGood m
    → AreGood (a ++ b ++ c ++ d ++ e ++ f ++ g ++ h ++ i ++ j ++ k ++ l ++ m)
thirteen a b c d e f g h i j k l m ga gb gc gd ge gf gg gh gi gj gk gl gm =
    let two = each_append IsGood a b ga gb in
    let three = each_append IsGood (a ++ b) c two gc in
    let four = each_append IsGood (a ++ b ++ c) d three gd in
    let five = each_append IsGood (a ++ b ++ c ++ d) e four ge in
    let six = each_append IsGood (a ++ b ++ c ++ d ++ e) f five gf in
    let seven = each_append IsGood (a ++ b ++ c ++ d ++ e ++ f) g six gg in
    let eight = each_append IsGood (a ++ b ++ c ++ d ++ e ++ f ++ g) h seven gh in
    let nine = each_append IsGood (a ++ b ++ c ++ d ++ e ++ f ++ g ++ h) i eight gi in
    let ten = each_append IsGood (a ++ b ++ c ++ d ++ e ++ f ++ g ++ h ++ i) j nine gj in
    let eleven = each_append IsGood (a ++ b ++ c ++ d ++ e ++ f ++ g ++ h ++ i ++ j) k ten gk in
    let twelve = each_append IsGood (a ++ b ++ c ++ d ++ e ++ f ++ g ++ h ++ i ++ j ++ k) l eleven gl in
    each_append IsGood (a ++ b ++ c ++ d ++ e ++ f ++ g ++ h ++ i ++ j ++ k ++ l) m twelve gm

paragraph_good : (props : Props) → AreGood (paragraph_attributes props)
unfolding is_name_start is_name_char
paragraph_good props =
    thirteen
    (where_stated (codes "fo:margin-left") length_spelling props.margin_left) (where_stated (codes "fo:margin-right") length_spelling props.margin_right)
    (where_stated (codes "fo:margin-top") length_spelling props.margin_top) (where_stated (codes "fo:margin-bottom") length_spelling props.margin_bottom)
    (where_stated (codes "fo:text-indent") length_spelling props.indent) (where_stated (codes "fo:text-align") align_text props.align)
    (where_stated (codes "fo:break-before") break_text props.break_before) (where_stated (codes "fo:break-after") break_text props.break_after)
    (where_stated (codes "fo:keep-with-next") keep_text props.keep_next) (where_stated (codes "fo:keep-together") keep_text props.keep_together)
    (where_stated (codes "fo:widows") decimal props.widows) (where_stated (codes "fo:orphans") decimal props.orphans)
    (where_stated (codes "style:page-number") page_start_text props.page_number)
    (stated_good (codes "fo:margin-left") length_spelling props.margin_left refl length_legal) (stated_good (codes "fo:margin-right") length_spelling props.margin_right refl length_legal)
    (stated_good (codes "fo:margin-top") length_spelling props.margin_top refl length_legal) (stated_good (codes "fo:margin-bottom") length_spelling props.margin_bottom refl length_legal)
    (stated_good (codes "fo:text-indent") length_spelling props.indent refl length_legal) (stated_good (codes "fo:text-align") align_text props.align refl align_legal)
    (stated_good (codes "fo:break-before") break_text props.break_before refl break_legal) (stated_good (codes "fo:break-after") break_text props.break_after refl break_legal)
    (stated_good (codes "fo:keep-with-next") keep_text props.keep_next refl keep_legal) (stated_good (codes "fo:keep-together") keep_text props.keep_together refl keep_legal)
    (stated_good (codes "fo:widows") decimal props.widows refl decimal_legal) (stated_good (codes "fo:orphans") decimal props.orphans refl decimal_legal)
    (stated_good (codes "style:page-number") page_start_text props.page_number refl page_start_legal)

text_good : (props : Props) → AreGood (text_attributes props)
unfolding is_name_start is_name_char
text_good props = stated_good (codes "text:display") display_text props.display refl display_legal

property_fits : (room : ℕ) (props : Props) → AreFit (suc room) (property_elements props)
unfolding is_name_start is_name_char
property_fits room props =
    each_append (Fits (suc room)) (properties (codes "style:paragraph-properties") (paragraph_attributes props)) (properties (codes "style:text-properties") (text_attributes props))
    (properties_fit room (codes "style:paragraph-properties") (paragraph_attributes props) refl (paragraph_good props)) (properties_fit room (codes "style:text-properties") (text_attributes props) refl (text_good props))

-- a style whose names are legal
outline_good : (level : ℕ) → AreGood (outline_attribute level)
unfolding is_name_start is_name_char
outline_good zero = tt
outline_good (suc level) = (attribute_good (codes "style:default-outline-level") (decimal (suc level)) refl (decimal_legal (suc level)), tt)

-- the master of a style
abbrev own : List ℕ → List ℕ
own name = name

master_good : (master : Option (List ℕ)) → Each AreLegal (option_to_list master) → AreGood (where_stated (codes "style:master-page-name") own master)
unfolding is_name_start is_name_char
master_good None legal = tt
master_good (Some name) legal = (attribute_good (codes "style:master-page-name") name refl legal.0, tt)

pub style_fits : (room : ℕ) (style : Style) → Each AreLegal (names_of_style style) → Fits (suc (suc room)) (style_element style)
unfolding is_name_start is_name_char
style_fits room style legal =
    let parent : List Attr = unless_empty (codes "style:parent-style-name") style.parent in
    let next : List Attr = unless_empty (codes "style:next-style-name") style.next in
    let master : List Attr = where_stated (codes "style:master-page-name") own style.master in
    element_fits (suc room) (codes "style:style") (attribute (codes "style:name") style.name ∷ attribute (codes "style:family") (family_text style.family) ∷ parent ++ next ++ master ++ outline_attribute style.outline) (property_elements style.props) refl (
      attribute_good (codes "style:name") style.name refl legal.0,
      (
        attribute_good (codes "style:family") (family_text style.family) refl (family_legal style.family),
        each_append IsGood (parent ++ next ++ master) (outline_attribute style.outline)
            (each_append IsGood (parent ++ next) master
            (each_append IsGood parent next (unless_good (codes "style:parent-style-name") style.parent refl legal.1.0) (unless_good (codes "style:next-style-name") style.next refl legal.1.1.0))
            (master_good style.master legal.1.1.1)) (outline_good style.outline),
      ),
    )
    (property_fits room style.props)

-- the default style round what it holds
abbrev round : List (Node Elem) → List (Node Elem)
round [] = []
round (node ∷ nodes) = element (codes "style:default-style") (attribute (codes "style:family") (codes "paragraph") ∷ []) (node ∷ nodes) ∷ []

round_fits : (room : ℕ) (nodes : List (Node Elem)) → AreFit room nodes → AreFit (suc room) (round nodes)
unfolding is_name_start is_name_char is_legal
round_fits room [] fit = tt
round_fits room (node ∷ nodes) fit = (element_fits room (codes "style:default-style") (attribute (codes "style:family") (codes "paragraph") ∷ []) (node ∷ nodes) refl (attribute_good (codes "style:family") (codes "paragraph") refl refl, tt) fit, tt)

pub default_fits : (room : ℕ) (defaults : Props) → AreFit (suc (suc room)) (default_style defaults)
default_fits room defaults = round_fits (suc room) (property_elements defaults) (property_fits room defaults)

-- levels with legal labels
number_good : (level : ℕ) (format : Format) (prefix suffix : List ℕ) (start display : ℕ) → Each IsLegal prefix → Each IsLegal suffix
    → AreGood (number_attributes (record { level = level; what = Number format prefix suffix start display }) (Number format prefix suffix start display))
unfolding is_name_start is_name_char
number_good level format prefix suffix start display before after = (
  attribute_good (codes "text:level") (decimal level) refl (decimal_legal level),
  (
    attribute_good (codes "style:num-format") (format_text format) refl (format_legal format),
    (
      attribute_good (codes "style:num-prefix") prefix refl (all_legal prefix before),
      (
        attribute_good (codes "style:num-suffix") suffix refl (all_legal suffix after),
        (attribute_good (codes "text:start-value") (decimal start) refl (decimal_legal start), (attribute_good (codes "text:display-levels") (decimal display) refl (decimal_legal display), tt)),
      ),
    ),
  ),
)

level_fits : (room : ℕ) (level : ListLevel) → IsLevel level → Fits (suc room) (level_element level)
unfolding is_name_start is_name_char
level_fits room level = by_what level.level level.what where
  by_what : (number : ℕ) (what : LevelWhat) → IsLevel (record { level = number; what = what }) → Fits (suc room) (level_element (record { level = number; what = what }))
  by_what number (Bullet c) legal =
      empty_fits room (codes "text:list-level-style-bullet") _ refl
      (attribute_good (codes "text:level") (decimal number) refl (decimal_legal number), (attribute_good (codes "text:bullet-char") (c ∷ []) refl (one_legal c legal), tt))
  by_what number (Number format prefix suffix start display) legal = empty_fits room (codes "text:list-level-style-number") _ refl (number_good number format prefix suffix start display legal.0 legal.1)

pub list_fits : (room : ℕ) (list : ListStyle) → AreLegal list.name → Each IsLevel list.levels → Fits (suc (suc room)) (list_style_element list)
unfolding is_name_start is_name_char
list_fits room list named legal =
    element_fits (suc room) (codes "text:list-style") _ (map level_element list.levels) refl (attribute_good (codes "style:name") list.name refl named, tt)
    (each_made IsLevel (Fits (suc room)) level_element (level_fits room) list.levels legal)

-- a level of the outline
abbrev outline_element : ListLevel → Node Elem
outline_element level = empty_element (codes "text:outline-level-style") (number_attributes level level.what)

outline_level_fits : (room : ℕ) (level : ListLevel) → IsLevel level → Fits (suc room) (outline_element level)
unfolding is_name_start is_name_char
outline_level_fits room level = by_what level.level level.what where
  by_what : (number : ℕ) (what : LevelWhat) → IsLevel (record { level = number; what = what }) → Fits (suc room) (outline_element (record { level = number; what = what }))
  by_what number (Bullet c) legal = empty_fits room (codes "text:outline-level-style") [] refl tt
  by_what number (Number format prefix suffix start display) legal = empty_fits room (codes "text:outline-level-style") _ refl (number_good number format prefix suffix start display legal.0 legal.1)

pub outline_fits : (room : ℕ) (outline : ListStyle) → Each IsLevel outline.levels → AreFit (suc (suc room)) (outline_style outline)
unfolding is_name_start is_name_char
outline_fits room outline legal = part_fits (suc room) (codes "text:outline-style") (map outline_element outline.levels) refl (each_made IsLevel (Fits (suc room)) outline_element (outline_level_fits room) outline.levels legal)

layout_good : (layout : PageLayout) → AreGood (layout_attributes layout)
unfolding is_name_start is_name_char
layout_good layout =
    behind (codes "fo:margin-bottom") length_spelling layout.bottom _ refl length_legal
    (behind (codes "fo:margin-top") length_spelling layout.top _ refl length_legal
    (behind (codes "fo:margin-right") length_spelling layout.right _ refl length_legal
    (behind (codes "fo:margin-left") length_spelling layout.left _ refl length_legal
    (behind (codes "fo:page-height") length_spelling layout.height (where_stated (codes "fo:page-width") length_spelling layout.width) refl length_legal
    (stated_good (codes "fo:page-width") length_spelling layout.width refl length_legal)))))

pub layout_fits : (room : ℕ) (layout : PageLayout) → AreLegal layout.name → Fits (suc (suc room)) (layout_element layout)
unfolding is_name_start is_name_char
layout_fits room layout named =
    element_fits (suc room) (codes "style:page-layout") _ (properties (codes "style:page-layout-properties") (layout_attributes layout)) refl (attribute_good (codes "style:name") layout.name refl named, tt)
    (properties_fit room (codes "style:page-layout-properties") (layout_attributes layout) refl (layout_good layout))
