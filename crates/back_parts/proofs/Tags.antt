-- What the elements of the style parts are, and the families and names that they state.
use Rattle.std.proofs.Common.{◌≡◌, ℕ, Bool, true, cond, List, [], ◌∷◌, map, length, codes, refl, ap, ap₂, ◌∙◌, Some, None, option_to_list}
use Rattle.markup_nodes.specs.declared.words.Attr.{Attr}
use Rattle.markup_nodes.specs.declared.tree.Elem.{Elem}
use Rattle.markup_nodes.specs.Node.{Node}
use Rattle.doc_model.specs.declared.style.Family.{Family}
use Rattle.doc_model.specs.declared.style.Props.{Props}
use Rattle.doc_model.specs.declared.style.Style.{Style}
use Rattle.doc_model.specs.declared.list_style.ListStyle.{ListStyle}
use Rattle.doc_model.specs.declared.page_layout.PageLayout.{PageLayout}
use Rattle.doc_model.specs.declared.page_layout.Master.{Master}
use Rattle.load_model.specs.declared.names.Key.{Key}
use Rattle.load_model.specs.declared.names.Key.TheVariants as key
use Rattle.load_model.specs.declared.names.Tag.{Tag}
use Rattle.load_model.specs.declared.names.Tag.TheVariants as tag
use Rattle.load_model.specs.declared.element.Element.{Element}
use Rattle.load_model.specs.Left.{tag_of, is_same_tag, first}
use Rattle.load_model.specs.Styles.{family_of, name_of}
use Rattle.load_model.specs.Values as value
use Rattle.load_model.specs.Values.{stated}
use Rattle.written_model.specs.Elements.{attribute, element, part}
use Rattle.written_model.specs.Styles.{property_elements}
use Rattle.written_model.specs.Values.{family_text}
use Rattle.back_names.specs.Named.{named_attribute}
use Rattle.back_fields.specs.Fit.{IsName}
use Rattle.back_values.proofs.Texts.{name_back}
use Rattle.back_values.proofs.Words.{family_back}
use Rattle.back_styles.specs.Shown.{shown, held_of}
use Rattle.back_styles.specs.Styles.{style_read, default_read}
use Rattle.back_styles.proofs.Keys.{style_tag, default_tag, name_key, family_key}
use Rattle.back_styles.proofs.Parts.{tag_shown, attributes_shown}
use Rattle.back_sheets.specs.Layouts.{layout_read}
use Rattle.back_lists.specs.Lists.{list_read, outline_read}
use Rattle.back_lists.proofs.Keys.{outline_tag}
use Rattle.back_masters.specs.Masters.{master_read}
use Rattle.back_parts.proofs.Keys as named
use Rattle.back_parts.proofs.Root.{AreOfTag, part_tags}

pub style_tagged : (style : Style) → tag_of (style_read style) ≡ tag.Style
style_tagged style = tag_shown (codes "style:style") _ _ tag.Style style_tag

pub list_tagged : (list : ListStyle) → tag_of (list_read list) ≡ tag.ListStyle
list_tagged list = tag_shown (codes "text:list-style") _ _ tag.ListStyle named.list_tag

pub layout_tagged : (layout : PageLayout) → tag_of (layout_read layout) ≡ tag.PageLayout
layout_tagged layout = tag_shown (codes "style:page-layout") _ _ tag.PageLayout named.layout_tag

pub master_tagged : (master : Master) → tag_of (master_read master) ≡ tag.MasterPage
master_tagged master = tag_shown (codes "style:master-page") _ _ tag.MasterPage named.master_tag

pub outline_tagged : (outline : ListStyle) → AreOfTag tag.OutlineStyle (outline_read outline)
outline_tagged outline = part_tags (codes "text:outline-style") tag.OutlineStyle _ outline_tag

-- the default style round what it holds
abbrev round : List (Node Elem) → List (Node Elem)
round [] = []
round (node ∷ nodes) = element (codes "style:default-style") (attribute (codes "style:family") (codes "paragraph") ∷ []) (node ∷ nodes) ∷ []

pub default_tagged : (defaults : Props) → AreOfTag tag.DefaultStyle (default_read defaults)
default_tagged defaults = by_nodes (property_elements defaults) where
  by_nodes : (nodes : List (Node Elem)) → AreOfTag tag.DefaultStyle (held_of (round nodes))
  by_nodes [] = tt
  by_nodes (node ∷ nodes) = (tag_shown (codes "style:default-style") _ (node ∷ nodes) tag.DefaultStyle default_tag, tt)

-- one of a tag is the first of it
one_counted : (which : Tag) (one : Element) → tag_of one ≡ which → is_same_tag which which ≡ true → length (option_to_list (first which (one ∷ []))) ≡ 1
one_counted which one is e = ap (λ (of : Tag). length (option_to_list (cond (is_same_tag of which) (Some one) None))) is ∙ ap (λ (b : Bool). length (option_to_list (cond b (Some one) None))) e

-- a name that is stated in front
name_first : (tagged name : List ℕ) (more : List Attr) (nodes : List (Node Elem)) → IsName name → name_of (shown (element tagged (attribute (codes "style:name") name ∷ more) nodes)) ≡ Some name
name_first tagged name more nodes is =
    ap (stated key.Name value.name) (attributes_shown tagged (attribute (codes "style:name") name ∷ more) nodes)
    ∙ ap (λ (one : Key). stated key.Name value.name ((record { key = one; text = name }) ∷ map named_attribute more)) name_key
    ∙ name_back name is.0 is.1

pub style_named : (style : Style) → IsName style.name → name_of (style_read style) ≡ Some style.name
style_named style is = name_first (codes "style:style") style.name _ _ is

pub list_named : (list : ListStyle) → IsName list.name → name_of (list_read list) ≡ Some list.name
list_named list is = name_first (codes "text:list-style") list.name _ _ is

pub layout_named : (layout : PageLayout) → IsName layout.name → name_of (layout_read layout) ≡ Some layout.name
layout_named layout is = name_first (codes "style:page-layout") layout.name _ _ is

pub master_named : (master : Master) → IsName master.name → name_of (master_read master) ≡ Some master.name
master_named master is = name_first (codes "style:master-page") master.name _ _ is

-- a family that is stated behind the name
family_second : (tagged name : List ℕ) (of : Family) (more : List Attr) (nodes : List (Node Elem))
    → family_of (shown (element tagged (attribute (codes "style:name") name ∷ attribute (codes "style:family") (family_text of) ∷ more) nodes)) ≡ Some of
family_second tagged name of more nodes =
    ap (stated key.Family value.family_of_text) (attributes_shown tagged (attribute (codes "style:name") name ∷ attribute (codes "style:family") (family_text of) ∷ more) nodes)
    ∙ ap₂ (λ (one other : Key). stated key.Family value.family_of_text ((record { key = one; text = name }) ∷ (record { key = other; text = family_text of }) ∷ map named_attribute more)) name_key family_key
    ∙ family_back of

pub family_named : (style : Style) → family_of (style_read style) ≡ Some style.family
family_named style = family_second (codes "style:style") style.name style.family _ _

-- there is at most one default style, and one outline
pub default_short : (defaults : Props) → length (option_to_list (first tag.DefaultStyle (default_read defaults))) ≡ length (default_read defaults)
default_short defaults = by_nodes (property_elements defaults) where
  by_nodes : (nodes : List (Node Elem)) → length (option_to_list (first tag.DefaultStyle (held_of (round nodes)))) ≡ length (held_of (round nodes))
  by_nodes [] = refl
  by_nodes (node ∷ nodes) = one_counted tag.DefaultStyle _ (tag_shown (codes "style:default-style") _ (node ∷ nodes) tag.DefaultStyle default_tag) refl

pub outline_short : (outline : ListStyle) → length (option_to_list (first tag.OutlineStyle (outline_read outline))) ≡ length (outline_read outline)
outline_short outline = by_nodes _ where
  by_nodes : (nodes : List (Node Elem)) → length (option_to_list (first tag.OutlineStyle (held_of (part (codes "text:outline-style") nodes)))) ≡ length (held_of (part (codes "text:outline-style") nodes))
  by_nodes [] = refl
  by_nodes (node ∷ nodes) = one_counted tag.OutlineStyle _ (tag_shown (codes "text:outline-style") [] (node ∷ nodes) tag.OutlineStyle outline_tag) refl
