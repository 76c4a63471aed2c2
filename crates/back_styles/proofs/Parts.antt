-- What written nodes come to by their parts, and the properties of a style among them.
use Rattle.std.proofs.Common.{◌≡◌, ℕ, ◌+◌, List, [], ◌∷◌, ◌++◌, map, length, cond, refl, ap, ap₂, sym, ◌∙◌, codes, Option, Some, option_to_list}
use Rattle.markup_nodes.specs.declared.words.Attr.{Attr}
use Rattle.markup_nodes.specs.declared.tree.Elem.{Elem}
use Rattle.markup_nodes.specs.Node.{Node, Element, Char}
use Rattle.markup_nodes.specs.Nodes.{elems}
use Rattle.load_model.specs.declared.names.Tag.{Tag}
use Rattle.load_model.specs.declared.names.Tag.TheVariants as tag
use Rattle.load_model.specs.declared.element.Attribute.{Attribute}
use Rattle.load_model.specs.declared.element.Element.{Element as Read, out-Element}
use Rattle.load_model.specs.declared.element.Element.TheOpen.{Element-F}
use Rattle.load_model.specs.declared.element.Element.TheViews.{out-roll-Element}
use Rattle.load_model.specs.Left.{nothing, both, only_attributes, only_elements, all_but, leaf_left, children, tag_of, attributes_of, is_same_tag, first}
use Rattle.load_model.specs.Styles.{part_attributes, part_left}
use Rattle.load_model.specs.Values.{Rule, attributes_left}
use Rattle.written_model.specs.Elements.{element, properties}
use Rattle.back_names.specs.Named.{tag_named, named_attribute, named, named_node}
use Rattle.back_names.proofs.Parts.{elem_of, named_of}
use Rattle.back_styles.specs.Shown.{shown, held_of}
use Rattle.back_styles.proofs.Keys.{paragraph_tag, text_tag}

pub held_both : (nodes others : List (Node Elem)) → held_of (nodes ++ others) ≡ held_of nodes ++ held_of others
held_both [] others = refl
held_both (Element elem ∷ nodes) others = ap (λ (more : List Read). named elem ∷ more) (held_both nodes others)
held_both (Char c ∷ nodes) others = held_both nodes others

-- an element by its parts
pub out_named : (place : ℕ) (name : List ℕ) (attrs : List Attr) (nodes : List (Node Elem)) → out-Element (named (elem_of place name attrs nodes))
    ≡ (record { place = place; tag = tag_named name; attributes = map named_attribute attrs; nodes = map named_node nodes })
out_named place name attrs nodes =
    ap out-Element (named_of place name attrs nodes) ∙ out-roll-Element (record { place = place; tag = tag_named name; attributes = map named_attribute attrs; nodes = map named_node nodes })

module _ (name : List ℕ) (attrs : List Attr) (nodes : List (Node Elem)) where
  pub tag_shown : (which : Tag) → tag_named name ≡ which → tag_of (shown (element name attrs nodes)) ≡ which
  tag_shown which is = ap (λ (parts : Element-F Read). parts.tag) (out_named 0 name attrs nodes) ∙ is

  pub attributes_shown : attributes_of (shown (element name attrs nodes)) ≡ map named_attribute attrs
  attributes_shown = ap (λ (parts : Element-F Read). parts.attributes) (out_named 0 name attrs nodes)

  pub children_shown : children (shown (element name attrs nodes)) ≡ held_of nodes
  children_shown = ap (λ (parts : Element-F Read). elems parts.nodes) (out_named 0 name attrs nodes)

first_is : (wanted which : Tag) (element : Read) (more : List Read) → tag_of element ≡ which → first wanted (element ∷ more) ≡ cond (is_same_tag which wanted) (Some element) (first wanted more)
first_is wanted which element more is = ap (λ (of : Tag). cond (is_same_tag of wanted) (Some element) (first wanted more)) is

-- a part without elements of which no attribute is left out
pub part_none : (rules : List Rule) (name : List ℕ) (attrs : List Attr) → attributes_left rules (map named_attribute attrs) ≡ 0
    → both (only_attributes (attributes_left rules (attributes_of (shown (element name attrs []))))) (leaf_left (shown (element name attrs []))) ≡ nothing
part_none rules name attrs none =
    ap₂ (λ (attributes : List Attribute) (inner : List Read). both (only_attributes (attributes_left rules attributes)) (all_but 0 inner)) (attributes_shown name attrs []) (children_shown name attrs [])
    ∙ ap (λ (count : ℕ). both (only_attributes count) (only_elements 0)) none

-- the properties among what a style holds: paragraph properties, and then text properties
abbrev pub paragraph_name : List ℕ
paragraph_name = codes "style:paragraph-properties"

abbrev pub text_name : List ℕ
text_name = codes "style:text-properties"

abbrev pub parts_held : List Attr → List Attr → List Read
parts_held paragraph text = held_of (properties paragraph_name paragraph ++ properties text_name text)

-- the first of a tag, where both are there
paragraph_first : (attr : Attr) (attrs : List Attr) (more : List Read) (wanted : Tag)
    → first wanted (shown (element paragraph_name (attr ∷ attrs) []) ∷ more) ≡ cond (is_same_tag tag.ParagraphProperties wanted) (Some (shown (element paragraph_name (attr ∷ attrs) []))) (first wanted more)
paragraph_first attr attrs more wanted = first_is wanted tag.ParagraphProperties (shown (element paragraph_name (attr ∷ attrs) [])) more (tag_shown paragraph_name (attr ∷ attrs) [] tag.ParagraphProperties paragraph_tag)

text_first : (attr : Attr) (attrs : List Attr) (more : List Read) (wanted : Tag)
    → first wanted (shown (element text_name (attr ∷ attrs) []) ∷ more) ≡ cond (is_same_tag tag.TextProperties wanted) (Some (shown (element text_name (attr ∷ attrs) []))) (first wanted more)
text_first attr attrs more wanted = first_is wanted tag.TextProperties (shown (element text_name (attr ∷ attrs) [])) more (tag_shown text_name (attr ∷ attrs) [] tag.TextProperties text_tag)

-- what is found of each
pub paragraph_in : (paragraph text : List Attr) → first tag.ParagraphProperties (parts_held paragraph text) ≡ first tag.ParagraphProperties (held_of (properties paragraph_name paragraph))
paragraph_in [] [] = refl
paragraph_in [] (attr ∷ attrs) = text_first attr attrs [] tag.ParagraphProperties
paragraph_in (attr ∷ attrs) text = paragraph_first attr attrs (held_of (properties text_name text)) tag.ParagraphProperties ∙ sym (paragraph_first attr attrs [] tag.ParagraphProperties)

pub text_in : (paragraph text : List Attr) → first tag.TextProperties (parts_held paragraph text) ≡ first tag.TextProperties (held_of (properties text_name text))
text_in [] text = refl
text_in (attr ∷ attrs) text = paragraph_first attr attrs (held_of (properties text_name text)) tag.TextProperties

module _ (paragraph text : List Attr) where
  pub paragraph_found : part_attributes (first tag.ParagraphProperties (parts_held paragraph text)) ≡ map named_attribute paragraph
  paragraph_found = ap part_attributes (paragraph_in paragraph text) ∙ by_attrs paragraph where
    by_attrs : (attrs : List Attr) → part_attributes (first tag.ParagraphProperties (held_of (properties paragraph_name attrs))) ≡ map named_attribute attrs
    by_attrs [] = refl
    by_attrs (attr ∷ attrs) = ap part_attributes (paragraph_first attr attrs [] tag.ParagraphProperties) ∙ attributes_shown paragraph_name (attr ∷ attrs) []

  pub text_found : part_attributes (first tag.TextProperties (parts_held paragraph text)) ≡ map named_attribute text
  text_found = ap part_attributes (text_in paragraph text) ∙ by_attrs text where
    by_attrs : (attrs : List Attr) → part_attributes (first tag.TextProperties (held_of (properties text_name attrs))) ≡ map named_attribute attrs
    by_attrs [] = refl
    by_attrs (attr ∷ attrs) = ap part_attributes (text_first attr attrs [] tag.TextProperties) ∙ attributes_shown text_name (attr ∷ attrs) []

  -- nothing is left out in them where none of their attributes is
  pub paragraph_none : (rules : List Rule) → attributes_left rules (map named_attribute paragraph) ≡ 0 → part_left rules (first tag.ParagraphProperties (parts_held paragraph text)) ≡ nothing
  paragraph_none rules none = ap (part_left rules) (paragraph_in paragraph text) ∙ by_attrs paragraph none where
    by_attrs : (attrs : List Attr) → attributes_left rules (map named_attribute attrs) ≡ 0 → part_left rules (first tag.ParagraphProperties (held_of (properties paragraph_name attrs))) ≡ nothing
    by_attrs [] e = refl
    by_attrs (attr ∷ attrs) e = ap (part_left rules) (paragraph_first attr attrs [] tag.ParagraphProperties) ∙ part_none rules paragraph_name (attr ∷ attrs) e

  pub text_none : (rules : List Rule) → attributes_left rules (map named_attribute text) ≡ 0 → part_left rules (first tag.TextProperties (parts_held paragraph text)) ≡ nothing
  text_none rules none = ap (part_left rules) (text_in paragraph text) ∙ by_attrs text none where
    by_attrs : (attrs : List Attr) → attributes_left rules (map named_attribute attrs) ≡ 0 → part_left rules (first tag.TextProperties (held_of (properties text_name attrs))) ≡ nothing
    by_attrs [] e = refl
    by_attrs (attr ∷ attrs) e = ap (part_left rules) (text_first attr attrs [] tag.TextProperties) ∙ part_none rules text_name (attr ∷ attrs) e

-- each of them is read
pub parts_counted : (paragraph text : List Attr) → length (option_to_list (first tag.ParagraphProperties (parts_held paragraph text))) + length (option_to_list (first tag.TextProperties (parts_held paragraph text))) ≡ length (parts_held paragraph text)
parts_counted paragraph text = ap₂ (λ (one other : Option Read). length (option_to_list one) + length (option_to_list other)) (paragraph_in paragraph text) (text_in paragraph text) ∙ by_both paragraph text where
  by_both : (attrs others : List Attr) → length (option_to_list (first tag.ParagraphProperties (held_of (properties paragraph_name attrs)))) + length (option_to_list (first tag.TextProperties (held_of (properties text_name others)))) ≡ length (parts_held attrs others)
  by_both [] [] = refl
  by_both [] (attr ∷ attrs) = ap (λ (one : Option Read). 0 + length (option_to_list one)) (text_first attr attrs [] tag.TextProperties)
  by_both (attr ∷ attrs) [] = ap (λ (one : Option Read). length (option_to_list one) + 0) (paragraph_first attr attrs [] tag.ParagraphProperties)
  by_both (attr ∷ attrs) (one ∷ more) = ap₂ (λ (one other : Option Read). length (option_to_list one) + length (option_to_list other)) (paragraph_first attr attrs [] tag.ParagraphProperties) (text_first one more [] tag.TextProperties)
