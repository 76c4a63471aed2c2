-- What elements give in a header.
use Rattle.std.specs.Prelude.{◌≡◌, ℕ, true, List, [], ◌∷◌, map, Option, Some, None, option_to_list, replicate}
use Rattle.doc_model.specs.declared.style.Family.TheVariants as family
use Rattle.doc_model.specs.declared.paragraph.Item.{Item, out-Item}
use Rattle.doc_model.specs.declared.paragraph.What.{What, roll-What}
use Rattle.doc_model.specs.declared.paragraph.What.TheOpen.{What-F}
use Rattle.markup_nodes.specs.Node.{Node, Element as Inner, Char as Letter}
use Rattle.load_model.specs.declared.element.Attribute.{Attribute}
use Rattle.load_model.specs.declared.element.Element.{Element, out-Element}
use Rattle.load_model.specs.declared.names.Key.TheVariants as key
use Rattle.load_model.specs.Blocks.{ReadContent, content_with}
use Rattle.load_model.specs.Content.{Read}
use Rattle.load_model.specs.Fields.{field_of}
use Rattle.load_model.specs.Headers as header
use Rattle.load_model.specs.Headers.{Gives, within, content_of, head_left}
use Rattle.load_model.specs.Left.{Left, nothing, both, only_elements, only_attributes, attributes_of, leaf_left, tag_of}
use Rattle.load_model.specs.Styles.{Names, style_reference}
use Rattle.load_model.specs.Values as value
use Rattle.load_model.specs.Values.{Rule, stated_or, value_of, attributes_left}
use Rattle.element_parts.specs.Shown.{shown}
use Rattle.sheet_names.specs.Known.{Knows}
use Rattle.sheet_names.specs.declared.names.Names.{Names as Kept}
use Rattle.head_content.specs.declared.head_items.HeadItems.{HeadItems}
use Rattle.head_content.specs.declared.paragraph.ReadHead.{ReadHead}
use Rattle.head_content.specs.Reading.{Adds, item_of, letter_item, spaced_letter}

-- what the nodes of an element give
abbrev pub gives : Node Element → Node Gives
gives (Inner element) = Inner (within element).content
gives (Letter c) = Letter c

abbrev pub given_by : List (Node Element) → Names → ReadContent
given_by nodes names = content_of names (map gives nodes)

-- the characters that stand directly among nodes
abbrev pub letters_in : List (Node Element) → List ℕ
letters_in [] = []
letters_in (Inner element ∷ nodes) = letters_in nodes
letters_in (Letter c ∷ nodes) = c ∷ letters_in nodes

-- items of an element in which no other has a rule
abbrev pub leaf_of : List Rule → List Item → Element → ReadContent
leaf_of rules items element = record { raws = map Read items; left = both (only_attributes (attributes_left rules (attributes_of element))) (leaf_left element) }

-- the spaces that an element stands for
abbrev pub spaces_of : Element → List Item
spaces_of element = replicate (stated_or key.Count (value.number 1 4294967295) 1 (attributes_of element)) (letter_item 0x20)

-- the field that an element is in a header, if it is one
abbrev pub field_in : Element → List Item
field_in element = map (λ field. item_of (roll-What (What-F.Field field))) (option_to_list (field_of (tag_of element) true [] (attributes_of element)))

-- the stored text of an element
abbrev pub stored_in : Element → List Item
stored_in element = map (λ c. letter_item (spaced_letter c)) (letters_in (out-Element element).nodes)

-- what is left out with a span: nothing without a style, the attribute where its style isn't there, and else the element
abbrev pub span_left : Names → List Attribute → Left
span_left names attributes = of_value (value_of key.StyleName attributes) where
  of_reference : Option (List ℕ) → Left
  of_reference None = only_attributes 1
  of_reference (Some name) = only_elements 1

  of_value : Option (List ℕ) → Left
  of_value None = nothing
  of_value (Some text) = of_reference (style_reference names family.Text text)

-- what a span gives
abbrev pub span_in : Element → Names → ReadContent
span_in element names = content_with (span_left names (attributes_of element)) (given_by (out-Element element).nodes names)

-- where these names can be referred to, this is read behind whatever was before
abbrev pub AddsBy : Kept → HeadItems → HeadItems → Gives → Type 0
AddsBy kept old new more = (names : Names) → Knows kept names → Adds old new (more names)

-- what items are, without the spans round them
abbrev pub whats : List Item → List What
whats items = map (λ item. (out-Item item).what) items

-- a paragraph of a header was read
pub record IsHead (read : ReadHead) (names : Names) (element : Element) : Type 0 where
  pub paragraph_is : read.paragraph ≡ header.head_paragraph names element
  pub left_is : read.left ≡ shown (head_left names element)
