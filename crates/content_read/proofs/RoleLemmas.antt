-- How elements are read.
use Rattle.std.proofs.Common.{◌≡◌, ◌≢◌, ℕ, ◌+◌, true, false, List, [], ◌∷◌, ◌++◌, length, refl, sym, ap, ap₂, ◌∙◌, Option, Some, None, arith}
use Rattle.std.specs.Prelude.{nat_lt}
use Rattle.markup_nodes.specs.Node.{Node}
use Rattle.doc_model.specs.declared.style.Family.TheVariants as family
use Rattle.load_model.specs.declared.names.Key.TheVariants as key
use Rattle.load_model.specs.declared.names.Tag.{Tag}
use Rattle.load_model.specs.declared.names.Tag.TheVariants as tag
use Rattle.load_model.specs.declared.element.Attribute.{Attribute}
use Rattle.load_model.specs.Blocks.{Known, Around, Gives, ReadContent, content_of, content_with, element_content, left_by, one_element, span_content}
use Rattle.load_model.specs.declared.element.Element.{Element, out-Element}
use Rattle.load_model.specs.Left.{Left, nothing, only_attributes, attributes_of, tag_of}
use Rattle.load_model.specs.Styles.{style_reference}
use Rattle.load_model.specs.Values.{rule, value_of}
use Rattle.content_read.specs.Held.{held, content_at}
use Rattle.content_read.specs.Roles.{is_alone}
use Rattle.content_read.proofs.HeldLemmas.{content_out}

abbrev counts : ℕ → ℕ → Left
counts elements attributes = record { elements = elements; attributes = attributes }

-- content with nothing more that is left out
pub with_nothing : (content : ReadContent) → content ≡ content_with nothing content
with_nothing content = ap (λ (left : Left). record content { left = left }) (ap₂ counts (none content.left.elements) (none content.left.attributes)) where
  none : (n : ℕ) → n ≡ 0 + n
  none n = omega arith

-- an element that is passed
module _ (known : Known) (place : ℕ) (attributes : List Attribute) (nodes : List (Node Gives)) (around : Around) where
  pub content_passed : (which : Tag) → which ≢ tag.Span → which ≢ tag.Note → is_alone which ≡ false → element_content known which place attributes nodes around ≡ content_with one_element (content_of around nodes)
  content_passed tag.Span a b h = absurd (a refl)
  content_passed tag.Note a b h = absurd (b refl)
  content_passed tag.DefaultStyle a b h = refl
  content_passed tag.Style a b h = refl
  content_passed tag.ParagraphProperties a b h = refl
  content_passed tag.TextProperties a b h = refl
  content_passed tag.PageLayout a b h = refl
  content_passed tag.PageLayoutProperties a b h = refl
  content_passed tag.MasterPage a b h = refl
  content_passed tag.Header a b h = refl
  content_passed tag.Footer a b h = refl
  content_passed tag.ListStyle a b h = refl
  content_passed tag.OutlineStyle a b h = refl
  content_passed tag.NumberLevel a b h = refl
  content_passed tag.BulletLevel a b h = refl
  content_passed tag.OutlineLevel a b h = refl
  content_passed tag.VariableDeclarations a b h = refl
  content_passed tag.VariableDeclaration a b h = refl
  content_passed tag.SequenceDeclarations a b h = refl
  content_passed tag.SequenceDeclaration a b h = refl
  content_passed tag.Paragraph a b h = refl
  content_passed tag.Heading a b h = refl
  content_passed tag.List a b h = refl
  content_passed tag.ListItem a b h = refl
  content_passed tag.ListHeader a b h = refl
  content_passed tag.Section a b h = refl
  content_passed tag.SectionSource a b h = refl
  content_passed tag.Index a b h = refl
  content_passed tag.NoteCitation a b h = refl
  content_passed tag.NoteBody a b h = refl
  content_passed tag.Table a b h = refl
  content_passed tag.Other a b h = refl
  content_passed rest a b h = absurd (cc)

-- a span
module _ (known : Known) (around : Around) (attributes : List Attribute) (nodes : List (Node Gives)) where
  pub span_bare : value_of key.StyleName attributes ≡ None → span_content known around attributes nodes ≡ content_of around nodes
  span_bare e = rw e refl

  pub span_unknown : (text : List ℕ) → value_of key.StyleName attributes ≡ Some text → style_reference known.names family.Text text ≡ None
      → span_content known around attributes nodes ≡ content_with (only_attributes 1) (content_of around nodes)
  span_unknown text e f = rw (e, f) refl

  pub span_deep : (text name : List ℕ) → value_of key.StyleName attributes ≡ Some text → style_reference known.names family.Text text ≡ Some name → nat_lt (length around.spans) 8 ≡ false
      → span_content known around attributes nodes ≡ content_with one_element (content_of around nodes)
  span_deep text name e f g = rw (e, f, g) refl

  pub span_kept : (text name : List ℕ) → value_of key.StyleName attributes ≡ Some text → style_reference known.names family.Text text ≡ Some name → nat_lt (length around.spans) 8 ≡ true
      → span_content known around attributes nodes
      ≡ content_with (left_by (rule key.StyleName (style_reference known.names family.Text) ∷ []) attributes) (content_of (record around { spans = around.spans ++ name ∷ [] }) nodes)
  span_kept text name e f g = rw (e, f, g) refl

-- the style name of an element
pub value_is : (element : Element) (attributes : List Attribute) (found : Option (List ℕ)) → attributes ≡ attributes_of element → found ≡ value_of key.StyleName attributes → value_of key.StyleName (attributes_of element) ≡ found
value_is element attributes found same is = ap (value_of key.StyleName) (sym same) ∙ sym is

-- a span's content
pub span_at : (known : Known) (element : Element) (around : Around) → tag_of element ≡ tag.Span → content_at known element around ≡ span_content known around (attributes_of element) (held known element)
span_at known element around is = content_out known element around ∙ ap (λ (one : Tag). element_content known one (out-Element element).place (attributes_of element) (held known element) around) is
