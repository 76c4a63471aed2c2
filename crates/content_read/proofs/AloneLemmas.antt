-- Elements that are read by themselves.
use Rattle.std.proofs.Common.{◌≡◌, ◌≢◌, ℕ, ◌-◌, Bool, true, false, cond, List, [], ◌∷◌, map, length, refl, sym, ap, ap₂, subst, ◌∙◌, Option, Some, None, arith}
use Rattle.markup_nodes.specs.Node.{Node}
use Rattle.markup_nodes.specs.Nodes.{elems}
use Rattle.doc_model.specs.declared.field.Field.{Field}
use Rattle.doc_model.specs.declared.paragraph.Item.{Item, roll-Item}
use Rattle.doc_model.specs.declared.paragraph.What.{What}
use Rattle.doc_model.specs.declared.paragraph.Mark.{Mark}
use Rattle.doc_model.specs.declared.paragraph.What.TheOpen.{What-F}
use Rattle.load_model.specs.declared.names.Key.TheVariants as key
use Rattle.load_model.specs.declared.names.Tag.{Tag}
use Rattle.load_model.specs.declared.names.Tag.TheVariants as tag
use Rattle.load_model.specs.declared.element.Attribute.{Attribute}
use Rattle.load_model.specs.declared.element.Element.{Element, out-Element}
use Rattle.load_model.specs.Blocks.{Known, Around, Gives, ReadContent, element_content, field_content, mark_content, leaf_items, no_content, one_element, own_text, inner_left}
use Rattle.load_model.specs.Content.{Read, item_in, spaced}
use Rattle.load_model.specs.Fields.{field_of, field_rules, is_field}
use Rattle.load_model.specs.Left.{Left, both, only_elements, only_attributes, leaf_left, attributes_of}
use Rattle.load_model.specs.Met.{is_at}
use Rattle.load_model.specs.Values as value
use Rattle.load_model.specs.Values.{Rule, rule, stated_or, attributes_left}
use Rattle.element_texts.specs.Letters.{letters}
use Rattle.element_parts.specs.Shown.{shown}
use Rattle.element_parts.specs.declared.left.LeftOut.{LeftOut}
use Rattle.item_spaces.specs.declared.spacing.SpacedItems.{SpacedItems}
use Rattle.content_read.specs.Adds.{Gains, Adds}
use Rattle.content_read.specs.Held.{held, content_at}
use Rattle.content_read.specs.Roles.{is_alone}
use Rattle.content_read.proofs.AddLemmas.{gains_none}
use Rattle.content_read.proofs.HeldLemmas.{count_given, content_out, letters_held}

-- the elements that an element holds, where none has a rule
pub inner_same : (known : Known) (element : Element) → leaf_left element ≡ inner_left (elems (held known element))
inner_same known element = ap only_elements (less_none (length (elems (out-Element element).nodes)) ∙ sym (count_given known (out-Element element).nodes)) where
  less_none : (n : ℕ) → n - 0 ≡ n
  less_none n = omega arith

-- items that are pushed for such an element
pub leaf_adds : (known : Known) (element : Element) (rules : List Rule) (items : List Item) (old new : SpacedItems) (left : LeftOut)
    → Gains old new (map Read items) → left ≡ shown (both (only_attributes (attributes_left rules (attributes_of element))) (leaf_left element))
    → Adds old new left (leaf_items rules (attributes_of element) (elems (held known element)) items)
leaf_adds known element rules items old new left gains e = record {
  items = gains;
  left_is = e ∙ ap (λ (inner : Left). shown (both (only_attributes (attributes_left rules (attributes_of element))) inner)) (inner_same known element);
}

-- of one item that is the same
pub leaf_what : (rules : List Rule) (attributes : List Attribute) (gives : List Gives) (spans : List (List ℕ)) (one other : What) → one ≡ other
    → leaf_items rules attributes gives (roll-Item (record { spans = spans; what = one }) ∷ []) ≡ leaf_items rules attributes gives (roll-Item (record { spans = spans; what = other }) ∷ [])
leaf_what rules attributes gives spans one other e = ap (λ (what : What). leaf_items rules attributes gives (roll-Item (record { spans = spans; what = what }) ∷ [])) e

-- a dropped element
pub dropped_adds : (all : SpacedItems) (left : LeftOut) (read : ReadContent) → read ≡ no_content one_element → left ≡ shown (only_elements 1) → Adds all all left read
dropped_adds all left read e told = subst (λ (content : ReadContent). Adds all all left content) (sym e) (record { items = gains_none all; left_is = told })

-- a mark that is kept, and one that isn't
module _ (known : Known) (around : Around) (place : ℕ) (mark : List ℕ → Mark) (attributes : List Attribute) (gives : List Gives) where
  pub mark_kept : is_at known.kept.marks place ≡ true
      → leaf_items (rule key.TextName value.name ∷ []) attributes gives (item_in around.spans (What-F.Mark (mark (stated_or key.TextName value.name [] attributes))) ∷ []) ≡ mark_content known around place mark attributes gives
  mark_kept h = sym (ap (λ b. cond b (leaf_items (rule key.TextName value.name ∷ []) attributes gives (item_in around.spans (What-F.Mark (mark (stated_or key.TextName value.name [] attributes))) ∷ [])) (no_content one_element)) h)

  pub mark_is : (one : Mark) → is_at known.kept.marks place ≡ true → one ≡ mark (stated_or key.TextName value.name [] attributes)
      → leaf_items (rule key.TextName value.name ∷ []) attributes gives (item_in around.spans (What-F.Mark one) ∷ []) ≡ mark_content known around place mark attributes gives
  mark_is one h e = ap (λ (mark : Mark). leaf_items (rule key.TextName value.name ∷ []) attributes gives (item_in around.spans (What-F.Mark mark) ∷ [])) e ∙ mark_kept h

  pub mark_dropped : is_at known.kept.marks place ≡ false → mark_content known around place mark attributes gives ≡ no_content one_element
  mark_dropped h = ap (λ b. cond b (leaf_items (rule key.TextName value.name ∷ []) attributes gives (item_in around.spans (What-F.Mark (mark (stated_or key.TextName value.name [] attributes))) ∷ [])) (no_content one_element)) h

-- a field, and an element that lacks the name that it needs
module _ (known : Known) (around : Around) (which : Tag) (place : ℕ) (attributes : List Attribute) (nodes : List (Node Gives)) where
  abbrev found : Option Field
  found = field_of which (is_at known.kept.references place) (spaced (own_text nodes)) attributes

  pub field_kept : (field : Field) → found ≡ Some field
      → leaf_items (field_rules which (is_at known.kept.references place)) attributes (elems nodes) (item_in around.spans (What-F.Field field) ∷ []) ≡ field_content known around which place attributes nodes
  field_kept field e = rw e refl

  pub field_lacking : found ≡ None → field_content known around which place attributes nodes ≡ no_content one_element
  field_lacking e = rw e refl

-- by tags
module _ (known : Known) (place : ℕ) (attributes : List Attribute) (nodes : List (Node Gives)) (around : Around) where
  pub content_field : (which : Tag) → is_field which ≡ true → field_content known around which place attributes nodes ≡ element_content known which place attributes nodes around
  content_field tag.Sequence h = refl
  content_field tag.VariableSet h = refl
  content_field tag.VariableGet h = refl
  content_field tag.Chapter h = refl
  content_field tag.PageNumber h = refl
  content_field tag.PageCount h = refl
  content_field tag.BookmarkReference h = refl
  content_field tag.SequenceReference h = refl
  content_field tag.NoteReference h = refl
  content_field rest h = absurd (cc)

  pub content_dropped : (which : Tag) → is_alone which ≡ true → is_field which ≡ false
      → which ≢ tag.Spaces → which ≢ tag.Tab → which ≢ tag.LineBreak → which ≢ tag.Bookmark → which ≢ tag.BookmarkStart → which ≢ tag.BookmarkEnd
      → element_content known which place attributes nodes around ≡ no_content one_element
  content_dropped tag.Document h f a b c d e g = refl
  content_dropped tag.CommonStyles h f a b c d e g = refl
  content_dropped tag.AutomaticStyles h f a b c d e g = refl
  content_dropped tag.MasterStyles h f a b c d e g = refl
  content_dropped tag.Body h f a b c d e g = refl
  content_dropped tag.Text h f a b c d e g = refl
  content_dropped tag.RubyText h f a b c d e g = refl
  content_dropped tag.Foreign h f a b c d e g = refl
  content_dropped tag.Spaces h f a b c d e g = absurd (a refl)
  content_dropped tag.Tab h f a b c d e g = absurd (b refl)
  content_dropped tag.LineBreak h f a b c d e g = absurd (c refl)
  content_dropped tag.Bookmark h f a b c d e g = absurd (d refl)
  content_dropped tag.BookmarkStart h f a b c d e g = absurd (e refl)
  content_dropped tag.BookmarkEnd h f a b c d e g = absurd (g refl)
  content_dropped rest h f a b c d e g = absurd (cc)

-- an element of a tag
pub at_tag : (known : Known) (element : Element) (around : Around) (which : Tag) → (out-Element element).tag ≡ which
    → element_content known which (out-Element element).place (attributes_of element) (held known element) around ≡ content_at known element around
at_tag known element around which is = ap (λ (one : Tag). element_content known one (out-Element element).place (attributes_of element) (held known element) around) (sym is) ∙ sym (content_out known element around)

-- a field that is read of an element, and none
module _ (known : Known) (element : Element) (around : Around) (is_first : Bool) (text : List ℕ) (attributes : List Attribute)
    (first : is_first ≡ is_at known.kept.references (out-Element element).place) (own : text ≡ spaced (letters (out-Element element).nodes)) (same : attributes ≡ attributes_of element) where
  abbrev field_by : Bool → List ℕ → List Attribute → Option Field
  field_by is_own characters stating = field_of (out-Element element).tag is_own characters stating

  found_is : field_by is_first text attributes ≡ field_by (is_at known.kept.references (out-Element element).place) (spaced (own_text (held known element))) (attributes_of element)
  found_is =
      ap (λ (is_own : Bool). field_by is_own text attributes) first
      ∙ ap (λ (characters : List ℕ). field_by (is_at known.kept.references (out-Element element).place) characters attributes) (own ∙ ap spaced (sym (letters_held known element)))
      ∙ ap (λ (stating : List Attribute). field_by (is_at known.kept.references (out-Element element).place) (spaced (own_text (held known element))) stating) same

  pub field_is : (rules : List Rule) (field one : Field) → Some field ≡ field_by is_first text attributes → rules ≡ field_rules (out-Element element).tag is_first → one ≡ field
      → leaf_items rules (attributes_of element) (elems (held known element)) (item_in around.spans (What-F.Field one) ∷ [])
      ≡ field_content known around (out-Element element).tag (out-Element element).place (attributes_of element) (held known element)
  field_is rules field one e ruled boxed =
      ap₂ (λ (all : List Rule) (which : Field). leaf_items all (attributes_of element) (elems (held known element)) (item_in around.spans (What-F.Field which) ∷ [])) (ruled ∙ ap (field_rules (out-Element element).tag) first) boxed
      ∙ field_kept known around (out-Element element).tag (out-Element element).place (attributes_of element) (held known element) field (sym (e ∙ found_is))

  pub field_lacks : None ≡ field_by is_first text attributes → field_content known around (out-Element element).tag (out-Element element).place (attributes_of element) (held known element) ≡ no_content one_element
  field_lacks e = field_lacking known around (out-Element element).tag (out-Element element).place (attributes_of element) (held known element) (sym (e ∙ found_is))
