-- What stands in the content of paragraphs is read alike wherever it stands.
use Rattle.std.proofs.Common.{◌≡◌, ℕ, ◌++◌, nat_lt, Bool, true, false, cond, List, [], ◌∷◌, map, length, replicate, refl, sym, ap, ap₂, ◌∙◌, Option, Some, None, option_map, is_some}
use Rattle.std.specs.List.{AllByRecursion as Each, list_all}
use Rattle.markup_nodes.specs.Node.{Node}
use Rattle.markup_nodes.specs.Nodes.{elems}
use Rattle.doc_model.specs.declared.field.Field.{Field}
use Rattle.doc_model.specs.declared.field.Field.TheVariants.{Sequence}
use Rattle.doc_model.specs.declared.field.Format.TheVariants as format
use Rattle.doc_model.specs.declared.paragraph.Item.{Item}
use Rattle.doc_model.specs.declared.paragraph.Mark.{Mark}
use Rattle.doc_model.specs.declared.paragraph.Mark.TheVariants.{Point, Start, End}
use Rattle.doc_model.specs.declared.paragraph.What.TheOpen.{What-F}
use Rattle.doc_model.specs.declared.style.Family.TheVariants as family
use Rattle.load_model.specs.declared.names.Key.TheVariants as key
use Rattle.load_model.specs.declared.names.Tag.{Tag}
use Rattle.load_model.specs.declared.names.Tag.TheVariants as tag
use Rattle.load_model.specs.declared.element.Attribute.{Attribute}
use Rattle.load_model.specs.declared.element.Element.{Element as Read}
use Rattle.load_model.specs.Blocks.{Known, Around, Gives, ReadContent, content_of, content_with, element_content, field_content, leaf_items, left_by, mark_content, no_content, note_content, one_element, own_text}
use Rattle.load_model.specs.Content.{Raw, item_in, spaced, Read as Item-Read}
use Rattle.load_model.specs.Fields.{field_of, field_rules, own_name}
use Rattle.load_model.specs.Left.{Left, both, only_attributes, only_elements}
use Rattle.load_model.specs.Met as met
use Rattle.load_model.specs.Met.{Met, MarkKind, Where, each, in_content, is_at, is_dropped, mark_met, named_at, sequence_met}
use Rattle.load_model.specs.Styles.{Names, style_reference}
use Rattle.load_model.specs.Values as value
use Rattle.load_model.specs.Values.{Rule, rule, stated, stated_or, value_of}
use Rattle.back_names.specs.Named.{placeless_node}
use Rattle.back_text_places.specs.Bare.{bare_content, bare_raw}
use Rattle.back_text_places.specs.Standing.{Standing, content_stands, has_name, has_name_or_none, standing}
use Rattle.back_text_places.proofs.Notes.{note_same}
use Rattle.back_text_places.proofs.Own.{field_alike, name_alike}
use Rattle.back_text_places.proofs.Raws.{break_stays, field_stays, mark_stays, spaces_stay, tab_stays}
use Rattle.back_text_places.proofs.Same.{AreKept, InText, IsSame, bare_known, content_same, count_same, elems_bared, elems_placed, own_same}
use Rattle.back_text_places.proofs.Steps.{given_nodes}

none_bare : (within : Bool) (left : Left) → no_content left ≡ bare_content within (no_content left)
none_bare true left = refl
none_bare false left = refl

items_bare : (within : Bool) (items : List Item) (left : Left) → map bare_raw (map Item-Read items) ≡ map Item-Read items → record { raws = map Item-Read items; left = left } ≡ bare_content within (record { raws = map Item-Read items; left = left })
items_bare true items left stay = refl
items_bare false items left stay = ap (λ (raws : List Raw). record { raws = raws; left = left }) (sym stay)

with_bare : (within : Bool) (left : Left) (one other : ReadContent) → one ≡ bare_content within other → content_with left one ≡ bare_content within (content_with left other)
with_bare within left one other e = ap (content_with left) e

-- a span by what it holds
module _ (names : Names) (around : Around) (attributes : List Attribute) where
  abbrev span_good : (Around → ReadContent) → List ℕ → ReadContent
  span_good held name =
      cond (nat_lt (length around.spans) 8) (content_with (left_by (rule key.StyleName (style_reference names family.Text) ∷ []) attributes) (held (record around { spans = around.spans ++ name ∷ [] })))
      (content_with one_element (held around))

  abbrev span_referred : (Around → ReadContent) → Option (List ℕ) → ReadContent
  span_referred held None = content_with (only_attributes 1) (held around)
  span_referred held (Some name) = span_good held name

  abbrev span_by : (Around → ReadContent) → Option (List ℕ) → ReadContent
  span_by held None = held around
  span_by held (Some text) = span_referred held (style_reference names family.Text text)

  module _ (held other : Around → ReadContent) (alike : (spans : List (List ℕ)) → held (record around { spans = spans }) ≡ bare_content around.in_note (other (record around { spans = spans }))) where
    good_alike : (name : List ℕ) (b : Bool)
        → cond b (content_with (left_by (rule key.StyleName (style_reference names family.Text) ∷ []) attributes) (held (record around { spans = around.spans ++ name ∷ [] }))) (content_with one_element (held around))
        ≡ bare_content around.in_note (cond b (content_with (left_by (rule key.StyleName (style_reference names family.Text) ∷ []) attributes) (other (record around { spans = around.spans ++ name ∷ [] }))) (content_with one_element (other around)))
    good_alike name true = ap (content_with (left_by (rule key.StyleName (style_reference names family.Text) ∷ []) attributes)) (alike (around.spans ++ name ∷ []))
    good_alike name false = ap (content_with one_element) (alike around.spans)

    referred_alike : (found : Option (List ℕ)) → span_referred held found ≡ bare_content around.in_note (span_referred other found)
    referred_alike None = ap (content_with (only_attributes 1)) (alike around.spans)
    referred_alike (Some name) = good_alike name (nat_lt (length around.spans) 8)

    span_alike : (text : Option (List ℕ)) → span_by held text ≡ bare_content around.in_note (span_by other text)
    span_alike None = alike around.spans
    span_alike (Some text) = referred_alike (style_reference names family.Text text)

-- a field by what it is
abbrev field_by : List (List ℕ) → Left → ℕ → Option Field → ReadContent
field_by spans left count None = no_content one_element
field_by spans left count (Some field) = record { raws = map Item-Read (item_in spans (What-F.Field field) ∷ []); left = both left (only_elements count) }

found_bare : (within : Bool) (spans : List (List ℕ)) (left : Left) (count : ℕ) (found : Option Field) → field_by spans left count found ≡ bare_content within (field_by spans left count found)
found_bare within spans left count None = none_bare within one_element
found_bare within spans left count (Some field) = items_bare within (item_in spans (What-F.Field field) ∷ []) (both left (only_elements count)) (ap (λ item. Item-Read item ∷ []) (field_stays spans field))

-- a sequence field by its name
abbrev sequence_by : List Attribute → Bool → Option (List ℕ) → Option Field
sequence_by attributes is_first found = option_map (λ name. Sequence name (stated_or key.ReferenceName (own_name is_first) [] attributes) (stated_or key.NumberFormat value.number_format format.Digits attributes)) found

module _ (known : Known) (place : ℕ) (attributes : List Attribute) (nodes : List (Node Read)) (same : Each (IsSame known) (elems nodes)) (around : Around) (here : Where) (text : InText around.in_note here) where
  abbrev given : List (Node Gives)
  given = given_nodes known nodes

  abbrev bare : List (Node Gives)
  bare = given_nodes (bare_known known) (map placeless_node nodes)

  abbrev stand : List Standing
  stand = map standing (elems nodes)

  abbrev gives : List met.Gives
  gives = map met.gives_of (elems nodes)

  abbrev Same : ReadContent → ReadContent → Type 0
  Same one other = one ≡ bare_content around.in_note other

  leaf_same : (rules : List Rule) (items : List Item) → map bare_raw (map Item-Read items) ≡ map Item-Read items → Same (leaf_items rules attributes (elems bare) items) (leaf_items rules attributes (elems given) items)
  leaf_same rules items stay =
      ap (λ (count : ℕ). record { raws = map Item-Read items; left = both (left_by rules attributes) (only_elements count) }) (count_same known nodes)
      ∙ items_bare around.in_note items (both (left_by rules attributes) (only_elements (length (elems given)))) stay

  one_same : (rules : List Rule) (item : Item) → bare_raw (Item-Read item) ≡ Item-Read item → Same (leaf_items rules attributes (elems bare) (item ∷ [])) (leaf_items rules attributes (elems given) (item ∷ []))
  one_same rules item stay = leaf_same rules (item ∷ []) (ap (λ (raw : Raw). raw ∷ []) stay)

  held_same : list_all (λ (one : Standing). one.content) stand ≡ true → AreKept known (each (λ one. one.content) here gives) → (spans : List (List ℕ))
      → content_of (record around { spans = spans }) bare ≡ bare_content around.in_note (content_of (record around { spans = spans }) given)
  held_same stands kept spans = content_same known (record around { spans = spans }) here text nodes same stands kept

  mark_same : (kind : MarkKind) (mark : List ℕ → Mark) → has_name key.TextName attributes ≡ true → AreKept known (mark_met kind place (stated key.TextName value.name attributes) here)
      → Same (mark_content (bare_known known) around 0 mark attributes (elems bare)) (mark_content known around place mark attributes (elems given))
  mark_same kind mark named kept =
      one_same (rule key.TextName value.name ∷ []) marked (ap Item-Read (mark_stays around.spans (mark (stated_or key.TextName value.name [] attributes))))
      ∙ sym (ap (λ (b : Bool). bare_content around.in_note (cond b (leaf_items (rule key.TextName value.name ∷ []) attributes (elems given) (marked ∷ [])) (no_content one_element)))
      (by_name (stated key.TextName value.name attributes) named kept))
    where
      marked : Item
      marked = item_in around.spans (What-F.Mark (mark (stated_or key.TextName value.name [] attributes)))

      by_name : (name : Option (List ℕ)) → is_some name ≡ true → AreKept known (mark_met kind place name here) → is_at known.kept.marks place ≡ true
      by_name None some kept = cc
      by_name (Some name) some kept = kept.0

  abbrev is_first : Bool
  is_first = is_at known.kept.references place

  field_same : (which : Tag) → field_of which true (spaced (own_text given)) attributes ≡ field_of which is_first (spaced (own_text given)) attributes → left_by (field_rules which true) attributes ≡ left_by (field_rules which is_first) attributes
      → Same (field_content (bare_known known) around which 0 attributes bare) (field_content known around which place attributes given)
  field_same which fields lefts =
      ap₂ (λ (own : List ℕ) (count : ℕ). field_by around.spans (left_by (field_rules which true) attributes) count (field_of which true (spaced own) attributes)) (own_same known nodes) (count_same known nodes)
      ∙ ap₂ (λ (left : Left) (found : Option Field). field_by around.spans left (length (elems given)) found) lefts fields
      ∙ found_bare around.in_note around.spans (left_by (field_rules which is_first) attributes) (length (elems given)) (field_of which is_first (spaced (own_text given)) attributes)

  -- a sequence field: one without a name is dropped
  sequence_same : has_name_or_none key.ReferenceName attributes ≡ true → AreKept known (sequence_met place (stated key.TextName value.name attributes) (stated key.ReferenceName value.name attributes))
      → Same (field_content (bare_known known) around tag.Sequence 0 attributes bare) (field_content known around tag.Sequence place attributes given)
  sequence_same good kept =
      ap₂ (λ (found : Option (List ℕ)) (count : ℕ). field_by around.spans (left_by (field_rules tag.Sequence true) attributes) count (sequence_by attributes true found)) refl (count_same known nodes)
      ∙ by_name (stated key.TextName value.name attributes) kept
      ∙ found_bare around.in_note around.spans (left_by (field_rules tag.Sequence is_first) attributes) (length (elems given)) (sequence_by attributes is_first (stated key.TextName value.name attributes))
    where
      first_kept : (name : List ℕ) (refname : Option (List ℕ)) → is_some refname ≡ true → AreKept known (sequence_met place (Some name) refname) → is_first ≡ true
      first_kept name None some kept = cc
      first_kept name (Some refname) some kept = kept.0

      by_name : (name : Option (List ℕ)) → AreKept known (sequence_met place name (stated key.ReferenceName value.name attributes))
          → field_by around.spans (left_by (field_rules tag.Sequence true) attributes) (length (elems given)) (sequence_by attributes true name)
          ≡ field_by around.spans (left_by (field_rules tag.Sequence is_first) attributes) (length (elems given)) (sequence_by attributes is_first name)
      by_name None kept = refl
      by_name (Some name) kept =
          let first : has_name key.ReferenceName attributes ≡ true → is_first ≡ true = λ some. first_kept name (stated key.ReferenceName value.name attributes) some kept in
          ap₂ (λ (left : Left) (own : List ℕ). field_by around.spans left (length (elems given)) (Some (Sequence name own (stated_or key.NumberFormat value.number_format format.Digits attributes))))
          (sym (field_alike attributes is_first good first)) (sym (name_alike key.ReferenceName attributes is_first good first))

  passed_same : list_all (λ (one : Standing). one.content) stand ≡ true → (b : Bool) → AreKept known (cond b [] (each (λ one. one.content) here gives))
      → Same (cond b (no_content one_element) (content_with one_element (content_of around bare))) (cond b (no_content one_element) (content_with one_element (content_of around given)))
  passed_same stands true kept = none_bare around.in_note one_element
  passed_same stands false kept = ap (content_with one_element) (held_same stands kept around.spans)

  pub content_at : (which : Tag) → content_stands which attributes stand ≡ true → AreKept known (in_content which place attributes gives here)
      → Same (element_content (bare_known known) which 0 attributes bare around) (element_content known which place attributes given around)
  content_at tag.Span stands kept = span_alike known.names around attributes (λ at. content_of at bare) (λ at. content_of at given) (held_same stands kept) (value_of key.StyleName attributes)
  content_at tag.Spaces stands kept = leaf_same (rule key.Count (value.number 1 4294967295) ∷ []) (replicate (stated_or key.Count (value.number 1 4294967295) 1 attributes) (item_in around.spans (What-F.Char 0x20))) (spaces_stay around.spans _)
  content_at tag.Tab stands kept = one_same [] (item_in around.spans What-F.Tab) (ap Item-Read (tab_stays around.spans))
  content_at tag.LineBreak stands kept = one_same [] (item_in around.spans What-F.Break) (ap Item-Read (break_stays around.spans))
  content_at tag.Note stands kept =
      ap (λ (held : List Gives). note_content (bare_known known) around 0 attributes held) (elems_bared known nodes)
      ∙ note_same known place attributes (elems nodes) same around.in_note around.spans here text stands kept
      ∙ ap (λ (held : List Gives). bare_content around.in_note (note_content known around place attributes held)) (sym (elems_placed known nodes))
  content_at tag.Bookmark stands kept = mark_same met.Whole Point stands kept
  content_at tag.BookmarkStart stands kept = mark_same met.Start Start stands kept
  content_at tag.BookmarkEnd stands kept = mark_same met.End End stands kept
  content_at tag.Sequence stands kept = sequence_same stands kept
  content_at tag.VariableSet stands kept = field_same tag.VariableSet refl refl
  content_at tag.VariableGet stands kept = field_same tag.VariableGet refl refl
  content_at tag.Chapter stands kept = field_same tag.Chapter refl refl
  content_at tag.PageNumber stands kept = field_same tag.PageNumber refl refl
  content_at tag.PageCount stands kept = field_same tag.PageCount refl refl
  content_at tag.BookmarkReference stands kept = field_same tag.BookmarkReference refl refl
  content_at tag.SequenceReference stands kept = field_same tag.SequenceReference refl refl
  content_at tag.NoteReference stands kept = field_same tag.NoteReference refl refl
  content_at other stands kept = passed_same stands (is_dropped other) kept
