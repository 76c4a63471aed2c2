-- What stands in the content of paragraphs is good.
use Rattle.std.proofs.Common.{◌≡◌, ◌≢◌, ℕ, ◌≤◌, ◌<◌, nat_lt, not, ◌||◌, Bool, true, false, cond, List, [], ◌∷◌, ◌++◌, map, length, refl, sym, subst, Option, Some, None, option_map, is_some, arith}
use Rattle.std.specs.List.{AllByRecursion as Each, Any}
use Rattle.std.specs.Option.{option_map_or}
use Rattle.std.proofs.lemmas.Bool.{ltb-true}
use Rattle.std.proofs.lemmas.List.{length-append}
use Rattle.markup_nodes.specs.Node.{Node}
use Rattle.markup_nodes.specs.Nodes.{elems}
use Rattle.doc_model.specs.declared.field.Field.{Field}
use Rattle.doc_model.specs.declared.field.Field.TheVariants as fields
use Rattle.doc_model.specs.declared.field.Format.TheVariants as format
use Rattle.doc_model.specs.declared.paragraph.Mark.{Mark}
use Rattle.doc_model.specs.declared.paragraph.Mark.TheVariants.{Point, Start, End}
use Rattle.doc_model.specs.declared.paragraph.What.TheOpen.{What-F}
use Rattle.doc_model.specs.declared.style.Family.TheVariants as family
use Rattle.doc_model.specs.Chars.{IsLegal}
use Rattle.doc_model.specs.Parts.{mark_name, names_of_field}
use Rattle.doc_model.specs.Valid.{IsField}
use Rattle.load_model.specs.declared.names.Key.TheVariants as key
use Rattle.load_model.specs.declared.names.Tag.{Tag}
use Rattle.load_model.specs.declared.names.Tag.TheVariants as tag
use Rattle.load_model.specs.declared.element.Attribute.{Attribute}
use Rattle.load_model.specs.declared.element.Element.{Element as Read}
use Rattle.load_model.specs.Blocks.{Around, Gives, ReadContent, content_of, content_with, element_content, field_content, leaf_items, left_by, mark_content, no_content, note_content, one_element, own_text}
use Rattle.load_model.specs.Content.{item_in, spaced, Read as Item-Read}
use Rattle.load_model.specs.Fields.{field_of, field_rules, own_name}
use Rattle.load_model.specs.Left.{only_attributes}
use Rattle.load_model.specs.Met as met
use Rattle.load_model.specs.Met.{Met, Where, each, in_content, is_at, is_dropped, named_at, sequence_met}
use Rattle.load_model.specs.Styles.{Names, style_reference}
use Rattle.load_model.specs.Values as value
use Rattle.load_model.specs.Values.{Rule, rule, stated, stated_or, value_of}
use Rattle.legal_trees.specs.Legal.{IsLegalNode}
use Rattle.valid_text.specs.Texts.{IsGoodName}
use Rattle.valid_text.proofs.Good.{Text, Fits, AreSpans, IsGoodRaw, IsGoodWhat, IsKeptName, IsSpan, NoteOf, item_good}
use Rattle.valid_text.proofs.Lists.{each_append}
use Rattle.valid_text.proofs.Notes.{note_good}
use Rattle.valid_text.proofs.Raws.{spaced_legal, spaces_good}
use Rattle.valid_text.proofs.Settled.{own_settled, within_note}
use Rattle.valid_text.proofs.Steps.{elems_given, given_nodes}
use Rattle.valid_text.proofs.Values.{AreLegal, empty_good, level_good, name_good, name_or_none_good, own_good, stated_holds, stated_or_holds, value_legal}
use Rattle.valid_text.proofs.Walk.{AreDeclared, AreSettled, InText, IsGood, content_good, own_legal}

module _ (text : Text) (fits : Fits text) (place : ℕ) (attributes : List Attribute) (legal : AreLegal attributes) (nodes : List (Node Read)) (chars : Each IsLegalNode nodes) (good : Each (IsGood text) (elems nodes))
    (around : Around) (here : Where) (outside : InText around.in_note here) (spans : AreSpans text around.spans) where
  abbrev given : List (Node Gives)
  given = given_nodes text.known nodes

  abbrev gives : List met.Gives
  gives = map met.gives_of (elems nodes)

  abbrev names : Names
  names = text.known.names

  abbrev AreGood : ReadContent → Type 0
  AreGood read = Each (IsGoodRaw text around.in_note) read.raws

  one_good : (what : _) → IsGoodWhat text (NoteOf text around.in_note) what → Each (IsGoodRaw text around.in_note) (map Item-Read (item_in around.spans what ∷ []))
  one_good what is = (item_good text (NoteOf text around.in_note) around.spans what spans is, tt)

  -- what it holds
  module _ (settled : AreSettled text around.in_note (elems nodes)) (declared : AreDeclared text (each (λ one. one.content) here gives)) where
    held_good : (within : List (List ℕ)) → AreSpans text within → AreGood (content_of (record around { spans = within }) given)
    held_good within are = content_good text (record around { spans = within }) here outside are nodes chars good settled declared

    -- a span
    more_spans : (name : List ℕ) → IsSpan text name → length around.spans < 8 → AreSpans text (around.spans ++ name ∷ [])
    more_spans name is less =
        (subst (λ (n : ℕ). n ≤ 8) (sym (length-append around.spans (name ∷ []))) (omega (arith, less)), each_append (IsSpan text) around.spans (name ∷ []) spans.1 (is, tt))

    abbrev span_good : List ℕ → Bool → ReadContent
    span_good name few =
        cond few (content_with (left_by (rule key.StyleName (style_reference names family.Text) ∷ []) attributes) (content_of (record around { spans = around.spans ++ name ∷ [] }) given))
        (content_with one_element (content_of around given))

    abbrev span_referred : Option (List ℕ) → ReadContent
    span_referred None = content_with (only_attributes 1) (content_of around given)
    span_referred (Some name) = span_good name (nat_lt (length around.spans) 8)

    abbrev span_by : Option (List ℕ) → ReadContent
    span_by None = content_of around given
    span_by (Some name) = span_referred (style_reference names family.Text name)

    few_good : (name : List ℕ) → IsSpan text name → (few : Bool) → nat_lt (length around.spans) 8 ≡ few → AreGood (span_good name few)
    few_good name is true e = held_good (around.spans ++ name ∷ []) (more_spans name is (ltb-true (length around.spans) 8 e))
    few_good name is false e = held_good around.spans spans

    referred_good : (named : List ℕ) → Each IsLegal named → (found : Option (List ℕ)) → style_reference names family.Text named ≡ found → AreGood (span_referred found)
    referred_good named is None e = held_good around.spans spans
    referred_good named is (Some name) e = few_good name (fits.style family.Text named name is e) (nat_lt (length around.spans) 8) refl

    span_is : (found : Option (List ℕ)) → value_of key.StyleName attributes ≡ found → AreGood (span_by found)
    span_is None e = held_good around.spans spans
    span_is (Some named) e = referred_good named (value_legal key.StyleName attributes legal named e) (style_reference names family.Text named) refl

  -- a mark
  mark_is : (mark : List ℕ → Mark) → ((name : List ℕ) → mark_name (mark name) ≡ name)
      → (text.strict ≡ true → (not (is_at text.known.kept.marks place) || is_some (stated key.TextName value.name attributes)) ≡ true) → AreGood (mark_content text.known around place mark attributes (elems given))
  mark_is mark called settled = by_kept (is_at text.known.kept.marks place) settled where
    own_name_stated : List ℕ
    own_name_stated = stated_or key.TextName value.name [] attributes

    good_name : IsGoodName own_name_stated
    good_name = stated_or_holds IsGoodName key.TextName value.name [] attributes legal empty_good (λ found name is e. (name_good found name is e).0)

    by_stated : (found : Option (List ℕ)) → stated key.TextName value.name attributes ≡ found → is_some found ≡ true → option_map_or (λ name. name) found [] ≡ [] → ⊥
    by_stated None is some none = absurd cc
    by_stated (Some name) is some none = stated_holds (λ (one : List ℕ). one ≢ []) key.TextName value.name attributes legal (λ found one legal e. (name_good found one legal e).1) name is none

    by_kept : (b : Bool) → (text.strict ≡ true → (not b || is_some (stated key.TextName value.name attributes)) ≡ true)
        → AreGood (cond b (leaf_items (rule key.TextName value.name ∷ []) attributes (elems given) (item_in around.spans (What-F.Mark (mark own_name_stated)) ∷ [])) (no_content one_element))
    by_kept false settled = tt
    by_kept true settled = one_good (What-F.Mark (mark own_name_stated)) (subst (IsKeptName text) (sym (called own_name_stated)) (good_name, λ strict. by_stated (stated key.TextName value.name attributes) refl (settled strict)))

  -- a field
  abbrev is_first : Bool
  is_first = is_at text.known.kept.references place

  abbrev field_by : Tag → Option Field → ReadContent
  field_by which None = no_content one_element
  field_by which (Some field) = leaf_items (field_rules which is_first) attributes (elems given) (item_in around.spans (What-F.Field field) ∷ [])

  abbrev IsGoodField : Field → Type 0
  IsGoodField field = IsField text.doc field × Each IsGoodName (names_of_field field)

  found_good : (which : Tag) (found : Option Field) → ((field : Field) → found ≡ Some field → IsGoodField field) → AreGood (field_by which found)
  found_good which None is = tt
  found_good which (Some field) is = one_good (What-F.Field field) (is field refl)

  field_is : (which : Tag) → ((field : Field) → field_of which is_first (spaced (own_text given)) attributes ≡ Some field → IsGoodField field) → AreGood (field_content text.known around which place attributes given)
  field_is which is = found_good which (field_of which is_first (spaced (own_text given)) attributes) is

  -- what has no name of its own
  some_good : (field : Field) → IsGoodField field → (other : Field) → Some field ≡ Some other → IsGoodField other
  some_good field is other e = subst IsGoodField (the_same e) is where
    the_same : Some field ≡ Some other → field ≡ other
    the_same e = cc

  reference_good : IsGoodName (stated_or key.ReferenceName value.name_or_none [] attributes)
  reference_good = stated_or_holds IsGoodName key.ReferenceName value.name_or_none [] attributes legal empty_good name_or_none_good

  -- a field that needs a name
  by_name : (make : List ℕ → Field) (given_name : Option (List ℕ)) → ((name : List ℕ) → given_name ≡ Some name → IsGoodField (make name)) → (field : Field) → option_map make given_name ≡ Some field → IsGoodField field
  by_name make None is field e = absurd (differ e) where
    differ : None ≡ Some field → ⊥
    differ e = cc
  by_name make (Some name) is field e = some_good (make name) (is name refl) field e

  stated_good : (name : List ℕ) → stated key.TextName value.name attributes ≡ Some name → IsGoodName name
  stated_good name e = stated_holds IsGoodName key.TextName value.name attributes legal (λ found own is e. (name_good found own is e).0) name e

  sequence_there : (name : List ℕ) (refname : Option (List ℕ)) → AreDeclared text (sequence_met place (Some name) refname) → Any (λ other. other ≡ name) text.doc.sequences
  sequence_there name None declared = declared.0
  sequence_there name (Some refname) declared = declared.1.0

  sequence_good : AreDeclared text (sequence_met place (stated key.TextName value.name attributes) (stated key.ReferenceName value.name attributes)) → (name : List ℕ) → stated key.TextName value.name attributes ≡ Some name
      → IsGoodField (fields.Sequence name (stated_or key.ReferenceName (own_name is_first) [] attributes) (stated_or key.NumberFormat value.number_format format.Digits attributes))
  sequence_good declared name e = (
    sequence_there name (stated key.ReferenceName value.name attributes) (subst (λ (found : Option (List ℕ)). AreDeclared text (sequence_met place found (stated key.ReferenceName value.name attributes))) e declared),
    (stated_good name e, (stated_or_holds IsGoodName key.ReferenceName (own_name is_first) [] attributes legal empty_good (own_good is_first), tt)),
  )

  variable_there : AreDeclared text (map met.Variable (named_at place (stated key.TextName value.name attributes))) → (name : List ℕ) → stated key.TextName value.name attributes ≡ Some name → Any (λ other. other ≡ name) text.doc.variables
  variable_there declared name e = (subst (λ (found : Option (List ℕ)). AreDeclared text (map met.Variable (named_at place found))) e declared).0

  level_there : (1 ≤ stated_or key.OutlineLevel value.level 1 attributes) × (stated_or key.OutlineLevel value.level 1 attributes ≤ 10)
  level_there = stated_or_holds (λ (n : ℕ). (1 ≤ n) × (n ≤ 10)) key.OutlineLevel value.level 1 attributes legal (omega arith, omega arith) (λ found n is e. level_good found n e)

  passed_good : AreSettled text around.in_note (elems nodes) → (b : Bool) → AreDeclared text (cond b [] (each (λ one. one.content) here gives)) → AreGood (cond b (no_content one_element) (content_with one_element (content_of around given)))
  passed_good settled true declared = tt
  passed_good settled false declared = held_good settled declared around.spans spans

  pub content_at : (which : Tag) → (text.strict ≡ true → own_settled text.known.kept around.in_note which place attributes ≡ true) → AreSettled text (within_note around.in_note which) (elems nodes) → AreDeclared text (in_content which place attributes gives here)
      → AreGood (element_content text.known which place attributes given around)
  content_at tag.Span own settled declared = span_is settled declared (value_of key.StyleName attributes) refl
  content_at tag.Spaces own settled declared = spaces_good text around.in_note around.spans (stated_or key.Count (value.number 1 4294967295) 1 attributes) spans
  content_at tag.Tab own settled declared = one_good What-F.Tab tt
  content_at tag.LineBreak own settled declared = one_good What-F.Break tt
  content_at tag.Note own settled declared =
      subst (λ (held : List Gives). AreGood (note_content text.known around place attributes held)) (sym (elems_given text.known nodes))
      (note_good text fits place attributes legal (elems nodes) good settled around.in_note around.spans spans here outside declared)
  content_at tag.Bookmark own settled declared = mark_is Point (λ name. refl) own
  content_at tag.BookmarkStart own settled declared = mark_is Start (λ name. refl) own
  content_at tag.BookmarkEnd own settled declared = mark_is End (λ name. refl) own
  content_at tag.Sequence own settled declared = field_is tag.Sequence (by_name _ (stated key.TextName value.name attributes) (sequence_good declared))
  content_at tag.VariableSet own settled declared =
      field_is tag.VariableSet (by_name _ (stated key.TextName value.name attributes) (λ name e. ((variable_there declared name e, spaced_legal (own_text given) (own_legal text nodes chars)), (stated_good name e, tt))))
  content_at tag.VariableGet own settled declared = field_is tag.VariableGet (by_name _ (stated key.TextName value.name attributes) (λ name e. (variable_there declared name e, (stated_good name e, tt))))
  content_at tag.Chapter own settled declared = field_is tag.Chapter (some_good _ (level_there, tt))
  content_at tag.PageNumber own settled declared = field_is tag.PageNumber (some_good _ (tt, tt))
  content_at tag.PageCount own settled declared = field_is tag.PageCount (some_good _ (tt, tt))
  content_at tag.BookmarkReference own settled declared = field_is tag.BookmarkReference (some_good _ (tt, (reference_good, tt)))
  content_at tag.SequenceReference own settled declared = field_is tag.SequenceReference (some_good _ (tt, (reference_good, tt)))
  content_at tag.NoteReference own settled declared = field_is tag.NoteReference (some_good _ (tt, (reference_good, tt)))
  content_at other own settled declared = passed_good settled (is_dropped other) declared
