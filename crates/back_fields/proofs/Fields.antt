-- Fields are read back.
use Rattle.std.proofs.Common.{◌≡◌, ℕ, ℤ, pos, ◌≤◌, ◌==◌, ◌++◌, Bool, true, false, cond, List, [], ◌∷◌, map, length, codes, decimal, refl, sym, ap, ap₂, ◌∙◌, arith, eqb-true, Option, Some, option_map, is_some}
use Rattle.std.specs.List.{AllByRecursion as Each}
use Rattle.std.specs.Option.{option_map_or}
use Rattle.markup_nodes.specs.declared.words.Attr.{Attr}
use Rattle.markup_nodes.specs.declared.tree.Elem.{Elem}
use Rattle.markup_nodes.specs.Node.{Node}
use Rattle.markup_nodes.specs.Nodes.{elems}
use Rattle.doc_model.specs.declared.field.ChapterShow.{ChapterShow}
use Rattle.doc_model.specs.declared.field.ChapterShow.TheVariants as chapter
use Rattle.doc_model.specs.declared.field.Field.{Field}
use Rattle.doc_model.specs.declared.field.Field.TheVariants.{Sequence, VarSet, VarGet, Chapter, PageNumber, PageCount, BookRef, SeqRef, NoteRef}
use Rattle.doc_model.specs.declared.field.Format.{Format}
use Rattle.doc_model.specs.declared.field.Format.TheVariants as format
use Rattle.doc_model.specs.declared.field.NoteClass.{NoteClass}
use Rattle.doc_model.specs.declared.field.NoteClass.TheVariants as class
use Rattle.doc_model.specs.declared.field.RefForm.{RefForm}
use Rattle.doc_model.specs.declared.field.RefForm.TheVariants as reference
use Rattle.doc_model.specs.declared.field.Select.{Select}
use Rattle.doc_model.specs.declared.field.Select.TheVariants as page
use Rattle.doc_model.specs.declared.field.SeqForm.{SeqForm}
use Rattle.doc_model.specs.declared.field.SeqForm.TheVariants as sequence
use Rattle.doc_model.specs.declared.paragraph.What.TheOpen.{What-F}
use Rattle.doc_model.specs.Chars.{IsLegalText}
use Rattle.doc_model.specs.Ranges.{IsPageAdjust}
use Rattle.load_model.specs.declared.names.Key.TheVariants as key
use Rattle.load_model.specs.declared.names.Tag.{Tag}
use Rattle.load_model.specs.declared.names.Tag.TheVariants as tag
use Rattle.load_model.specs.declared.element.Attribute.{Attribute}
use Rattle.load_model.specs.Blocks.{Around, Gives, ReadContent, element_content, field_content, left_by, node_content, own_text}
use Rattle.load_model.specs.Content.{Read, item_in, spaced}
use Rattle.load_model.specs.Fields.{field_of, field_rules, own_name}
use Rattle.load_model.specs.Left.{Left, nothing, both}
use Rattle.load_model.specs.Styles.{Names}
use Rattle.load_model.specs.Values as value
use Rattle.written_model.specs.Elements.{attribute, characters, element, unless_empty}
use Rattle.written_model.specs.Fields.{field_element, format_attribute}
use Rattle.written_model.specs.Values as text
use Rattle.back_names.specs.Named.{tag_named, named_attribute}
use Rattle.back_spaces.proofs.RawLemmas.{white}
use Rattle.back_values.proofs.Numbers.{number_back, adjust_back}
use Rattle.back_values.proofs.Texts.{name_back, none_back, own_back}
use Rattle.back_values.proofs.Words.{class_back, chapter_back, format_back, reference_back, select_back, sequence_back}
use Rattle.back_fields.specs.Fit.{IsFit, IsName, IsNameOrNone}
use Rattle.back_fields.specs.Given.{all_kept, given, whole}
use Rattle.back_fields.proofs.Attributes.{at, at_unless, named_first, named_unless, left_first, left_unless}
use Rattle.back_fields.proofs.Keys as named
use Rattle.back_fields.proofs.Opened.{element_given}

module _ (names : Names) (around : Around) where
  abbrev read_at : Tag → List Attribute → List (Node Gives) → ReadContent
  read_at which attributes nodes = element_content (all_kept names) which 0 attributes nodes around

  -- an element of this name and these attributes
  pub element_read : (called : List ℕ) (attrs : List Attr) (nodes : List (Node Elem)) (which : Tag) (attributes : List Attribute) → tag_named called ≡ which → map named_attribute attrs ≡ attributes
      → node_content around (given names (element called attrs nodes)) ≡ read_at which attributes (map (given names) nodes)
  element_read called attrs nodes which attributes is are =
      ap (node_content around) (element_given names called attrs nodes) ∙ ap₂ (λ (one : Tag) (all : List Attribute). read_at one all (map (given names) nodes)) is are

  -- a field that is found, with nothing left out
  module _ (which : Tag) (attributes : List Attribute) (nodes : List (Node Gives)) (field : Field) where
    field_read : field_of which true (spaced (own_text nodes)) attributes ≡ Some field → left_by (field_rules which true) attributes ≡ nothing → elems nodes ≡ []
        → field_content (all_kept names) around which 0 attributes nodes ≡ whole (Read (item_in around.spans (What-F.Field field)) ∷ [])
    field_read found none empty = rw found (ap₂ (λ (left : Left) (inner : List Gives). leaf_with left inner) none empty) where
      leaf_with : Left → List Gives → ReadContent
      leaf_with left inner = record { raws = Read (item_in around.spans (What-F.Field field)) ∷ []; left = both left (record { elements = length inner; attributes = 0 }) }

-- values
level_back : (one : ℕ) → 1 ≤ one → one ≤ 10 → value.level (decimal one) ≡ Some one
level_back one low high = number_back 1 10 one low high (omega arith)

is_there : {X : Type 0} (found : Option X) (one : X) → found ≡ Some one → is_some found ≡ true
is_there found one e = ap is_some e

-- a sequence field
sequence_found : (name refname : List ℕ) (given_format : Format) → IsName name → IsNameOrNone refname
    → field_of tag.Sequence true [] (at key.TextName name ∷ at_unless key.ReferenceName refname (at key.NumberFormat (text.format_text given_format) ∷ [])) ≡ Some (Sequence name refname given_format)
sequence_found name [] given_format is few =
    ap₂ (λ (found : Option (List ℕ)) (shown : Option Format). option_map (λ one. Sequence one [] (option_map_or (λ value. value) shown format.Digits)) found) (name_back name is.0 is.1) (format_back given_format)
sequence_found name (c ∷ cs) given_format is few =
    ap₂ (λ (found : Option (List ℕ)) (shown : Option Format). option_map (λ one. Sequence one (option_map_or (λ value. value) (own_name true (c ∷ cs)) []) (option_map_or (λ value. value) shown format.Digits)) found) (name_back name is.0 is.1) (format_back given_format)
    ∙ ap (λ (found : Option (List ℕ)). Some (Sequence name (option_map_or (λ value. value) found []) given_format)) (own_back (c ∷ cs) few)

sequence_none : (name refname : List ℕ) (given_format : Format) → IsName name → IsNameOrNone refname
    → left_by (field_rules tag.Sequence true) (at key.TextName name ∷ at_unless key.ReferenceName refname (at key.NumberFormat (text.format_text given_format) ∷ [])) ≡ nothing
sequence_none name refname given_format is few =
    left_first (field_rules tag.Sequence true) (at key.TextName name) (at_unless key.ReferenceName refname (at key.NumberFormat (text.format_text given_format) ∷ [])) (is_there (value.name_or_none name) name (none_back name is.1))
    (left_unless (field_rules tag.Sequence true) key.ReferenceName refname (at key.NumberFormat (text.format_text given_format) ∷ []) (is_there (own_name true refname) refname (own_back refname few))
    (left_first (field_rules tag.Sequence true) (at key.NumberFormat (text.format_text given_format)) [] (is_there (value.number_format (text.format_text given_format)) given_format (format_back given_format)) refl))

-- characters of a value
value_spaced : (text : List ℕ) → Each IsLegalText text → spaced text ≡ text
value_spaced [] legal = refl
value_spaced (c ∷ cs) legal = ap₂ (λ (one : ℕ) (more : List ℕ). one ∷ more) (ap (λ (b : Bool). cond b 0x20 c) (white c legal.0.1) ∙ by_space (c == 0x20) refl) (value_spaced cs legal.1) where
  by_space : (same : Bool) → (c == 0x20) ≡ same → cond same 0x20 c ≡ c
  by_space true e = sym (eqb-true c 0x20 e)
  by_space false e = refl

module _ (names : Names) (around : Around) where
  value_text : (text : List ℕ) → own_text (map (given names) (characters text)) ≡ text
  value_text [] = refl
  value_text (c ∷ cs) = ap (λ (more : List ℕ). c ∷ more) (value_text cs)

  value_empty : (text : List ℕ) → elems (map (given names) (characters text)) ≡ []
  value_empty [] = refl
  value_empty (c ∷ cs) = value_empty cs

  abbrev Back : Field → Type 0
  Back field = node_content around (given names (field_element field)) ≡ whole (Read (item_in around.spans (What-F.Field field)) ∷ [])

  sequence_back_field : (name refname : List ℕ) (given_format : Format) → IsName name → IsNameOrNone refname → Back (Sequence name refname given_format)
  sequence_back_field name refname given_format is few =
      element_read names around (codes "text:sequence") (attribute (codes "text:name") name ∷ unless_empty (codes "text:ref-name") refname ++ format_attribute given_format ∷ []) [] tag.Sequence
      (at key.TextName name ∷ at_unless key.ReferenceName refname (at key.NumberFormat (text.format_text given_format) ∷ [])) named.sequence_tag
      (named_first (codes "text:name") name key.TextName (unless_empty (codes "text:ref-name") refname ++ format_attribute given_format ∷ []) (at_unless key.ReferenceName refname (at key.NumberFormat (text.format_text given_format) ∷ [])) named.name_key
      (named_unless (codes "text:ref-name") refname key.ReferenceName (format_attribute given_format ∷ []) (at key.NumberFormat (text.format_text given_format) ∷ []) named.ref_name_key
      (named_first (codes "style:num-format") (text.format_text given_format) key.NumberFormat [] [] named.format_key refl)))
      ∙ field_read names around tag.Sequence (at key.TextName name ∷ at_unless key.ReferenceName refname (at key.NumberFormat (text.format_text given_format) ∷ [])) [] (Sequence name refname given_format)
      (sequence_found name refname given_format is few) (sequence_none name refname given_format is few) refl

  set_back_field : (name stored : List ℕ) → IsName name → Each IsLegalText stored → Back (VarSet name stored)
  set_back_field name stored is legal =
      element_read names around (codes "text:variable-set") (attribute (codes "text:name") name ∷ []) (characters stored) tag.VariableSet (at key.TextName name ∷ []) named.variable_set_tag
      (named_first (codes "text:name") name key.TextName [] [] named.name_key refl)
      ∙ field_read names around tag.VariableSet (at key.TextName name ∷ []) (map (given names) (characters stored)) (VarSet name stored)
      (ap₂ (λ (found : Option (List ℕ)) (text : List ℕ). option_map (λ one. VarSet one text) found) (name_back name is.0 is.1) (ap spaced (value_text stored) ∙ value_spaced stored legal))
      (left_first (field_rules tag.VariableSet true) (at key.TextName name) [] (is_there (value.name_or_none name) name (none_back name is.1)) refl) (value_empty stored)

  get_back_field : (name : List ℕ) → IsName name → Back (VarGet name)
  get_back_field name is =
      element_read names around (codes "text:variable-get") (attribute (codes "text:name") name ∷ []) [] tag.VariableGet (at key.TextName name ∷ []) named.variable_get_tag
      (named_first (codes "text:name") name key.TextName [] [] named.name_key refl)
      ∙ field_read names around tag.VariableGet (at key.TextName name ∷ []) [] (VarGet name) (ap (λ (found : Option (List ℕ)). option_map VarGet found) (name_back name is.0 is.1))
      (left_first (field_rules tag.VariableGet true) (at key.TextName name) [] (is_there (value.name_or_none name) name (none_back name is.1)) refl) refl

  chapter_back_field : (display : ChapterShow) (level : ℕ) → 1 ≤ level → level ≤ 10 → Back (Chapter display level)
  chapter_back_field display level low high =
      element_read names around (codes "text:chapter") (attribute (codes "text:display") (text.chapter_text display) ∷ attribute (codes "text:outline-level") (decimal level) ∷ []) [] tag.Chapter
      (at key.Display (text.chapter_text display) ∷ at key.OutlineLevel (decimal level) ∷ []) named.chapter_tag
      (named_first (codes "text:display") (text.chapter_text display) key.Display (attribute (codes "text:outline-level") (decimal level) ∷ []) (at key.OutlineLevel (decimal level) ∷ []) named.display_key
      (named_first (codes "text:outline-level") (decimal level) key.OutlineLevel [] [] named.outline_level_key refl))
      ∙ field_read names around tag.Chapter (at key.Display (text.chapter_text display) ∷ at key.OutlineLevel (decimal level) ∷ []) [] (Chapter display level)
      (ap₂ (λ (shown : Option ChapterShow) (number : Option ℕ). Some (Chapter (option_map_or (λ value. value) shown chapter.Name) (option_map_or (λ value. value) number 1))) (chapter_back display) (level_back level low high))
      (left_first (field_rules tag.Chapter true) (at key.Display (text.chapter_text display)) (at key.OutlineLevel (decimal level) ∷ []) (is_there (value.chapter_display (text.chapter_text display)) display (chapter_back display))
      (left_first (field_rules tag.Chapter true) (at key.OutlineLevel (decimal level)) [] (is_there (value.level (decimal level)) level (level_back level low high)) refl)) refl

  page_back_field : (select : Select) (adjust : ℤ) (given_format : Format) → IsPageAdjust adjust → Back (PageNumber select adjust given_format)
  page_back_field select adjust given_format within =
      element_read names around (codes "text:page-number")
      (attribute (codes "text:select-page") (text.select_text select) ∷ attribute (codes "text:page-adjust") (text.whole_text adjust) ∷ format_attribute given_format ∷ []) [] tag.PageNumber (shown ∷ adjusted ∷ formatted ∷ []) named.page_number_tag
      (named_first (codes "text:select-page") (text.select_text select) key.SelectPage (attribute (codes "text:page-adjust") (text.whole_text adjust) ∷ format_attribute given_format ∷ []) (adjusted ∷ formatted ∷ []) named.select_page_key
      (named_first (codes "text:page-adjust") (text.whole_text adjust) key.PageAdjust (format_attribute given_format ∷ []) (formatted ∷ []) named.page_adjust_key
      (named_first (codes "style:num-format") (text.format_text given_format) key.NumberFormat [] [] named.format_key refl)))
      ∙ field_read names around tag.PageNumber (shown ∷ adjusted ∷ formatted ∷ []) [] (PageNumber select adjust given_format) found
      (left_first (field_rules tag.PageNumber true) shown (adjusted ∷ formatted ∷ []) (is_there (value.page_select (text.select_text select)) select (select_back select))
      (left_first (field_rules tag.PageNumber true) adjusted (formatted ∷ []) (is_there (value.page_adjust (text.whole_text adjust)) adjust (adjust_back adjust within))
      (left_first (field_rules tag.PageNumber true) formatted [] (is_there (value.number_format (text.format_text given_format)) given_format (format_back given_format)) refl))) refl where
        shown : Attribute
        shown = at key.SelectPage (text.select_text select)

        adjusted : Attribute
        adjusted = at key.PageAdjust (text.whole_text adjust)

        formatted : Attribute
        formatted = at key.NumberFormat (text.format_text given_format)

        found : field_of tag.PageNumber true [] (shown ∷ adjusted ∷ formatted ∷ []) ≡ Some (PageNumber select adjust given_format)
        found =
            ap (λ (one : Option Select). Some (PageNumber (option_map_or (λ value. value) one page.Current) (option_map_or (λ value. value) (value.page_adjust (text.whole_text adjust)) (pos 0)) (option_map_or (λ value. value) (value.number_format (text.format_text given_format)) format.Digits))) (select_back select)
            ∙ ap₂ (λ (one : Option ℤ) (other : Option Format). Some (PageNumber select (option_map_or (λ value. value) one (pos 0)) (option_map_or (λ value. value) other format.Digits))) (adjust_back adjust within) (format_back given_format)

  count_back_field : (given_format : Format) → Back (PageCount given_format)
  count_back_field given_format =
      element_read names around (codes "text:page-count") (format_attribute given_format ∷ []) [] tag.PageCount (at key.NumberFormat (text.format_text given_format) ∷ []) named.page_count_tag
      (named_first (codes "style:num-format") (text.format_text given_format) key.NumberFormat [] [] named.format_key refl)
      ∙ field_read names around tag.PageCount (at key.NumberFormat (text.format_text given_format) ∷ []) [] (PageCount given_format)
      (ap (λ (one : Option Format). Some (PageCount (option_map_or (λ value. value) one format.Digits))) (format_back given_format))
      (left_first (field_rules tag.PageCount true) (at key.NumberFormat (text.format_text given_format)) [] (is_there (value.number_format (text.format_text given_format)) given_format (format_back given_format)) refl) refl

  bookmark_back_field : (name : List ℕ) (form : RefForm) → IsNameOrNone name → Back (BookRef name form)
  bookmark_back_field name form few =
      element_read names around (codes "text:bookmark-ref") (unless_empty (codes "text:ref-name") name ++ attribute (codes "text:reference-format") (text.reference_text form) ∷ []) [] tag.BookmarkReference
      (at_unless key.ReferenceName name (formed ∷ [])) named.bookmark_ref_tag
      (named_unless (codes "text:ref-name") name key.ReferenceName (attribute (codes "text:reference-format") (text.reference_text form) ∷ []) (formed ∷ []) named.ref_name_key
      (named_first (codes "text:reference-format") (text.reference_text form) key.ReferenceFormat [] [] named.reference_format_key refl))
      ∙ field_read names around tag.BookmarkReference (at_unless key.ReferenceName name (formed ∷ [])) [] (BookRef name form) (found name few)
      (left_unless (field_rules tag.BookmarkReference true) key.ReferenceName name (formed ∷ []) (is_there (value.name_or_none name) name (none_back name few))
      (left_first (field_rules tag.BookmarkReference true) formed [] (is_there (value.reference_form (text.reference_text form)) form (reference_back form)) refl)) refl where
        formed : Attribute
        formed = at key.ReferenceFormat (text.reference_text form)

        found : (name : List ℕ) → IsNameOrNone name → field_of tag.BookmarkReference true [] (at_unless key.ReferenceName name (formed ∷ [])) ≡ Some (BookRef name form)
        found [] few = ap (λ (one : Option RefForm). Some (BookRef [] (option_map_or (λ value. value) one reference.Text))) (reference_back form)
        found (c ∷ cs) few = ap₂ (λ (found : Option (List ℕ)) (one : Option RefForm). Some (BookRef (option_map_or (λ value. value) found []) (option_map_or (λ value. value) one reference.Text))) (none_back (c ∷ cs) few) (reference_back form)

  sequence_ref_back_field : (name : List ℕ) (form : SeqForm) → IsNameOrNone name → Back (SeqRef name form)
  sequence_ref_back_field name form few =
      element_read names around (codes "text:sequence-ref") (unless_empty (codes "text:ref-name") name ++ attribute (codes "text:reference-format") (text.sequence_text form) ∷ []) [] tag.SequenceReference
      (at_unless key.ReferenceName name (formed ∷ [])) named.sequence_ref_tag
      (named_unless (codes "text:ref-name") name key.ReferenceName (attribute (codes "text:reference-format") (text.sequence_text form) ∷ []) (formed ∷ []) named.ref_name_key
      (named_first (codes "text:reference-format") (text.sequence_text form) key.ReferenceFormat [] [] named.reference_format_key refl))
      ∙ field_read names around tag.SequenceReference (at_unless key.ReferenceName name (formed ∷ [])) [] (SeqRef name form) (found name few)
      (left_unless (field_rules tag.SequenceReference true) key.ReferenceName name (formed ∷ []) (is_there (value.name_or_none name) name (none_back name few))
      (left_first (field_rules tag.SequenceReference true) formed [] (is_there (value.sequence_form (text.sequence_text form)) form (sequence_back form)) refl)) refl where
        formed : Attribute
        formed = at key.ReferenceFormat (text.sequence_text form)

        found : (name : List ℕ) → IsNameOrNone name → field_of tag.SequenceReference true [] (at_unless key.ReferenceName name (formed ∷ [])) ≡ Some (SeqRef name form)
        found [] few = ap (λ (one : Option SeqForm). Some (SeqRef [] (option_map_or (λ value. value) one sequence.Text))) (sequence_back form)
        found (c ∷ cs) few = ap₂ (λ (found : Option (List ℕ)) (one : Option SeqForm). Some (SeqRef (option_map_or (λ value. value) found []) (option_map_or (λ value. value) one sequence.Text))) (none_back (c ∷ cs) few) (sequence_back form)

  note_ref_back_field : (name : List ℕ) (given_class : NoteClass) (form : RefForm) → IsNameOrNone name → Back (NoteRef name given_class form)
  note_ref_back_field name given_class form few =
      element_read names around (codes "text:note-ref")
      (unless_empty (codes "text:ref-name") name ++ attribute (codes "text:reference-format") (text.reference_text form) ∷ attribute (codes "text:note-class") (text.class_text given_class) ∷ []) [] tag.NoteReference
      (at_unless key.ReferenceName name (formed ∷ classed ∷ [])) named.note_ref_tag
      (named_unless (codes "text:ref-name") name key.ReferenceName (attribute (codes "text:reference-format") (text.reference_text form) ∷ attribute (codes "text:note-class") (text.class_text given_class) ∷ []) (formed ∷ classed ∷ []) named.ref_name_key
      (named_first (codes "text:reference-format") (text.reference_text form) key.ReferenceFormat (attribute (codes "text:note-class") (text.class_text given_class) ∷ []) (classed ∷ []) named.reference_format_key
      (named_first (codes "text:note-class") (text.class_text given_class) key.NoteClass [] [] named.note_class_key refl)))
      ∙ field_read names around tag.NoteReference (at_unless key.ReferenceName name (formed ∷ classed ∷ [])) [] (NoteRef name given_class form) (found name few)
      (left_unless (field_rules tag.NoteReference true) key.ReferenceName name (formed ∷ classed ∷ []) (is_there (value.name_or_none name) name (none_back name few))
      (left_first (field_rules tag.NoteReference true) formed (classed ∷ []) (is_there (value.reference_form (text.reference_text form)) form (reference_back form))
      (left_first (field_rules tag.NoteReference true) classed [] (is_there (value.note_class (text.class_text given_class)) given_class (class_back given_class)) refl))) refl where
        formed : Attribute
        formed = at key.ReferenceFormat (text.reference_text form)

        classed : Attribute
        classed = at key.NoteClass (text.class_text given_class)

        found : (name : List ℕ) → IsNameOrNone name → field_of tag.NoteReference true [] (at_unless key.ReferenceName name (formed ∷ classed ∷ [])) ≡ Some (NoteRef name given_class form)
        found [] few =
            ap₂ (λ (one : Option NoteClass) (other : Option RefForm). Some (NoteRef [] (option_map_or (λ value. value) one class.Footnote) (option_map_or (λ value. value) other reference.Text))) (class_back given_class) (reference_back form)
        found (c ∷ cs) few =
            ap (λ (found : Option (List ℕ)). Some (NoteRef (option_map_or (λ value. value) found []) (option_map_or (λ value. value) (value.note_class (text.class_text given_class)) class.Footnote) (option_map_or (λ value. value) (value.reference_form (text.reference_text form)) reference.Text))) (none_back (c ∷ cs) few)
            ∙ ap₂ (λ (one : Option NoteClass) (other : Option RefForm). Some (NoteRef (c ∷ cs) (option_map_or (λ value. value) one class.Footnote) (option_map_or (λ value. value) other reference.Text))) (class_back given_class) (reference_back form)

  pub field_back : (field : Field) → IsFit field → Back field
  field_back (Sequence name refname given_format) fit = sequence_back_field name refname given_format fit.0 fit.1
  field_back (VarSet name stored) fit = set_back_field name stored fit.0 fit.1
  field_back (VarGet name) fit = get_back_field name fit
  field_back (Chapter display level) fit = chapter_back_field display level fit.0 fit.1
  field_back (PageNumber select adjust given_format) fit = page_back_field select adjust given_format fit
  field_back (PageCount given_format) fit = count_back_field given_format
  field_back (BookRef name form) fit = bookmark_back_field name form fit
  field_back (SeqRef name form) fit = sequence_ref_back_field name form fit
  field_back (NoteRef name given_class form) fit = note_ref_back_field name given_class form fit
