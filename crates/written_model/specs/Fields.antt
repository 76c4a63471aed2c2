-- Fields as elements.
use Rattle.std.specs.Prelude.{[], ◌∷◌, ◌++◌, codes, decimal}
use Rattle.markup_nodes.specs.declared.words.Attr.{Attr}
use Rattle.markup_nodes.specs.declared.tree.Elem.{Elem}
use Rattle.markup_nodes.specs.Node.{Node}
use Rattle.doc_model.specs.declared.field.Format.{Format}
use Rattle.doc_model.specs.declared.field.Field.{Field}
use Rattle.doc_model.specs.declared.field.Field.TheVariants.{Sequence, VarSet, VarGet, Chapter, PageNumber, PageCount, BookRef, SeqRef, NoteRef}
use Rattle.written_model.specs.Elements.{attribute, unless_empty, element, empty_element, characters}
use Rattle.written_model.specs.Values.{format_text, chapter_text, select_text, reference_text, sequence_text, class_text, whole_text}

-- the format of a field
abbrev pub format_attribute : Format → Attr
format_attribute format = attribute (codes "style:num-format") (format_text format)

-- a field. Only one that sets a variable holds something: the value
abbrev pub field_element : Field → Node Elem
field_element (Sequence name refname format) =
    empty_element (codes "text:sequence") (attribute (codes "text:name") name ∷ unless_empty (codes "text:ref-name") refname ++ format_attribute format ∷ [])
field_element (VarSet name value) = element (codes "text:variable-set") (attribute (codes "text:name") name ∷ []) (characters value)
field_element (VarGet name) = empty_element (codes "text:variable-get") (attribute (codes "text:name") name ∷ [])
field_element (Chapter display level) =
    empty_element (codes "text:chapter") (attribute (codes "text:display") (chapter_text display) ∷ attribute (codes "text:outline-level") (decimal level) ∷ [])
field_element (PageNumber select adjust format) =
    empty_element (codes "text:page-number") (attribute (codes "text:select-page") (select_text select) ∷ attribute (codes "text:page-adjust") (whole_text adjust) ∷ format_attribute format ∷ [])
field_element (PageCount format) = empty_element (codes "text:page-count") (format_attribute format ∷ [])
field_element (BookRef name form) =
    empty_element (codes "text:bookmark-ref") (unless_empty (codes "text:ref-name") name ++ attribute (codes "text:reference-format") (reference_text form) ∷ [])
field_element (SeqRef name form) =
    empty_element (codes "text:sequence-ref") (unless_empty (codes "text:ref-name") name ++ attribute (codes "text:reference-format") (sequence_text form) ∷ [])
field_element (NoteRef name class form) =
    empty_element (codes "text:note-ref") (unless_empty (codes "text:ref-name") name ++ attribute (codes "text:reference-format") (reference_text form) ∷ attribute (codes "text:note-class") (class_text class) ∷ [])
