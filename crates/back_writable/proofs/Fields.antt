-- Fields may be written.
use Rattle.std.proofs.Common.{ℕ, [], ◌∷◌, codes, decimal, suc, refl}
use Rattle.std.specs.List.{AllByRecursion as Each}
use Rattle.markup_parts.specs.Chars.{is_name_start, is_name_char}
use Rattle.doc_model.specs.declared.field.Field.{Field}
use Rattle.doc_model.specs.declared.field.Field.TheVariants.{Sequence, VarSet, VarGet, Chapter, PageNumber, PageCount, BookRef, SeqRef, NoteRef}
use Rattle.doc_model.specs.Chars.{IsLegalText}
use Rattle.doc_model.specs.Parts.{names_of_field}
use Rattle.written_model.specs.Elements.{attribute, unless_empty, characters}
use Rattle.written_model.specs.Fields.{field_element, format_attribute}
use Rattle.written_model.specs.Values.{format_text, chapter_text, select_text, reference_text, sequence_text, class_text, whole_text}
use Rattle.back_writable.proofs.Chars.{AreLegal, decimal_legal, whole_legal}
use Rattle.back_writable.proofs.Lists.{each_append}
use Rattle.back_writable.proofs.Nodes.{Fits, IsGood, attribute_good, unless_good, element_fits, empty_fits, characters_fit}
use Rattle.back_writable.proofs.Values.{format_legal, chapter_legal, select_legal, reference_legal, sequence_legal, class_legal}

-- the value that a field sets
abbrev pub HasGoodValue : Field → Type 0
HasGoodValue (VarSet name value) = Each IsLegalText value
HasGoodValue _ = Unit {0}

-- a field that may be written
pub record IsGoodField (field : Field) : Type 0 where
  pub names : Each AreLegal (names_of_field field)
  pub value : HasGoodValue field

pub field_fits : (room : ℕ) (field : Field) → IsGoodField field → Fits (suc room) (field_element field)
unfolding is_name_start is_name_char
field_fits room (Sequence name refname format) good =
    empty_fits room (codes "text:sequence") _ refl (
      attribute_good (codes "text:name") name refl good.names.0,
      each_append IsGood (unless_empty (codes "text:ref-name") refname) (format_attribute format ∷ []) (unless_good (codes "text:ref-name") refname refl good.names.1.0) (attribute_good (codes "style:num-format") (format_text format) refl (format_legal format), tt),
    )
field_fits room (VarSet name value) good = element_fits room (codes "text:variable-set") _ (characters value) refl (attribute_good (codes "text:name") name refl good.names.0, tt) (characters_fit room value good.value)
field_fits room (VarGet name) good = empty_fits room (codes "text:variable-get") _ refl (attribute_good (codes "text:name") name refl good.names.0, tt)
field_fits room (Chapter display level) good =
    empty_fits room (codes "text:chapter") _ refl
    (attribute_good (codes "text:display") (chapter_text display) refl (chapter_legal display), (attribute_good (codes "text:outline-level") (decimal level) refl (decimal_legal level), tt))
field_fits room (PageNumber select adjust format) good =
    empty_fits room (codes "text:page-number") _ refl (
      attribute_good (codes "text:select-page") (select_text select) refl (select_legal select),
      (attribute_good (codes "text:page-adjust") (whole_text adjust) refl (whole_legal adjust), (attribute_good (codes "style:num-format") (format_text format) refl (format_legal format), tt)),
    )
field_fits room (PageCount format) good = empty_fits room (codes "text:page-count") _ refl (attribute_good (codes "style:num-format") (format_text format) refl (format_legal format), tt)
field_fits room (BookRef name form) good =
    empty_fits room (codes "text:bookmark-ref") _ refl
    (each_append IsGood (unless_empty (codes "text:ref-name") name) (attribute (codes "text:reference-format") (reference_text form) ∷ [])
    (unless_good (codes "text:ref-name") name refl good.names.0) (attribute_good (codes "text:reference-format") (reference_text form) refl (reference_legal form), tt))
field_fits room (SeqRef name form) good =
    empty_fits room (codes "text:sequence-ref") _ refl
    (each_append IsGood (unless_empty (codes "text:ref-name") name) (attribute (codes "text:reference-format") (sequence_text form) ∷ [])
    (unless_good (codes "text:ref-name") name refl good.names.0) (attribute_good (codes "text:reference-format") (sequence_text form) refl (sequence_legal form), tt))
field_fits room (NoteRef name class form) good =
    empty_fits room (codes "text:note-ref") _ refl
    (each_append IsGood (unless_empty (codes "text:ref-name") name) (attribute (codes "text:reference-format") (reference_text form) ∷ attribute (codes "text:note-class") (class_text class) ∷ [])
    (unless_good (codes "text:ref-name") name refl good.names.0)
    (attribute_good (codes "text:reference-format") (reference_text form) refl (reference_legal form), (attribute_good (codes "text:note-class") (class_text class) refl (class_legal class), tt)))
