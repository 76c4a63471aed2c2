-- Fields that can be written: what fields of a document have by their types, and names that are given where one is needed.
use Rattle.std.specs.Prelude.{◌≢◌, ℕ, ◌≤◌, List, [], length}
use Rattle.std.specs.List.{AllByRecursion as Each}
use Rattle.doc_model.specs.declared.field.Field.{Field}
use Rattle.doc_model.specs.declared.field.Field.TheVariants.{Sequence, VarSet, VarGet, Chapter, PageNumber, PageCount, BookRef, SeqRef, NoteRef}
use Rattle.doc_model.specs.Chars.{IsLegalText}
use Rattle.doc_model.specs.Ranges.{IsPageAdjust}

-- a name that may be empty
abbrev pub IsNameOrNone : List ℕ → Type 0
IsNameOrNone name = length name ≤ 1024

-- a name
abbrev pub IsName : List ℕ → Type 0
IsName name = (name ≢ []) × IsNameOrNone name

-- a field has the name that it needs, and its level, value and pages are in their ranges
abbrev pub IsFit : Field → Type 0
IsFit (Sequence name refname format) = IsName name × IsNameOrNone refname
IsFit (VarSet name value) = IsName name × Each IsLegalText value
IsFit (VarGet name) = IsName name
IsFit (Chapter display level) = (1 ≤ level) × (level ≤ 10)
IsFit (PageNumber select adjust format) = IsPageAdjust adjust
IsFit (PageCount format) = Unit {0}
IsFit (BookRef name form) = IsNameOrNone name
IsFit (SeqRef name form) = IsNameOrNone name
IsFit (NoteRef name class form) = IsNameOrNone name
