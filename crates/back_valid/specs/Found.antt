-- What is asked beside validity where a text is read back: names as they are read, and the range of page number fields.
use Rattle.std.specs.Prelude.{◌≡◌, map}
use Rattle.doc_model.specs.declared.document.Document.{Document}
use Rattle.doc_model.specs.declared.field.Field.{Field}
use Rattle.doc_model.specs.declared.field.Field.TheVariants.{PageNumber}
use Rattle.doc_model.specs.Ranges.{IsPageAdjust}
use Rattle.load_model.specs.Styles.{Names}

-- the names that a text refers to are those of the document's styles and list styles
pub record AreNamesOf (doc : Document) (names : Names) : Type 0 where
  pub styles : names.styles ≡ map (λ style. record { family = style.family; name = style.name }) doc.styles
  pub lists : names.lists ≡ map (λ list. list.name) doc.lists

-- the pages that a page number field adds are in their range
abbrev pub IsAdjusted : Field → Type 0
IsAdjusted (PageNumber select adjust format) = IsPageAdjust adjust
IsAdjusted _ = Unit {0}
