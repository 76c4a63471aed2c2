-- Pasts of plain documents.
use Rattle.std.specs.List.{AllByRecursion as Each}
use Rattle.edit_model.specs.Past.{Past}
use Rattle.doc_model.specs.Plain.{IsPlain}

-- every document that a past holds is plain
pub record IsPlainPast (past : Past) : Type 0 where
  pub present : IsPlain past.present
  pub earlier : Each (λ entry. IsPlain entry.document) past.earlier
  pub undone : Each (λ entry. IsPlain entry.document) past.undone
