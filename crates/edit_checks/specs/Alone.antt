-- Edits that guard one paragraph.
use Rattle.std.specs.Prelude.{◌≡◌, ◌⊎◌, [], ◌∷◌}
use Rattle.doc_model.specs.declared.document.Document.{Document}
use Rattle.doc_model.specs.declared.edit.EditOp.{EditOp}
use Rattle.doc_model.specs.declared.paragraph.ParId.{ParId}
use Rattle.edit_rules.specs.Refusals.{guarded_paragraphs}

-- an edit guards this paragraph and no other. One of a range names it twice
abbrev pub GuardsAlone : Document → EditOp → ParId → Type 0
GuardsAlone doc op par = (guarded_paragraphs doc op ≡ par.0 ∷ []) ⊎ (guarded_paragraphs doc op ≡ par.0 ∷ par.0 ∷ [])
