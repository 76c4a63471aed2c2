-- The protection of several paragraphs.
use Rattle.std.specs.Prelude.{ℕ, List, map, filter, Option}
use Rattle.doc_model.specs.declared.document.Document.{Document}
use Rattle.doc_model.specs.declared.edit.EditOp.{EditOp}
use Rattle.doc_model.specs.declared.edit.EditOp.TheVariants.{RemoveBookmark, UnwrapSection}
use Rattle.doc_model.specs.declared.refusal.Refusal.{Refusal}
use Rattle.doc_model.specs.Reading.{number_of}
use Rattle.edit_rules.specs.Places.{Placed, is_one_of, placed_paragraphs}
use Rattle.edit_rules.specs.Refusals.{first_refusal_of, protected_by}

-- the refusal by the innermost protected section round the first of some placed paragraphs that has one of these numbers and such a section
abbrev pub protected_among : List ℕ → List Placed → Option Refusal
protected_among numbers placed = first_refusal_of (map (λ one. protected_by one.around) (filter (λ one. is_one_of numbers (number_of one.par)) placed))

-- the refusal by the paragraphs of a document that have these numbers
abbrev pub protected_of : Document → List ℕ → Option Refusal
protected_of doc numbers = protected_among numbers (placed_paragraphs doc)

-- an edit guards the paragraphs that it names
abbrev pub GuardsNamed : EditOp → Type 0
GuardsNamed (RemoveBookmark name) = ⊥
GuardsNamed (UnwrapSection name) = ⊥
GuardsNamed _ = Unit {0}
