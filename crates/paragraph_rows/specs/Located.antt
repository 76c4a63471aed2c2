-- The paragraph whose row stands at a place, and what a change of it comes to.
use Rattle.std.specs.Prelude.{◌≡◌, false, List, ◌++◌}
use Rattle.std.specs.List.{list_any}
use Rattle.doc_model.specs.declared.document.Document.{Document}
use Rattle.doc_model.specs.declared.paragraph.Par.{Par}
use Rattle.doc_model.specs.declared.paragraph.ParId.{ParId}
use Rattle.edit_rules.specs.Texts.{with_paragraph}
use Rattle.node_array.specs.declared.row.Row.{Row}
use Rattle.node_array.specs.Places.{is_par}
use Rattle.node_array.specs.Rows.{par_rows, rows_of}
use Rattle.paragraph_rows.specs.OwnRow.{own_row, rows_of_notes}

-- a paragraph has this row, the rows of its notes stand behind it, and where it is changed its new rows stand in their place,
-- unless the change brings a paragraph of this number into a note
pub record Located (par : ParId) (doc : Document) (before : List Row) (one : Row) (behind : List Row) : Type 0 where
  pub old : Par
  pub after : List Row
  pub own : own_row old ≡ one
  pub notes : behind ≡ rows_of_notes old ++ after
  pub changed : (change : Par → Par) → list_any (is_par par) (rows_of_notes (change old)) ≡ false
      → rows_of (with_paragraph par.0 change doc).body ≡ before ++ (par_rows (change old) ++ after)
