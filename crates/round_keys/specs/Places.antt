-- Where a paragraph stands in a round.
use Rattle.std.specs.Prelude.{◌≡◌, ◌||◌}
use Rattle.doc_model.specs.declared.page.PageTable.{PageTable}
use Rattle.doc_model.specs.declared.document.Document.{Document}
use Rattle.format_model.specs.Keys.{Standing, is_hidden, front_citation, columns_without_page}
use Rattle.round_keys.specs.declared.keys.KeyPlace.{KeyPlace}

-- what a key reads of where a paragraph stands, under a page table
pub record StandsAt (doc : Document) (table : PageTable) (one : Standing) (place : KeyPlace) : Type 0 where
  pub hidden : (place.in_hidden_section || place.in_hidden_note) ≡ is_hidden one
  pub citation : place.citation.now ≡ front_citation doc table one
  pub columns : place.columns ≡ columns_without_page doc one
