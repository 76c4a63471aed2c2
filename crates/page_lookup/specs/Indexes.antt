-- What an index of a page table holds.
use Rattle.std.specs.Prelude.{◌≡◌, ℕ, nat_eq}
use Rattle.indexmap.specs.IndexMap.{get}
use Rattle.doc_model.specs.declared.page.PageTable.{PageTable}
use Rattle.field_model.specs.Shown.{page_of}
use Rattle.page_lookup.specs.declared.index.PageIndex.{PageIndex}

-- the index finds the pages that are found in the table
pub record Indexes (table : PageTable) (index : PageIndex) : Type 0 where
  pub pages : (id : ℕ) → get nat_eq index.pages id ≡ page_of table id
