-- What a page table knows of the page of a paragraph.
use Rattle.std.specs.Prelude.{ℕ, ◌-◌, ◌==◌, List, find, slice_get, Option}
use Rattle.std.specs.Option.{option_and_then, option_map}
use Rattle.doc_model.specs.declared.page.PageTable.{PageTable}
use Rattle.doc_model.specs.declared.page.PageEntry.{PageEntry}
use Rattle.doc_model.specs.declared.page.ParPage.{ParPage}
use Rattle.field_model.specs.Shown.{page_of}

-- the page of the paragraph of a number, by some entries
abbrev pub page_in : List ParPage → ℕ → Option ℕ
page_in pars id = option_map (λ entry. entry.page) (find (λ entry. entry.par.0 == id) pars)

-- the page of an index, from 1
abbrev pub entry_at : PageTable → ℕ → Option PageEntry
entry_at table page = slice_get table.pages (page - 1)

-- the page of the paragraph of a number, if it has one
abbrev pub entry_of : PageTable → ℕ → Option PageEntry
entry_of table id = option_and_then (entry_at table) (page_of table id)

-- its number
abbrev pub number_of : PageTable → ℕ → Option ℕ
number_of table id = option_map (λ entry. entry.number) (entry_of table id)

-- its columns
abbrev pub columns_of : PageTable → ℕ → Option ℕ
columns_of table id = option_map (λ entry. entry.columns) (entry_of table id)
