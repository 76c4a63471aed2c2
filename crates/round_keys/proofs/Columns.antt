-- The columns of a page, by the number of a paragraph.
use Rattle.std.proofs.Common.{◌≡◌, ℕ, ◌-◌, Option, Some, None, refl}
use Rattle.std.specs.Prelude.{◌==◌, find, slice_get}
use Rattle.std.specs.Option.{option_and_then, option_map}
use Rattle.doc_model.specs.declared.page.PageTable.{PageTable}
use Rattle.doc_model.specs.declared.page.ParPage.{ParPage}
use Rattle.doc_model.specs.declared.paragraph.Par.{Par}
use Rattle.doc_model.specs.Reading.{number_of}
use Rattle.format_model.specs.Keys.{columns_of_page}
use Rattle.page_lookup.specs.Numbers.{columns_of, entry_at}

abbrev page_index : Option ParPage → Option ℕ
page_index None = None
page_index (Some entry) = Some entry.page

by_entry : (table : PageTable) (found : Option ParPage) → option_map (λ entry. entry.columns) (option_and_then (entry_at table) (page_index found)) ≡ option_and_then (λ entry. option_map (λ page. page.columns) (slice_get table.pages (entry.page - 1))) found
by_entry table None = refl
by_entry table (Some entry) = refl

-- those that the key of a paragraph has
pub columns_are : (table : PageTable) (par : Par) → columns_of table (number_of par) ≡ columns_of_page table par
columns_are table par = by_entry table (find (λ entry. entry.par.0 == number_of par) table.pars)
