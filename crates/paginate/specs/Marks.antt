-- The page table, by the pages that are closed.
use Rattle.std.specs.Prelude.{ℕ, Bool, ◌+◌, ◌==◌, List, [], ◌∷◌, ◌++◌, is_none, if◌then◌else◌, ◌&&◌, Option, Some, None}
use Rattle.std.specs.List.{list_any}
use Rattle.std.specs.Option.{option_map_or}
use Rattle.doc_model.specs.declared.page.PageEntry.{PageEntry}
use Rattle.doc_model.specs.declared.page.ParPage.{ParPage}
use Rattle.doc_model.specs.declared.paragraph.ParId.{ParId}
use Rattle.paginate.specs.declared.breaker.Closed.{Closed}

-- the number and the columns of a closed page
abbrev pub closed_entry : Closed → PageEntry
closed_entry page = record { number = page.body.number; columns = page.body.columns }

-- whether the first row of the paragraph at a place, in the order in which paragraphs are set, stands on a page with these
abbrev pub has_place : List ℕ → ℕ → Bool
has_place firsts place = list_any (λ first. first == place) firsts

-- the index of the page with it, where the first page has the given index
abbrev pub closed_with : ℕ → List Closed → ℕ → Option ℕ
closed_with index [] place = None
closed_with index (page ∷ pages) place = if has_place page.firsts place then Some index else closed_with (index + 1) pages place

-- the pages that were found of paragraphs of which the first has this place, with one more page, which has these first rows
abbrev pub marked : List ℕ → ℕ → ℕ → List (Option ℕ) → List (Option ℕ)
marked firsts page place [] = []
marked firsts page place (found ∷ more) = (if is_none found && has_place firsts place then Some page else found) ∷ marked firsts page (place + 1) more

-- and with several more, of which the first has this index
abbrev pub all_marked : List Closed → ℕ → List (Option ℕ) → List (Option ℕ)
all_marked [] page found = found
all_marked (closed ∷ pages) page found = all_marked pages (page + 1) (marked closed.firsts page 0 found)

-- the page that was found of each paragraph that has one
abbrev pub found_pars : List ParId → List (Option ℕ) → List ParPage
found_pars [] found = []
found_pars (par ∷ pars) [] = []
found_pars (par ∷ pars) (page ∷ found) = option_map_or (λ index. record { par = par; page = index } ∷ []) page [] ++ found_pars pars found

-- the page of each paragraph of which the first has this place, from closed pages
abbrev pub looked_up : List Closed → ℕ → List ParId → List ParPage
looked_up pages place [] = []
looked_up pages place (par ∷ pars) = option_map_or (λ index. record { par = par; page = index } ∷ []) (closed_with 1 pages place) [] ++ looked_up pages (place + 1) pars
