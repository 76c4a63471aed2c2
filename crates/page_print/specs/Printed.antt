-- The rows of a page as they are printed, and the printed page.
use Rattle.std.specs.Prelude.{ℕ, ◌-◌, List, [], ◌∷◌, ◌++◌, map, codes, decimal, slice_get, Option, Some, None}
use Rattle.std.specs.List.{flat_map}
use Rattle.std.specs.Option.{option_and_then, option_map}
use Rattle.std.specs.Str.{encode_utf8_all}
use Rattle.doc_model.specs.declared.page.Page.{Page}
use Rattle.doc_model.specs.declared.page_layout.Master.{Master}
use Rattle.doc_model.specs.declared.page_layout.HeadPar.{HeadPar}
use Rattle.page_model.specs.declared.body.PageBody.{PageBody}
use Rattle.page_print.specs.Headers.{header_row}

-- the master of a page, if it has one
abbrev pub master_of : List Master → PageBody → Option Master
master_of masters page = option_and_then (slice_get masters) page.master

-- the paragraphs of the header and of the footer of a page
abbrev pub header_of : Option Master → List HeadPar
header_of None = []
header_of (Some master) = master.header

abbrev pub footer_of : Option Master → List HeadPar
footer_of None = []
footer_of (Some master) = master.footer

-- the note rows of a page behind their separator, where it has some
abbrev pub note_part : List (List ℕ) → List (List ℕ)
note_part [] = []
note_part (row ∷ rows) = codes "--------" ∷ row ∷ rows

-- the rows of the page of an index, from 1: header, body, notes and footer
abbrev pub printed_rows : List Master → List PageBody → ℕ → PageBody → List (List ℕ)
printed_rows masters pages index page = map (header_row pages index page) (header_of (master_of masters page))
    ++ (page.body ++ (note_part page.notes
    ++ map (header_row pages index page) (footer_of (master_of masters page))))

-- the page of an index, ready to be printed
abbrev pub page_of : List Master → List PageBody → ℕ → PageBody → Page
page_of masters pages index page = record { index = index; number = page.number; rows = printed_rows masters pages index page }

-- the page of an index, from 1, ready to be printed, if there is one
abbrev pub page_at : List Master → List PageBody → ℕ → Option Page
page_at masters pages n = option_map (page_of masters pages n) (slice_get pages (n - 1))

-- a page of so many, as it is printed
abbrev pub page_bytes : Page → ℕ → List ℕ
page_bytes page count =
    codes "page " ++ (decimal page.index ++ (codes " of " ++ (decimal count ++ (codes " number " ++ (decimal page.number ++ (codes "\n"
    ++ flat_map (λ row. encode_utf8_all row ++ codes "\n") page.rows))))))
