-- The rows of headers and footers. Their fields go by the pages that are printed themselves, not by an earlier page table.
use Rattle.std.specs.Prelude.{ℕ, ◌-◌, nat_le, ◌==◌, ◌||◌, if◌then◌else◌, List, [], ◌∷◌, map, take, chars, slice_get, Option, Some, None}
use Rattle.std.specs.List.{flat_map}
use Rattle.std.specs.Option.{option_and_then}
use Rattle.std.specs.Str.{encode_utf8_all}
use Rattle.doc_model.specs.declared.field.Field.{Field}
use Rattle.doc_model.specs.declared.field.Field.TheVariants as fields
use Rattle.doc_model.specs.declared.field.ChapterShow.{ChapterShow}
use Rattle.doc_model.specs.declared.field.ChapterShow.TheVariants as display
use Rattle.doc_model.specs.declared.page.PageTable.{PageTable}
use Rattle.doc_model.specs.declared.page.PageEntry.{PageEntry}
use Rattle.doc_model.specs.declared.page_layout.HeadPar.{HeadPar}
use Rattle.doc_model.specs.declared.paragraph.What.{What, out-What}
use Rattle.doc_model.specs.declared.paragraph.What.TheOpen.{What-F}
use Rattle.doc_model.specs.declared.paragraph.Item.{Item}
use Rattle.doc_model.specs.declared.paragraph.Note.{Note}
use Rattle.doc_model.specs.declared.paragraph.Par.{Par}
use Rattle.field_model.specs.Cut.{cut}
use Rattle.field_model.specs.Shown.{joined, page_number_text, page_count_text}
use Rattle.line_model.specs.declared.unit.TextUnit.{TextUnit}
use Rattle.line_model.specs.Units.{units_at}
use Rattle.line_model.specs.Lines.{end_of}
use Rattle.page_model.specs.declared.body.PageBody.{PageBody}
use Rattle.page_model.specs.declared.body.HeadText.{HeadText}

-- what a page table knows of pages; it has no paragraph
abbrev pub table_of : List PageBody → PageTable
table_of pages = record { pages = map entry_of pages; pars = [] } where
  entry_of : PageBody → PageEntry
  entry_of page = record { number = page.number; columns = page.columns }

-- the last heading of at most a level from 1 on that stands on a page or an earlier one
abbrev pub heading_of : PageBody → ℕ → Option HeadText
heading_of page level = option_and_then (λ head. head) (slice_get page.heads (level - 1))

-- what a chapter field shows of its heading, nothing without one
abbrev pub chapter_of : ChapterShow → Option HeadText → List ℕ
chapter_of shows None = []
chapter_of display.Name (Some head) = head.quote
chapter_of display.Number (Some head) = head.label.full
chapter_of display.PlainNumber (Some head) = head.label.plain
chapter_of display.NumberAndName (Some head) = joined head.label.full head.quote
chapter_of display.PlainNumberAndName (Some head) = joined head.label.plain head.quote

-- what a field of a header shows on the page of an index, from 1, cut behind its 512th character
abbrev pub header_field : List PageBody → ℕ → PageBody → Field → List ℕ
header_field pages index page (fields.PageNumber select adjust format) = cut (page_number_text (table_of pages) (Some index) select adjust format)
header_field pages index page (fields.PageCount format) = cut (page_count_text (table_of pages) (Some index) format)
header_field pages index page (fields.Chapter shows level) = cut (chapter_of shows (heading_of page level))
header_field pages index page _ = []

-- a tab or a break, also one of a label, is a space
abbrev pub spaced : ℕ → ℕ
spaced c = if c == 0x9 || c == 0xa then 0x20 else c

-- what a header holds at a place, as it is shown
abbrev pub header_what : List PageBody → ℕ → PageBody → What → List ℕ
header_what pages index page what = of_what (out-What what) where
  of_what : What-F What Item Note Par → List ℕ
  of_what (What-F.Char c) = c ∷ []
  of_what What-F.Tab = 0x20 ∷ []
  of_what What-F.Break = 0x20 ∷ []
  of_what (What-F.Field field) = map spaced (header_field pages index page field)
  of_what _ = []

-- the text of a header paragraph
abbrev pub header_text : List PageBody → ℕ → PageBody → HeadPar → List ℕ
header_text pages index page par = flat_map (header_what pages index page) par.items

-- the longest beginning of units whose columns fit
abbrev pub fitting : ℕ → List TextUnit → List TextUnit
fitting columns [] = []
fitting columns (unit ∷ units) = if nat_le unit.columns columns then unit ∷ fitting (columns - unit.columns) units else []

-- the bytes of a text that fit so many columns, in whole units
abbrev pub fitting_bytes : ℕ → List ℕ → List ℕ
fitting_bytes columns bytes = take (end_of 0 (fitting columns (units_at 0 bytes))) bytes

-- the row of a header paragraph: its text cut at the columns of the page
abbrev pub header_row : List PageBody → ℕ → PageBody → HeadPar → List ℕ
header_row pages index page par = chars (fitting_bytes page.columns (encode_utf8_all (header_text pages index page par)))
