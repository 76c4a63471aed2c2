-- The bodies of pages, as they are printed between header and footer.
use Rattle.std.specs.Prelude.{ℕ, nat_le, List, [], ◌∷◌, ◌++◌, map, reverse, replicate, find, Option}
use Rattle.std.specs.List.{filter_map}
use Rattle.std.specs.Option.{option_and_then, option_map}
use Rattle.doc_model.specs.declared.page_layout.Master.{Master}
use Rattle.doc_model.specs.declared.page_layout.PageLayout.{PageLayout}
use Rattle.page_model.specs.declared.body.PageBody.{PageBody}
use Rattle.page_model.specs.declared.body.HeadText.{HeadText}
use Rattle.page_model.specs.declared.row.Row.{Row}
use Rattle.page_model.specs.declared.row.Heading.{Heading}
use Rattle.page_model.specs.declared.frame.Frames.{Frames}
use Rattle.page_model.specs.declared.placed.ParRows.{ParRows}
use Rattle.page_model.specs.Frames.{frame_at, frames_of}
use Rattle.page_model.specs.BodyRows.{body_rows}
use Rattle.page_model.specs.Breaking.{blanks_between}
use Rattle.page_model.specs.Pages.{Broken, pages_of}

-- the texts of body rows that stand on a page, with empty texts as blank rows
abbrev pub texts_of : List Row → List (List ℕ)
texts_of [] = []
texts_of (row ∷ []) = row.text ∷ []
texts_of (row ∷ next ∷ more) = row.text ∷ (replicate (blanks_between row next) [] ++ texts_of (next ∷ more))

-- the heading that the paragraph of a row is, where it is the first row of it
abbrev pub heading_at : Row → Option Heading
heading_at row = option_and_then (λ first. first.heading) row.first

-- the last heading of at most a level whose first row is among some rows
abbrev pub last_heading : List Row → ℕ → Option HeadText
last_heading rows level = option_map (λ heading. heading.text) (find (λ heading. nat_le heading.level level) (reverse (filter_map heading_at rows)))

-- the levels of headings
abbrev pub levels : List ℕ
levels = 1 ∷ 2 ∷ 3 ∷ 4 ∷ 5 ∷ 6 ∷ 7 ∷ 8 ∷ 9 ∷ 10 ∷ []

-- for each level the last heading of at most that level whose first row is among some rows
abbrev pub heads_of : List Row → List (Option HeadText)
heads_of rows = map (last_heading rows) levels

-- the body of a page, before which these rows stand on earlier pages
abbrev pub body_of : Frames → List Row → Broken → PageBody
body_of frames before page = record {
  number = page.number;
  master = page.master;
  columns = (frame_at frames page.master).columns;
  body = texts_of page.rows;
  notes = map (λ row. row.text) page.notes;
  heads = heads_of (before ++ page.rows);
}

-- the bodies of pages, before which these rows stand on earlier pages
abbrev pub bodies_behind : Frames → List Row → List Broken → List PageBody
bodies_behind frames before [] = []
bodies_behind frames before (page ∷ pages) = body_of frames before page ∷ bodies_behind frames (before ++ page.rows) pages

-- the pages of paragraphs that are placed
abbrev pub pages_of_pars : List Master → List PageLayout → List ParRows → List Broken
pages_of_pars masters layouts pars = pages_of (frames_of masters layouts) (body_rows masters pars)

-- the bodies of their pages
abbrev pub bodies_of : List Master → List PageLayout → List ParRows → List PageBody
bodies_of masters layouts pars = bodies_behind (frames_of masters layouts) [] (pages_of_pars masters layouts pars)
