-- How far pages are closed: what stands for rows of which some are on closed pages.
use Rattle.std.specs.Prelude.{◌≡◌, ℕ, ◌+◌, ◌≤◌, List, [], ◌∷◌, ◌++◌, length, Option}
use Rattle.page_model.specs.declared.body.HeadText.{HeadText}
use Rattle.page_model.specs.declared.frame.Frames.{Frames}
use Rattle.page_model.specs.declared.row.Row.{Row}
use Rattle.page_model.specs.Breaking.{notes_of}
use Rattle.page_model.specs.Pages.{Broken, Left, at_most}
use Rattle.paginate.specs.declared.breaker.Breaker.{Breaker}
use Rattle.paginate.specs.declared.breaker.Closed.{Closed}
use Rattle.paginate.specs.Heads.{heads_behind}
use Rattle.paginate.specs.Standing.{left_of, closed_of}

-- how many rows and note rows are left for pages
abbrev pub size_of : Left → List Row → ℕ
size_of left rows = length left.carried + length (notes_of rows) + length rows

-- pages that are closed one after another, with the last headings before them
abbrev pub closed_behind : Frames → List (Option HeadText) → List Broken → List Closed
closed_behind frames heads [] = []
closed_behind frames heads (page ∷ pages) = closed_of frames heads page ∷ closed_behind frames (heads_behind heads page.rows) pages

-- the last headings behind pages
abbrev pub heads_after : List (Option HeadText) → List Broken → List (Option HeadText)
heads_after heads [] = heads
heads_after heads (page ∷ pages) = heads_after (heads_behind heads page.rows) pages

-- the closed pages are the first ones of some rows, whatever rows follow, and these rows are behind them. The numbers of pages are at most so many above the given one
pub record Reaches (frames : Frames) (most : ℕ) (left : Left) (heads : List (Option HeadText)) (rows : List Row) (breaker : Breaker) (rest : List Row) : Type 0 where
  pub pages : List Broken
  pub first : (n : ℕ) (more : List Row) → at_most (length pages + n) frames left (rows ++ more) ≡ pages ++ at_most n frames (left_of breaker) (rest ++ more)
  pub closed : breaker.pages.items ≡ closed_behind frames heads pages
  pub heads_now : breaker.heads ≡ heads_after heads pages
  pub counted : length pages + size_of (left_of breaker) rest ≤ size_of left rows
  pub numbered : breaker.number ≤ most + length pages

-- the same where no rows follow
pub record Finishes (frames : Frames) (most : ℕ) (left : Left) (heads : List (Option HeadText)) (rows : List Row) (breaker : Breaker) (rest : List Row) : Type 0 where
  pub pages : List Broken
  pub first : (n : ℕ) → at_most (length pages + n) frames left rows ≡ pages ++ at_most n frames (left_of breaker) rest
  pub closed : breaker.pages.items ≡ closed_behind frames heads pages
  pub heads_now : breaker.heads ≡ heads_after heads pages
  pub counted : length pages + size_of (left_of breaker) rest ≤ size_of left rows
  pub numbered : breaker.number ≤ most + length pages

-- the closed pages are all pages of rows
pub record IsDone (frames : Frames) (left : Left) (heads : List (Option HeadText)) (rows : List Row) (breaker : Breaker) : Type 0 where
  pub pages : List Broken
  pub all : (n : ℕ) → at_most (length pages + n) frames left rows ≡ pages
  pub closed : breaker.pages.items ≡ closed_behind frames heads pages
  pub counted : length pages ≤ size_of left rows + 1
