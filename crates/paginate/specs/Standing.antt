-- Where the closed pages stand: what they leave to the next one, and how the next one is closed.
use Rattle.std.specs.Prelude.{◌≡◌, ℕ, ◌+◌, ◌≤◌, max, List, [], ◌∷◌, ◌++◌, map, drop, Option}
use Rattle.page_model.specs.declared.body.HeadText.{HeadText}
use Rattle.page_model.specs.declared.frame.Frames.{Frames}
use Rattle.page_model.specs.declared.row.Row.{Row}
use Rattle.page_model.specs.declared.row.NoteRow.{NoteRow}
use Rattle.page_model.specs.Frames.{frame_at}
use Rattle.page_model.specs.Bodies.{texts_of}
use Rattle.page_model.specs.Pages.{Broken, Left, count_for, left_by, page_of}
use Rattle.page_model.specs.Table.{first_rows}
use Rattle.paginate.specs.declared.breaker.Breaker.{Breaker}
use Rattle.paginate.specs.declared.breaker.Closed.{Closed}
use Rattle.paginate.specs.Heads.{heads_behind}

-- what pages leave, by its parts
abbrev pub left_from : Option ℕ → ℕ → List NoteRow → Left
left_from master number carried = record { master = master; number = number; carried = carried }

-- the note rows that are carried
abbrev pub carried_by : Breaker → List NoteRow
carried_by breaker = drop breaker.shown breaker.queue.items

-- what the closed pages leave
abbrev pub left_of : Breaker → Left
left_of breaker = left_from breaker.master breaker.number (carried_by breaker)

-- a page that is closed, with the last headings before it
abbrev pub closed_of : Frames → List (Option HeadText) → Broken → Closed
closed_of frames heads page = record {
  body = record {
    number = page.number;
    master = page.master;
    columns = (frame_at frames page.master).columns;
    body = texts_of page.rows;
    notes = map (λ row. row.text) page.notes;
    heads = heads_behind heads page.rows;
  };
  firsts = first_rows page;
}

-- a page is closed that begins with the first of some rows, and has so many of them
pub record Closes (frames : Frames) (rows : List Row) (old new : Breaker) (count : ℕ) : Type 0 where
  pub counted : count ≡ count_for frames (left_of old) rows
  pub left : left_of new ≡ left_by frames (left_of old) rows
  pub small : new.number ≤ max 65535 (old.number + 1)
  pub heads : new.heads ≡ heads_behind old.heads (page_of frames (left_of old) rows).rows
  pub pages : new.pages.items ≡ old.pages.items ++ closed_of frames old.heads (page_of frames (left_of old) rows) ∷ []

-- both stand the same
pub record StandsAs (old new : Breaker) : Type 0 where
  pub left : left_of new ≡ left_of old
  pub heads : new.heads ≡ old.heads
  pub pages : new.pages.items ≡ old.pages.items
