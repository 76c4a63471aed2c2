-- Changes of rows, and the changes of paragraphs that they come from.
use Rattle.std.specs.Prelude.{◌≡◌, ℕ, if◌then◌else◌, List, map}
use Rattle.doc_model.specs.declared.paragraph.Par.{Par}
use Rattle.doc_model.specs.declared.paragraph.ParHead.{ParHead}
use Rattle.doc_model.specs.declared.paragraph.ParId.{ParId}
use Rattle.doc_model.specs.declared.paragraph.Item.{Item}
use Rattle.doc_model.specs.declared.paragraph.What.TheOpen.{What-F}
use Rattle.doc_model.specs.declared.paragraph.Mark.{Mark}
use Rattle.doc_model.specs.declared.paragraph.Mark.TheVariants.{Point, Start, End}
use Rattle.doc_model.specs.declared.edit.Pos.{Pos}
use Rattle.doc_model.specs.Reading.{notes_of}
use Rattle.edit_rules.specs.Texts.{with_item, is_same_place}
use Rattle.node_array.specs.declared.row.Row.{Row}
use Rattle.node_array.specs.declared.row.SectionHead.{SectionHead}
use Rattle.node_array.specs.declared.row.Row.TheVariants as row
use Rattle.node_array.specs.Places.{is_par}
use Rattle.paragraph_rows.specs.OwnRow.{own_row}

-- the row with a change made to its head, if it is that of a paragraph
abbrev pub in_head : (ParHead → ParHead) → Row → Row
in_head change (row.Start head) = row.Start head
in_head change row.End = row.End
in_head change (row.Par head items) = row.Par (change head) items
in_head change row.NoteText = row.NoteText

-- the row with a change made to its items, if it is that of a paragraph
abbrev pub in_items : (List Item → List Item) → Row → Row
in_items change (row.Start head) = row.Start head
in_items change row.End = row.End
in_items change (row.Par head items) = row.Par head (change items)
in_items change row.NoteText = row.NoteText

-- the row with a change made to it, if it is that of the paragraph with this number
abbrev pub at_par : ParId → (Row → Row) → Row → Row
at_par par change one = if is_par par one then change one else one

-- the rows with a mark at a place
abbrev pub rows_with_mark : Pos → Mark → List Row → List Row
rows_with_mark place mark rows = map (at_par place.par (in_items (with_item place.at (What-F.Mark mark)))) rows

-- the rows with the marks of a bookmark, the end put in first
abbrev pub rows_with_bookmark : List ℕ → Pos → Pos → List Row → List Row
rows_with_bookmark name from to rows =
    if is_same_place from to then rows_with_mark from (Point name) rows else rows_with_mark from (Start name) (rows_with_mark to (End name) rows)

-- a change of rows that makes of a paragraph's row that of the changed paragraph, which has the same notes, and that leaves
-- other rows as they are
pub record Follows (change : Par → Par) (later : Row → Row) : Type 0 where
  pub own : (par : Par) → own_row (change par) ≡ later (own_row par)
  pub notes : (par : Par) → notes_of (change par) ≡ notes_of par
  pub start : (head : SectionHead) → later (row.Start head) ≡ row.Start head
  pub end : later row.End ≡ row.End
  pub note_text : later row.NoteText ≡ row.NoteText
