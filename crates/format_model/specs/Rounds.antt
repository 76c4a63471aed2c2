-- The rounds of a document: in each, all paragraphs are set under the page table that the round before left, and their lines make pages. The last round leaves its table as it is, or is the ninth.
use Rattle.std.specs.Prelude.{ℕ, ◌+◌, ◌==◌, nat_le, nat_lt, ◌&&◌, Bool, true, false, List, [], ◌∷◌, ◌++◌, map, filter, find, position, slice_get, chars, zero, suc, Option}
use Rattle.std.specs.Option.{option_and_then, option_map_or}
use Rattle.std.specs.List.{flat_map}
use Rattle.doc_model.specs.declared.paragraph.Par.{Par, out-Par}
use Rattle.doc_model.specs.declared.paragraph.Note.{out-Note}
use Rattle.doc_model.specs.declared.field.NoteClass.TheVariants.{Footnote}
use Rattle.doc_model.specs.declared.page.PageTable.{PageTable}
use Rattle.doc_model.specs.declared.page.PageEntry.{PageEntry}
use Rattle.doc_model.specs.declared.page.ParPage.{ParPage}
use Rattle.doc_model.specs.declared.style.Family.TheVariants as family
use Rattle.doc_model.specs.declared.document.Document.{Document}
use Rattle.doc_model.specs.Reading.{number_of}
use Rattle.style_model.specs.Effective.{stated_master}
use Rattle.field_model.specs.Shown.{quote_of}
use Rattle.line_model.specs.declared.key.Key.{Key}
use Rattle.line_model.specs.declared.key.Line.{Line}
use Rattle.line_model.specs.Lines.{lines_of}
use Rattle.line_model.specs.Rows.{printed_row}
use Rattle.page_model.specs.declared.placed.ParRows.{ParRows}
use Rattle.page_model.specs.declared.placed.NoteRows.{NoteRows}
use Rattle.page_model.specs.declared.body.PageBody.{PageBody}
use Rattle.page_model.specs.Bodies.{bodies_of}
use Rattle.page_model.specs.Table.{table_of}
use Rattle.format_model.specs.Standing.{BodyPar, NoteAt, notes_at, props_of}
use Rattle.format_model.specs.Keys.{Standing, InBody, InNote, standing_in_note, par_of, is_same_class, body_row_pars, gathered, label_of, key_under}

-- the printed rows of a paragraph under a page table; a hidden one has none
abbrev pub rows_under : Document → PageTable → Standing → List (List ℕ)
rows_under doc table one = map (λ line. chars (printed_row (key_under doc table one) line)) (lines_of (key_under doc table one))

-- whether a line has the byte at a place
abbrev pub has_byte : ℕ → Line → Bool
has_byte place line = nat_le line.from place && nat_lt place line.to

-- the notes of a paragraph that are shown
abbrev pub shown_notes : Document → Par → List NoteAt
shown_notes doc par = filter (λ note. note.is_shown) (notes_at doc par)

-- the line with the first character of a note's citation, from 0, where that is shown
abbrev pub cited_line : Document → PageTable → BodyPar → NoteAt → Option ℕ
cited_line doc table placed note = option_and_then line_of (position (λ other. other.item == note.item) (shown_notes doc placed.par)) where
  key : Key
  key = key_under doc table (InBody placed)

  line_of : ℕ → Option ℕ
  line_of at = option_and_then (λ place. position (has_byte place) (lines_of key)) (slice_get key.notes at)

-- the rows of a footnote
abbrev pub note_rows : Document → PageTable → BodyPar → NoteAt → NoteRows
note_rows doc table placed note = record {
  line = cited_line doc table placed note;
  pars = map (λ one. record { par = (out-Par (par_of one)).id; lines = rows_under doc table one }) (standing_in_note placed note);
}

-- the footnotes of a paragraph
abbrev pub footnotes_of : Document → PageTable → Standing → List NoteRows
footnotes_of doc table (InBody placed) = map (note_rows doc table placed) (filter (λ note. is_same_class (out-Note note.note).class Footnote) (notes_at doc placed.par))
footnotes_of doc table (InNote anchor note is_first par) = []

-- the level of a heading of the body, else 0
abbrev pub heading_level : Standing → ℕ
heading_level (InBody placed) = (out-Par placed.par).level
heading_level (InNote anchor note is_first par) = 0

-- a paragraph of body rows with its rows, as it is placed on pages
abbrev pub placed_under : Document → PageTable → Standing → ParRows
placed_under doc table one = record {
  par = (out-Par (par_of one)).id;
  master = stated_master doc.styles family.Paragraph (out-Par (par_of one)).style;
  level = heading_level one;
  label = label_of doc (par_of one);
  quote = quote_of (gathered doc) (number_of (par_of one));
  lines = rows_under doc table one;
  notes = footnotes_of doc table one;
  props = props_of doc (par_of one);
}

-- all paragraphs of body rows, as they are placed
abbrev pub all_placed : Document → PageTable → List ParRows
all_placed doc table = map (placed_under doc table) (body_row_pars doc)

-- the page table of a round: the first one is empty, and each further one is read off the pages of the round before
unfoldable pub table_before : Document → ℕ → PageTable
table_before doc zero = record { pages = []; pars = [] }
table_before doc (suc round) = table_of doc.masters doc.layouts (all_placed doc (table_before doc round))

-- a paragraph in the order in which paragraphs are set: those of its footnotes before it
abbrev pub set_with_footnotes : Document → Standing → List Standing
set_with_footnotes doc (InBody placed) = flat_map (standing_in_note placed) (filter (λ note. is_same_class (out-Note note.note).class Footnote) (notes_at doc placed.par)) ++ InBody placed ∷ []
set_with_footnotes doc (InNote anchor note is_first par) = InNote anchor note is_first par ∷ []

-- all paragraphs in the order in which they are set: the endnotes' come last
abbrev pub set_order : Document → List Standing
set_order doc = flat_map (set_with_footnotes doc) (body_row_pars doc)

-- a paragraph, by its number, with its key of a round
pub record SetPar : Type 0 where
  pub par : ℕ
  pub key : Key

-- the paragraphs in the order in which they are set, with their keys of a round
abbrev pub set_in : Document → ℕ → List SetPar
set_in doc round = map (λ one. record { par = number_of (par_of one); key = key_under doc (table_before doc round) one }) (set_order doc)

-- whether two entries of page tables are the same
abbrev pub is_same_entry : PageEntry → PageEntry → Bool
is_same_entry one other = one.number == other.number && one.columns == other.columns

abbrev pub is_same_place : ParPage → ParPage → Bool
is_same_place one other = one.par.0 == other.par.0 && one.page == other.page

-- whether two lists are the same by a test of two
abbrev pub are_same : {X : Type 0} → (X → X → Bool) → List X → List X → Bool
are_same same [] [] = true
are_same same (x ∷ xs) (y ∷ ys) = same x y && are_same same xs ys
are_same same _ _ = false

-- whether two page tables are the same
abbrev pub is_same_table : PageTable → PageTable → Bool
is_same_table one other = are_same is_same_entry one.pages other.pages && are_same is_same_place one.pars other.pars

-- whether the pages of a round leave its table as it is
abbrev pub is_settled : Document → ℕ → Bool
is_settled doc round = is_same_table (table_before doc (round + 1)) (table_before doc round)

-- the last round: the first that is settled, of the nine from 0 to 8, else the last of these
abbrev pub last_round : Document → ℕ
last_round doc = option_map_or (λ round. round) (find (is_settled doc) (0 ∷ 1 ∷ 2 ∷ 3 ∷ 4 ∷ 5 ∷ 6 ∷ 7 ∷ 8 ∷ [])) 8

-- the bodies of the pages of a round
abbrev pub bodies_in : Document → ℕ → List PageBody
bodies_in doc round = bodies_of doc.masters doc.layouts (all_placed doc (table_before doc round))
