-- The key of each paragraph under a page table.
use Rattle.std.specs.Prelude.{ℕ, pos, ◌+◌, ◌-◌, ◌==◌, ◌||◌, not, Bool, true, false, if◌then◌else◌, List, [], ◌∷◌, ◌++◌, filter, filter_map, reverse, find, position, slice_get, Option, Some, None, option_map, unwrap_or}
use Rattle.std.specs.Option.{option_and_then, option_map_or}
use Rattle.std.specs.List.{flat_map}
use Rattle.doc_model.specs.declared.paragraph.Par.{Par, out-Par}
use Rattle.doc_model.specs.declared.paragraph.Note.{out-Note}
use Rattle.doc_model.specs.declared.field.NoteClass.{NoteClass}
use Rattle.doc_model.specs.declared.field.NoteClass.TheVariants.{Footnote, Endnote}
use Rattle.doc_model.specs.declared.page.PageTable.{PageTable}
use Rattle.doc_model.specs.declared.page.Label.{Label}
use Rattle.doc_model.specs.declared.style.Align.TheVariants.{Start}
use Rattle.doc_model.specs.declared.style.Family.TheVariants as family
use Rattle.doc_model.specs.declared.document.Document.{Document}
use Rattle.doc_model.specs.Reading.{paragraphs, number_of}
use Rattle.doc_model.specs.Parts.{items_of}
use Rattle.style_model.specs.Effective.{stated_master}
use Rattle.style_model.specs.Dims.{columns_of}
use Rattle.style_model.specs.Masters.{first_master, place_of_master}
use Rattle.field_model.specs.declared.gathered.Gathered.{Gathered}
use Rattle.field_model.specs.declared.gathered.Gathered.TheVariants as place
use Rattle.field_model.specs.declared.gathered.Shown.{Shown}
use Rattle.field_model.specs.Gathered.{GatheredPar, Event, events}
use Rattle.field_model.specs.Labels.{head_of, label_in}
use Rattle.field_model.specs.Shown.{shown}
use Rattle.line_model.specs.declared.key.Key.{Key}
use Rattle.key_parts.specs.Shows.{Piece, pieces, text_of, citations}
use Rattle.key_parts.specs.KeyFrom.{front_of, level_of}
use Rattle.key_parts.specs.Displays.{displays_of}
use Rattle.page_model.specs.Frames.{layout_named}
use Rattle.format_model.specs.Standing.{BodyPar, NoteAt, body_pars, notes_at, props_of}

-- a paragraph where it stands: in the body, or in a note of a paragraph of the body
pub data Standing : Type 0 where
  InBody : (par : BodyPar) → Standing
  -- the anchor, the note, whether it is the note's first paragraph, and the paragraph
  InNote : (anchor : BodyPar) (note : NoteAt) (is_first : Bool) (par : Par) → Standing

-- the paragraph
abbrev pub par_of : Standing → Par
par_of (InBody placed) = placed.par
par_of (InNote anchor note is_first par) = par

-- the paragraphs of a note, where those behind the first are marked so
abbrev pub in_note : BodyPar → NoteAt → Bool → List Par → List Standing
in_note anchor note is_first [] = []
in_note anchor note is_first (par ∷ pars) = InNote anchor note is_first par ∷ in_note anchor note false pars

-- the paragraphs of one note
abbrev pub standing_in_note : BodyPar → NoteAt → List Standing
standing_in_note anchor note = in_note anchor note true (out-Note note.note).pars

-- a paragraph of the body, and then those of its notes
abbrev pub standing_with_notes : Document → BodyPar → List Standing
standing_with_notes doc placed = InBody placed ∷ flat_map (standing_in_note placed) (notes_at doc placed.par)

-- all paragraphs in reading order
abbrev pub standing : Document → List Standing
standing doc = flat_map (standing_with_notes doc) (body_pars doc)

-- whether a paragraph is hidden: it, or its anchor, stands in a hidden section, or its note's item isn't shown
abbrev pub is_hidden : Standing → Bool
is_hidden (InBody placed) = placed.in_hidden_section
is_hidden (InNote anchor note is_first par) = anchor.in_hidden_section || not note.is_shown

-- where a paragraph is gathered
abbrev pub gathered_at : Standing → Gathered
gathered_at (InBody placed) = place.Body
gathered_at (InNote anchor note is_first par) = place.Note note.number

-- the paragraphs as they are gathered, with their labels, the first of which has this place in reading order; the last stands in front
abbrev pub gathered_from : Document → ℕ → List GatheredPar → List Standing → List GatheredPar
gathered_from doc at before [] = before
gathered_from doc at before (one ∷ more) =
    gathered_from doc (at + 1) (record { place = gathered_at one; head = head_of (par_of one); label = label_in doc at; items = items_of (par_of one) } ∷ before) more

-- all that is gathered of a document
abbrev pub gathered : Document → List Event
gathered doc = events (gathered_from doc 0 [] (standing doc))

-- what the fields and notes of a paragraph show under a page table
abbrev pub shown_under : Document → PageTable → Par → List Shown
shown_under doc table par = shown (gathered doc) table (number_of par) (items_of par)

-- the label of a paragraph
abbrev pub label_of : Document → Par → Label
label_of doc par = label_in doc (unwrap_or (position (λ other. number_of other == number_of par) (paragraphs doc)) 0)

-- the citation of a note, as its item shows it
abbrev pub citation_of : Document → PageTable → Par → NoteAt → List ℕ
citation_of doc table anchor note = option_map_or (λ entry. entry.text) (find (λ entry. entry.item == note.item) (shown_under doc table anchor)) []

-- the citation in front of a paragraph: of the first one of a note
abbrev pub front_citation : Document → PageTable → Standing → List ℕ
front_citation doc table (InBody placed) = []
front_citation doc table (InNote anchor note is_first par) = if is_first then citation_of doc table anchor.par note else []

-- whether two classes of notes are the same
abbrev pub is_same_class : NoteClass → NoteClass → Bool
is_same_class Footnote Footnote = true
is_same_class Endnote Endnote = true
is_same_class _ _ = false

-- whether a paragraph stands in a note of a class
abbrev pub is_in_note_of : NoteClass → Standing → Bool
is_in_note_of class (InBody placed) = false
is_in_note_of class (InNote anchor note is_first par) = is_same_class class (out-Note note.note).class

-- whether a paragraph stands in the body
abbrev pub is_in_body : Standing → Bool
is_in_body (InBody placed) = true
is_in_body (InNote anchor note is_first par) = false

-- the paragraphs whose lines are body rows, in their order: those of the body, and then those of endnotes
abbrev pub body_row_pars : Document → List Standing
body_row_pars doc = filter is_in_body (standing doc) ++ filter (is_in_note_of Endnote) (standing doc)

-- the place of the master that a paragraph states, where it is shown and states one that isn't the empty name
abbrev pub master_stated_by : Document → Standing → Option ℕ
master_stated_by doc one = if is_hidden one then None else of_name (unwrap_or (stated_master doc.styles family.Paragraph (out-Par (par_of one)).style) []) where
  of_name : List ℕ → Option ℕ
  of_name [] = None
  of_name (c ∷ cs) = place_of_master doc.masters (c ∷ cs)

-- the paragraph by whose body rows another is set: a footnote's by those of its anchor
abbrev pub row_par : Standing → Par
row_par (InBody placed) = placed.par
row_par (InNote anchor note is_first par) = if is_same_class (out-Note note.note).class Footnote then anchor.par else par

-- the paragraphs of body rows up to one, with it
abbrev pub up_to : Par → List Standing → List Standing
up_to par [] = []
up_to par (one ∷ more) = if number_of (par_of one) == number_of par then one ∷ [] else one ∷ up_to par more

-- the first one of a list
abbrev pub first_of : {X : Type 0} → List X → Option X
first_of [] = None
first_of (x ∷ xs) = Some x

-- the master that would be in force at a paragraph if only stated masters counted: the last one stated up to it, else that of a first page
abbrev pub stated_in_force : Document → Par → Option ℕ
stated_in_force doc par = of_last (first_of (reverse (filter_map (master_stated_by doc) (up_to par (body_row_pars doc))))) where
  of_last : Option ℕ → Option ℕ
  of_last None = first_master doc.masters
  of_last (Some at) = Some at

-- the columns of pages with the master at a place, or with none
abbrev pub columns_with : Document → Option ℕ → ℕ
columns_with doc master = columns_of (option_and_then (λ at. option_and_then (λ one. layout_named doc.layouts one.layout) (slice_get doc.masters at)) master)

-- the columns of a paragraph where no page is known
abbrev pub columns_without_page : Document → Standing → ℕ
columns_without_page doc one = columns_with doc (stated_in_force doc (row_par one))

-- the columns of the page of a paragraph, if it has one
abbrev pub columns_of_page : PageTable → Par → Option ℕ
columns_of_page table par = option_and_then (λ entry. option_map (λ page. page.columns) (slice_get table.pages (entry.page - 1))) (find (λ entry. entry.par.0 == number_of par) table.pars)

-- the columns of a paragraph under a page table: those of its page, or, without one, those of the master that would be in force
abbrev pub columns_under : Document → PageTable → Standing → ℕ
columns_under doc table one = unwrap_or (columns_of_page table (par_of one)) (columns_without_page doc one)

-- what the items of a paragraph show
abbrev pub pieces_under : Document → PageTable → Par → List Piece
pieces_under doc table par = pieces (displays_of doc.styles) (unwrap_or (props_of doc par).display true) (items_of par) (shown_under doc table par)

-- the key of a paragraph under a page table
abbrev pub key_under : Document → PageTable → Standing → Key
key_under doc table one = of_front (front_of (front_citation doc table one) (label_of doc (par_of one)).full) where
  of_front : List ℕ → Key
  of_front front = record {
    hidden = is_hidden one;
    text = front ++ text_of (pieces_under doc table (par_of one));
    notes = citations front (pieces_under doc table (par_of one));
    columns = columns_under doc table one;
    left = unwrap_or (props_of doc (par_of one)).margin_left (pos 0);
    right = unwrap_or (props_of doc (par_of one)).margin_right (pos 0);
    indent = unwrap_or (props_of doc (par_of one)).indent (pos 0);
    level = level_of (out-Par (par_of one)).list;
    align = unwrap_or (props_of doc (par_of one)).align Start;
    tabs = unwrap_or (props_of doc (par_of one)).tabs [];
  }
