-- What the fields and the citations of a paragraph show, by all that was gathered and a page table.
use Rattle.std.specs.Prelude.{ℕ, ◌+◌, ◌-◌, ◌==◌, nat_le, Bool, true, false, if◌then◌else◌, List, [], ◌∷◌, ◌++◌, filter, find, drop, length, take, slice_get, slice_index_or, count_by, codes, Option, Some, None, ℤ, pos, negsuc, ◌+ℤ◌}
use Rattle.std.specs.List.{flat_map}
use Rattle.doc_model.specs.declared.field.Field.{Field}
use Rattle.doc_model.specs.declared.field.Field.TheVariants as fields
use Rattle.doc_model.specs.declared.field.ChapterShow.{ChapterShow}
use Rattle.doc_model.specs.declared.field.ChapterShow.TheVariants as display
use Rattle.doc_model.specs.declared.field.Select.{Select}
use Rattle.doc_model.specs.declared.field.Select.TheVariants.{Previous, Current, Next}
use Rattle.doc_model.specs.declared.field.RefForm.{RefForm}
use Rattle.doc_model.specs.declared.field.RefForm.TheVariants as form
use Rattle.doc_model.specs.declared.field.SeqForm.{SeqForm}
use Rattle.doc_model.specs.declared.field.SeqForm.TheVariants as seq
use Rattle.doc_model.specs.declared.field.Format.{Format}
use Rattle.doc_model.specs.declared.field.Format.TheVariants.{Digits, LowerRoman}
use Rattle.doc_model.specs.declared.field.NoteClass.{NoteClass}
use Rattle.doc_model.specs.declared.field.NoteClass.TheVariants.{Footnote, Endnote}
use Rattle.doc_model.specs.declared.page.PageTable.{PageTable}
use Rattle.doc_model.specs.declared.page.PageEntry.{PageEntry}
use Rattle.doc_model.specs.declared.page.ParPage.{ParPage}
use Rattle.doc_model.specs.declared.paragraph.Item.{Item}
use Rattle.doc_model.specs.declared.paragraph.What.{What}
use Rattle.doc_model.specs.declared.paragraph.What.TheOpen.{What-F}
use Rattle.doc_model.specs.declared.paragraph.Note.{Note, out-Note}
use Rattle.doc_model.specs.declared.paragraph.Par.{Par}
use Rattle.doc_model.specs.Parts.{what_of}
use Rattle.field_model.specs.declared.gathered.Spot.{Spot}
use Rattle.field_model.specs.declared.gathered.Piece.{Piece}
use Rattle.field_model.specs.declared.gathered.Piece.TheVariants.{Gap, Char, Number, Variable}
use Rattle.field_model.specs.declared.gathered.VariableSet.{VariableSet}
use Rattle.field_model.specs.declared.gathered.Target.{Target}
use Rattle.field_model.specs.declared.gathered.SequenceTarget.{SequenceTarget}
use Rattle.field_model.specs.declared.gathered.NoteTarget.{NoteTarget}
use Rattle.field_model.specs.declared.gathered.ParPlace.{ParPlace}
use Rattle.field_model.specs.declared.gathered.Shown.{Shown}
use Rattle.field_model.specs.Gathered.{Event, is_before, is_up_to, same_text, spot_of}
use Rattle.field_model.specs.Fields.{counted, assigned, marks, sequence_targets, note_targets, paragraphs, same_class, place_of}
use Rattle.field_model.specs.Quotes.{pieces}
use Rattle.field_model.specs.Numbers.{shown_number}
use Rattle.field_model.specs.Cut.{cut}

-- the number of a sequence field: how many of the name are read up to it
abbrev pub sequence_number : List Event → List ℕ → Spot → ℕ
sequence_number all name here = count_by (λ spot. is_up_to spot here) (counted false name all) + count_by (λ spot. is_up_to spot here) (counted true name all)

-- the last one of a list
abbrev pub last_of : {X : Type 0} → List X → Option X
last_of [] = None
last_of (x ∷ []) = Some x
last_of (x ∷ y ∷ xs) = last_of (y ∷ xs)

-- of two fields that set a variable the one that is read later
abbrev pub later : Option VariableSet → Option VariableSet → Option VariableSet
later None other = other
later (Some one) None = Some one
later (Some one) (Some other) = if is_before one.spot other.spot then Some other else Some one

-- the field that set a variable last before something: the last one in the body or the last one in notes
abbrev pub set_last : List Event → List ℕ → Spot → Option VariableSet
set_last all name here = later (last_of (filter (λ set. is_before set.spot here) (assigned false name all))) (last_of (filter (λ set. is_before set.spot here) (assigned true name all)))

-- the value of a variable where something stands: nothing where it isn't set yet
abbrev pub value_at : List Event → List ℕ → Spot → List ℕ
value_at all name here = value_of (set_last all name here) where
  value_of : Option VariableSet → List ℕ
  value_of None = []
  value_of (Some set) = set.value

-- what a piece of a quote shows
abbrev pub piece_text : List Event → Piece → List ℕ
piece_text all Gap = 32 ∷ []
piece_text all (Char char) = char ∷ []
piece_text all (Number name format here) = cut (shown_number format (sequence_number all name here))
piece_text all (Variable name here) = cut (value_at all name here)

-- what pieces show, one after another
abbrev pub quote : List Event → List Piece → List ℕ
quote all quoted = flat_map (piece_text all) quoted

-- the pieces up to where the next paragraph begins
abbrev pub up_to_gap : List Piece → List Piece
up_to_gap [] = []
up_to_gap (Gap ∷ more) = []
up_to_gap (Char char ∷ more) = Char char ∷ up_to_gap more
up_to_gap (Number name format here ∷ more) = Number name format here ∷ up_to_gap more
up_to_gap (Variable name here ∷ more) = Variable name here ∷ up_to_gap more

-- the quote from a place on to the end of its paragraph
abbrev pub quote_from : List Event → Bool → ℕ → List ℕ
quote_from all noted from = quote all (up_to_gap (drop from (pieces noted all)))

-- the quote between two places of a text
abbrev pub quote_between : List Event → Bool → ℕ → ℕ → List ℕ
quote_between all noted from to = quote all (drop from (take to (pieces noted all)))

-- the quote of a whole paragraph
abbrev pub par_quote : List Event → ParPlace → List ℕ
par_quote all par = quote_from all par.in_note par.from

-- the last heading of at most a level from 1 to 10, of those of these levels
abbrev pub nearest : List (Option ℕ) → ℕ → Option ℕ
nearest chapters level = if nat_le level 10 then slice_index_or chapters (level - 1) None else None

-- the last heading of at most a level at or before a paragraph
abbrev pub heading : List Event → ParPlace → ℕ → Option ParPlace
heading all par level = at_place (nearest par.chapters level) where
  at_place : Option ℕ → Option ParPlace
  at_place None = None
  at_place (Some place) = slice_get (paragraphs all) place

-- a number and a name joined by a space, or the name alone where the number is empty
abbrev pub joined : List ℕ → List ℕ → List ℕ
joined [] name = name
joined (first ∷ number) name = first ∷ number ++ 32 ∷ name

-- what a chapter field shows of its heading
abbrev pub chapter_text : List Event → ChapterShow → Option ParPlace → List ℕ
chapter_text all shows None = []
chapter_text all display.Name (Some par) = par_quote all par
chapter_text all display.Number (Some par) = par.label.full
chapter_text all display.PlainNumber (Some par) = par.label.plain
chapter_text all display.NumberAndName (Some par) = joined par.label.full (par_quote all par)
chapter_text all display.PlainNumberAndName (Some par) = joined par.label.plain (par_quote all par)

-- the index of the page of the paragraph of a number, from 1, if it has a page
abbrev pub page_of : PageTable → ℕ → Option ℕ
page_of table id = index (find (λ entry. entry.par.0 == id) table.pars) where
  index : Option ParPage → Option ℕ
  index None = None
  index (Some entry) = Some entry.page

-- the number of the page of an index, from 1, in a format; nothing where there is no such page
abbrev pub page_at : PageTable → Format → ℕ → List ℕ
page_at table format index = if index == 0 then [] else text (slice_get table.pages (index - 1)) where
  text : Option PageEntry → List ℕ
  text None = []
  text (Some entry) = shown_number format entry.number

-- the same, where the index may be below 0
abbrev pub page_text : PageTable → Format → ℤ → List ℕ
page_text table format (pos index) = page_at table format index
page_text table format (negsuc index) = []

-- how far the page is from the field's own one
abbrev pub select_pages : Select → ℤ
select_pages Previous = negsuc 0
select_pages Current = pos 0
select_pages Next = pos 1

-- what a page number field shows in a paragraph; nothing where that has no page
abbrev pub page_number_text : PageTable → Option ℕ → Select → ℤ → Format → List ℕ
page_number_text table None select adjust format = []
page_number_text table (Some index) select adjust format = page_text table format ((pos index +ℤ select_pages select) +ℤ adjust)

-- what a page count field shows in a paragraph; nothing where that has no page
abbrev pub page_count_text : PageTable → Option ℕ → Format → List ℕ
page_count_text table None format = []
page_count_text table (Some index) format = shown_number format (length table.pages)

-- the number of a paragraph's page, where it has one
abbrev pub own_page : PageTable → ParPlace → List ℕ
own_page table par = of_page (page_of table par.id.0) where
  of_page : Option ℕ → List ℕ
  of_page None = []
  of_page (Some index) = page_at table Digits index

-- what a reference in the form page shows
abbrev pub page_form : List Event → PageTable → Target → List ℕ
page_form all table target = of_par (slice_get (paragraphs all) target.par) where
  of_par : Option ParPlace → List ℕ
  of_par None = []
  of_par (Some par) = own_page table par

-- what a reference in the form chapter shows: the label of the last heading at or before the target's paragraph
abbrev pub chapter_form : List Event → Target → List ℕ
chapter_form all target = of_par (slice_get (paragraphs all) target.par) where
  of_par : Option ParPlace → List ℕ
  of_par None = []
  of_par (Some par) = chapter_text all display.Number (heading all par 10)

-- what a reference in the form direction shows
abbrev pub direction_form : Target → Spot → List ℕ
direction_form target here = if is_before target.spot here then codes "above" else codes "below"

-- what a reference shows whose target is missing
abbrev pub missing : List ℕ
missing = codes "?"

-- the quote between a mark and the last one, which stands in the same text
abbrev pub marked_text : List Event → Target → Option Target → List ℕ
marked_text all first None = []
marked_text all first (Some last) = if same_text first.in_note last.in_note then quote_between all first.in_note first.from last.from else []

-- what a reference to a bookmark shows, by its first and its last mark
abbrev pub bookmark_text : List Event → PageTable → Spot → RefForm → Option Target → Option Target → List ℕ
bookmark_text all table here shows None last = missing
bookmark_text all table here form.Text (Some first) last = marked_text all first last
bookmark_text all table here form.Page (Some first) last = page_form all table first
bookmark_text all table here form.Chapter (Some first) last = chapter_form all first
bookmark_text all table here form.Direction (Some first) last = direction_form first here

-- the start of a target's paragraph
abbrev pub par_start : List Event → Target → ℕ
par_start all target = of_par (slice_get (paragraphs all) target.par) where
  of_par : Option ParPlace → ℕ
  of_par None = 0
  of_par (Some par) = par.from

-- what a reference to a sequence field shows
abbrev pub sequence_text : List Event → PageTable → Spot → SeqForm → Option SequenceTarget → List ℕ
sequence_text all table here shows None = missing
sequence_text all table here seq.Text (Some field) = quote_from all field.target.in_note (par_start all field.target)
sequence_text all table here seq.Page (Some field) = page_form all table field.target
sequence_text all table here seq.Chapter (Some field) = chapter_form all field.target
sequence_text all table here seq.Direction (Some field) = direction_form field.target here
sequence_text all table here seq.Value (Some field) = shown_number field.format (sequence_number all field.name field.target.spot)
sequence_text all table here seq.CategoryAndValue (Some field) = quote_between all field.target.in_note (par_start all field.target) (field.target.from + 1)
sequence_text all table here seq.Caption (Some field) = quote_from all field.target.in_note (field.target.from + 1)

-- the number of a note: footnotes in digits, endnotes in small roman letters
abbrev pub note_number_text : NoteClass → ℕ → List ℕ
note_number_text Footnote number = shown_number Digits number
note_number_text Endnote number = shown_number LowerRoman number

-- what a reference to a note shows
abbrev pub note_text : List Event → PageTable → Spot → RefForm → Option NoteTarget → List ℕ
note_text all table here shows None = missing
note_text all table here form.Text (Some note) = note_number_text note.class note.number
note_text all table here form.Page (Some note) = page_form all table note.target
note_text all table here form.Chapter (Some note) = chapter_form all note.target
note_text all table here form.Direction (Some note) = direction_form note.target here

-- the citation of a note
abbrev pub citation : NoteClass → ℕ → List ℕ
citation class number = codes "[" ++ (note_number_text class number ++ codes "]")

-- the first one of a list
abbrev pub first_of : {X : Type 0} → List X → Option X
first_of [] = None
first_of (x ∷ xs) = Some x

-- what a field shows that stands in a paragraph at a place
abbrev pub field_text : List Event → PageTable → ParPlace → Spot → Field → List ℕ
field_text all table par here (fields.Sequence name refname format) = shown_number format (sequence_number all name here)
field_text all table par here (fields.VarSet name value) = value
field_text all table par here (fields.VarGet name) = value_at all name here
field_text all table par here (fields.Chapter shows level) = chapter_text all shows (heading all par level)
field_text all table par here (fields.PageNumber select adjust format) = page_number_text table (page_of table par.id.0) select adjust format
field_text all table par here (fields.PageCount format) = page_count_text table (page_of table par.id.0) format
field_text all table par here (fields.BookRef name form) = bookmark_text all table here form (first_of (marks name all)) (last_of (marks name all))
field_text all table par here (fields.SeqRef name form) = sequence_text all table here form (first_of (sequence_targets name all))
field_text all table par here (fields.NoteRef name class form) = note_text all table here form (first_of (note_targets name all))

-- how many of a paragraph's items cite a note of a class
abbrev pub cited_in : NoteClass → List Item → ℕ
cited_in class items = count_by cites items where
  of_what : What-F What Item Note Par → Bool
  of_what (What-F.Note note) = same_class class (out-Note note).class
  of_what _ = false

  cites : Item → Bool
  cites item = of_what (what_of item)

-- how many notes of a class are cited in front of a paragraph
abbrev pub cited_before : NoteClass → ParPlace → ℕ
cited_before Footnote par = par.footnotes
cited_before Endnote par = par.endnotes

-- where the item stands that comes behind so many of a paragraph
abbrev pub item_spot : ParPlace → ℕ → Spot
item_spot par index = spot_of par.in_note par.anchor (par.at + 1 + index)

-- what an item shows behind others of its paragraph, if it is a field or the item of a note
abbrev pub item_text : List Event → PageTable → ParPlace → List Item → Item → Option (List ℕ)
item_text all table par front item = of_what (what_of item) where
  of_what : What-F What Item Note Par → Option (List ℕ)
  of_what (What-F.Field field) = Some (field_text all table par (item_spot par (length front)) field)
  of_what (What-F.Note note) = Some (citation (out-Note note).class (cited_before (out-Note note).class par + cited_in (out-Note note).class front + 1))
  of_what _ = None

-- what an item shows, cut, with its place in the paragraph
abbrev pub shown_item : List Event → PageTable → ParPlace → List Item → Item → List Shown
shown_item all table par front item = of_text (item_text all table par front item) where
  of_text : Option (List ℕ) → List Shown
  of_text None = []
  of_text (Some text) = record { item = length front; text = cut text } ∷ []

-- what the items of a paragraph show that stand behind others of it
abbrev pub shown_behind : List Event → PageTable → ParPlace → List Item → List Item → List Shown
shown_behind all table par front [] = []
shown_behind all table par front (item ∷ items) = shown_item all table par front item ++ shown_behind all table par (front ++ item ∷ []) items

-- what the fields and notes of a paragraph show, in order
abbrev pub shown_in : List Event → PageTable → ParPlace → List Item → List Shown
shown_in all table par items = shown_behind all table par [] items

-- the gathered paragraph of a number
abbrev pub par_of : List Event → ℕ → Option ParPlace
par_of all id = at_place (place_of id all) where
  at_place : Option ℕ → Option ParPlace
  at_place None = None
  at_place (Some place) = slice_get (paragraphs all) place

-- what the fields and notes of the paragraph of a number show, in order
abbrev pub shown : List Event → PageTable → ℕ → List Item → List Shown
shown all table id items = of_par (par_of all id) where
  of_par : Option ParPlace → List Shown
  of_par None = []
  of_par (Some par) = shown_in all table par items

-- the quote of the whole paragraph of a number
abbrev pub quote_of : List Event → ℕ → List ℕ
quote_of all id = of_par (par_of all id) where
  of_par : Option ParPlace → List ℕ
  of_par None = []
  of_par (Some par) = par_quote all par
