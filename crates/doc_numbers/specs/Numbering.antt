-- Paragraphs that are numbered one after another.
use Rattle.std.specs.Prelude.{◌≡◌, ℕ, ◌+◌, Bool, true, false, List, [], map, length, option_map}
use Rattle.std.specs.List.{flat_map}
use Rattle.doc_model.specs.declared.block.Block.{Block}
use Rattle.doc_model.specs.declared.paragraph.Par.{Par, out-Par, roll-Par}
use Rattle.doc_model.specs.declared.paragraph.Item.{Item, out-Item}
use Rattle.doc_model.specs.declared.paragraph.What.{What, out-What, roll-What}
use Rattle.doc_model.specs.declared.paragraph.What.TheOpen.{What-F}
use Rattle.doc_model.specs.declared.paragraph.Note.{Note, out-Note, roll-Note}
use Rattle.doc_model.specs.Reading.{block_paragraphs, with_notes, number_of, upwards}
use Rattle.load_model.specs.Loaded.{at_most_ten, numbered}

-- where the numbers of all are given, these paragraphs have the ones behind the last one
abbrev pub Follow : List ℕ → ℕ → List Par → Type 0
Follow numbers last pars = map (λ par. number_of (numbered numbers par)) pars ≡ upwards (last + 1) (length pars)

-- the paragraph with a number, and with at most ten levels of its list place
abbrev pub with_number : ℕ → Par → Par
with_number number par = roll-Par (record (out-Par par) { id = record { 0 = number }; list = option_map at_most_ten (out-Par par).list })

-- the paragraphs of a block and of the notes in it
abbrev pub block_pars : Block → List Par
block_pars block = flat_map with_notes (block_paragraphs block)

-- the paragraphs of what an item is, if it is a note
abbrev pub what_pars : What-F What Item Note Par → List Par
what_pars (What-F.Note note) = (out-Note note).pars
what_pars _ = []

-- the paragraphs of an item, if it is a note
abbrev pub note_pars : Item → List Par
note_pars item = what_pars (out-What (out-Item item).what)

-- a note with a change made to each of its paragraphs
abbrev pub in_text : (Par → Par) → Note → Note
in_text change note = roll-Note (record (out-Note note) { pars = map change (out-Note note).pars })

-- what an item is with a change made to each paragraph of the note
abbrev pub in_what : (Par → Par) → What-F What Item Note Par → What
in_what change (What-F.Note note) = roll-What (What-F.Note (in_text change note))
in_what change other = roll-What other

-- whether this is a note
abbrev pub is_note_what : What-F What Item Note Par → Bool
is_note_what (What-F.Note note) = true
is_note_what _ = false

-- whether an item is a note
abbrev pub is_note : Item → Bool
is_note item = is_note_what (out-What (out-Item item).what)
