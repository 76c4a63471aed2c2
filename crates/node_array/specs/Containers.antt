-- What stands round each row of a body.
use Rattle.std.specs.Prelude.{ℕ, ◌+◌, List, [], ◌∷◌, ◌++◌, length, map, Option, Some, None}
use Rattle.doc_model.specs.declared.block.Block.{Block, fold-Block}
use Rattle.doc_model.specs.declared.block.Block.TheOpen.{Block-F, Section-F}
use Rattle.doc_model.specs.declared.paragraph.Par.{Par}
use Rattle.doc_model.specs.declared.paragraph.What.TheOpen.{What-F, Item-F, Note-F, Par-F}
use Rattle.doc_model.specs.declared.paragraph.What.TheFolds.{fold-Par}

-- the containers of the rows of a part of a body, in order, where it stands in a container and its first row at a place. A
-- container is told by the place of its Start or NoteText row, and there is none where rows stand in the body itself
abbrev pub Around : Type 0
Around = Option ℕ → ℕ → List (Option ℕ)

-- parts that stand one after another in the same container
abbrev pub in_turn : List Around → Around
in_turn [] container place = []
in_turn (part ∷ parts) container place = part container place ++ in_turn parts container (place + length (part container place))

-- a Start or NoteText row, the content, for which it is the container, and the End row
abbrev pub enclosed : Around → Around
enclosed content container place = container ∷ (content (Some place) (place + 1) ++ container ∷ [])

abbrev pub around_what : What-F Around Around Around Around → Around
around_what (What-F.Char c) = in_turn []
around_what What-F.Tab = in_turn []
around_what What-F.Break = in_turn []
around_what (What-F.Field field) = in_turn []
around_what (What-F.Note note) = note
around_what (What-F.Mark mark) = in_turn []

abbrev pub around_item : Item-F Around Around Around Around → Around
around_item item = item.what

-- a note's paragraphs stand in the note
abbrev pub around_note : Note-F Around Around Around Around → Around
around_note note = enclosed (in_turn note.pars)

-- a paragraph's notes stand in its own container
abbrev pub around_par : Par-F Around Around Around Around → Around
around_par par container place = container ∷ in_turn par.items container (place + 1)

abbrev pub par_around : Par → Around
par_around = fold-Par Around Around Around Around around_what around_item around_note around_par

-- a section's blocks stand in the section
abbrev pub around_section : Section-F Around Around → Around
around_section section = enclosed (in_turn section.blocks)

abbrev pub around_block : Block-F Around Around → Around
around_block (Block-F.Par par) = par_around par
around_block (Block-F.Section section) = section

abbrev pub block_around : Block → Around
block_around = fold-Block Around Around around_block around_section

-- the container of each row of a body
abbrev pub containers_of : List Block → List (Option ℕ)
containers_of body = in_turn (map block_around body) None 0
