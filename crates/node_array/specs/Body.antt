-- The body that rows stand for, read from the last row to the first. Where rows are those of a body, it is that body.
use Rattle.std.specs.Prelude.{List, [], ◌∷◌, ◌++◌}
use Rattle.std.specs.List.{flat_map}
use Rattle.doc_model.specs.declared.block.Block.{Block, out-Block, roll-Block}
use Rattle.doc_model.specs.declared.block.Section.{Section, roll-Section}
use Rattle.doc_model.specs.declared.block.Block.TheOpen.{Block-F}
use Rattle.doc_model.specs.declared.paragraph.Par.{Par, roll-Par}
use Rattle.doc_model.specs.declared.paragraph.Item.{Item, out-Item, roll-Item}
use Rattle.doc_model.specs.declared.paragraph.What.{What, out-What, roll-What}
use Rattle.doc_model.specs.declared.paragraph.What.TheOpen.{What-F}
use Rattle.doc_model.specs.declared.paragraph.Note.{Note, out-Note, roll-Note}
use Rattle.node_array.specs.declared.row.Row.{Row}
use Rattle.node_array.specs.declared.row.Row.TheVariants as row

-- what was read behind a place, within one section, note or body: the paragraphs of each note whose anchor stands before it,
-- and the blocks
pub record Level : Type 0 where
  pub texts : List (List Par)
  pub blocks : List Block

-- nothing was read
abbrev pub no_level : Level
no_level = record { texts = []; blocks = [] }

-- what an item is, with the first of the texts as its paragraphs if it is a note
abbrev pub what_with : What-F What Item Note Par → List (List Par) → What
what_with (What-F.Note note) (pars ∷ texts) = roll-What (What-F.Note (roll-Note (record (out-Note note) { pars = pars })))
what_with other texts = roll-What other

-- the texts that are left behind it
abbrev pub texts_left : What-F What Item Note Par → List (List Par) → List (List Par)
texts_left (What-F.Note note) (pars ∷ texts) = texts
texts_left other texts = texts

-- the item with the first of the texts as its paragraphs, if it is a note
abbrev pub with_text : Item → List (List Par) → Item
with_text item texts = roll-Item (record (out-Item item) { what = what_with (out-What (out-Item item).what) texts })

-- the texts that are left behind an item
abbrev pub texts_behind : Item → List (List Par) → List (List Par)
texts_behind item texts = texts_left (out-What (out-Item item).what) texts

-- the items with each note's paragraphs
abbrev pub with_texts : List Item → List (List Par) → List Item
with_texts [] texts = []
with_texts (item ∷ items) texts = with_text item texts ∷ with_texts items (texts_behind item texts)

-- a block in front of those of the innermost level
abbrev pub put_block : Block → List Level → List Level
put_block block [] = []
put_block block (level ∷ outer) = record { texts = []; blocks = block ∷ level.blocks } ∷ outer

-- texts of notes in front of those of the innermost level
abbrev pub put_texts : List (List Par) → List Level → List Level
put_texts texts [] = []
put_texts texts (level ∷ outer) = record { texts = texts ++ level.texts; blocks = level.blocks } ∷ outer

-- the paragraph that a block is, if it is one
abbrev pub par_of : Block-F Block Section → List Par
par_of (Block-F.Par par) = par ∷ []
par_of (Block-F.Section section) = []

-- the paragraphs among blocks
abbrev pub pars_of : List Block → List Par
pars_of blocks = flat_map (λ block. par_of (out-Block block)) blocks

-- one more row in front
abbrev pub read_row : Row → List Level → List Level
read_row row.End levels = no_level ∷ levels
read_row (row.Start head) [] = []
read_row (row.Start head) (level ∷ outer) = put_block (roll-Block (Block-F.Section (roll-Section (record { kind = head.kind; name = head.name; style = head.style; protected = head.protected; hidden = head.hidden; source = head.source; blocks = level.blocks })))) outer
read_row row.NoteText [] = []
read_row row.NoteText (level ∷ outer) = put_texts (pars_of level.blocks ∷ []) outer
read_row (row.Par head items) [] = []
read_row (row.Par head items) (level ∷ outer) = put_block (roll-Block (Block-F.Par (roll-Par (record { id = head.id; style = head.style; level = head.level; list = head.list; items = with_texts items level.texts })))) (level ∷ outer)

-- the levels that are open before the rows
abbrev pub levels_of : List Row → List Level
levels_of [] = no_level ∷ []
levels_of (r ∷ rows) = read_row r (levels_of rows)

-- the blocks of the innermost level
abbrev pub blocks_of : List Level → List Block
blocks_of [] = []
blocks_of (level ∷ outer) = level.blocks

-- the body that rows stand for
abbrev pub body_of : List Row → List Block
body_of rows = blocks_of (levels_of rows)
