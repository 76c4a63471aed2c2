-- How much rows hold.
use Rattle.std.specs.Prelude.{ℕ, List, [], ◌∷◌, length}
use Rattle.std.specs.List.{flat_map}
use Rattle.doc_model.specs.declared.paragraph.Item.{Item}
use Rattle.node_array.specs.declared.row.Row.{Row}
use Rattle.node_array.specs.declared.row.Row.TheVariants as row

-- the items of a row, if it is that of a paragraph
abbrev pub items_in : Row → List Item
items_in (row.Start head) = []
items_in row.End = []
items_in (row.Par head items) = items
items_in row.NoteText = []

-- how many they are
abbrev pub count_in : Row → List ℕ
count_in (row.Start head) = []
count_in row.End = []
count_in (row.Par head items) = length items ∷ []
count_in row.NoteText = []

-- the item counts of paragraphs, in order
abbrev pub item_counts : List Row → List ℕ
item_counts rows = flat_map count_in rows
