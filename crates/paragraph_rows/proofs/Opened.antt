-- The rows of a paragraph: its own, and those of its notes.
use Rattle.std.proofs.Common.{◌≡◌, ℕ, List, [], ◌∷◌, ◌++◌, map, refl, ap, ap₂, sym, ◌∙◌, append-nil}
use Rattle.std.specs.List.{flat_map}
use Rattle.doc_model.specs.declared.paragraph.Par.{Par, out-Par}
use Rattle.doc_model.specs.declared.paragraph.Item.{Item, out-Item, roll-Item}
use Rattle.doc_model.specs.declared.paragraph.What.{What, out-What, roll-What}
use Rattle.doc_model.specs.declared.paragraph.Note.{Note, out-Note}
use Rattle.doc_model.specs.declared.paragraph.What.TheOpen.{What-F}
use Rattle.doc_model.specs.declared.paragraph.What.TheViews.{out-roll-What, roll-out-Item, roll-out-What, roll-out-Par, roll-out-Note}
use Rattle.doc_model.specs.declared.paragraph.What.TheFolds.{fold-roll-Item, fold-roll-What}
use Rattle.doc_model.specs.Reading.{note_of}
use Rattle.node_array.specs.declared.row.Row.{Row}
use Rattle.node_array.specs.declared.row.Row.TheVariants as row
use Rattle.node_array.specs.Rows.{par_rows}
use Rattle.node_array.proofs.OneBody.{item_rows, what_rows, note_rows, par_opens, note_opens, item_opens}
use Rattle.paragraph_rows.specs.OwnRow.{bare, own_row, text_rows, rows_of_notes}
use Rattle.block_facts.proofs.Blocks.{joined}
use Rattle.paragraph_rows.proofs.Lists.{twice, same_joined}

-- an item of these spans
abbrev pub item_of : List (List ℕ) → What-F What Item Note Par → Item
item_of spans what = roll-Item (record { spans = spans; what = roll-What what })

-- each item is one
pub item_is : (item : Item) → item_of (out-Item item).spans (out-What (out-Item item).what) ≡ item
item_is item = ap (λ (what : What). roll-Item (record { spans = (out-Item item).spans; what = what })) (roll-out-What (out-Item item).what) ∙ roll-out-Item item

-- what an item is, as it stands in a row: a note without its paragraphs
abbrev pub bare_what : What-F What Item Note Par → What-F What Item Note Par
bare_what (What-F.Char c) = What-F.Char c
bare_what What-F.Tab = What-F.Tab
bare_what What-F.Break = What-F.Break
bare_what (What-F.Field field) = What-F.Field field
bare_what (What-F.Note note) = What-F.Note (note_rows note).0
bare_what (What-F.Mark mark) = What-F.Mark mark

rows_what : (what : What-F What Item Note Par) → (what_rows (roll-What what)).0 ≡ roll-What (bare_what what)
rows_what (What-F.Char c) = simp fold-roll-What
rows_what What-F.Tab = simp fold-roll-What
rows_what What-F.Break = simp fold-roll-What
rows_what (What-F.Field field) = simp fold-roll-What
rows_what (What-F.Note note) = simp fold-roll-What
rows_what (What-F.Mark mark) = simp fold-roll-What

pub bare_item_is : (spans : List (List ℕ)) (what : What-F What Item Note Par) → bare (item_of spans what) ≡ item_of spans (bare_what what)
bare_item_is spans what =
    ap (λ (pair : Item × List Row). pair.0) (item_opens (record { spans = spans; what = roll-What what }))
    ∙ ap (λ (w : What). roll-Item (record { spans = spans; what = w })) (rows_what what)

note_open : (note : Note) → (note_rows note).1 ≡ text_rows note
note_open note =
    ap (λ (n : Note). (note_rows n).1) (sym (roll-out-Note note)) ∙ ap (λ (pair : Note × List Row). pair.1) (note_opens (out-Note note))
    ∙ ap (λ (rows : List Row). row.NoteText ∷ (rows ++ row.End ∷ [])) (joined par_rows (out-Note note).pars)

note_item : (spans : List (List ℕ)) (note : Note) → (item_rows (item_of spans (What-F.Note note))).1 ≡ (note_rows note).1
note_item spans note = simp (fold-roll-Item, fold-roll-What)

note_of_item : (spans : List (List ℕ)) (note : Note) → note_of (item_of spans (What-F.Note note)) ≡ note ∷ []
note_of_item spans note = simp out-roll-What

rows_of_what : (spans : List (List ℕ)) (what : What-F What Item Note Par) → (item_rows (item_of spans what)).1 ≡ flat_map text_rows (note_of (item_of spans what))
rows_of_what spans (What-F.Char c) = simp (fold-roll-Item, fold-roll-What, out-roll-What)
rows_of_what spans What-F.Tab = simp (fold-roll-Item, fold-roll-What, out-roll-What)
rows_of_what spans What-F.Break = simp (fold-roll-Item, fold-roll-What, out-roll-What)
rows_of_what spans (What-F.Field field) = simp (fold-roll-Item, fold-roll-What, out-roll-What)
rows_of_what spans (What-F.Note note) =
    note_item spans note ∙ note_open note ∙ sym (append-nil (text_rows note)) ∙ ap (flat_map text_rows) (sym (note_of_item spans note))
rows_of_what spans (What-F.Mark mark) = simp (fold-roll-Item, fold-roll-What, out-roll-What)

rows_of_item : (item : Item) → (item_rows item).1 ≡ flat_map text_rows (note_of item)
rows_of_item item =
    ap (λ (i : Item). (item_rows i).1) (sym (item_is item)) ∙ rows_of_what (out-Item item).spans (out-What (out-Item item).what)
    ∙ ap (λ (i : Item). flat_map text_rows (note_of i)) (item_is item)

firsts : (items : List Item) → map (λ pair. pair.0) (map item_rows items) ≡ map bare items
firsts [] = refl
firsts (item ∷ items) = ap (λ (more : List Item). bare item ∷ more) (firsts items)

seconds : (items : List Item) → flat_map (λ pair. pair.1) (map item_rows items) ≡ flat_map (λ item. (item_rows item).1) items
seconds [] = refl
seconds (item ∷ items) = ap (λ (more : List Row). (item_rows item).1 ++ more) (seconds items)

rows_behind : (items : List Item) → flat_map (λ pair. pair.1) (map item_rows items) ≡ flat_map text_rows (flat_map note_of items)
rows_behind items =
    seconds items ∙ same_joined (λ item. (item_rows item).1) (λ item. flat_map text_rows (note_of item)) rows_of_item items ∙ sym (twice text_rows note_of items)

-- the rows of a paragraph
pub par_open : (par : Par) → par_rows par ≡ own_row par ∷ rows_of_notes par
par_open par =
    ap par_rows (sym (roll-out-Par par)) ∙ par_opens (out-Par par)
    ∙ ap₂ (λ (items : List Item) (rows : List Row). row.Par (record { id = (out-Par par).id; style = (out-Par par).style; level = (out-Par par).level; list = (out-Par par).list }) items ∷ rows)
    (firsts (out-Par par).items) (rows_behind (out-Par par).items)
