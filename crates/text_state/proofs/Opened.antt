-- The rows of notes, paragraphs and sections, one level deep, and how they are appended.
use Rattle.std.proofs.Common.{◌≡◌, List, [], ◌∷◌, ◌++◌, ap, sym, ◌∙◌, append_assoc, refl, Option, Result, Ok, Err}
use Rattle.std.specs.Prelude.{map, OnOk}
use Rattle.std.specs.List.{flat_map}
use Rattle.doc_model.specs.declared.block.Section.{Section, out-Section}
use Rattle.doc_model.specs.declared.block.Block.TheViews.{roll-out-Section}
use Rattle.doc_model.specs.declared.paragraph.Par.{Par, out-Par}
use Rattle.doc_model.specs.declared.paragraph.Item.{Item}
use Rattle.doc_model.specs.declared.paragraph.Note.{Note, out-Note}
use Rattle.doc_model.specs.declared.paragraph.ListPos.{ListPos}
use Rattle.doc_model.specs.declared.texts.Name.{Name}
use Rattle.doc_model.specs.declared.paragraph.What.TheViews.{roll-out-Par, roll-out-Note}
use Rattle.node_array.specs.declared.row.Row.{Row}
use Rattle.node_array.specs.declared.row.Row.TheVariants as row
use Rattle.node_array.specs.Rows.{par_rows, block_rows}
use Rattle.node_array.proofs.OneBody.{par_opens, note_opens, section_opens}
use Rattle.text_state.specs.PartRows.{item_rows, note_rows, section_rows, head_of}

-- lists joined
joined : {X Y : Type 0} (f : X → List Y) (xs : List X) → flat_map (λ ys. ys) (map f xs) ≡ flat_map f xs
joined f [] = refl
joined f (x ∷ xs) = ap (λ ys. f x ++ ys) (joined f xs)

-- the rows of a note
pub note_open : (note : Note) → (note_rows note).1 ≡ row.NoteText ∷ (flat_map par_rows (out-Note note).pars ++ row.End ∷ [])
note_open note =
    ap (λ (n : Note). (note_rows n).1) (sym (roll-out-Note note)) ∙ ap (λ (pair : Note × List Row). pair.1) (note_opens (out-Note note))
    ∙ ap (λ (rows : List Row). row.NoteText ∷ (rows ++ row.End ∷ [])) (joined par_rows (out-Note note).pars)

-- the rows of a section
pub section_open : (section : Section) → section_rows section ≡ row.Start (head_of section) ∷ (flat_map block_rows (out-Section section).blocks ++ row.End ∷ [])
section_open section =
    ap section_rows (sym (roll-out-Section section)) ∙ section_opens (out-Section section)
    ∙ ap (λ (rows : List Row). row.Start (head_of section) ∷ (rows ++ row.End ∷ [])) (joined block_rows (out-Section section).blocks)

-- a list of what items are, of pairs
firsts : (items : List Item) → map (λ pair. pair.0) (map item_rows items) ≡ map (λ item. (item_rows item).0) items
firsts [] = refl
firsts (item ∷ items) = ap (λ (more : List Item). (item_rows item).0 ∷ more) (firsts items)

seconds : (items : List Item) → flat_map (λ pair. pair.1) (map item_rows items) ≡ flat_map (λ item. (item_rows item).1) items
seconds [] = refl
seconds (item ∷ items) = ap (λ (more : List Row). (item_rows item).1 ++ more) (seconds items)

-- the rows of a paragraph, with its head and items as they were copied
pub par_open : (par : Par) (style : Name) (list : Option ListPos) (items : List Item) → style ≡ (out-Par par).style → list ≡ (out-Par par).list
    → items ≡ map (λ item. (item_rows item).0) (out-Par par).items
    → par_rows par ≡ row.Par (record { id = (out-Par par).id; style = style; level = (out-Par par).level; list = list }) items ∷ flat_map (λ item. (item_rows item).1) (out-Par par).items
par_open par style list items same_style same_list same_items =
    let rest : List Row = flat_map (λ item. (item_rows item).1) (out-Par par).items in
    ap par_rows (sym (roll-out-Par par)) ∙ par_opens (out-Par par)
    ∙ ap (λ (rows : List Row). row.Par (record { id = (out-Par par).id; style = (out-Par par).style; level = (out-Par par).level; list = (out-Par par).list }) (map (λ pair. pair.0) (map item_rows (out-Par par).items)) ∷ rows) (seconds (out-Par par).items)
    ∙ ap (λ (bare : List Item). row.Par (record { id = (out-Par par).id; style = (out-Par par).style; level = (out-Par par).level; list = (out-Par par).list }) bare ∷ rest) (firsts (out-Par par).items ∙ sym same_items)
    ∙ ap (λ (given : Name). row.Par (record { id = (out-Par par).id; style = given; level = (out-Par par).level; list = (out-Par par).list }) items ∷ rest) (sym same_style)
    ∙ ap (λ (given : Option ListPos). row.Par (record { id = (out-Par par).id; style = style; level = (out-Par par).level; list = given }) items ∷ rest) (sym same_list)

-- rows that are appended in three steps
pub closed : (rows first second third inner all : List Row) (one last : Row) → first ≡ rows ++ one ∷ [] → second ≡ first ++ inner → third ≡ second ++ last ∷ []
    → all ≡ one ∷ (inner ++ last ∷ []) → third ≡ rows ++ all
closed rows first second third inner all one last e f g is =
    g ∙ ap (λ (front : List Row). front ++ last ∷ []) (f ∙ ap (λ (front : List Row). front ++ inner) e)
    ∙ append_assoc (rows ++ one ∷ []) inner (last ∷ []) ∙ append_assoc rows (one ∷ []) (inner ++ last ∷ [])
    ∙ ap (λ (more : List Row). rows ++ more) (sym is)

-- rows that are appended in two steps, where the second finds memory
pub opened : {T E : Type 0} (result : Result T E) (rows first second inner all : List Row) (one : Row) → first ≡ rows ++ one ∷ [] → OnOk result (second ≡ first ++ inner)
    → all ≡ one ∷ inner → OnOk result (second ≡ rows ++ all)
opened (Ok done) rows first second inner all one e f is =
    f ∙ ap (λ (front : List Row). front ++ inner) e ∙ append_assoc rows (one ∷ []) inner ∙ ap (λ (more : List Row). rows ++ more) (sym is)
opened (Err fault) rows first second inner all one e f is = tt
