-- What the parts of paragraphs and sections come to on rows, one level deep.
use Rattle.std.proofs.Common.{◌≡◌, ℕ, List, [], ◌∷◌, ◌++◌, map, refl, ap, ap₂, sym, ◌∙◌, subst}
use Rattle.std.specs.List.{flat_map}
use Rattle.std.proofs.lemmas.List.Folds.{flat_map-map}
use Rattle.doc_model.specs.declared.block.Block.{Block, roll-Block}
use Rattle.doc_model.specs.declared.block.Block.TheOpen.{Block-F, Section-F}
use Rattle.doc_model.specs.declared.block.Section.{Section, roll-Section}
use Rattle.doc_model.specs.declared.block.Block.TheFolds.{fold-roll-Block, fold-roll-Section}
use Rattle.doc_model.specs.declared.paragraph.Par.{Par, out-Par, roll-Par}
use Rattle.doc_model.specs.declared.paragraph.ParHead.{ParHead}
use Rattle.doc_model.specs.declared.paragraph.Item.{Item, out-Item, roll-Item}
use Rattle.doc_model.specs.declared.paragraph.What.{What, out-What, roll-What}
use Rattle.doc_model.specs.declared.paragraph.Note.{Note, out-Note, roll-Note}
use Rattle.doc_model.specs.declared.paragraph.What.TheOpen.{What-F, Par-F}
use Rattle.doc_model.specs.declared.paragraph.What.TheViews.{out-roll-What, roll-out-Par, roll-out-Item, roll-out-What, roll-out-Note}
use Rattle.doc_model.specs.declared.paragraph.What.TheFolds.{fold-roll-Item, fold-roll-What}
use Rattle.edit_rules.specs.Places.{as_block}
use Rattle.edit_rules.specs.Blocks.{in_note_of, in_notes_of, of_paragraphs, within_block}
use Rattle.node_array.specs.declared.row.Row.{Row}
use Rattle.node_array.specs.declared.row.Row.TheVariants as row
use Rattle.node_array.specs.Rows.{par_rows, block_rows, rows_of}
use Rattle.node_array.proofs.OneBody.{item_rows, what_rows, note_rows, par_opens, note_opens, item_opens, section_opens}

-- a paragraph without its items, its items without the paragraphs of notes, and the rows of these
abbrev pub head_row : Par → ParHead
head_row par = let p = out-Par par in record { id = p.id; style = p.style; level = p.level; list = p.list }

abbrev pub bare : Item → Item
bare item = (item_rows item).0

abbrev pub text_rows : Item → List Row
text_rows item = (item_rows item).1

pub mapped : {X Y Z : Type 0} (f : Y → Z) (g : X → Y) (xs : List X) → map f (map g xs) ≡ map (λ x. f (g x)) xs
mapped f g [] = refl
mapped f g (x ∷ xs) = ap (λ zs. f (g x) ∷ zs) (mapped f g xs)

pub rolled_rows : (x : Par-F What Item Note Par) → par_rows (roll-Par x) ≡ row.Par (record { id = x.id; style = x.style; level = x.level; list = x.list }) (map bare x.items) ∷ flat_map text_rows x.items
rolled_rows x =
    par_opens x
    ∙ ap₂ (λ (items : List Item) (rows : List Row). row.Par (record { id = x.id; style = x.style; level = x.level; list = x.list }) items ∷ rows)
    (mapped (λ (i : Item × List Row). i.0) item_rows x.items) (flat_map-map (λ (i : Item × List Row). i.1) item_rows x.items)

pub own_rows : (par : Par) → par_rows par ≡ row.Par (head_row par) (map bare (out-Par par).items) ∷ flat_map text_rows (out-Par par).items
own_rows par = ap par_rows (sym (roll-out-Par par)) ∙ rolled_rows (out-Par par)

pub block_is : (par : Par) → block_rows (as_block par) ≡ par_rows par
block_is par = simp fold-roll-Block

pub blocks_are : (pars : List Par) → rows_of (map as_block pars) ≡ flat_map par_rows pars
blocks_are [] = refl
blocks_are (par ∷ pars) = ap₂ (λ a b. a ++ b) (block_is par) (blocks_are pars)

pub section_is : (x : Section-F Block Section) → block_rows (roll-Block (Block-F.Section (roll-Section x)))
    ≡ row.Start (record { kind = x.kind; name = x.name; style = x.style; protected = x.protected; hidden = x.hidden; source = x.source }) ∷ (rows_of x.blocks ++ row.End ∷ [])
section_is x =
    let opens : block_rows (roll-Block (Block-F.Section (roll-Section x))) ≡ _ = simp fold-roll-Block (section_opens x) in
    opens
    ∙ ap (λ (rows : List Row). row.Start (record { kind = x.kind; name = x.name; style = x.style; protected = x.protected; hidden = x.hidden; source = x.source }) ∷ (rows ++ row.End ∷ []))
    (flat_map-map (λ (rows : List Row). rows) block_rows x.blocks)

-- items by what they are
pub by_what : (P : Item → Type 0) → ((spans : List (List ℕ)) (what : What-F What Item Note Par) → P (roll-Item (record { spans = spans; what = roll-What what }))) → (item : Item) → P item
by_what P each item =
    subst P (roll-out-Item item)
    (subst (λ (what : What). P (roll-Item (record { spans = (out-Item item).spans; what = what }))) (roll-out-What (out-Item item).what)
    (each (out-Item item).spans (out-What (out-Item item).what)))

pub note_is : (note : Note) → note_rows note ≡ (roll-Note (record { id = (out-Note note).id; class = (out-Note note).class; pars = [] }), row.NoteText ∷ (flat_map par_rows (out-Note note).pars ++ row.End ∷ []))
note_is note =
    ap note_rows (sym (roll-out-Note note)) ∙ note_opens (out-Note note)
    ∙ ap (λ (rows : List Row). (roll-Note (record { id = (out-Note note).id; class = (out-Note note).class; pars = [] }), row.NoteText ∷ (rows ++ row.End ∷ [])))
    (flat_map-map (λ (rows : List Row). rows) par_rows (out-Note note).pars)

pub note_item : (spans : List (List ℕ)) (note : Note) → item_rows (roll-Item (record { spans = spans; what = roll-What (What-F.Note note) }))
    ≡ (roll-Item (record { spans = spans; what = roll-What (What-F.Note (note_rows note).0) }), (note_rows note).1)
note_item spans note = simp (fold-roll-Item, fold-roll-What)

-- what is no note
abbrev pub NoNote : What-F What Item Note Par → Type 0
NoNote (What-F.Note note) = ⊥
NoNote _ = Unit {0}

plain_what : (what : What-F What Item Note Par) → NoNote what → what_rows (roll-What what) ≡ (roll-What what, [])
plain_what (What-F.Char c) plain = simp fold-roll-What
plain_what What-F.Tab plain = simp fold-roll-What
plain_what What-F.Break plain = simp fold-roll-What
plain_what (What-F.Field field) plain = simp fold-roll-What
plain_what (What-F.Note note) plain = absurd plain
plain_what (What-F.Mark mark) plain = simp fold-roll-What

pub plain_item : (spans : List (List ℕ)) (what : What-F What Item Note Par) → NoNote what → bare (roll-Item (record { spans = spans; what = roll-What what })) ≡ roll-Item (record { spans = spans; what = roll-What what })
plain_item spans what plain =
    ap (λ (p : Item × List Row). p.0) (item_opens (record { spans = spans; what = roll-What what }))
    ∙ ap (λ (p : What × List Row). roll-Item (record { spans = spans; what = p.0 })) (plain_what what plain)

pub plain_text : (spans : List (List ℕ)) (what : What-F What Item Note Par) → NoNote what → text_rows (roll-Item (record { spans = spans; what = roll-What what })) ≡ []
plain_text spans what plain =
    ap (λ (p : Item × List Row). p.1) (item_opens (record { spans = spans; what = roll-What what })) ∙ ap (λ (p : What × List Row). p.1) (plain_what what plain)

-- the note of an item with other paragraphs
abbrev pub with_pars : Note → List Par → Note
with_pars note pars = roll-Note (record (out-Note note) { pars = pars })

pub changed_note : (change : List Par → List Par) (spans : List (List ℕ)) (note : Note)
    → in_note_of change (roll-Item (record { spans = spans; what = roll-What (What-F.Note note) }))
    ≡ roll-Item (record { spans = spans; what = roll-What (What-F.Note (with_pars note (change (out-Note note).pars))) })
changed_note change spans note = simp out-roll-What

-- blocks within which containers are changed
pub par_within : (change : List Block → List Block) (par : Par) → within_block change (as_block par) ≡ as_block (in_notes_of (of_paragraphs change) par)
par_within change par = simp fold-roll-Block

pub section_within : (change : List Block → List Block) (x : Section-F Block Section)
    → within_block change (roll-Block (Block-F.Section (roll-Section x))) ≡ roll-Block (Block-F.Section (roll-Section (record x { blocks = change (map (within_block change) x.blocks) })))
section_within change x = simp (fold-roll-Block, fold-roll-Section)
