-- The rows of valid documents: no note begins within a note, and no two paragraphs have one number.
use Rattle.std.proofs.Common.{◌≡◌, ◌≢◌, ℕ, true, false, List, [], ◌∷◌, ◌++◌, map, refl, ap, ap₂, sym, ◌∙◌, subst, append_assoc, append-nil}
use Rattle.std.specs.Prelude.{AllPairs}
use Rattle.std.specs.List.{flat_map, AllByRecursion as Each}
use Rattle.std.proofs.lemmas.List.{map-append}
use Rattle.std.proofs.lemmas.List.Concat.{flat_map-append}
use Rattle.doc_model.specs.declared.block.Block.{Block}
use Rattle.doc_model.specs.declared.block.Block.TheOpen.{Section-F}
use Rattle.doc_model.specs.declared.block.Section.{Section}
use Rattle.doc_model.specs.declared.document.Document.{Document}
use Rattle.doc_model.specs.declared.paragraph.Par.{Par, out-Par}
use Rattle.doc_model.specs.declared.paragraph.Item.{Item, out-Item}
use Rattle.doc_model.specs.declared.paragraph.What.{What}
use Rattle.doc_model.specs.declared.paragraph.What.TheOpen.{What-F}
use Rattle.doc_model.specs.declared.paragraph.What.TheViews.{out-roll-What}
use Rattle.doc_model.specs.declared.paragraph.Note.{Note, out-Note}
use Rattle.doc_model.specs.Parts.{notes, what_of}
use Rattle.doc_model.specs.Reading.{block_paragraphs, note_of, notes_of, number_of, with_notes, paragraphs}
use Rattle.doc_model.specs.Valid.{IsNote}
use Rattle.node_array.specs.declared.row.Row.{Row}
use Rattle.node_array.specs.declared.row.Row.TheVariants as row
use Rattle.node_array.specs.Rows.{par_rows, block_rows, rows_of}
use Rattle.paragraph_rows.specs.OwnRow.{text_rows}
use Rattle.paragraph_rows.specs.Flat.{has_flat_notes, AreFlat}
use Rattle.paragraph_rows.specs.Standing.{number_in, AreApart}
use Rattle.paragraph_rows.proofs.Lists.{each_front, each_behind}
use Rattle.paragraph_rows.proofs.Opened.{item_of, item_is, par_open}
use Rattle.block_facts.proofs.Blocks.{par_block, section_block, of_blocks, par_reads, section_reads}
use Rattle.paragraph_rows.proofs.Blocks.{par_block_rows, section_block_rows}
use Rattle.paragraph_rows.proofs.FlatPars.{IsFlatNote, IsFlatPar, IsFlatBlock, flat_pars}
use Rattle.paragraph_rows.proofs.NoteRows.{alone_rows, grouped}

-- what is no note
abbrev no_note : What-F What Item Note Par → Type 0
no_note (What-F.Note note) = ⊥
no_note _ = Unit {0}

without_note : (spans : List (List ℕ)) (what : What-F What Item Note Par) → no_note what → note_of (item_of spans what) ≡ []
without_note spans (What-F.Char c) none = simp out-roll-What
without_note spans What-F.Tab none = simp out-roll-What
without_note spans What-F.Break none = simp out-roll-What
without_note spans (What-F.Field field) none = simp out-roll-What
without_note spans (What-F.Note note) none = absurd none
without_note spans (What-F.Mark mark) none = simp out-roll-What

items_without : (items : List Item) → Each (λ item. no_note (what_of item)) items → flat_map note_of items ≡ []
items_without [] none = refl
items_without (item ∷ items) none =
    ap₂ (λ (here more : List Note). here ++ more) (ap note_of (sym (item_is item)) ∙ without_note (out-Item item).spans (what_of item) none.0) (items_without items none.1)

pars_without : (pars : List Par) → Each (λ par. Each (λ item. no_note (what_of item)) (out-Par par).items) pars → Each (λ par. notes_of par ≡ []) pars
pars_without [] none = tt
pars_without (par ∷ pars) none = (items_without (out-Par par).items none.0, pars_without pars none.1)

notes_without : (some : List Note) → Each IsNote some → Each IsFlatNote some
notes_without [] valid = tt
notes_without (note ∷ some) valid = (pars_without (out-Note note).pars valid.0.1, notes_without some valid.1)

all_without : (pars : List Par) → Each IsNote (flat_map notes_of pars) → Each IsFlatPar pars
all_without [] valid = tt
all_without (par ∷ pars) valid = (
  notes_without (notes_of par) (each_front IsNote (notes_of par) (flat_map notes_of pars) valid),
  all_without pars (each_behind IsNote (notes_of par) (flat_map notes_of pars) valid),
)

-- whether notes are flat, behind the rows of what is flat
flat_alone : (pars : List Par) (more : List Row) → Each (λ par. notes_of par ≡ []) pars → has_flat_notes true (flat_map par_rows pars ++ more) ≡ has_flat_notes true more
flat_alone [] more none = refl
flat_alone (par ∷ pars) more none =
    ap (λ (rows : List Row). has_flat_notes true ((rows ++ flat_map par_rows pars) ++ more)) (alone_rows par none.0) ∙ flat_alone pars more none.1

pub flat_texts : (some : List Note) (more : List Row) → Each IsFlatNote some → has_flat_notes false (flat_map text_rows some ++ more) ≡ has_flat_notes false more
flat_texts [] more flat = refl
flat_texts (note ∷ some) more flat =
    ap (has_flat_notes false) (grouped note some more) ∙ flat_alone (out-Note note).pars (row.End ∷ (flat_map text_rows some ++ more)) flat.0 ∙ flat_texts some more flat.1

abbrev Keeps : Block → Type 0
Keeps block = IsFlatBlock block → (more : List Row) → has_flat_notes false (block_rows block ++ more) ≡ has_flat_notes false more

kept : (blocks : List Block) → Each Keeps blocks → Each IsFlatPar (flat_map block_paragraphs blocks) → (more : List Row) → has_flat_notes false (rows_of blocks ++ more) ≡ has_flat_notes false more
kept [] known flat more = refl
kept (block ∷ blocks) known flat more =
    ap (has_flat_notes false) (append_assoc (block_rows block) (rows_of blocks) more)
    ∙ known.0 (each_front IsFlatPar (block_paragraphs block) (flat_map block_paragraphs blocks) flat) (rows_of blocks ++ more)
    ∙ kept blocks known.1 (each_behind IsFlatPar (block_paragraphs block) (flat_map block_paragraphs blocks) flat) more

kept_par : (par : Par) → Keeps (par_block par)
kept_par par flat more =
    ap (λ (rows : List Row). has_flat_notes false (rows ++ more)) (par_block_rows par ∙ par_open par)
    ∙ flat_texts (notes_of par) more (subst (Each IsFlatPar) (par_reads par) flat).0

kept_section : (x : Section-F Block Section) → Each Keeps x.blocks → Keeps (section_block x)
kept_section x known flat more =
    ap (λ (rows : List Row). has_flat_notes false (rows ++ more)) (section_block_rows x)
    ∙ ap (has_flat_notes false) (append_assoc (rows_of x.blocks) (row.End ∷ []) more)
    ∙ kept x.blocks known (subst (Each IsFlatPar) (section_reads x) flat) (row.End ∷ more)

pub flat_rows : (doc : Document) → Each IsNote (notes doc) → AreFlat (rows_of doc.body)
flat_rows doc valid =
    ap (has_flat_notes false) (sym (append-nil (rows_of doc.body)))
    ∙ kept doc.body (of_blocks Keeps kept_par kept_section doc.body) (all_without (flat_map block_paragraphs doc.body) valid) []

-- the numbers of rows
number_alone : (pars : List Par) → Each (λ par. notes_of par ≡ []) pars → flat_map number_in (flat_map par_rows pars) ≡ map number_of pars
number_alone [] none = refl
number_alone (par ∷ pars) none =
    ap (λ (rows : List Row). flat_map number_in (rows ++ flat_map par_rows pars)) (alone_rows par none.0) ∙ ap (λ (more : List ℕ). number_of par ∷ more) (number_alone pars none.1)

number_texts : (some : List Note) → Each IsFlatNote some → flat_map number_in (flat_map text_rows some) ≡ map number_of (flat_map (λ note. (out-Note note).pars) some)
number_texts [] flat = refl
number_texts (note ∷ some) flat =
    let pars : List Par = (out-Note note).pars in
    flat_map-append number_in (text_rows note) (flat_map text_rows some)
    ∙ ap₂ (λ (here more : List ℕ). here ++ more)
    (flat_map-append number_in (flat_map par_rows pars) (row.End ∷ []) ∙ append-nil (flat_map number_in (flat_map par_rows pars)) ∙ number_alone pars flat.0)
    (number_texts some flat.1)
    ∙ sym (map-append number_of pars (flat_map (λ note. (out-Note note).pars) some))

abbrev Numbers : Block → Type 0
Numbers block = IsFlatBlock block → flat_map number_in (block_rows block) ≡ map number_of (flat_map with_notes (block_paragraphs block))

numbers : (blocks : List Block) → Each Numbers blocks → Each IsFlatPar (flat_map block_paragraphs blocks)
    → flat_map number_in (rows_of blocks) ≡ map number_of (flat_map with_notes (flat_map block_paragraphs blocks))
numbers [] known flat = refl
numbers (block ∷ blocks) known flat =
    let here : List Par = block_paragraphs block in
    let rest : List Par = flat_map block_paragraphs blocks in
    flat_map-append number_in (block_rows block) (rows_of blocks)
    ∙ ap₂ (λ (front behind : List ℕ). front ++ behind) (known.0 (each_front IsFlatPar here rest flat)) (numbers blocks known.1 (each_behind IsFlatPar here rest flat))
    ∙ sym (map-append number_of (flat_map with_notes here) (flat_map with_notes rest)) ∙ ap (map number_of) (sym (flat_map-append with_notes here rest))

numbers_par : (par : Par) → Numbers (par_block par)
numbers_par par flat =
    ap (flat_map number_in) (par_block_rows par ∙ par_open par)
    ∙ ap (λ (more : List ℕ). number_of par ∷ more) (number_texts (notes_of par) (subst (Each IsFlatPar) (par_reads par) flat).0)
    ∙ ap (map number_of) (sym (append-nil (with_notes par)))
    ∙ ap (λ (pars : List Par). map number_of (flat_map with_notes pars)) (sym (par_reads par))

numbers_section : (x : Section-F Block Section) → Each Numbers x.blocks → Numbers (section_block x)
numbers_section x known flat =
    ap (flat_map number_in) (section_block_rows x) ∙ flat_map-append number_in (rows_of x.blocks) (row.End ∷ []) ∙ append-nil (flat_map number_in (rows_of x.blocks))
    ∙ numbers x.blocks known (subst (Each IsFlatPar) (section_reads x) flat)
    ∙ ap (λ (pars : List Par). map number_of (flat_map with_notes pars)) (sym (section_reads x))

pub row_numbers : (doc : Document) → AreFlat (rows_of doc.body) → flat_map number_in (rows_of doc.body) ≡ map number_of (paragraphs doc)
row_numbers doc flat = numbers doc.body (of_blocks Numbers numbers_par numbers_section doc.body) (flat_pars doc.body flat)

pub apart_rows : (doc : Document) → AreFlat (rows_of doc.body) → AllPairs (λ left right. left ≢ right) (map number_of (paragraphs doc)) → AreApart (rows_of doc.body)
apart_rows doc flat apart = subst (AllPairs (λ left right. left ≢ right)) (sym (row_numbers doc flat)) apart
