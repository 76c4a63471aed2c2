-- The rows of changed paragraphs whose notes stay.
use Rattle.std.proofs.Common.{◌≡◌, ℕ, List, [], ◌∷◌, ◌++◌, map, refl, ap, ap₂, sym, subst, ◌∙◌}
use Rattle.std.specs.List.{flat_map, AllByRecursion as Each}
use Rattle.std.proofs.lemmas.List.{map-append}
use Rattle.doc_model.specs.declared.block.Block.{Block}
use Rattle.doc_model.specs.declared.block.Block.TheOpen.{Section-F}
use Rattle.doc_model.specs.declared.block.Section.{Section}
use Rattle.doc_model.specs.declared.document.Document.{Document}
use Rattle.doc_model.specs.declared.paragraph.Par.{Par, out-Par}
use Rattle.doc_model.specs.declared.paragraph.Item.{Item, out-Item}
use Rattle.doc_model.specs.declared.paragraph.What.{What, out-What}
use Rattle.doc_model.specs.declared.paragraph.Note.{Note, out-Note, roll-Note}
use Rattle.doc_model.specs.declared.paragraph.What.TheOpen.{What-F, Note-F, Par-F}
use Rattle.doc_model.specs.declared.paragraph.What.TheViews.{out-roll-What, out-roll-Note, out-roll-Par, roll-out-Note}
use Rattle.doc_model.specs.Reading.{block_paragraphs, note_of, notes_of}
use Rattle.doc_model.specs.Alike.{in_note, in_paragraph, in_block, in_document}
use Rattle.node_array.specs.declared.row.Row.{Row}
use Rattle.node_array.specs.declared.row.Row.TheVariants as row
use Rattle.node_array.specs.Rows.{par_rows, block_rows, rows_of}
use Rattle.node_array.proofs.OneBody.{note_rows, note_opens}
use Rattle.paragraph_rows.specs.OwnRow.{bare, head_of, own_row, text_rows}
use Rattle.paragraph_rows.specs.Changes.{Follows}
use Rattle.paragraph_rows.specs.Flat.{AreFlat}
use Rattle.paragraph_rows.proofs.Lists.{each_front, each_behind}
use Rattle.paragraph_rows.proofs.Opened.{item_of, item_is, bare_item_is, par_open}
use Rattle.block_facts.proofs.Blocks.{par_block, section_block, of_blocks, par_reads, par_changes, section_reads, section_changes}
use Rattle.paragraph_rows.proofs.Blocks.{section_head, par_block_rows, section_block_rows}
use Rattle.paragraph_rows.proofs.FlatPars.{IsFlatNote, IsFlatPar, IsFlatBlock, flat_pars}

-- the note with a change made to each of its paragraphs
abbrev pub note_changed : (Par → Par) → Note → Note
note_changed change note = roll-Note (record (out-Note note) { pars = map change (out-Note note).pars })

-- a note without its paragraphs
abbrev pub bare_note : Note → Note
bare_note note = roll-Note (record (out-Note note) { pars = [] })

pub note_bare : (note : Note) → (note_rows note).0 ≡ bare_note note
note_bare note = ap (λ (n : Note). (note_rows n).0) (sym (roll-out-Note note)) ∙ ap (λ (pair : Note × List Row). pair.0) (note_opens (out-Note note))

bare_changed : (change : Par → Par) (note : Note) → bare_note (note_changed change note) ≡ bare_note note
bare_changed change note = ap (λ (layer : Note-F What Item Note Par). roll-Note (record layer { pars = [] })) (out-roll-Note _)

in_note_item : (change : Par → Par) (spans : List (List ℕ)) (note : Note) → in_note change (item_of spans (What-F.Note note)) ≡ item_of spans (What-F.Note (note_changed change note))
in_note_item change spans note = simp out-roll-What

note_of_item : (spans : List (List ℕ)) (note : Note) → note_of (item_of spans (What-F.Note note)) ≡ note ∷ []
note_of_item spans note = simp out-roll-What

-- an item as it stands in a row, and its note
bare_of_what : (change : Par → Par) (spans : List (List ℕ)) (what : What-F What Item Note Par) → bare (in_note change (item_of spans what)) ≡ bare (item_of spans what)
bare_of_what change spans (What-F.Char c) = simp out-roll-What
bare_of_what change spans What-F.Tab = simp out-roll-What
bare_of_what change spans What-F.Break = simp out-roll-What
bare_of_what change spans (What-F.Field field) = simp out-roll-What
bare_of_what change spans (What-F.Note note) =
    ap bare (in_note_item change spans note) ∙ bare_item_is spans (What-F.Note (note_changed change note))
    ∙ ap (λ (n : Note). item_of spans (What-F.Note n)) (note_bare (note_changed change note) ∙ bare_changed change note ∙ sym (note_bare note))
    ∙ sym (bare_item_is spans (What-F.Note note))
bare_of_what change spans (What-F.Mark mark) = simp out-roll-What

pub bare_same : (change : Par → Par) (item : Item) → bare (in_note change item) ≡ bare item
bare_same change item =
    ap (λ (i : Item). bare (in_note change i)) (sym (item_is item)) ∙ bare_of_what change (out-Item item).spans (out-What (out-Item item).what) ∙ ap bare (item_is item)

note_what : (change : Par → Par) (spans : List (List ℕ)) (what : What-F What Item Note Par)
    → note_of (in_note change (item_of spans what)) ≡ map (note_changed change) (note_of (item_of spans what))
note_what change spans (What-F.Char c) = simp out-roll-What
note_what change spans What-F.Tab = simp out-roll-What
note_what change spans What-F.Break = simp out-roll-What
note_what change spans (What-F.Field field) = simp out-roll-What
note_what change spans (What-F.Note note) =
    ap note_of (in_note_item change spans note) ∙ note_of_item spans (note_changed change note) ∙ ap (map (note_changed change)) (sym (note_of_item spans note))
note_what change spans (What-F.Mark mark) = simp out-roll-What

note_same : (change : Par → Par) (item : Item) → note_of (in_note change item) ≡ map (note_changed change) (note_of item)
note_same change item =
    ap (λ (i : Item). note_of (in_note change i)) (sym (item_is item)) ∙ note_what change (out-Item item).spans (out-What (out-Item item).what)
    ∙ ap (λ (i : Item). map (note_changed change) (note_of i)) (item_is item)

notes_same : (change : Par → Par) (items : List Item) → flat_map note_of (map (in_note change) items) ≡ map (note_changed change) (flat_map note_of items)
notes_same change [] = refl
notes_same change (item ∷ items) =
    ap₂ (λ (here more : List Note). here ++ more) (note_same change item) (notes_same change items) ∙ sym (map-append (note_changed change) (note_of item) (flat_map note_of items))

bares_same : (change : Par → Par) (items : List Item) → map bare (map (in_note change) items) ≡ map bare items
bares_same change [] = refl
bares_same change (item ∷ items) = ap₂ (λ (i : Item) (more : List Item). i ∷ more) (bare_same change item) (bares_same change items)

-- a paragraph with its notes' paragraphs changed
pub own_same : (change : Par → Par) (par : Par) → own_row (in_paragraph change par) ≡ own_row (change par)
own_same change par =
    ap (λ (layer : Par-F What Item Note Par). row.Par (record { id = layer.id; style = layer.style; level = layer.level; list = layer.list }) (map bare layer.items)) (out-roll-Par _)
    ∙ ap (λ (items : List Item). row.Par (head_of (change par)) items) (bares_same change (out-Par (change par)).items)

pub notes_changed : (change : Par → Par) (par : Par) → notes_of (in_paragraph change par) ≡ map (note_changed change) (notes_of (change par))
notes_changed change par =
    ap (λ (layer : Par-F What Item Note Par). flat_map note_of layer.items) (out-roll-Par _) ∙ notes_same change (out-Par (change par)).items

pub text_changed : (change : Par → Par) (note : Note) → text_rows (note_changed change note) ≡ row.NoteText ∷ (flat_map par_rows (map change (out-Note note).pars) ++ row.End ∷ [])
text_changed change note = ap (λ (layer : Note-F What Item Note Par). row.NoteText ∷ (flat_map par_rows layer.pars ++ row.End ∷ [])) (out-roll-Note _)

module _ (change : Par → Par) (later : Row → Row) (follows : Follows change later) where
  -- a paragraph of a note
  alone : (par : Par) → notes_of par ≡ [] → par_rows (change par) ≡ map later (par_rows par)
  alone par none =
      par_open (change par) ∙ ap₂ (λ (one : Row) (notes : List Note). one ∷ flat_map text_rows notes) (follows.own par) (follows.notes par ∙ none)
      ∙ ap (λ (notes : List Note). map later (own_row par ∷ flat_map text_rows notes)) (sym none) ∙ ap (map later) (sym (par_open par))

  all_alone : (pars : List Par) → Each (λ par. notes_of par ≡ []) pars → flat_map par_rows (map change pars) ≡ map later (flat_map par_rows pars)
  all_alone [] none = refl
  all_alone (par ∷ pars) none =
      ap₂ (λ (here more : List Row). here ++ more) (alone par none.0) (all_alone pars none.1) ∙ sym (map-append later (par_rows par) (flat_map par_rows pars))

  text : (note : Note) → IsFlatNote note → text_rows (note_changed change note) ≡ map later (text_rows note)
  text note flat =
      text_changed change note ∙ ap (λ (rows : List Row). row.NoteText ∷ (rows ++ row.End ∷ [])) (all_alone (out-Note note).pars flat)
      ∙ ap₂ (λ (first last : Row). first ∷ (map later (flat_map par_rows (out-Note note).pars) ++ last ∷ [])) (sym follows.note_text) (sym follows.end)
      ∙ ap (λ (rows : List Row). later row.NoteText ∷ rows) (sym (map-append later (flat_map par_rows (out-Note note).pars) (row.End ∷ [])))

  all_texts : (notes : List Note) → Each IsFlatNote notes → flat_map text_rows (map (note_changed change) notes) ≡ map later (flat_map text_rows notes)
  all_texts [] flat = refl
  all_texts (note ∷ notes) flat =
      ap₂ (λ (here more : List Row). here ++ more) (text note flat.0) (all_texts notes flat.1) ∙ sym (map-append later (text_rows note) (flat_map text_rows notes))

  par : (par : Par) → IsFlatPar par → par_rows (in_paragraph change par) ≡ map later (par_rows par)
  par one flat =
      par_open (in_paragraph change one)
      ∙ ap₂ (λ (first : Row) (more : List Row). first ∷ more) (own_same change one ∙ follows.own one)
      (ap (flat_map text_rows) (notes_changed change one ∙ ap (map (note_changed change)) (follows.notes one)) ∙ all_texts (notes_of one) flat)
      ∙ ap (map later) (sym (par_open one))

  abbrev Later : Block → Type 0
  Later block = IsFlatBlock block → block_rows (in_block change block) ≡ map later (block_rows block)

  blocks : (blocks : List Block) → Each Later blocks → Each IsFlatPar (flat_map block_paragraphs blocks) → rows_of (map (in_block change) blocks) ≡ map later (rows_of blocks)
  blocks [] known flat = refl
  blocks (block ∷ more) known flat =
      let here = known.0 (each_front IsFlatPar (block_paragraphs block) (flat_map block_paragraphs more) flat) in
      let rest = blocks more known.1 (each_behind IsFlatPar (block_paragraphs block) (flat_map block_paragraphs more) flat) in
      ap₂ (λ (front behind : List Row). front ++ behind) here rest ∙ sym (map-append later (block_rows block) (rows_of more))

  par_block_later : (one : Par) → Later (par_block one)
  par_block_later one flat =
      ap block_rows (par_changes change one) ∙ par_block_rows (in_paragraph change one) ∙ par one (subst (Each IsFlatPar) (par_reads one) flat).0
      ∙ ap (map later) (sym (par_block_rows one))

  section_block_later : (x : Section-F Block Section) → Each Later x.blocks → Later (section_block x)
  section_block_later x known flat =
      let inner = blocks x.blocks known (subst (Each IsFlatPar) (section_reads x) flat) in
      ap block_rows (section_changes change x) ∙ section_block_rows (record x { blocks = map (in_block change) x.blocks })
      ∙ ap (λ (rows : List Row). row.Start (section_head x) ∷ (rows ++ row.End ∷ [])) inner
      ∙ ap₂ (λ (first last : Row). first ∷ (map later (rows_of x.blocks) ++ last ∷ [])) (sym (follows.start (section_head x))) (sym follows.end)
      ∙ ap (λ (rows : List Row). later (row.Start (section_head x)) ∷ rows) (sym (map-append later (rows_of x.blocks) (row.End ∷ [])))
      ∙ ap (map later) (sym (section_block_rows x))

pub rows_changed : (doc : Document) (change : Par → Par) (later : Row → Row) → Follows change later → AreFlat (rows_of doc.body) → rows_of (in_document change doc).body ≡ map later (rows_of doc.body)
rows_changed doc change later follows flat =
    blocks change later follows doc.body (of_blocks (Later change later follows) (par_block_later change later follows) (section_block_later change later follows) doc.body) (flat_pars doc.body flat)
