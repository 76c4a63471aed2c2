-- Documents that are alike have as many paragraphs with as many items.
use Rattle.std.proofs.Common.{◌≡◌, ℕ, List, [], ◌∷◌, ◌++◌, map, length, refl, sym, ap, ap₂, ◌∙◌, append-nil}
use Rattle.std.specs.List.{flat_map, AllByRecursion as Each}
use Rattle.std.proofs.lemmas.List.{map-append, length-map}
use Rattle.std.proofs.lemmas.List.Concat.{flat_map-append}
use Rattle.doc_model.specs.declared.block.Block.{Block}
use Rattle.doc_model.specs.declared.document.Document.{Document}
use Rattle.doc_model.specs.declared.paragraph.Par.{Par, out-Par, roll-Par}
use Rattle.doc_model.specs.declared.paragraph.Item.{Item, out-Item}
use Rattle.doc_model.specs.declared.paragraph.What.{What, out-What, roll-What}
use Rattle.doc_model.specs.declared.paragraph.What.TheOpen.{What-F, Par-F, Note-F}
use Rattle.doc_model.specs.declared.paragraph.What.TheViews.{out-roll-Par, out-roll-Note, out-roll-What}
use Rattle.doc_model.specs.declared.paragraph.Note.{Note, out-Note, roll-Note}
use Rattle.doc_model.specs.Alike.{IsAlike, in_note, in_paragraph, in_block, unnumbered}
use Rattle.doc_model.specs.Parts.{items_of}
use Rattle.doc_model.specs.Reading.{paragraphs, with_notes, note_of, block_paragraphs}
use Rattle.block_facts.proofs.Blocks.{of_blocks, par_reads, par_changes, section_reads, section_changes}

abbrev Layer : Type 0
Layer = Par-F What Item Note Par

-- a paragraph without its number
abbrev bare : Par → Par
bare par = roll-Par (record (out-Par par) { id = record { 0 = 0 } })

abbrev bare_layer : Layer → Layer
bare_layer x = record x { id = record { 0 = 0 } }

-- how many items a paragraph has
abbrev pub count : Par → ℕ
count par = length (items_of par)

abbrev pars_of : Note → List Par
pars_of note = (out-Note note).pars

abbrev in_what : What-F What Item Note Par → What
in_what (What-F.Note note) = roll-What (What-F.Note (roll-Note (record (out-Note note) { pars = map bare (out-Note note).pars })))
in_what other = roll-What other

-- one layer of a paragraph
bare_par : (par : Par) → count (bare par) ≡ count par
bare_par par = ap (λ (x : Layer). length x.items) (out-roll-Par (bare_layer (out-Par par)))

par_layer : (par : Par) → (out-Par (in_paragraph bare par)).items ≡ map (in_note bare) (items_of par)
par_layer par =
    ap (λ (x : Layer). x.items) (out-roll-Par (record (out-Par (bare par)) { items = map (in_note bare) (out-Par (bare par)).items }))
    ∙ ap (λ (x : Layer). map (in_note bare) x.items) (out-roll-Par (bare_layer (out-Par par)))

-- the paragraphs of notes
abbrev notes_in : What-F What Item Note Par → List Note
notes_in (What-F.Note note) = note ∷ []
notes_in _ = []

counted : (pars : List Par) → map count (map bare pars) ≡ map count pars
counted [] = refl
counted (par ∷ pars) = ap₂ (λ (here : ℕ) (more : List ℕ). here ∷ more) (bare_par par) (counted pars)

abbrev counts_in : What-F What Item Note Par → List ℕ
counts_in what = map count (flat_map pars_of (notes_in what))

what_counted : (what : What-F What Item Note Par) → counts_in (out-What (in_what what)) ≡ counts_in what
what_counted (What-F.Note note) =
    ap counts_in (out-roll-What _)
    ∙ ap (λ (layer : Note-F What Item Note Par). map count (layer.pars ++ [])) (out-roll-Note _)
    ∙ ap (map count) (append-nil (map bare (pars_of note))) ∙ counted (pars_of note) ∙ sym (ap (map count) (append-nil (pars_of note)))
what_counted (What-F.Char c) = ap counts_in (out-roll-What _)
what_counted What-F.Tab = ap counts_in (out-roll-What _)
what_counted What-F.Break = ap counts_in (out-roll-What _)
what_counted (What-F.Field field) = ap counts_in (out-roll-What _)
what_counted (What-F.Mark mark) = ap counts_in (out-roll-What _)

items_counted : (items : List Item) → map count (flat_map pars_of (flat_map note_of (map (in_note bare) items))) ≡ map count (flat_map pars_of (flat_map note_of items))
items_counted [] = refl
items_counted (item ∷ items) =
    ap (map count) (flat_map-append pars_of (note_of (in_note bare item)) (flat_map note_of (map (in_note bare) items)))
    ∙ map-append count (flat_map pars_of (note_of (in_note bare item))) (flat_map pars_of (flat_map note_of (map (in_note bare) items)))
    ∙ ap₂ (λ (here more : List ℕ). here ++ more) (what_counted (out-What (out-Item item).what)) (items_counted items)
    ∙ sym (ap (map count) (flat_map-append pars_of (note_of item) (flat_map note_of items)) ∙ map-append count (flat_map pars_of (note_of item)) (flat_map pars_of (flat_map note_of items)))

-- a paragraph with those of its notes
par_counted : (par : Par) → map count (with_notes (in_paragraph bare par)) ≡ map count (with_notes par)
par_counted par =
    ap₂ (λ (here : ℕ) (more : List ℕ). here ∷ more) (ap length (par_layer par) ∙ length-map (items_of par) (in_note bare))
    (ap (λ (items : List Item). map count (flat_map pars_of (flat_map note_of items))) (par_layer par) ∙ items_counted (items_of par))

abbrev counts : List Par → List ℕ
counts pars = map count (flat_map with_notes pars)

counts_both : (front front' back back' : List Par) → counts front ≡ counts front' → counts back ≡ counts back' → counts (front ++ back) ≡ counts (front' ++ back')
counts_both front front' back back' e f =
    ap (map count) (flat_map-append with_notes front back) ∙ map-append count (flat_map with_notes front) (flat_map with_notes back) ∙ ap₂ (λ (here more : List ℕ). here ++ more) e f
    ∙ sym (ap (map count) (flat_map-append with_notes front' back') ∙ map-append count (flat_map with_notes front') (flat_map with_notes back'))

-- blocks
abbrev IsCounted : Block → Type 0
IsCounted block = counts (block_paragraphs (in_block bare block)) ≡ counts (block_paragraphs block)

blocks_counted : (blocks : List Block) → Each IsCounted blocks → counts (flat_map block_paragraphs (map (in_block bare) blocks)) ≡ counts (flat_map block_paragraphs blocks)
blocks_counted [] known = refl
blocks_counted (block ∷ blocks) known =
    counts_both (block_paragraphs (in_block bare block)) (block_paragraphs block) (flat_map block_paragraphs (map (in_block bare) blocks)) (flat_map block_paragraphs blocks) known.0 (blocks_counted blocks known.1)

every_block : (blocks : List Block) → Each IsCounted blocks
every_block = of_blocks IsCounted
    (λ par. ap (λ (b : Block). counts (block_paragraphs b)) (par_changes bare par) ∙ ap counts (par_reads (in_paragraph bare par))
    ∙ ap (map count) (append-nil (with_notes (in_paragraph bare par))) ∙ par_counted par ∙ sym (ap (map count) (append-nil (with_notes par)))
    ∙ sym (ap counts (par_reads par)))
    (λ x known. ap (λ (b : Block). counts (block_paragraphs b)) (section_changes bare x) ∙ ap counts (section_reads (record x { blocks = map (in_block bare) x.blocks }))
    ∙ blocks_counted x.blocks known ∙ sym (ap counts (section_reads x)))

unnumbered_counted : (doc : Document) → map count (paragraphs (unnumbered doc)) ≡ map count (paragraphs doc)
unnumbered_counted doc = blocks_counted doc.body (every_block doc.body)

pub alike_counted : (left right : Document) → IsAlike left right → map count (paragraphs left) ≡ map count (paragraphs right)
alike_counted left right alike = sym (unnumbered_counted left) ∙ ap (λ (doc : Document). map count (paragraphs doc)) alike ∙ unnumbered_counted right
