-- Paragraphs with the sections round them, by rows in which no note begins within a note.
use Rattle.std.proofs.Common.{◌≡◌, List, [], ◌∷◌, ◌++◌, map, refl, ap, ap₂, sym, subst, ◌∙◌, append_assoc, append-nil, Some, None}
use Rattle.std.specs.List.{flat_map, AllByRecursion as Each}
use Rattle.std.proofs.lemmas.List.{map-append, length-map}
use Rattle.doc_model.specs.declared.block.Block.{Block}
use Rattle.doc_model.specs.declared.block.Block.TheOpen.{Section-F}
use Rattle.doc_model.specs.declared.block.Block.TheFolds.{fold-roll-Block, fold-roll-Section}
use Rattle.doc_model.specs.declared.block.Section.{Section}
use Rattle.doc_model.specs.declared.document.Document.{Document}
use Rattle.doc_model.specs.declared.paragraph.Note.{Note, out-Note}
use Rattle.doc_model.specs.declared.paragraph.Par.{Par}
use Rattle.doc_model.specs.Parts.{SectionHead}
use Rattle.doc_model.specs.Reading.{block_paragraphs, notes_of, with_notes}
use Rattle.edit_rules.specs.Places.{Placed, unplaced, placed_within, placed_in, placed_paragraphs, head_of}
use Rattle.node_array.specs.declared.row.Row.{Row}
use Rattle.node_array.specs.declared.row.Row.TheVariants as row
use Rattle.node_array.specs.declared.row.SectionHead.{SectionHead as RowHead}
use Rattle.node_array.specs.Rows.{par_rows, block_rows, rows_of}
use Rattle.paragraph_rows.specs.Flat.{AreFlat}
use Rattle.paragraph_rows.specs.OwnRow.{text_rows}
use Rattle.paragraph_rows.proofs.Lists.{each_front, each_behind}
use Rattle.paragraph_rows.proofs.Opened.{par_open}
use Rattle.block_facts.proofs.Blocks.{joined, par_block, section_block, of_blocks, par_reads, section_reads}
use Rattle.paragraph_rows.proofs.Blocks.{par_block_rows, section_block_rows}
use Rattle.paragraph_rows.proofs.FlatPars.{IsFlatNote, IsFlatPar, IsFlatBlock, flat_pars}
use Rattle.paragraph_rows.proofs.NoteRows.{alone_rows, grouped}
use Rattle.row_facts.specs.Around.{Opened, PlacedRow, sections_open, paragraphs_placed}
use Rattle.row_facts.specs.Paragraphs.{bare_of, row_head}

-- a paragraph with the sections round it, where so much more is open
abbrev pub within_opened : Opened → Placed → PlacedRow
within_opened opened placed = record { par = bare_of placed.par; around = map row_head placed.around ++ sections_open opened }

abbrev here : Opened → Par → PlacedRow
here opened par = record { par = bare_of par; around = sections_open opened }

placed_pars : (opened : Opened) (pars : List Par) (more : List Row) → Each (λ par. notes_of par ≡ []) pars
    → paragraphs_placed (None ∷ opened) (flat_map par_rows pars ++ (row.End ∷ more)) ≡ map (here opened) pars ++ paragraphs_placed opened more
placed_pars opened [] more none = refl
placed_pars opened (par ∷ pars) more none =
    ap (λ (rows : List Row). paragraphs_placed (None ∷ opened) ((rows ++ flat_map par_rows pars) ++ (row.End ∷ more))) (alone_rows par none.0)
    ∙ ap (λ (placed : List PlacedRow). here opened par ∷ placed) (placed_pars opened pars more none.1)

placed_texts : (opened : Opened) (some : List Note) (more : List Row) → Each IsFlatNote some
    → paragraphs_placed opened (flat_map text_rows some ++ more) ≡ map (here opened) (flat_map (λ note. (out-Note note).pars) some) ++ paragraphs_placed opened more
placed_texts opened [] more flat = refl
placed_texts opened (note ∷ some) more flat =
    let pars : List Par = (out-Note note).pars in
    let rest : List Par = flat_map (λ note. (out-Note note).pars) some in
    ap (paragraphs_placed opened) (grouped note some more)
    ∙ placed_pars opened pars (flat_map text_rows some ++ more) flat.0
    ∙ ap (λ (placed : List PlacedRow). map (here opened) pars ++ placed) (placed_texts opened some more flat.1)
    ∙ sym (append_assoc (map (here opened) pars) (map (here opened) rest) (paragraphs_placed opened more))
    ∙ ap (λ (placed : List PlacedRow). placed ++ paragraphs_placed opened more) (sym (map-append (here opened) pars rest))

-- one level of blocks
placed_par : (par : Par) → placed_in (par_block par) ≡ map unplaced (with_notes par)
placed_par par = simp fold-roll-Block

placed_section : (x : Section-F Block Section) → placed_in (section_block x) ≡ map (placed_within (head_of x)) (flat_map placed_in x.blocks)
placed_section x = opened ∙ ap (map (placed_within (head_of x))) (joined placed_in x.blocks) where
  opened : placed_in (section_block x) ≡ map (placed_within (head_of x)) (flat_map (λ placed. placed) (map placed_in x.blocks))
  opened = simp (fold-roll-Block, fold-roll-Section, length-map x.blocks placed_in)

unplaced_here : (opened : Opened) (pars : List Par) → map (here opened) pars ≡ map (within_opened opened) (map unplaced pars)
unplaced_here opened [] = refl
unplaced_here opened (par ∷ pars) = ap (λ (placed : List PlacedRow). here opened par ∷ placed) (unplaced_here opened pars)

within_section : (opened : Opened) (head : SectionHead) (some : List Placed)
    → map (within_opened (Some (row_head head) ∷ opened)) some ≡ map (within_opened opened) (map (placed_within head) some)
within_section opened head [] = refl
within_section opened head (placed ∷ some) =
    ap₂ (λ (around : List RowHead) (more : List PlacedRow). record { par = bare_of placed.par; around = around } ∷ more)
    (sym (append_assoc (map row_head placed.around) (row_head head ∷ []) (sections_open opened)) ∙ ap (λ (heads : List RowHead). heads ++ sections_open opened) (sym (map-append row_head placed.around (head ∷ []))))
    (within_section opened head some)

abbrev Places : Block → Type 0
Places block = IsFlatBlock block → (opened : Opened) (more : List Row)
    → paragraphs_placed opened (block_rows block ++ more) ≡ map (within_opened opened) (placed_in block) ++ paragraphs_placed opened more

places_blocks : (blocks : List Block) → Each Places blocks → Each IsFlatPar (flat_map block_paragraphs blocks) → (opened : Opened) (more : List Row)
    → paragraphs_placed opened (rows_of blocks ++ more) ≡ map (within_opened opened) (flat_map placed_in blocks) ++ paragraphs_placed opened more
places_blocks [] known flat opened more = refl
places_blocks (block ∷ blocks) known flat opened more =
    ap (paragraphs_placed opened) (append_assoc (block_rows block) (rows_of blocks) more)
    ∙ known.0 (each_front IsFlatPar (block_paragraphs block) (flat_map block_paragraphs blocks) flat) opened (rows_of blocks ++ more)
    ∙ ap (λ (placed : List PlacedRow). map (within_opened opened) (placed_in block) ++ placed)
    (places_blocks blocks known.1 (each_behind IsFlatPar (block_paragraphs block) (flat_map block_paragraphs blocks) flat) opened more)
    ∙ sym (append_assoc (map (within_opened opened) (placed_in block)) (map (within_opened opened) (flat_map placed_in blocks)) (paragraphs_placed opened more))
    ∙ ap (λ (placed : List PlacedRow). placed ++ paragraphs_placed opened more) (sym (map-append (within_opened opened) (placed_in block) (flat_map placed_in blocks)))

places_par : (par : Par) → Places (par_block par)
places_par par flat opened more =
    ap (λ (rows : List Row). paragraphs_placed opened (rows ++ more)) (par_block_rows par ∙ par_open par)
    ∙ ap (λ (placed : List PlacedRow). here opened par ∷ placed) (placed_texts opened (notes_of par) more (subst (Each IsFlatPar) (par_reads par) flat).0)
    ∙ ap (λ (placed : List PlacedRow). placed ++ paragraphs_placed opened more) (unplaced_here opened (with_notes par) ∙ ap (map (within_opened opened)) (sym (placed_par par)))

places_section : (x : Section-F Block Section) → Each Places x.blocks → Places (section_block x)
places_section x known flat opened more =
    ap (λ (rows : List Row). paragraphs_placed opened (rows ++ more)) (section_block_rows x)
    ∙ ap (paragraphs_placed (Some (row_head (head_of x)) ∷ opened)) (append_assoc (rows_of x.blocks) (row.End ∷ []) more)
    ∙ places_blocks x.blocks known (subst (Each IsFlatPar) (section_reads x) flat) (Some (row_head (head_of x)) ∷ opened) (row.End ∷ more)
    ∙ ap (λ (placed : List PlacedRow). placed ++ paragraphs_placed opened more)
    (within_section opened (head_of x) (flat_map placed_in x.blocks) ∙ ap (map (within_opened opened)) (sym (placed_section x)))

pub placed_rows : (doc : Document) → AreFlat (rows_of doc.body) → paragraphs_placed [] (rows_of doc.body) ≡ map (within_opened []) (placed_paragraphs doc)
placed_rows doc flat =
    ap (paragraphs_placed []) (sym (append-nil (rows_of doc.body)))
    ∙ places_blocks doc.body (of_blocks Places places_par places_section doc.body) (flat_pars doc.body flat) [] []
    ∙ append-nil (map (within_opened []) (placed_paragraphs doc))
