-- Where no note begins within a note, no paragraph of a note has notes.
use Rattle.std.proofs.Common.{◌≡◌, true, false, List, [], ◌∷◌, ◌++◌, refl, ap, sym, subst, ◌∙◌, append_assoc, append-nil}
use Rattle.std.specs.List.{flat_map, AllByRecursion as Each}
use Rattle.std.proofs.lemmas.Bool.{false≢true}
use Rattle.doc_model.specs.declared.block.Block.{Block}
use Rattle.doc_model.specs.declared.block.Block.TheOpen.{Section-F}
use Rattle.doc_model.specs.declared.block.Section.{Section}
use Rattle.doc_model.specs.declared.paragraph.Par.{Par}
use Rattle.doc_model.specs.declared.paragraph.Note.{Note, out-Note}
use Rattle.doc_model.specs.Reading.{block_paragraphs, notes_of}
use Rattle.node_array.specs.declared.row.Row.{Row}
use Rattle.node_array.specs.declared.row.Row.TheVariants as row
use Rattle.node_array.specs.Rows.{par_rows, block_rows, rows_of}
use Rattle.paragraph_rows.specs.OwnRow.{text_rows, rows_of_notes}
use Rattle.paragraph_rows.specs.Flat.{has_flat_notes, AreFlat}
use Rattle.paragraph_rows.proofs.Lists.{each_both}
use Rattle.paragraph_rows.proofs.Opened.{par_open}
use Rattle.block_facts.proofs.Blocks.{par_block, section_block, of_blocks, par_reads, section_reads}
use Rattle.paragraph_rows.proofs.Blocks.{par_block_rows, section_block_rows}

-- no paragraph of the note has notes
abbrev pub IsFlatNote : Note → Type 0
IsFlatNote note = Each (λ par. notes_of par ≡ []) (out-Note note).pars

abbrev pub IsFlatPar : Par → Type 0
IsFlatPar par = Each IsFlatNote (notes_of par)

abbrev pub IsFlatBlock : Block → Type 0
IsFlatBlock block = Each IsFlatPar (block_paragraphs block)

pub no_note_within : (notes : List Note) (more : List Row) → has_flat_notes true (flat_map text_rows notes ++ more) ≡ true → (notes ≡ []) × (has_flat_notes true more ≡ true)
no_note_within [] more flat = (refl, flat)
no_note_within (note ∷ notes) more flat = absurd (false≢true flat)

pars_within : (pars : List Par) (more : List Row) → has_flat_notes true (flat_map par_rows pars ++ more) ≡ true → Each (λ par. notes_of par ≡ []) pars × (has_flat_notes true more ≡ true)
pars_within [] more flat = (tt, flat)
pars_within (par ∷ pars) more flat =
    let behind : List Row = flat_map par_rows pars ++ more in
    let opened : has_flat_notes true (rows_of_notes par ++ behind) ≡ true =
    sym (ap (has_flat_notes true) (append_assoc (par_rows par) (flat_map par_rows pars) more) ∙ ap (λ (rows : List Row). has_flat_notes true (rows ++ behind)) (par_open par)) ∙ flat in
    let here = no_note_within (notes_of par) behind opened in
    let rest = pars_within pars more here.1 in
    ((here.0, rest.0), rest.1)

pub notes_flat : (notes : List Note) (more : List Row) → has_flat_notes false (flat_map text_rows notes ++ more) ≡ true → Each IsFlatNote notes × (has_flat_notes false more ≡ true)
notes_flat [] more flat = (tt, flat)
notes_flat (note ∷ notes) more flat =
    let pars : List Row = flat_map par_rows (out-Note note).pars in
    let behind : List Row = flat_map text_rows notes ++ more in
    let opened : has_flat_notes true (pars ++ (row.End ∷ behind)) ≡ true =
    sym (ap (has_flat_notes true) (append_assoc (pars ++ row.End ∷ []) (flat_map text_rows notes) more ∙ append_assoc pars (row.End ∷ []) behind)) ∙ flat in
    let here = pars_within (out-Note note).pars (row.End ∷ behind) opened in
    let rest = notes_flat notes more here.1 in
    ((here.0, rest.0), rest.1)

par_flat : (par : Par) (more : List Row) → has_flat_notes false (par_rows par ++ more) ≡ true → IsFlatPar par × (has_flat_notes false more ≡ true)
par_flat par more flat = notes_flat (notes_of par) more (sym (ap (λ (rows : List Row). has_flat_notes false (rows ++ more)) (par_open par)) ∙ flat)

-- the rows of a block, whatever follows
abbrev Flattens : Block → Type 0
Flattens block = (more : List Row) → has_flat_notes false (block_rows block ++ more) ≡ true → IsFlatBlock block × (has_flat_notes false more ≡ true)

blocks_flat : (blocks : List Block) (more : List Row) → Each Flattens blocks → has_flat_notes false (rows_of blocks ++ more) ≡ true
    → Each IsFlatPar (flat_map block_paragraphs blocks) × (has_flat_notes false more ≡ true)
blocks_flat [] more known flat = (tt, flat)
blocks_flat (block ∷ blocks) more known flat =
    let here = known.0 (rows_of blocks ++ more) (sym (ap (has_flat_notes false) (append_assoc (block_rows block) (rows_of blocks) more)) ∙ flat) in
    let rest = blocks_flat blocks more known.1 here.1 in
    (each_both IsFlatPar (block_paragraphs block) (flat_map block_paragraphs blocks) here.0 rest.0, rest.1)

par_block_flat : (par : Par) → Flattens (par_block par)
par_block_flat par more flat =
    let here = par_flat par more (sym (ap (λ (rows : List Row). has_flat_notes false (rows ++ more)) (par_block_rows par)) ∙ flat) in
    (subst (Each IsFlatPar) (sym (par_reads par)) (here.0, tt), here.1)

section_block_flat : (x : Section-F Block Section) → Each Flattens x.blocks → Flattens (section_block x)
section_block_flat x known more flat =
    let opened : has_flat_notes false (rows_of x.blocks ++ (row.End ∷ more)) ≡ true =
    sym (ap (λ (rows : List Row). has_flat_notes false (rows ++ more)) (section_block_rows x) ∙ ap (has_flat_notes false) (append_assoc (rows_of x.blocks) (row.End ∷ []) more)) ∙ flat in
    let here = blocks_flat x.blocks (row.End ∷ more) known opened in
    (subst (Each IsFlatPar) (sym (section_reads x)) here.0, here.1)

pub flat_pars : (body : List Block) → AreFlat (rows_of body) → Each IsFlatPar (flat_map block_paragraphs body)
flat_pars body flat =
    (blocks_flat body [] (of_blocks Flattens par_block_flat section_block_flat body) (ap (has_flat_notes false) (append-nil (rows_of body)) ∙ flat)).0
