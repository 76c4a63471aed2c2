-- Sections and their depth, under changes of paragraphs and by rows.
use Rattle.std.proofs.Common.{◌≡◌, ℕ, ◌+◌, List, [], ◌∷◌, ◌++◌, map, length, refl, ap, ap₂, sym, subst, ◌∙◌, append-nil}
use Rattle.std.specs.Prelude.{max, fold, filter}
use Rattle.std.specs.List.{flat_map, AllByRecursion as Each}
use Rattle.std.proofs.lemmas.List.{map-append, length-map}
use Rattle.std.proofs.lemmas.List.Concat.{flat_map-append}
use Rattle.doc_model.specs.declared.block.Block.{Block}
use Rattle.doc_model.specs.declared.block.Block.TheOpen.{Section-F}
use Rattle.doc_model.specs.declared.block.Block.TheFolds.{fold-roll-Block, fold-roll-Section}
use Rattle.doc_model.specs.declared.block.Section.{Section}
use Rattle.doc_model.specs.declared.document.Document.{Document}
use Rattle.doc_model.specs.declared.paragraph.Note.{Note, out-Note}
use Rattle.doc_model.specs.declared.paragraph.Par.{Par}
use Rattle.doc_model.specs.declared.refusal.Limit.TheVariants as limit
use Rattle.doc_model.specs.Alike.{in_block, in_document, in_paragraph}
use Rattle.doc_model.specs.Limits.{measure, greatest, counts_as_section}
use Rattle.doc_model.specs.Parts.{SectionHead, sections, block_sections, depth_of}
use Rattle.doc_model.specs.Reading.{block_paragraphs, notes_of}
use Rattle.edit_rules.specs.Places.{head_of}
use Rattle.node_array.specs.declared.row.Row.{Row}
use Rattle.node_array.specs.declared.row.Row.TheVariants as row
use Rattle.node_array.specs.declared.row.SectionHead.{SectionHead as RowHead}
use Rattle.node_array.specs.Rows.{par_rows, block_rows, rows_of}
use Rattle.paragraph_rows.specs.Flat.{AreFlat}
use Rattle.paragraph_rows.specs.OwnRow.{text_rows}
use Rattle.paragraph_rows.proofs.Lists.{filter_map, each_front, each_behind}
use Rattle.paragraph_rows.proofs.Opened.{par_open}
use Rattle.block_facts.proofs.Blocks.{joined, par_block, section_block, of_blocks, par_reads, par_changes, section_reads, section_changes}
use Rattle.paragraph_rows.proofs.Blocks.{par_block_rows, section_block_rows}
use Rattle.paragraph_rows.proofs.FlatPars.{IsFlatNote, IsFlatPar, IsFlatBlock, flat_pars}
use Rattle.paragraph_rows.proofs.NoteRows.{alone_rows}
use Rattle.row_facts.specs.Paragraphs.{section_in, row_head}

-- one level of blocks
par_sections : (par : Par) → block_sections (par_block par) ≡ []
par_sections par = simp fold-roll-Block

section_sections : (x : Section-F Block Section) → block_sections (section_block x) ≡ head_of x ∷ flat_map block_sections x.blocks
section_sections x = opened ∙ ap (λ (more : List SectionHead). head_of x ∷ more) (joined block_sections x.blocks) where
  opened : block_sections (section_block x) ≡ head_of x ∷ flat_map (λ some. some) (map block_sections x.blocks)
  opened = simp (fold-roll-Block, fold-roll-Section, length-map x.blocks block_sections)

par_depth : (par : Par) → depth_of (par_block par) ≡ 0
par_depth par = simp fold-roll-Block

section_depth : (x : Section-F Block Section) → depth_of (section_block x) ≡ 1 + fold max 0 (map depth_of x.blocks)
section_depth x = simp (fold-roll-Block, fold-roll-Section)

module _ (change : Par → Par) where
  abbrev Leaves : Block → Type 0
  Leaves block = (block_sections (in_block change block) ≡ block_sections block) × (depth_of (in_block change block) ≡ depth_of block)

  same_sections : (blocks : List Block) → Each Leaves blocks → flat_map block_sections (map (in_block change) blocks) ≡ flat_map block_sections blocks
  same_sections [] known = refl
  same_sections (block ∷ blocks) known = ap₂ (λ (here more : List SectionHead). here ++ more) known.0.0 (same_sections blocks known.1)

  same_depths : (blocks : List Block) → Each Leaves blocks → map depth_of (map (in_block change) blocks) ≡ map depth_of blocks
  same_depths [] known = refl
  same_depths (block ∷ blocks) known = ap₂ (λ (here : ℕ) (more : List ℕ). here ∷ more) known.0.1 (same_depths blocks known.1)

  leaves_par : (par : Par) → Leaves (par_block par)
  leaves_par par = (
    ap block_sections (par_changes change par) ∙ par_sections (in_paragraph change par) ∙ sym (par_sections par),
    ap depth_of (par_changes change par) ∙ par_depth (in_paragraph change par) ∙ sym (par_depth par),
  )

  leaves_section : (x : Section-F Block Section) → Each Leaves x.blocks → Leaves (section_block x)
  leaves_section x known =
      let later : Section-F Block Section = record x { blocks = map (in_block change) x.blocks } in
      let count : length (map (in_block change) x.blocks) ≡ length x.blocks = length-map x.blocks (in_block change) in (
        ap block_sections (section_changes change x) ∙ section_sections later
            ∙ ap₂ (λ (n : ℕ) (more : List SectionHead). record (head_of x) { blocks = n } ∷ more) count (same_sections x.blocks known) ∙ sym (section_sections x),
        ap depth_of (section_changes change x) ∙ section_depth later ∙ ap (λ (depths : List ℕ). 1 + fold max 0 depths) (same_depths x.blocks known) ∙ sym (section_depth x),
      )

pub sections_left : (doc : Document) (change : Par → Par) → sections (in_document change doc) ≡ sections doc
sections_left doc change = same_sections change doc.body (of_blocks (Leaves change) (leaves_par change) (leaves_section change) doc.body)

pub count_left : (doc : Document) (change : Par → Par) → measure (in_document change doc) limit.Sections ≡ measure doc limit.Sections
count_left doc change = ap (λ (some : List SectionHead). length (filter (λ section. counts_as_section section.kind) some)) (sections_left doc change)

pub depth_left : (doc : Document) (change : Par → Par) → measure (in_document change doc) limit.SectionDepth ≡ measure doc limit.SectionDepth
depth_left doc change = ap greatest (same_depths change doc.body (of_blocks (Leaves change) (leaves_par change) (leaves_section change) doc.body))

-- the rows that begin sections
no_section_alone : (pars : List Par) → Each (λ par. notes_of par ≡ []) pars → flat_map section_in (flat_map par_rows pars) ≡ []
no_section_alone [] none = refl
no_section_alone (par ∷ pars) none =
    ap (λ (rows : List Row). flat_map section_in (rows ++ flat_map par_rows pars)) (alone_rows par none.0) ∙ no_section_alone pars none.1

no_section : (some : List Note) → Each IsFlatNote some → flat_map section_in (flat_map text_rows some) ≡ []
no_section [] flat = refl
no_section (note ∷ some) flat =
    flat_map-append section_in (text_rows note) (flat_map text_rows some)
    ∙ ap₂ (λ (here more : List RowHead). here ++ more)
    (flat_map-append section_in (flat_map par_rows (out-Note note).pars) (row.End ∷ []) ∙ append-nil (flat_map section_in (flat_map par_rows (out-Note note).pars)) ∙ no_section_alone (out-Note note).pars flat.0)
    (no_section some flat.1)

abbrev Begun : Block → Type 0
Begun block = IsFlatBlock block → flat_map section_in (block_rows block) ≡ map row_head (block_sections block)

begun_blocks : (blocks : List Block) → Each Begun blocks → Each IsFlatPar (flat_map block_paragraphs blocks) → flat_map section_in (rows_of blocks) ≡ map row_head (flat_map block_sections blocks)
begun_blocks [] known flat = refl
begun_blocks (block ∷ blocks) known flat =
    flat_map-append section_in (block_rows block) (rows_of blocks)
    ∙ ap₂ (λ (here more : List RowHead). here ++ more) (known.0 (each_front IsFlatPar (block_paragraphs block) (flat_map block_paragraphs blocks) flat))
    (begun_blocks blocks known.1 (each_behind IsFlatPar (block_paragraphs block) (flat_map block_paragraphs blocks) flat))
    ∙ sym (map-append row_head (block_sections block) (flat_map block_sections blocks))

begun_par : (par : Par) → Begun (par_block par)
begun_par par flat =
    ap (flat_map section_in) (par_block_rows par ∙ par_open par) ∙ no_section (notes_of par) (subst (Each IsFlatPar) (par_reads par) flat).0
    ∙ ap (map row_head) (sym (par_sections par))

begun_section : (x : Section-F Block Section) → Each Begun x.blocks → Begun (section_block x)
begun_section x known flat =
    ap (flat_map section_in) (section_block_rows x)
    ∙ ap (λ (more : List RowHead). row_head (head_of x) ∷ more)
    (flat_map-append section_in (rows_of x.blocks) (row.End ∷ []) ∙ append-nil (flat_map section_in (rows_of x.blocks)) ∙ begun_blocks x.blocks known (subst (Each IsFlatPar) (section_reads x) flat))
    ∙ ap (map row_head) (sym (section_sections x))

pub sections_begun : (doc : Document) → AreFlat (rows_of doc.body) → flat_map section_in (rows_of doc.body) ≡ map row_head (sections doc)
sections_begun doc flat = begun_blocks doc.body (of_blocks Begun begun_par begun_section doc.body) (flat_pars doc.body flat)

pub sections_counted : (doc : Document) → AreFlat (rows_of doc.body) → measure doc limit.Sections ≡ length (filter (λ head. counts_as_section head.kind) (flat_map section_in (rows_of doc.body)))
sections_counted doc flat =
    sym (length-map (filter (λ section. counts_as_section section.kind) (sections doc)) row_head)
    ∙ ap (length {A = RowHead}) (filter_map row_head (λ section. counts_as_section section.kind) (λ head. counts_as_section head.kind) (λ section. refl) (sections doc))
    ∙ ap (λ (heads : List RowHead). length (filter (λ head. counts_as_section head.kind) heads)) (sym (sections_begun doc flat))
