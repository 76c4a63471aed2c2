-- Sections that are unwrapped: the paragraphs are the same.
use Rattle.std.proofs.Common.{◌≡◌, ℕ, Bool, true, false, List, [], ◌∷◌, ◌++◌, map, refl, ap, ap₂, sym, ◌∙◌, subst, append_assoc, append-nil}
use Rattle.std.specs.Prelude.{if◌then◌else◌}
use Rattle.std.specs.List.{flat_map, AllByRecursion as Each}
use Rattle.std.specs.Str.{bytes_eq}
use Rattle.std.proofs.lemmas.List.Concat.{flat_map-append}
use Rattle.std.proofs.lemmas.List.Folds.{flat_map-map}
use Rattle.doc_model.specs.declared.block.Block.{Block}
use Rattle.doc_model.specs.declared.block.Block.TheOpen.{Section-F}
use Rattle.doc_model.specs.declared.block.Block.TheViews.{out-roll-Block, out-roll-Section}
use Rattle.doc_model.specs.declared.block.Section.{Section}
use Rattle.doc_model.specs.declared.document.Document.{Document}
use Rattle.doc_model.specs.declared.edit.EditOp.TheVariants.{UnwrapSection}
use Rattle.doc_model.specs.declared.paragraph.Par.{Par}
use Rattle.doc_model.specs.Reading.{block_paragraphs, notes_of, number_of, with_notes}
use Rattle.edit_rules.specs.Blocks.{of_paragraphs, within_block, unwrapped}
use Rattle.edit_rules.specs.Edited.{Edited, edited, edited_document}
use Rattle.edit_rules.specs.Places.{paragraph_of}
use Rattle.node_array.specs.declared.row.Row.{Row}
use Rattle.node_array.specs.declared.row.Row.TheVariants as row
use Rattle.node_array.specs.Rows.{block_rows, rows_of}
use Rattle.container_rows.proofs.Parts.{par_within, section_within}
use Rattle.container_rows.proofs.Tests.{pars_back}
use Rattle.section_rows.proofs.Unwrap.{notes_same}
use Rattle.paragraph_rows.specs.Flat.{has_flat_notes, AreFlat}
use Rattle.paragraph_rows.proofs.Lists.{each_front, each_behind}
use Rattle.paragraph_rows.proofs.Opened.{par_open}
use Rattle.block_facts.proofs.Blocks.{par_block, section_block, of_blocks, par_reads, section_reads}
use Rattle.paragraph_rows.proofs.Blocks.{par_block_rows, section_block_rows}
use Rattle.paragraph_rows.proofs.FlatPars.{IsFlatPar, IsFlatBlock, flat_pars}
use Rattle.paragraph_rows.proofs.ValidRows.{flat_texts, row_numbers}
use Rattle.row_edits.specs.Sound.{IsSound}
use Rattle.rows_stay_sound.proofs.Neutral.{sound_as, kept}

-- rows of paragraphs whose notes hold none are flat
abbrev Keeps : Block → Type 0
Keeps block = IsFlatBlock block → (more : List Row) → has_flat_notes false (block_rows block ++ more) ≡ has_flat_notes false more

all_keep : (blocks : List Block) → Each Keeps blocks → Each IsFlatPar (flat_map block_paragraphs blocks) → (more : List Row) → has_flat_notes false (rows_of blocks ++ more) ≡ has_flat_notes false more
all_keep [] known flat more = refl
all_keep (block ∷ blocks) known flat more =
    ap (has_flat_notes false) (append_assoc (block_rows block) (rows_of blocks) more)
    ∙ known.0 (each_front IsFlatPar (block_paragraphs block) (flat_map block_paragraphs blocks) flat) (rows_of blocks ++ more)
    ∙ all_keep blocks known.1 (each_behind IsFlatPar (block_paragraphs block) (flat_map block_paragraphs blocks) flat) more

par_keeps : (par : Par) → Keeps (par_block par)
par_keeps par flat more =
    ap (λ (rows : List Row). has_flat_notes false (rows ++ more)) (par_block_rows par ∙ par_open par)
    ∙ flat_texts (notes_of par) more (subst (Each IsFlatPar) (par_reads par) flat).0

section_keeps : (x : Section-F Block Section) → Each Keeps x.blocks → Keeps (section_block x)
section_keeps x known flat more =
    ap (λ (rows : List Row). has_flat_notes false (rows ++ more)) (section_block_rows x)
    ∙ ap (has_flat_notes false) (append_assoc (rows_of x.blocks) (row.End ∷ []) more)
    ∙ all_keep x.blocks known (subst (Each IsFlatPar) (section_reads x) flat) (row.End ∷ more)

pub flat_body : (body : List Block) → Each IsFlatPar (flat_map block_paragraphs body) → AreFlat (rows_of body)
flat_body body flat = ap (has_flat_notes false) (sym (append-nil (rows_of body))) ∙ all_keep body (of_blocks Keeps par_keeps section_keeps body) flat []

-- a section of a name
module _ (name : List ℕ) where
  -- what a block leaves
  abbrev pub left : Block → List Block
  left block = unwrapped name (within_block (flat_map (unwrapped name)) block)

  par_left : (par : Par) → unwrapped name (par_block par) ≡ par_block par ∷ []
  par_left par = simp out-roll-Block

  pars_left : (pars : List Par) → flat_map (unwrapped name) (map par_block pars) ≡ map par_block pars
  pars_left [] = refl
  pars_left (par ∷ pars) = ap₂ (λ a b. a ++ b) (par_left par) (pars_left pars)

  pars_same : (pars : List Par) → of_paragraphs (flat_map (unwrapped name)) pars ≡ pars
  pars_same pars = ap (flat_map paragraph_of) (pars_left pars) ∙ pars_back pars

  pub left_par : (par : Par) → left (par_block par) ≡ par_block par ∷ []
  left_par par = ap (unwrapped name) (par_within (flat_map (unwrapped name)) par ∙ ap par_block (notes_same (of_paragraphs (flat_map (unwrapped name))) pars_same par)) ∙ par_left par

  abbrev Same : Block → Type 0
  Same block = flat_map block_paragraphs (left block) ≡ block_paragraphs block

  par_same : (par : Par) → Same (par_block par)
  par_same par = ap (flat_map block_paragraphs) (left_par par) ∙ append-nil (block_paragraphs (par_block par))

  -- the paragraphs of blocks one after another
  all_same : (blocks : List Block) → Each Same blocks → flat_map block_paragraphs (flat_map left blocks) ≡ flat_map block_paragraphs blocks
  all_same [] known = refl
  all_same (block ∷ blocks) known =
      flat_map-append block_paragraphs (left block) (flat_map left blocks) ∙ ap₂ (λ (here more : List Par). here ++ more) known.0 (all_same blocks known.1)

  abbrev pub with_blocks : Section-F Block Section → List Block → Section-F Block Section
  with_blocks x blocks = record x { blocks = blocks }

  section_opens : (x : Section-F Block Section) → unwrapped name (section_block x) ≡ (if bytes_eq x.name name then x.blocks else section_block x ∷ [])
  section_opens x =
      let one : unwrapped name (section_block x) ≡ _ = simp out-roll-Block (ap (λ (l : Section-F Block Section). if bytes_eq l.name name then l.blocks else section_block x ∷ []) (out-roll-Section x)) in
      one

  pub left_section : (x : Section-F Block Section) → left (section_block x) ≡ (if bytes_eq x.name name then flat_map left x.blocks else section_block (with_blocks x (flat_map left x.blocks)) ∷ [])
  left_section x =
      let within : within_block (flat_map (unwrapped name)) (section_block x) ≡ section_block (with_blocks x (flat_map left x.blocks)) =
      section_within (flat_map (unwrapped name)) x ∙ ap (λ (blocks : List Block). section_block (with_blocks x blocks)) (flat_map-map (unwrapped name) (within_block (flat_map (unwrapped name))) x.blocks)
      in
      ap (unwrapped name) within ∙ section_opens (with_blocks x (flat_map left x.blocks))

  left_pars : (x : Section-F Block Section) (test : Bool) → flat_map block_paragraphs (if test then x.blocks else section_block x ∷ []) ≡ flat_map block_paragraphs x.blocks
  left_pars x true = refl
  left_pars x false = append-nil (block_paragraphs (section_block x)) ∙ section_reads x

  section_same : (x : Section-F Block Section) → Each Same x.blocks → Same (section_block x)
  section_same x known =
      ap (flat_map block_paragraphs) (left_section x)
      ∙ left_pars (with_blocks x (flat_map left x.blocks)) (bytes_eq x.name name)
      ∙ all_same x.blocks known ∙ sym (section_reads x)

  pub body_same : (body : List Block) → flat_map block_paragraphs (flat_map (unwrapped name) (map (within_block (flat_map (unwrapped name))) body)) ≡ flat_map block_paragraphs body
  body_same body =
      ap (flat_map block_paragraphs) (flat_map-map (unwrapped name) (within_block (flat_map (unwrapped name))) body)
      ∙ all_same body (of_blocks Same par_same section_same body)

pub unwrap_kept : (old : Edited) (name : List ℕ) → IsSound old → IsSound (edited old (UnwrapSection name))
unwrap_kept old name sound =
    let new : Document = edited_document old.next (UnwrapSection name) old.document in
    let same : flat_map block_paragraphs new.body ≡ flat_map block_paragraphs old.document.body = body_same name old.document.body in
    let flat : AreFlat (rows_of new.body) = flat_body new.body (subst (Each IsFlatPar) (sym same) (flat_pars old.document.body sound.flat)) in
    kept old (UnwrapSection name) refl
    (sound_as old.next (rows_of old.document.body) (rows_of new.body)
    (row_numbers new flat ∙ ap (λ (pars : List Par). map number_of (flat_map with_notes pars)) same ∙ sym (row_numbers old.document sound.flat))
    flat sound)
