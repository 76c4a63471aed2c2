-- The names of a document of which a section is set.
use Rattle.std.proofs.Common.{◌≡◌, ℕ, Bool, true, false, List, [], ◌∷◌, ◌++◌, map, take, refl, ap, ap₂, sym, ◌∙◌}
use Rattle.std.specs.Prelude.{if◌then◌else◌}
use Rattle.std.specs.List.{flat_map, AllByRecursion as Each}
use Rattle.std.specs.Str.{bytes_eq}
use Rattle.doc_model.specs.declared.block.Block.{Block}
use Rattle.doc_model.specs.declared.block.Block.TheOpen.{Section-F}
use Rattle.doc_model.specs.declared.block.Block.TheFolds.{fold-roll-Block, fold-roll-Section}
use Rattle.doc_model.specs.declared.block.Section.{Section}
use Rattle.doc_model.specs.declared.document.Document.{Document}
use Rattle.doc_model.specs.declared.edit.EditOp.TheVariants.{SetSection}
use Rattle.doc_model.specs.declared.paragraph.Par.{Par}
use Rattle.doc_model.specs.declared.paragraph.ParId.{ParId}
use Rattle.doc_model.specs.Reading.{block_paragraphs}
use Rattle.edit_rules.specs.Blocks.{with_section_set}
use Rattle.edit_rules.specs.Edited.{edited_document}
use Rattle.name_index.specs.Scan.{names_of}
use Rattle.block_facts.proofs.Blocks.{par_block, section_block, of_blocks, section_reads}
use Rattle.names_change.proofs.Lead.{Pairs}
use Rattle.names_change.proofs.SectionStarts.{numbers_in, sections_in, section_numbers, section_sections}
use Rattle.names_change.proofs.ByKind.{all_same}

module _ (name : List ℕ) (protected hidden : Bool) where
  abbrev set : Block → Block
  set block = with_section_set name protected hidden block

  -- the section with these blocks, set or not
  abbrev layer : Bool → Section-F Block Section → List Block → Section-F Block Section
  layer test x blocks = if test then record x { protected = protected; hidden = hidden; blocks = blocks } else record x { blocks = blocks }

  par_set : (par : Par) → set (par_block par) ≡ par_block par
  par_set par = simp fold-roll-Block

  section_set : (x : Section-F Block Section) → set (section_block x) ≡ section_block (layer (bytes_eq x.name name) x (map set x.blocks))
  section_set x = simp (fold-roll-Block, fold-roll-Section)

  -- a block that is set has the same paragraphs and names
  record Stays (block : Block) : Type 0 where
    pars : block_paragraphs (set block) ≡ block_paragraphs block
    numbers : numbers_in (set block) ≡ numbers_in block
    sections : sections_in (set block) ≡ sections_in block

  par_stays : (par : Par) → Stays (par_block par)
  par_stays par = record { pars = ap block_paragraphs (par_set par); numbers = ap numbers_in (par_set par); sections = ap sections_in (par_set par) }

  all_pars : (blocks : List Block) → Each Stays blocks → flat_map block_paragraphs (map set blocks) ≡ flat_map block_paragraphs blocks
  all_pars [] known = refl
  all_pars (block ∷ blocks) known = ap₂ (λ (a b : List Par). a ++ b) known.0.pars (all_pars blocks known.1)

  all_numbers : (blocks : List Block) → Each Stays blocks → flat_map numbers_in (map set blocks) ≡ flat_map numbers_in blocks
  all_numbers [] known = refl
  all_numbers (block ∷ blocks) known = ap₂ (λ (a b : List ParId). a ++ b) known.0.numbers (all_numbers blocks known.1)

  all_sections : (blocks : List Block) → Each Stays blocks → flat_map sections_in (map set blocks) ≡ flat_map sections_in blocks
  all_sections [] known = refl
  all_sections (block ∷ blocks) known = ap₂ (λ (a b : Pairs). a ++ b) known.0.sections (all_sections blocks known.1)

  layer_pars : (test : Bool) (x : Section-F Block Section) (blocks : List Block) → block_paragraphs (section_block (layer test x blocks)) ≡ flat_map block_paragraphs blocks
  layer_pars true x blocks = section_reads (layer true x blocks)
  layer_pars false x blocks = section_reads (layer false x blocks)

  layer_numbers : (test : Bool) (x : Section-F Block Section) (blocks : List Block) → numbers_in (section_block (layer test x blocks)) ≡ flat_map numbers_in blocks
  layer_numbers true x blocks = section_numbers (layer true x blocks)
  layer_numbers false x blocks = section_numbers (layer false x blocks)

  layer_sections : (test : Bool) (x : Section-F Block Section) (blocks : List Block)
      → sections_in (section_block (layer test x blocks)) ≡ map (λ number. (x.name, number)) (take 1 (flat_map numbers_in blocks)) ++ flat_map sections_in blocks
  layer_sections true x blocks = section_sections (layer true x blocks)
  layer_sections false x blocks = section_sections (layer false x blocks)

  section_stays : (x : Section-F Block Section) → Each Stays x.blocks → Stays (section_block x)
  section_stays x known =
      let test : Bool = bytes_eq x.name name in
      record {
        pars = ap block_paragraphs (section_set x) ∙ layer_pars test x (map set x.blocks) ∙ all_pars x.blocks known ∙ sym (section_reads x);
        numbers = ap numbers_in (section_set x) ∙ layer_numbers test x (map set x.blocks) ∙ all_numbers x.blocks known ∙ sym (section_numbers x);
        sections =
            ap sections_in (section_set x) ∙ layer_sections test x (map set x.blocks)
            ∙ ap₂ (λ (numbers : List ParId) (some : Pairs). map (λ number. (x.name, number)) (take 1 numbers) ++ some) (all_numbers x.blocks known) (all_sections x.blocks known)
            ∙ sym (section_sections x);
      }

pub set_follow : (next : ℕ) (doc : Document) (name : List ℕ) (protected hidden : Bool) → names_of (edited_document next (SetSection name protected hidden) doc) ≡ names_of doc
set_follow next doc name protected hidden =
    let known : Each (Stays name protected hidden) doc.body = of_blocks (Stays name protected hidden) (par_stays name protected hidden) (section_stays name protected hidden) doc.body in
    all_same doc (edited_document next (SetSection name protected hidden) doc) (all_pars name protected hidden doc.body known) (all_sections name protected hidden doc.body known)
