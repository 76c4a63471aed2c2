-- The paragraphs of a document as they stand are those that are read.
use Rattle.std.proofs.Common.{◌≡◌, Bool, List, [], ◌∷◌, ◌++◌, map, refl, sym, ap, ap₂, ◌∙◌}
use Rattle.std.specs.List.{flat_map, AllByRecursion as Each}
use Rattle.std.proofs.lemmas.List.{map-append}
use Rattle.doc_model.specs.declared.block.Block.{Block}
use Rattle.doc_model.specs.declared.block.Block.TheOpen.{Section-F}
use Rattle.doc_model.specs.declared.block.Block.TheFolds.{fold-roll-Block, fold-roll-Section}
use Rattle.doc_model.specs.declared.block.Section.{Section}
use Rattle.doc_model.specs.declared.paragraph.Par.{Par}
use Rattle.block_facts.proofs.Blocks.{par_block, section_block, joined, of_blocks, section_reads}
use Rattle.doc_model.specs.Reading.{block_paragraphs}
use Rattle.format_model.specs.Standing.{BodyPar, body_pars_in, within_section}

abbrev par_in : BodyPar → Par
par_in placed = placed.par

-- the paragraphs of a block are read as they are placed
abbrev IsRead : Block → Type 0
IsRead block = map par_in (body_pars_in block) ≡ block_paragraphs block

within : (hidden : Bool) (placed : List BodyPar) → map par_in (map (within_section hidden) placed) ≡ map par_in placed
within hidden [] = refl
within hidden (one ∷ more) = ap (λ pars. one.par ∷ pars) (within hidden more)

pub all_read : (blocks : List Block) → Each IsRead blocks → map par_in (flat_map body_pars_in blocks) ≡ flat_map block_paragraphs blocks
all_read [] h = refl
all_read (block ∷ blocks) h =
    map-append par_in (body_pars_in block) (flat_map body_pars_in blocks) ∙ ap₂ (λ (front back : List Par). front ++ back) h.0 (all_read blocks h.1)

par_read : (par : Par) → IsRead (par_block par)
par_read par = simp fold-roll-Block

placed_opens : (x : Section-F Block Section) → body_pars_in (section_block x) ≡ map (within_section x.hidden) (flat_map (λ placed. placed) (map body_pars_in x.blocks))
placed_opens x = simp (fold-roll-Block, fold-roll-Section)

section_read : (x : Section-F Block Section) → Each IsRead x.blocks → IsRead (section_block x)
section_read x h =
    ap (map par_in) (placed_opens x) ∙ within x.hidden (flat_map (λ placed. placed) (map body_pars_in x.blocks))
    ∙ ap (map par_in) (joined body_pars_in x.blocks) ∙ all_read x.blocks h ∙ sym (section_reads x)

-- the paragraphs of blocks
pub blocks_read : (blocks : List Block) → map par_in (flat_map body_pars_in blocks) ≡ flat_map block_paragraphs blocks
blocks_read blocks = all_read blocks (of_blocks IsRead par_read section_read blocks)
