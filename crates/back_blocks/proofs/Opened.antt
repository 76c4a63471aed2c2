-- Blocks as they are written, one level deep.
use Rattle.std.proofs.Common.{◌≡◌, ◌++◌, map, codes}
use Rattle.doc_model.specs.declared.block.Block.{Block}
use Rattle.doc_model.specs.declared.block.Block.TheOpen.{Section-F}
use Rattle.doc_model.specs.declared.block.Block.TheFolds.{fold-roll-Block, fold-roll-Section}
use Rattle.doc_model.specs.declared.block.Section.{Section}
use Rattle.doc_model.specs.declared.paragraph.Par.{Par}
use Rattle.block_facts.proofs.Blocks.{par_block, section_block}
use Rattle.written_model.specs.Blocks.{block_element, note_element, paragraph, source_element}
use Rattle.written_model.specs.Elements.{element, unless_empty, where_true}

pub element_par : (par : Par) → block_element (par_block par) ≡ paragraph note_element par
element_par par = simp fold-roll-Block

pub element_section : (x : Section-F Block Section) → block_element (section_block x)
    ≡ element (codes "text:section")
    (unless_empty (codes "text:style-name") x.style ++ unless_empty (codes "text:name") x.name ++ where_true (codes "text:protected") (codes "true") x.protected ++ where_true (codes "text:display") (codes "none") x.hidden)
    (source_element x.source ++ map block_element x.blocks)
element_section x = simp (fold-roll-Block, fold-roll-Section)
