-- The rows of blocks, one level deep.
use Rattle.std.proofs.Common.{◌≡◌, List, [], ◌∷◌, ◌++◌, map, ◌∙◌, ap}
use Rattle.std.specs.List.{flat_map}
use Rattle.doc_model.specs.declared.block.Block.{Block}
use Rattle.doc_model.specs.declared.block.Block.TheOpen.{Section-F}
use Rattle.doc_model.specs.declared.block.Section.{Section}
use Rattle.doc_model.specs.declared.block.Block.TheFolds.{fold-roll-Block, fold-roll-Section}
use Rattle.doc_model.specs.declared.paragraph.Par.{Par}
use Rattle.node_array.specs.declared.row.Row.{Row}
use Rattle.node_array.specs.declared.row.SectionHead.{SectionHead}
use Rattle.node_array.specs.declared.row.Row.TheVariants as row
use Rattle.node_array.specs.Rows.{par_rows, block_rows}
use Rattle.block_facts.proofs.Blocks.{par_block, section_block, joined}

-- what a section's row keeps of it
abbrev pub section_head : Section-F Block Section → SectionHead
section_head x = record { kind = x.kind; name = x.name; style = x.style; protected = x.protected; hidden = x.hidden; source = x.source }

pub par_block_rows : (par : Par) → block_rows (par_block par) ≡ par_rows par
par_block_rows par = simp fold-roll-Block

section_opens : (x : Section-F Block Section) → block_rows (section_block x) ≡ row.Start (section_head x) ∷ (flat_map (λ rows. rows) (map block_rows x.blocks) ++ row.End ∷ [])
section_opens x = simp (fold-roll-Block, fold-roll-Section)

pub section_block_rows : (x : Section-F Block Section) → block_rows (section_block x) ≡ row.Start (section_head x) ∷ (flat_map block_rows x.blocks ++ row.End ∷ [])
section_block_rows x = section_opens x ∙ ap (λ (rows : List Row). row.Start (section_head x) ∷ (rows ++ row.End ∷ [])) (joined block_rows x.blocks)
