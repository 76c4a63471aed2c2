-- What the first paragraphs of lists and items begin.
use Rattle.std.specs.Prelude.{ℕ, zero, suc, Bool, true, false, List, [], ◌∷◌, ◌++◌, map}
use Rattle.doc_model.specs.declared.block.Block.{Block, out-Block, roll-Block}
use Rattle.doc_model.specs.declared.block.Block.TheOpen.{Block-F}
use Rattle.doc_model.specs.declared.block.Section.{Section}
use Rattle.doc_model.specs.declared.paragraph.ListPos.{ListPos}
use Rattle.load_model.specs.Blocks.{as_block, with_place, paragraphs_of}
use Rattle.block_parts.specs.declared.begins.Begins.{Begins}
use Rattle.block_parts.specs.declared.begins.Begins.TheVariants as begins

-- a list place at which something begins
abbrev pub begun : Begins → ListPos → ListPos
begun begins.Item place = record place { item = true }
begun begins.Counting place = record place { fresh = true }

-- whether a block is a section
abbrev pub is_section : Block → Bool
is_section block = of_block (out-Block block) where
  of_block : Block-F Block Section → Bool
  of_block (Block-F.Par par) = false
  of_block (Block-F.Section section) = true

-- a block whose list place is changed, if it is a paragraph
abbrev pub changed_block : (ListPos → ListPos) → Block → Block
changed_block change block = of_block (out-Block block) where
  of_block : Block-F Block Section → Block
  of_block (Block-F.Par par) = as_block (with_place change par)
  of_block (Block-F.Section section) = roll-Block (Block-F.Section section)

-- blocks of which the one at a place has its list place changed; a section there goes
abbrev pub changed_at : (ListPos → ListPos) → ℕ → List Block → List Block
changed_at change at [] = []
changed_at change zero (block ∷ blocks) = map (λ par. as_block (with_place change par)) (paragraphs_of (block ∷ [])) ++ blocks
changed_at change (suc at) (block ∷ blocks) = block ∷ changed_at change at blocks
