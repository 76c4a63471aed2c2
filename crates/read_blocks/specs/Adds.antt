-- What is read where blocks are, and what is added to it.
use Rattle.std.specs.Prelude.{◌≡◌, Bool, List, [], ◌∷◌, ◌++◌, map}
use Rattle.doc_model.specs.declared.block.Block.{Block}
use Rattle.load_model.specs.Blocks as blocks
use Rattle.load_model.specs.Blocks.{no_blocks}
use Rattle.load_model.specs.Left.{Left, both}
use Rattle.element_parts.specs.Shown.{shown}
use Rattle.read_blocks.specs.declared.read.ReadBlocks.{ReadBlocks}
use Rattle.read_blocks.specs.Kept.{kept_block}
use Rattle.read_blocks.specs.Shown.{shown_source, shown_declarations}

-- what is kept is this: blocks with list places of at most ten levels, sources, declarations, and what is left out as it is shown
pub record AreBlocks (in_note : Bool) (read : ReadBlocks) (all : blocks.ReadBlocks) : Type 0 where
  pub blocks_are : read.blocks.items ≡ map (kept_block in_note) all.blocks
  pub sources_are : read.sources.items ≡ map shown_source all.sources
  pub declarations_are : read.declarations.items ≡ map shown_declarations all.declarations
  pub left_is : read.left ≡ shown all.left

-- what is kept, and then more
pub record Adds (in_note : Bool) (old new : ReadBlocks) (more : blocks.ReadBlocks) : Type 0 where
  pub blocks_are : new.blocks.items ≡ old.blocks.items ++ map (kept_block in_note) more.blocks
  pub sources_are : new.sources.items ≡ old.sources.items ++ map shown_source more.sources
  pub declarations_are : new.declarations.items ≡ old.declarations.items ++ map shown_declarations more.declarations
  pub left_is : (left : Left) → old.left ≡ shown left → new.left ≡ shown (both left more.left)

-- a block, with what is left out round it
abbrev pub one_block : Block → Left → blocks.ReadBlocks
one_block block left = record (no_blocks left) { blocks = block ∷ [] }

-- what is read one after the other
abbrev pub joined_with : blocks.ReadBlocks → blocks.ReadBlocks → blocks.ReadBlocks
joined_with one other = record {
  blocks = one.blocks ++ other.blocks;
  sources = one.sources ++ other.sources;
  declarations = one.declarations ++ other.declarations;
  left = both one.left other.left;
}
