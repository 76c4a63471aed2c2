-- The first block that passes a test.
use Rattle.std.specs.Prelude.{ℕ, ◌+◌, suc, Bool, if◌then◌else◌, List, [], ◌∷◌, Option, Some, None}
use Rattle.std.specs.Option.{option_map}
use Rattle.doc_model.specs.declared.block.Block.{Block}
use Rattle.load_model.specs.Blocks as blocks
use Rattle.load_model.specs.Blocks.{first_changed}
use Rattle.block_parts.specs.Begins.{begun}
use Rattle.block_parts.specs.declared.begins.Begins.{Begins}

-- its place, from 0
abbrev pub first_place : (Block → Bool) → List Block → Option ℕ
first_place test [] = None
first_place test (block ∷ blocks) = if test block then Some 0 else option_map suc (first_place test blocks)

-- a place behind so many
abbrev pub behind : ℕ → Option ℕ → Option ℕ
behind count place = option_map (λ at. count + at) place

-- what is read, where the first block that passes a test begins something
abbrev pub with_first : (Block → Bool) → Begins → blocks.ReadBlocks → blocks.ReadBlocks
with_first test what read = record read { blocks = first_changed test (begun what) read.blocks }
