use Rattle.std.proofs.Common.{◌≡◌, ◌++◌, length}
use Rattle.std.specs.Prelude.{reverse}
use Rattle.load_model.specs.Blocks.{paragraphs_of}
use Rattle.read_blocks.proofs.sections.paragraphs_in.Given as goal

abbrev pub invariant-blocks-2 : goal.invariant-blocks-2
invariant-blocks-2 l = paragraphs_of l.fn.blocks.items ≡ paragraphs_of l.left.items ++ reverse l.pars.items

abbrev pub decreases-blocks-2 : goal.decreases-blocks-2
decreases-blocks-2 l = length l.left.items
