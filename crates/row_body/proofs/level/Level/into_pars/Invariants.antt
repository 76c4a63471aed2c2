use Rattle.std.proofs.Common.{◌≡◌, ◌++◌, length}
use Rattle.node_array.specs.Body.{pars_of}
use Rattle.row_body.proofs.level.Level.into_pars.Given as goal

-- the paragraphs that were taken, and then those that are left
abbrev pub invariant-loop-block : goal.invariant-loop-block
invariant-loop-block l = l.pars.items ++ pars_of l.blocks ≡ pars_of l.fn.self.blocks

abbrev pub decreases-loop-block : goal.decreases-loop-block
decreases-loop-block l = length l.blocks
