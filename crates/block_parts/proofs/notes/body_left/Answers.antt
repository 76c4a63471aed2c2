use Rattle.std.proofs.Common.{[]}
use Rattle.load_model.specs.Blocks.{left_by}
use Rattle.load_model.specs.Left.{nothing, attributes_of}
use Rattle.block_parts.proofs.notes.body_left.Goals as goal

pub returns-in-Some : goal.returns-in-Some
returns-in-Some c = rw c.in-Some.is (c.both.ensures nothing (left_by [] (attributes_of c.in-Some.element.now)) c.nothing.ensures c.bare_left.ensures)
