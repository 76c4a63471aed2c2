-- A side of a fork is shorter than the fork, so that what goes down a rope ends.
use Rattle.std.proofs.Common.{◌≤◌, max, length, arith, length-append}
use Rattle.share_vec.specs.declared.rope.Node.{Node}
use Rattle.share_vec.specs.declared.rope.Node.TheVariants.{Leaf, Fork}
use Rattle.share_vec.specs.declared.rope.Rope.TheDeep.{deep-Node}
use Rattle.share_vec.specs.Rope.{items_of, IsProper}

pub depth_le-length : {T : Type 0} (node : Node T) → IsProper node → max (deep-Node T node) 0 ≤ length (items_of node)
depth_le-length (Leaf items) proper = omega arith
depth_le-length (Fork front back) proper = omega (arith, proper.0, proper.1, length-append front.value back.value)
