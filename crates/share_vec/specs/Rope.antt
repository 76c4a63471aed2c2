-- The lists that ropes and nodes stand for.
use Rattle.std.specs.Prelude.{ℕ, ◌<◌, ◌≤◌, List, [], ◌++◌, length, Option, Some, None}
use Rattle.std.specs.declared.sync.Arc.{Arc}
use Rattle.share_vec.specs.declared.rope.Node.{Node}
use Rattle.share_vec.specs.declared.rope.Node.TheVariants.{Leaf, Fork}

-- The items of a node in order: those of a leaf, or those of both sides of a fork, one after the other.
abbrev pub items_of : {T : Type 0} → Node T → List T
items_of (Leaf items) = items.items
items_of (Fork front back) = front.value ++ back.value

-- Neither side of a fork is empty.
abbrev pub IsProper : {T : Type 0} → Node T → Type 0
IsProper (Leaf items) = Unit {0}
IsProper (Fork front back) = (0 < length front.value) × (0 < length back.value)

-- The side of a fork that a place is in holds other items too.
abbrev pub IsWideAt : {T : Type 0} → Node T → ℕ → Type 0
IsWideAt (Leaf items) at = Unit {0}
IsWideAt (Fork front back) at =
    (at < length front.value → 1 < length front.value) × (length front.value ≤ at → 1 < length back.value)

-- The list of a tree, or the empty one where there is no tree.
abbrev pub list_of : {T A : Type 0} → Option (Arc (List T) A) → List T
list_of None = []
list_of (Some root) = root.value
