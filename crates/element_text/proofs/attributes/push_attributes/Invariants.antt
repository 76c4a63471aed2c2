-- What is out and the attributes that are left are what was out and all of them.
use Rattle.std.proofs.Common.{◌≡◌, ◌++◌, map, length, chars, string_bytes}
use Rattle.std.specs.List.{flat_map}
use Rattle.tree_text.specs.Writing.{attr_text}
use Rattle.element_text.specs.Attributes.{attr_of}
use Rattle.element_text.proofs.attributes.push_attributes.Given as goal

abbrev pub invariant-attributes : goal.invariant-attributes
invariant-attributes l =
    chars (string_bytes l.out) ++ flat_map attr_text (map attr_of l.left) ≡ chars (string_bytes l.fn.out) ++ flat_map attr_text (map attr_of l.attributes)

abbrev pub decreases-attributes : goal.decreases-attributes
decreases-attributes l = length l.left
