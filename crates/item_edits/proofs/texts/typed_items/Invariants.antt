use Rattle.std.proofs.Common.{◌≡◌, map}
use Rattle.edit_rules.specs.Texts.{typed_item}
use Rattle.item_edits.proofs.texts.typed_items.Given as goal

abbrev pub invariant-loop-letter : goal.invariant-loop-letter
invariant-loop-letter l = l.typed.items ≡ map (typed_item l.spans) l.yielded
