use Rattle.std.proofs.Common.{◌≡◌, ◌++◌, map}
use Rattle.doc_model.specs.Plain.{plain_item}
use Rattle.edit_ops.proofs.items.push_text.Given as goal

abbrev pub invariant-letters : goal.invariant-letters
invariant-letters l = l.items ≡ l.initial.items ++ map plain_item l.yielded
