-- What is out and what is left to add are what was out and all.
use Rattle.std.proofs.Common.{◌≡◌, ◌++◌, chars, string_bytes}
use Rattle.paragraph_write.specs.Around.{times}
use Rattle.paragraph_write.proofs.lists.push_times.Given as goal

abbrev pub invariant-times : goal.invariant-times
invariant-times l = chars (string_bytes l.out) ++ times l.left (chars l.text) ≡ chars (string_bytes l.fn.out) ++ times l.count (chars l.text)

abbrev pub decreases-times : goal.decreases-times
decreases-times l = l.left
