-- What is out and the tags that are left are what was out and all of them.
use Rattle.std.proofs.Common.{◌≡◌, ◌++◌, length, chars, string_bytes}
use Rattle.content_write.specs.Rest.{starts}
use Rattle.content_write.proofs.spans.push_starts.Given as goal

abbrev pub invariant-names : goal.invariant-names
invariant-names l = chars (string_bytes l.out) ++ starts l.left ≡ chars (string_bytes l.fn.out) ++ starts l.names

abbrev pub decreases-names : goal.decreases-names
decreases-names l = length l.left
