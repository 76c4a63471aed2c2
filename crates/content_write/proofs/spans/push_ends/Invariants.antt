-- What is out and the tags that are left are what was out and all of them.
use Rattle.std.proofs.Common.{◌≡◌, ◌++◌, length, chars, string_bytes}
use Rattle.content_write.specs.Rest.{ends}
use Rattle.content_write.proofs.spans.push_ends.Given as goal

abbrev pub invariant-names : goal.invariant-names
invariant-names l = chars (string_bytes l.out) ++ ends l.left ≡ chars (string_bytes l.fn.out) ++ ends l.names

abbrev pub decreases-names : goal.decreases-names
decreases-names l = length l.left
