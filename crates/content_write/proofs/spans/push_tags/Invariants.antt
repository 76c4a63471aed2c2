-- Nothing is out yet, and the tags between what is left of both are those between both.
use Rattle.std.proofs.Common.{◌≡◌, length, chars, string_bytes}
use Rattle.content_write.specs.Rest.{tags}
use Rattle.content_write.proofs.spans.push_tags.Given as goal

abbrev pub invariant-shared : goal.invariant-shared
invariant-shared l = record {
  out_same : chars (string_bytes l.out) ≡ chars (string_bytes l.fn.out);
  tags_same : tags l.ending l.beginning ≡ tags l.around l.spans;
}

abbrev pub decreases-shared : goal.decreases-shared
decreases-shared l = length l.ending
