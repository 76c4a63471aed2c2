use Rattle.std.proofs.Common.{length}
use Rattle.fodt_read.proofs.Texts.{Seen}
use Rattle.fodt_read.proofs.body.read_body.Given as goal

abbrev pub invariant-paragraphs : goal.invariant-paragraphs
invariant-paragraphs l = Seen l.fn.bytes l.body.items l.characters l.rest

abbrev pub decreases-paragraphs : goal.decreases-paragraphs
decreases-paragraphs l = length l.rest
