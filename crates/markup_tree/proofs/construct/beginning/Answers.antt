-- The tag says what it is.
use Rattle.std.proofs.Common.{[], chars, refl}
use Rattle.markup_parts.specs.Outcomes.{Found}
use Rattle.markup_parts.proofs.ReadsLemmas.{reads_on}
use Rattle.markup_tags.proofs.AttemptLemmas.{fault_on}
use Rattle.markup_tree.proofs.ConstructLemmas.{behind_on}
use Rattle.markup_tree.proofs.construct.beginning.Goals as goal

pub returns-in-Err-clause-read : goal.returns-in-Err-clause-read
returns-in-Err-clause-read c = fault_on (behind_on [] refl) c.in-Err.fault c.in-Err.ensures.read

pub returns-in-Ok-clause-read : goal.returns-in-Ok-clause-read
returns-in-Ok-clause-read c = reads_on (behind_on [] refl) (Found c.in-Ok.tag (chars c.in-Ok.rest.now)) c.in-Ok.ensures.read
