-- The end of a section, or a bracket alone.
use Rattle.std.proofs.Common.{[]}
use Rattle.std.specs.Str.{chars}
use Rattle.markup_tree.proofs.ConstructLemmas.{bracket_refused, bracket_found, bracket_cut}
use Rattle.markup_tree.proofs.construct.bracket.Goals as goal

pub returns-in-Ok-clause-read : goal.returns-in-Ok-clause-read
unfolding chars
returns-in-Ok-clause-read c = bracket_refused c.in-Ok.ensures.read

pub returns-in-Err-Broken-clause-read : goal.returns-in-Err-Broken-clause-read
unfolding chars
returns-in-Err-Broken-clause-read c = bracket_found (rw c.in-Err-Broken.field-0-is at c.in-Err-Broken.ensures.read)

pub returns-in-Err-Cut-clause-read : goal.returns-in-Err-Cut-clause-read
unfolding chars
returns-in-Err-Cut-clause-read c = bracket_cut (rw c.in-Err-Cut.field-0-is at c.in-Err-Cut.ensures.read)

pub returns-in-Err-Refused-clause-read : goal.returns-in-Err-Refused-clause-read
unfolding chars
returns-in-Err-Refused-clause-read c = absurd ((rw c.in-Err-Refused.field-0-is at c.in-Err-Refused.ensures.read).is [])
