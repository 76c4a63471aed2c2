-- A tag of the root, or the root's.
use Rattle.std.proofs.Common.{chars}
use Rattle.markup_tags.specs.Attempts.{ReadsUnlessMemory}
use Rattle.markup_tree.specs.Pieces.{IsElementTag}
use Rattle.markup_tree.specs.declared.part.Part.{Part}
use Rattle.markup_tree.proofs.ConstructLemmas.{prolog_part, said_attempt}
use Rattle.markup_tree.proofs.construct.element_tag.Goals as goal

pub returns-in-Start-clause-read : goal.returns-in-Start-clause-read
returns-in-Start-clause-read c = prolog_part (λ (part : Part). ReadsUnlessMemory (IsElementTag part) (chars c.args.text.now) (said_attempt c.beginning.result)) c.in-Start.is c.beginning.ensures.read c.beginning.ensures.read
