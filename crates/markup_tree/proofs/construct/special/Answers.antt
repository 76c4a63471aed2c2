-- A section in the root, a document type before it.
use Rattle.std.proofs.Common.{chars, sym, subst}
use Rattle.markup_parts.specs.Outcomes.{Reads}
use Rattle.markup_tree.specs.Pieces.{IsSpecial}
use Rattle.markup_tree.specs.declared.part.Part.{Part}
use Rattle.markup_tree.proofs.ConstructLemmas.{prolog_part, said_outcome}
use Rattle.markup_tree.proofs.construct.special.Goals as goal

pub returns-in-Inside-clause-read : goal.returns-in-Inside-clause-read
returns-in-Inside-clause-read c = subst (λ (part : Part). Reads (IsSpecial part) (chars c.args.text.now) (said_outcome c.section.result)) (sym c.in-Inside.is) c.section.ensures.read

pub returns-in-Start-clause-read : goal.returns-in-Start-clause-read
returns-in-Start-clause-read c = prolog_part (λ (part : Part). Reads (IsSpecial part) (chars c.args.text.now) (said_outcome c.document_type.result)) c.in-Start.is c.document_type.ensures.read c.document_type.ensures.read
