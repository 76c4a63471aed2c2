-- Characters of the root, or white space outside it.
use Rattle.std.proofs.Common.{chars, sym, subst}
use Rattle.markup_parts.specs.Outcomes.{Reads}
use Rattle.markup_tree.specs.Pieces.{IsPlain}
use Rattle.markup_tree.specs.declared.part.Part.{Part}
use Rattle.markup_tree.proofs.ConstructLemmas.{outer_part, said_outcome}
use Rattle.markup_tree.proofs.construct.plain.Goals as goal

pub returns-in-Inside-clause-read : goal.returns-in-Inside-clause-read
returns-in-Inside-clause-read c = subst (λ (part : Part). Reads (IsPlain part) (chars c.args.text.now) (said_outcome c.content.result)) (sym c.in-Inside.is) c.content.ensures.read

pub returns-in-Start : goal.returns-in-Start
returns-in-Start c =
    record {
      read = outer_part (λ (part : Part). Reads (IsPlain part) (chars c.args.text.now) (said_outcome c.blank.result)) c.in-Start.is c.blank.ensures.read c.blank.ensures.read c.blank.ensures.read;
      shorter = c.blank.ensures.shorter;
    }
