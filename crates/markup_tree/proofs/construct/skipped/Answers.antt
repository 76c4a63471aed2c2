-- A declaration at the start, and else an instruction.
use Rattle.std.proofs.Common.{chars, sym, subst}
use Rattle.markup_parts.specs.Outcomes.{Reads}
use Rattle.markup_parts.proofs.ReadsLemmas.{unit_outcome}
use Rattle.markup_tree.specs.Pieces.{IsSkipped}
use Rattle.markup_tree.specs.declared.part.Part.{Part}
use Rattle.markup_tree.proofs.ConstructLemmas.{later_part}
use Rattle.markup_tree.proofs.construct.skipped.Goals as goal

pub returns-in-Start-clause-read : goal.returns-in-Start-clause-read
returns-in-Start-clause-read c = subst (λ (part : Part). Reads (IsSkipped part) (chars c.args.text.now) (unit_outcome c.declaration.result)) (sym c.in-Start.is) c.declaration.ensures.read

pub returns-in-Before : goal.returns-in-Before
returns-in-Before c =
    record {
      read = later_part (λ (part : Part). Reads (IsSkipped part) (chars c.args.text.now) (unit_outcome c.instruction.result)) c.in-Before.is c.instruction.ensures.read c.instruction.ensures.read c.instruction.ensures.read;
      shorter = c.instruction.ensures.shorter;
    }
