-- A target that isn't reserved, and what stands behind it.
use Rattle.std.proofs.Common.{chars, sym, ◌∙◌}
use Rattle.markup_parts.proofs.ReadsLemmas.{reads_same, unit_outcome}
use Rattle.markup_tags.proofs.InstructionLemmas.{instruction_stop, instruction_reserved, instruction_on}
use Rattle.markup_tags.proofs.instructions.instruction.Goals as goal

pub returns-in-Err-clause-read : goal.returns-in-Err-clause-read
returns-in-Err-clause-read c = instruction_stop (chars c.args.text.now) c.in-Err.stop c.in-Err.ensures.name

pub returns-then-is_reserved-clause-read : goal.returns-then-is_reserved-clause-read
returns-then-is_reserved-clause-read c = instruction_reserved c.in-Ok.ensures.name (sym c.is_reserved.ensures ∙ c.if-is_reserved.true)

pub returns-clause-read : goal.returns-clause-read
returns-clause-read c =
    reads_same (instruction_on c.in-Ok.ensures.name (sym c.is_reserved.ensures ∙ c.if-is_reserved.false)) (unit_outcome c.instruction_rest.result) c.instruction_rest.ensures.read
