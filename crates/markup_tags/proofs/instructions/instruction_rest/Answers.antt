-- The end, or white space and the characters up to the end.
use Rattle.std.proofs.Common.{sym, ◌∙◌}
use Rattle.std.specs.Str.{chars}
use Rattle.markup_parts.specs.Outcomes.{Found, Stopped}
use Rattle.markup_parts.specs.Runs.{is_allowed}
use Rattle.markup_parts.proofs.ReadsLemmas.{reads_on, reads_same, unit_outcome}
use Rattle.markup_tags.proofs.InstructionLemmas.{instruction_rest_cut, instruction_rest_end, instruction_rest_space}
use Rattle.markup_tags.proofs.instructions.instruction_rest.Goals as goal

pub returns-in_default-clause-read : goal.returns-in_default-clause-read
returns-in_default-clause-read c = instruction_rest_cut c.in_default.ensures.first

pub returns-then-not-is_space-clause-read : goal.returns-then-not-is_space-clause-read
unfolding chars
returns-then-not-is_space-clause-read c =
    reads_same (instruction_rest_end c.in-Some.ensures.first (sym c.is_space.ensures ∙ c.if-not-is_space.true)) (unit_outcome c.expect.result) c.expect.ensures.read

pub returns-in-Err-clause-read : goal.returns-in-Err-clause-read
unfolding chars
returns-in-Err-clause-read c =
    reads_on (instruction_rest_space {test = is_allowed c.args.allowed} c.in-Some.ensures.first (sym c.is_space.ensures ∙ c.if-not-is_space.false)) (Stopped c.in-Err.stop) c.in-Err.ensures.read

pub returns-in-Ok-clause-read : goal.returns-in-Ok-clause-read
unfolding chars
returns-in-Ok-clause-read c =
    reads_on (instruction_rest_space {test = is_allowed c.args.allowed} c.in-Some.ensures.first (sym c.is_space.ensures ∙ c.if-not-is_space.false))
    (Found (chars c.in-Ok.field-0-0.now) (chars c.in-Ok.rest.now)) c.in-Ok.ensures.read
