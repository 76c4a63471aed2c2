-- White space and `=`, and what stands behind it.
use Rattle.std.proofs.Common.{ℕ, ◌∷◌, chars, ap, ◌∙◌}
use Rattle.markup_parts.specs.Chars.{is_space}
use Rattle.markup_parts.proofs.ReadsLemmas.{reads_same, char_outcome}
use Rattle.markup_tags.proofs.TagLemmas.{run_before, run_all, equals_on, equals_broken, equals_cut}
use Rattle.markup_tags.proofs.tags.equals.Goals as goal

pub returns-in_default-clause-read : goal.returns-in_default-clause-read
returns-in_default-clause-read c =
    equals_cut (run_all is_space (chars c.args.text.now) (chars c.run.result.0.now) (chars c.run.result.1.now) c.run.ensures.text c.run.ensures.all c.in_default.ensures.first)

pub returns-then-c-eq61-clause-read : goal.returns-then-c-eq61-clause-read
returns-then-c-eq61-clause-read c =
    reads_same (equals_on (run_before {test = is_space} c.run.ensures.text c.run.ensures.all c.run.ensures.ends
    (c.in-Some.ensures.first ∙ ap (λ (x : ℕ). x ∷ chars c.in-Some.right.now) c.if-c-eq61.true))) (char_outcome c.quote.result) c.quote.ensures.read

pub returns-else-c-eq61-clause-read : goal.returns-else-c-eq61-clause-read
returns-else-c-eq61-clause-read c =
    equals_broken c.if-c-eq61.false (run_before {test = is_space} c.run.ensures.text c.run.ensures.all c.run.ensures.ends c.in-Some.ensures.first)
