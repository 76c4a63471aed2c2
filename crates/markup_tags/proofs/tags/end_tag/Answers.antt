-- A name, white space and `>`.
use Rattle.std.proofs.Common.{ℕ, ◌∷◌, chars, ap, ◌∙◌}
use Rattle.markup_parts.specs.Chars.{is_space}
use Rattle.markup_tags.proofs.TagLemmas.{run_before, run_all, end_tag_stop, end_tag_gap, end_tag_found, end_tag_broken}
use Rattle.markup_tags.proofs.tags.end_tag.Goals as goal

pub returns-in-Err-clause-read : goal.returns-in-Err-clause-read
returns-in-Err-clause-read c = end_tag_stop (chars c.args.text.now) c.in-Err.stop c.in-Err.ensures.name

pub returns-in_default-clause-read : goal.returns-in_default-clause-read
returns-in_default-clause-read c =
    end_tag_gap c.in-Ok.ensures.name
    (run_all is_space (chars c.in-Ok.found.1.now) (chars c.run.result.0.now) (chars c.run.result.1.now) c.run.ensures.text c.run.ensures.all c.in_default.ensures.first)

pub returns-then-c-eq62-clause-read : goal.returns-then-c-eq62-clause-read
returns-then-c-eq62-clause-read c =
    end_tag_found c.in-Ok.ensures.name
    (run_before {test = is_space} c.run.ensures.text c.run.ensures.all c.run.ensures.ends
    (c.in-Some.ensures.first ∙ ap (λ (x : ℕ). x ∷ chars c.in-Some.behind.now) c.if-c-eq62.true))

pub returns-else-c-eq62-clause-read : goal.returns-else-c-eq62-clause-read
returns-else-c-eq62-clause-read c =
    end_tag_broken c.in-Ok.ensures.name (run_before {test = is_space} c.run.ensures.text c.run.ensures.all c.run.ensures.ends c.in-Some.ensures.first) c.if-c-eq62.false
