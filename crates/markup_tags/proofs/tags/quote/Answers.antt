-- White space and a quotation mark.
use Rattle.std.proofs.Common.{chars, inl, inr}
use Rattle.markup_parts.specs.Chars.{is_space}
use Rattle.markup_tags.proofs.TagLemmas.{run_before, run_all, opening_found, opening_broken, opening_cut}
use Rattle.markup_tags.proofs.tags.quote.Goals as goal

pub returns-in_default-clause-read : goal.returns-in_default-clause-read
returns-in_default-clause-read c =
    opening_cut (run_all is_space (chars c.args.text.now) (chars c.run.result.0.now) (chars c.run.result.1.now) c.run.ensures.text c.run.ensures.all c.in_default.ensures.first)

pub returns-then-c-eq34-clause-read : goal.returns-then-c-eq34-clause-read
returns-then-c-eq34-clause-read c =
    opening_found (inl c.if-c-eq34.true) (run_before {test = is_space} c.run.ensures.text c.run.ensures.all c.run.ensures.ends c.in-Some.ensures.first)

pub returns-then-c-eq39-clause-read : goal.returns-then-c-eq39-clause-read
returns-then-c-eq39-clause-read c =
    opening_found (inr c.if-c-eq39.true) (run_before {test = is_space} c.run.ensures.text c.run.ensures.all c.run.ensures.ends c.in-Some.ensures.first)

pub returns-clause-read : goal.returns-clause-read
returns-clause-read c =
    opening_broken (λ q. elim q [ inl e ↦ c.if-c-eq34.false e | inr e ↦ c.if-c-eq39.false e ])
    (run_before {test = is_space} c.run.ensures.text c.run.ensures.all c.run.ensures.ends c.in-Some.ensures.first)
