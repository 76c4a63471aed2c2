-- A reference, or a character that stands for itself.
use Rattle.std.proofs.Common.{ℕ, ◌∷◌, chars, ap, sym, ◌∙◌, subst, Some}
use Rattle.markup_tags.specs.Tags.{IsNextOfValue}
use Rattle.markup_parts.specs.Outcomes.{Found, Stopped, IsRead}
use Rattle.markup_parts.proofs.ReadsLemmas.{reads_on}
use Rattle.markup_tags.proofs.ValueLemmas.{next_cut, next_reference, next_plain}
use Rattle.markup_tags.proofs.values.value_char.Goals as goal

pub returns-in_default-clause-read : goal.returns-in_default-clause-read
returns-in_default-clause-read c = next_cut c.args.quote c.in_default.ensures.first

pub returns-in-Err-clause-read : goal.returns-in-Err-clause-read
returns-in-Err-clause-read c =
    reads_on (next_reference c.requires (c.in-Some.ensures.first ∙ ap (λ (x : ℕ). x ∷ chars c.in-Some.behind.now) c.if-c-eq38.true)) (Stopped c.in-Err.stop) c.in-Err.ensures.read

pub returns-in-Ok-clause-read : goal.returns-in-Ok-clause-read
returns-in-Ok-clause-read c =
    reads_on (next_reference c.requires (c.in-Some.ensures.first ∙ ap (λ (x : ℕ). x ∷ chars c.in-Some.behind.now) c.if-c-eq38.true))
    (Found c.in-Ok.c (chars c.in-Ok.behind.now)) c.in-Ok.ensures.read

pub returns-in-Err-literal-clause-read : goal.returns-in-Err-literal-clause-read
returns-in-Err-literal-clause-read c =
    reads_on (next_plain c.requires c.in-Some.ensures.first c.if-c-quote.false c.if-c-eq60.false c.if-c-eq38.false) (Stopped c.in-Err-literal.stop) c.in-Err-literal.ensures.read

pub returns-in-Ok-literal-clause-read : goal.returns-in-Ok-literal-clause-read
returns-in-Ok-literal-clause-read c =
    subst (λ (d : ℕ). IsRead (IsNextOfValue c.args.quote) (chars c.args.text.now) (Some d) (chars c.in-Ok-literal.behind.now)) (sym c.spaced.ensures)
    (reads_on (next_plain c.requires c.in-Some.ensures.first c.if-c-quote.false c.if-c-eq60.false c.if-c-eq38.false)
    (Found c.in-Ok-literal.c (chars c.in-Ok-literal.behind.now)) c.in-Ok-literal.ensures.read)
