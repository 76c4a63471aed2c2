-- A name, and what stands behind it.
use Rattle.std.proofs.Common.{◌≡◌, ℕ, List, chars, ap, sym, ◌∙◌, subst}
use Rattle.std.proofs.lemmas.Result.{err_from_is_err_and}
use Rattle.std.specs.String.{string_bytes}
use Rattle.markup_parts.specs.Outcomes.{Found, IsRead}
use Rattle.markup_parts.proofs.ReadsLemmas.{reads_on}
use Rattle.markup_tags.specs.Tags.{IsAttribute}
use Rattle.markup_tags.proofs.AttemptLemmas.{fault_on}
use Rattle.markup_tags.proofs.TagLemmas.{attribute_stop, attribute_on, attr_of}
use Rattle.markup_tags.proofs.tags.attribute.Goals as goal

pub returns-in_err-name-clause-read : goal.returns-in_err-name-clause-read
returns-in_err-name-clause-read c =
    let p = err_from_is_err_and c.from_residual.result c.from_residual.ensures.1 in
    rw (p.1, p.2) (attribute_stop (chars c.args.text.now) c.in_err-name.field-0.0 c.in_err-name.ensures.name)

pub returns-in_err-value-clause-read : goal.returns-in_err-value-clause-read
returns-in_err-value-clause-read c =
    let p = err_from_is_err_and c.from_residual-in_err-value.result c.from_residual-in_err-value.ensures.1 in
    rw (p.1, p.2) (fault_on (attribute_on c.in_ok-name.ensures.name) c.in_err-value.field-0.0 c.in_err-value.ensures.read)

pub returns-clause-read : goal.returns-clause-read
returns-clause-read c =
    let text = chars c.args.text.now in
    let rest = chars c.in_ok-value.rest.now in
    let name : c.from_text-name.result ≡ chars c.in_ok-name.name.now = c.from_text-name.ensures ∙ ap chars c.in_ok-from_str.ensures.ok in
    subst (λ (x : List ℕ). IsRead IsAttribute text (attr_of x c.from_text-value.result) rest) (sym name)
    (subst (λ (y : List ℕ). IsRead IsAttribute text (attr_of (chars c.in_ok-name.name.now) y) rest) (sym c.from_text-value.ensures)
    (reads_on (attribute_on c.in_ok-name.ensures.name) (Found (chars (string_bytes c.in_ok-value.value)) rest) c.in_ok-value.ensures.read))
