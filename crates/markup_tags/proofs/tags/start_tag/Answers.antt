-- A name, and what stands behind it.
use Rattle.std.proofs.Common.{◌≡◌, ℕ, List, chars, ap, sym, ◌∙◌, subst}
use Rattle.std.proofs.lemmas.Result.{err_from_is_err_and}
use Rattle.markup_parts.specs.Outcomes.{Found, IsRead}
use Rattle.markup_parts.proofs.ReadsLemmas.{reads_on}
use Rattle.markup_tags.specs.Tags.{IsTag}
use Rattle.markup_tags.proofs.AttemptLemmas.{fault_on}
use Rattle.markup_tags.proofs.TagLemmas.{pair, tag_stop, tag_on, tag_of}
use Rattle.markup_tags.proofs.tags.start_tag.Goals as goal

pub returns-in_err-name-clause-read : goal.returns-in_err-name-clause-read
returns-in_err-name-clause-read c =
    let p = err_from_is_err_and c.from_residual.result c.from_residual.ensures.1 in
    rw (p.1, p.2) (tag_stop (chars c.args.text.now) c.in_err-name.field-0.0 c.in_err-name.ensures.name)

pub returns-in-Err-clause-read : goal.returns-in-Err-clause-read
returns-in-Err-clause-read c = fault_on (tag_on c.in_ok-name.ensures.name) c.in-Err.fault c.in-Err.ensures.read

pub returns-clause-read : goal.returns-clause-read
returns-clause-read c =
    let name : c.from_text-name.result ≡ chars c.in_ok-name.name.now = c.from_text-name.ensures ∙ ap chars c.in_ok-from_str.ensures.ok in
    subst (λ (x : List ℕ). IsRead IsTag (chars c.args.text.now) (tag_of x (pair c.in-Ok.found.0 c.in-Ok.found.1)) (chars c.in-Ok.found.2.now)) (sym name)
    (reads_on (tag_on c.in_ok-name.ensures.name) (Found (pair c.in-Ok.found.0 c.in-Ok.found.1) (chars c.in-Ok.found.2.now)) c.in-Ok.ensures.read)
