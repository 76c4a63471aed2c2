-- An end tag, or one that begins an element.
use Rattle.std.proofs.Common.{ℕ, [], ◌∷◌, chars, ap, ◌∙◌}
use Rattle.std.proofs.lemmas.Result.{err_from_is_err_and}
use Rattle.markup_parts.specs.Outcomes.{Found, Stopped}
use Rattle.markup_parts.proofs.ReadsLemmas.{reads_on, reads_same}
use Rattle.markup_tags.proofs.AttemptLemmas.{attempt_same}
use Rattle.markup_tree.specs.Pieces.{Ends}
use Rattle.markup_tree.proofs.ConstructLemmas.{inside_end, inside_begin, behind_on, said_attempt}
use Rattle.markup_tree.proofs.construct.inner_tag.Goals as goal

pub returns-in_default-clause-read : goal.returns-in_default-clause-read
returns-in_default-clause-read c = absurd (c.requires c.in_default.ensures.first)

pub returns-in_err-name-clause-read : goal.returns-in_err-name-clause-read
returns-in_err-name-clause-read c =
    let p = err_from_is_err_and c.from_residual.result c.from_residual.ensures.1 in
    let first = c.in-Some.ensures.first ∙ ap (λ (x : ℕ). x ∷ chars c.in-Some.rest.now) c.if-c-eq47.true in
    rw (p.1, p.2) (reads_same (inside_end first) (Stopped c.in_err-name.field-0.0) (reads_on (behind_on (0x2f ∷ []) first) (Stopped c.in_err-name.field-0.0) c.in_err-name.ensures.read))

pub returns-then-c-eq47-clause-read : goal.returns-then-c-eq47-clause-read
returns-then-c-eq47-clause-read c =
    let first = c.in-Some.ensures.first ∙ ap (λ (x : ℕ). x ∷ chars c.in-Some.rest.now) c.if-c-eq47.true in
    let rest = chars c.in_ok-name.rest.now in
    reads_same (inside_end first) (Found (Ends (chars c.in_ok-name.name.now)) rest) (reads_on (behind_on (0x2f ∷ []) first) (Found (chars c.in_ok-name.name.now) rest) c.in_ok-name.ensures.read)

pub returns-clause-read : goal.returns-clause-read
returns-clause-read c = attempt_same (inside_begin c.in-Some.ensures.first c.if-c-eq47.false) (said_attempt c.beginning.result) c.beginning.ensures.read
