-- A declaration, an instruction, or a tag.
use Rattle.std.proofs.Common.{ℕ, [], ◌∷◌, chars, ap, ◌∙◌}
use Rattle.std.proofs.lemmas.Result.{err_from_is_err_and}
use Rattle.markup_parts.specs.Outcomes.{Found, Stopped}
use Rattle.markup_parts.proofs.ReadsLemmas.{reads_on, reads_same}
use Rattle.markup_tags.proofs.AttemptLemmas.{attempt_same}
use Rattle.markup_tree.specs.Pieces.{said, Silent}
use Rattle.markup_tree.proofs.ConstructLemmas.{markup_cut, markup_on, markup_question, markup_tag, behind_on, said_attempt}
use Rattle.markup_tree.proofs.construct.markup.Goals as goal

pub returns-in_default-clause-read : goal.returns-in_default-clause-read
returns-in_default-clause-read c = markup_cut c.args.part c.in_default.ensures.first

pub returns-in-Err-clause-read : goal.returns-in-Err-clause-read
returns-in-Err-clause-read c = reads_same (markup_on c.args.part (c.in-Some.ensures.first ∙ ap (λ (x : ℕ). x ∷ chars c.in-Some.rest.now) c.if-c-eq33.true)) (Stopped c.in-Err.stop) c.in-Err.ensures.read

pub returns-in-Ok-clause-read : goal.returns-in-Ok-clause-read
returns-in-Ok-clause-read c = reads_same (markup_on c.args.part (c.in-Some.ensures.first ∙ ap (λ (x : ℕ). x ∷ chars c.in-Some.rest.now) c.if-c-eq33.true)) (Found (said c.in-Ok.found.0) (chars c.in-Ok.found.1.now)) c.in-Ok.ensures.read

pub returns-in_err-rest-clause-read : goal.returns-in_err-rest-clause-read
returns-in_err-rest-clause-read c =
    let p = err_from_is_err_and c.from_residual.result c.from_residual.ensures.1 in
    let first = c.in-Some.ensures.first ∙ ap (λ (x : ℕ). x ∷ chars c.in-Some.rest.now) c.if-c-eq63.true in
    rw (p.1, p.2) (reads_same (markup_question c.args.part first) (Stopped c.in_err-rest.field-0.0) (reads_on (behind_on (0x3f ∷ []) first) (Stopped c.in_err-rest.field-0.0) c.in_err-rest.ensures.read))

pub returns-then-c-eq63-clause-read : goal.returns-then-c-eq63-clause-read
returns-then-c-eq63-clause-read c =
    let first = c.in-Some.ensures.first ∙ ap (λ (x : ℕ). x ∷ chars c.in-Some.rest.now) c.if-c-eq63.true in
    let rest = chars c.in_ok-rest.rest.now in
    reads_same (markup_question c.args.part first) (Found Silent rest) (reads_on (behind_on (0x3f ∷ []) first) (Found tt rest) c.in_ok-rest.ensures.read)

pub returns-clause-read : goal.returns-clause-read
returns-clause-read c = attempt_same (markup_tag c.args.part c.in-Some.ensures.first c.if-c-eq33.false c.if-c-eq63.false) (said_attempt c.element_tag.result) c.element_tag.ensures.read
