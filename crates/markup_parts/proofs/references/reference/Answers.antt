-- What stands behind the `&`.
use Rattle.std.proofs.Common.{ℕ, ◌∷◌, chars, ap, ◌∙◌}
use Rattle.markup_parts.proofs.ReadsLemmas.{reads_same, char_outcome}
use Rattle.markup_parts.proofs.ReferenceLemmas.{reference_cut, numeric_agrees, entity_agrees}
use Rattle.markup_parts.proofs.references.reference.Goals as goal

pub returns-in_default-clause-read : goal.returns-in_default-clause-read
returns-in_default-clause-read c = reference_cut c.in_default.ensures.first

pub returns-then-c-eq35-clause-read : goal.returns-then-c-eq35-clause-read
returns-then-c-eq35-clause-read c =
    reads_same (numeric_agrees (c.in-Some.ensures.first ∙ ap (λ (x : ℕ). x ∷ chars c.in-Some.rest.now) c.if-c-eq35.true))
    (char_outcome c.numeric_reference.result) c.numeric_reference.ensures.read

pub returns-else-c-eq35-clause-read : goal.returns-else-c-eq35-clause-read
returns-else-c-eq35-clause-read c =
    reads_same (entity_agrees c.in-Some.ensures.first c.if-c-eq35.false) (char_outcome c.entity_reference.result) c.entity_reference.ensures.read
