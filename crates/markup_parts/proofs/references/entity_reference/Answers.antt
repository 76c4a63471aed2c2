-- A name, and what stands behind it.
use Rattle.std.proofs.Common.{ℕ, ◌∷◌, chars, ap, sym, ◌∙◌}
use Rattle.markup_parts.proofs.ReferenceLemmas.{entity_stop, entity_broken, entity_refused, entity_found}
use Rattle.markup_parts.proofs.references.entity_reference.Goals as goal

pub returns-in-Err-clause-read : goal.returns-in-Err-clause-read
returns-in-Err-clause-read c = entity_stop (chars c.args.text.now) c.in-Err.stop c.in-Err.ensures.name

pub returns-then-c-ne59-clause-read : goal.returns-then-c-ne59-clause-read
returns-then-c-ne59-clause-read c = entity_broken c.in-Ok.ensures.name c.in-Some.ensures.first c.if-c-ne59.true

pub returns-in-None-clause-read : goal.returns-in-None-clause-read
returns-in-None-clause-read c =
    entity_refused c.in-Ok.ensures.name (c.in-Some.ensures.first ∙ ap (λ (x : ℕ). x ∷ chars c.in-Some.rest.now) c.if-c-ne59.false) (sym c.entity.ensures ∙ c.in-None.is)

pub returns-in-Some-entity-clause-read : goal.returns-in-Some-entity-clause-read
returns-in-Some-entity-clause-read c =
    entity_found c.in-Ok.ensures.name (c.in-Some.ensures.first ∙ ap (λ (x : ℕ). x ∷ chars c.in-Some.rest.now) c.if-c-ne59.false) c.in-Some-entity.c
    (sym c.entity.ensures ∙ c.in-Some-entity.is)
