use Rattle.std.proofs.Common.{◌∙◌}
use Rattle.fodt_read.proofs.Escapes.{entity_and, entity_less, entity_greater, entity_known}
use Rattle.fodt_read.proofs.escape.read_entity.Goals as goal

pub returns-in-Some-clause-read : goal.returns-in-Some-clause-read
returns-in-Some-clause-read c = λ c' more entity e.
    let is = entity_and c' _ more _ entity e c.in-Some.ensures in
    (c.one.ensures.character ∙ is.0, c.one.ensures.count, c.one.ensures.rest ∙ is.1)

pub returns-in-Some-after-clause-read : goal.returns-in-Some-after-clause-read
returns-in-Some-after-clause-read c = λ c' more entity e.
    let is = entity_less c' _ more _ entity e c.in-Some-after.ensures in
    (c.one-in-Some-after.ensures.character ∙ is.0, c.one-in-Some-after.ensures.count, c.one-in-Some-after.ensures.rest ∙ is.1)

pub returns-in_err-rest-clause-read : goal.returns-in_err-rest-clause-read
returns-in_err-rest-clause-read c = λ c' more entity e. absurd (entity_known c' _ more entity e c.in_default.ensures c.in_default-after.ensures c.in_err-rest.ensures)

pub returns-clause-read : goal.returns-clause-read
returns-clause-read c = λ c' more entity e.
    let is = entity_greater c' _ more _ entity e c.in_ok-rest.ensures in
    (c.one-2.ensures.character ∙ is.0, c.one-2.ensures.count, c.one-2.ensures.rest ∙ is.1)
