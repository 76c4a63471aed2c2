-- The text ends, or ends in a carriage return.
use Rattle.std.proofs.Common.{List, ℕ, ◌∷◌, chars, ap, sym, ◌∙◌, subst}
use Rattle.markup_parts.specs.Constructs.{IsLiteral}
use Rattle.markup_parts.specs.Outcomes.{IsUnfinished}
use Rattle.markup_parts.proofs.LiteralLemmas.{literal_nil, literal_return}
use Rattle.markup_parts.proofs.literals.literal.Goals as goal

pub returns-in-None-clause-read : goal.returns-in-None-clause-read
returns-in-None-clause-read c = subst (IsUnfinished IsLiteral) (sym c.in-None.ensures.first) literal_nil

pub returns-in-None-first-clause-read : goal.returns-in-None-first-clause-read
returns-in-None-first-clause-read c =
    subst (IsUnfinished IsLiteral)
    (sym (c.in-Some-eq13-default.ensures.first
    ∙ (ap (λ (x : ℕ). x ∷ chars c.in-Some-eq13-default.behind.now) c.in-Some-eq13-default.field-0-0-test
    ∙ ap (λ (t : List ℕ). 0xd ∷ t) c.in-None-first.ensures.first)))
    literal_return
