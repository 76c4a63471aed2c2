-- A comment, or something else.
use Rattle.std.proofs.Common.{ℕ, ◌∷◌, chars, ap, ◌∙◌}
use Rattle.markup_parts.proofs.ReadsLemmas.{reads_same}
use Rattle.markup_tree.proofs.ConstructLemmas.{declared_cut, declared_dashes, declared_special, said_outcome}
use Rattle.markup_tree.proofs.construct.declared.Goals as goal

pub returns-in_default-clause-read : goal.returns-in_default-clause-read
returns-in_default-clause-read c = declared_cut c.args.part c.in_default.ensures.first

pub returns-then-c-eq45-clause-read : goal.returns-then-c-eq45-clause-read
returns-then-c-eq45-clause-read c = reads_same (declared_dashes c.args.part (c.in-Some.ensures.first ∙ ap (λ (x : ℕ). x ∷ chars c.in-Some.field-0-1.now) c.if-c-eq45.true)) (said_outcome c.dashes.result) c.dashes.ensures.read

pub returns-else-c-eq45-clause-read : goal.returns-else-c-eq45-clause-read
returns-else-c-eq45-clause-read c = reads_same (declared_special c.args.part c.in-Some.ensures.first c.if-c-eq45.false) (said_outcome c.special.result) c.special.ensures.read
