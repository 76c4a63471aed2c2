-- What stands behind the `#`.
use Rattle.std.proofs.Common.{ℕ, ◌∷◌, chars, ap, ◌∙◌}
use Rattle.markup_parts.proofs.ReadsLemmas.{reads_same, char_outcome}
use Rattle.markup_parts.proofs.ReferenceLemmas.{numeric_cut, decimal_agrees, hexadecimal_agrees}
use Rattle.markup_parts.proofs.references.numeric_reference.Goals as goal

pub returns-in_default-clause-read : goal.returns-in_default-clause-read
returns-in_default-clause-read c = numeric_cut c.in_default.ensures.first

pub returns-then-c-eq120-clause-read : goal.returns-then-c-eq120-clause-read
returns-then-c-eq120-clause-read c =
    reads_same (hexadecimal_agrees (c.in-Some.ensures.first ∙ ap (λ (x : ℕ). x ∷ chars c.in-Some.digits.now) c.if-c-eq120.true)) (char_outcome c.number.result) c.number.ensures.read

pub returns-else-c-eq120-clause-read : goal.returns-else-c-eq120-clause-read
returns-else-c-eq120-clause-read c =
    reads_same (decimal_agrees c.in-Some.ensures.first c.if-c-eq120.false) (char_outcome c.number-else-c-eq120.result) c.number-else-c-eq120.ensures.read
