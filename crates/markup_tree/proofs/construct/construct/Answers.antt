-- Markup, or something else.
use Rattle.std.proofs.Common.{ℕ, ◌==◌, ◌∷◌, chars, ap, sym, ◌∙◌, subst, ne_eqb}
use Rattle.markup_parts.specs.Outcomes.{Found, Stopped}
use Rattle.markup_parts.specs.Runs.{NotBegins}
use Rattle.markup_parts.proofs.ReadsLemmas.{reads_same}
use Rattle.markup_tags.proofs.AttemptLemmas.{attempt_same}
use Rattle.markup_tree.specs.Pieces.{said}
use Rattle.markup_tree.proofs.ConstructLemmas.{construct_cut, construct_on, construct_plain, said_attempt}
use Rattle.markup_tree.proofs.construct.construct.Goals as goal

pub returns-in_default-clause-read : goal.returns-in_default-clause-read
returns-in_default-clause-read c = construct_cut c.args.part c.in_default.ensures.first

pub returns-then-c-eq60-clause-read : goal.returns-then-c-eq60-clause-read
returns-then-c-eq60-clause-read c = attempt_same (construct_on c.args.part (c.in-Some.ensures.first ∙ ap (λ (x : ℕ). x ∷ chars c.in-Some.rest.now) c.if-c-eq60.true)) (said_attempt c.markup.result) c.markup.ensures.read

pub returns-in-Err-clause-read : goal.returns-in-Err-clause-read
returns-in-Err-clause-read c = reads_same (construct_plain c.args.part c.in-Some.ensures.first c.if-c-eq60.false) (Stopped c.in-Err.stop) c.in-Err.ensures.read

pub returns-in-Ok-clause-read : goal.returns-in-Ok-clause-read
returns-in-Ok-clause-read c = reads_same (construct_plain c.args.part c.in-Some.ensures.first c.if-c-eq60.false) (Found (said c.in-Ok.found.0) (chars c.in-Ok.found.1.now)) c.in-Ok.ensures.read

pub plain-requires : goal.plain-requires
plain-requires c = subst (NotBegins (λ c. c == 0x3c)) (sym c.in-Some.ensures.first) (ne_eqb c.in-Some.c 0x3c c.if-c-eq60.false)
