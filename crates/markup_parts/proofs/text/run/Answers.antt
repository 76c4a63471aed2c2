-- One more character of the class.
use Rattle.std.proofs.Common.{◌≡◌, [], ◌∷◌, ◌++◌, chars, true, sym, ◌∙◌, subst, arith, rules}
use Rattle.std.specs.List.{AllByRecursion as Each}
use Rattle.std.proofs.lemmas.List.{append_cancel_right}
use Rattle.std.proofs.lemmas.Grind.{common_steps}
use Rattle.markup_parts.specs.Runs.{passes}
use Rattle.markup_parts.proofs.BytesLemmas.{rest_strictly}
use Rattle.markup_parts.proofs.RunLemmas.{each_push}
use Rattle.markup_parts.proofs.TextLemmas.{one_more}
use Rattle.markup_parts.proofs.text.run.Goals as goal

pub run-preserved : goal.run-preserved
run-preserved c =
    let has : passes c.args.class c.in-Some.c ≡ true = first_of (cc, grind (arith, common_steps)) in (
      c.run.invariant.0 ++ c.in-Some.c ∷ [],
      one_more (chars c.args.text.now) c.run.invariant.0 (chars c.run.rest.now) (chars c.in-Some.behind.now) c.in-Some.c c.run.invariant.1 c.in-Some.ensures.first,
      each_push (λ d. passes c.args.class d ≡ true) c.run.invariant.0 c.in-Some.c c.run.invariant.2 has,
      omega (arith, c.in-Some.ensures.shorter),
      search rules,
    )

pub returns-clause-all : goal.returns-clause-all
returns-clause-all c =
    subst (Each (λ d. passes c.args.class d ≡ true))
    (append_cancel_right c.run.invariant.0 (chars c.before-2.result.now) (chars c.run.rest.now) (sym c.run.invariant.1 ∙ c.before-2.ensures))
    c.run.invariant.2

pub returns-clause-strict : goal.returns-clause-strict
returns-clause-strict c = λ filled.
    rest_strictly c.args.text.now c.run.rest.now (chars c.before-2.result.now) c.utf8.text c.run.invariant.4 c.before-2.ensures filled
