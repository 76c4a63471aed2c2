-- A run of characters of names that begins as a name does.
use Rattle.std.proofs.Common.{◌≡◌, chars, true, subst, arith}
use Rattle.std.proofs.lemmas.Grind.{common_steps}
use Rattle.markup_parts.specs.Chars.{is_name_start, is_name_char}
use Rattle.markup_parts.specs.Constructs.{StartsName}
use Rattle.markup_parts.proofs.LiteralLemmas.{true_false}
use Rattle.markup_parts.proofs.RunLemmas.{ends_before, starts_run}
use Rattle.markup_parts.proofs.names.name.Goals as goal

pub returns-clause-name : goal.returns-clause-name
returns-clause-name c =
    let starts : is_name_start c.in-Some.c ≡ true = first_of (cc, grind (arith, common_steps)) in
    record {
      run = record {
        parts = c.run.ensures.text;
        all = c.run.ensures.all;
        ends = ends_before is_name_char (chars c.run.result.1.now) c.run.ensures.ends (λ e. true_false (c.is_nothing.ensures.1 e) c.if-is_nothing.false);
      };
      starts = starts_run (chars c.args.text.now) (chars c.run.result.0.now) (chars c.run.result.1.now) (chars c.in-Some.field-0-1.now) c.in-Some.c
          c.in-Some.ensures.first c.run.ensures.text c.run.ensures.ends starts;
    }

pub returns-clause-shorter : goal.returns-clause-shorter
returns-clause-shorter c =
    let starts : is_name_start c.in-Some.c ≡ true = first_of (cc, grind (arith, common_steps)) in
    c.run.ensures.strict (λ e. subst StartsName e
    (starts_run (chars c.args.text.now) (chars c.run.result.0.now) (chars c.run.result.1.now) (chars c.in-Some.field-0-1.now) c.in-Some.c
    c.in-Some.ensures.first c.run.ensures.text c.run.ensures.ends starts))
