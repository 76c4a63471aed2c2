-- What stands behind the digits so far.
use Rattle.std.proofs.Common.{◌≡◌, [], ◌∷◌, ◌++◌, length, chars, rules, true, Some, None}
use Rattle.markup_parts.specs.Chars.{is_digit_of}
use Rattle.markup_parts.proofs.NumberLemmas.{base_of, number_cut, number_refused, number_found, number_broken, number_value, at_semicolon, no_digit, a_digit, capped_push, spent_push, spent_some, spent_none}
use Rattle.markup_parts.proofs.RunLemmas.{each_push}
use Rattle.markup_parts.proofs.TextLemmas.{one_more}
use Rattle.markup_parts.proofs.references.number.Goals as goal
use Rattle.markup_parts.proofs.references.number.Goals.{then-c-eq59+else-rest-text, else-c-eq59}

pub returns-in_default-clause-read : goal.returns-in_default-clause-read
returns-in_default-clause-read c =
    number_cut c.digits.invariant.0 (chars c.digits.rest.now) (base_of c.args.base c.requires) c.digits.invariant.1 c.in_default.ensures.first c.digits.invariant.2

pub returns-in-None-legal-clause-read : goal.returns-in-None-legal-clause-read
returns-in-None-legal-clause-read c =
    number_refused c.digits.invariant.0 (chars c.in-Some.behind.now) (base_of c.args.base c.requires)
    (at_semicolon (chars c.args.text.now) c.digits.invariant.0 (chars c.digits.rest.now) (chars c.in-Some.behind.now) c.in-Some.c c.digits.invariant.1 c.in-Some.ensures.first c.if-c-eq59.true)
    c.digits.invariant.2
    (spent_some c.digits.invariant.0 (length c.digits.rest.now) (length c.args.text.now) c.digits.invariant.4 c.if-rest-text.true)
    (number_value c.args.base c.digits.value c.digits.invariant.0 c.legal.result None c.digits.invariant.3 c.legal.ensures c.in-None-legal.is)

pub returns-in-Some-legal-clause-read : goal.returns-in-Some-legal-clause-read
returns-in-Some-legal-clause-read c =
    number_found c.digits.invariant.0 (chars c.in-Some.behind.now) (base_of c.args.base c.requires)
    (at_semicolon (chars c.args.text.now) c.digits.invariant.0 (chars c.digits.rest.now) (chars c.in-Some.behind.now) c.in-Some.c c.digits.invariant.1 c.in-Some.ensures.first c.if-c-eq59.true)
    c.digits.invariant.2
    (spent_some c.digits.invariant.0 (length c.digits.rest.now) (length c.args.text.now) c.digits.invariant.4 c.if-rest-text.true)
    c.in-Some-legal.c
    (number_value c.args.base c.digits.value c.digits.invariant.0 c.legal.result (Some c.in-Some-legal.c) c.digits.invariant.3 c.legal.ensures c.in-Some-legal.is)

pub returns-in-None-2-clause-read : goal.returns-in-None-2-clause-read
returns-in-None-2-clause-read c =
    number_broken c.digits.invariant.0 (chars c.digits.rest.now) (chars c.in-Some.behind.now) c.in-Some.c c.digits.invariant.1 c.in-Some.ensures.first c.digits.invariant.2
    (no_digit c.args.base c.in-Some.c c.in-None.ensures.value)
    (λ e. elim c.if-c-eq59.branch [
      | then-c-eq59+else-rest-text w ↦ spent_none c.digits.invariant.0 (length c.digits.rest.now) (length c.args.text.now) c.digits.invariant.4 w.if-rest-text.false
      | else-c-eq59 w ↦ absurd (w.if-c-eq59.false e)
    ])

pub digits-preserved : goal.digits-preserved
digits-preserved c = (
  c.digits.invariant.0 ++ c.in-Some.c ∷ [],
  one_more (chars c.args.text.now) c.digits.invariant.0 (chars c.digits.rest.now) (chars c.in-Some.behind.now) c.in-Some.c c.digits.invariant.1 c.in-Some.ensures.first,
  each_push (λ d. is_digit_of c.args.base d ≡ true) c.digits.invariant.0 c.in-Some.c c.digits.invariant.2 (a_digit c.args.base c.in-Some.c c.in-Some-to_digit.ensures.value.0),
  capped_push c.args.base c.requires c.digits.invariant.0 c.in-Some.c c.digits.value c.in-Some-to_digit.digit c.min-value.result c.digits.invariant.3 c.in-Some-to_digit.ensures.value.1 c.min-value.ensures,
  spent_push c.digits.invariant.0 c.in-Some.c (length c.digits.rest.now) (length c.in-Some.behind.now) (length c.args.text.now) c.digits.invariant.4 c.in-Some.ensures.shorter,
  search rules,
)
