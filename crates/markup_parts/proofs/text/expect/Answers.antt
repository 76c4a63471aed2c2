-- The text begins with what was wanted so far, and then goes on, ends, or differs.
use Rattle.std.proofs.Common.{ℕ, List, [], ◌∷◌, ◌++◌, length, chars, ap, sym, ◌∙◌, rules}
use Rattle.markup_parts.proofs.NumberLemmas.{spent_push}
use Rattle.markup_parts.proofs.TextLemmas.{one_more, no_more, text_read, text_cut, text_broken}
use Rattle.markup_parts.proofs.text.expect.Goals as goal

pub returns-in-None-clause-read : goal.returns-in-None-clause-read
returns-in-None-clause-read c =
    text_cut (chars c.args.wanted.now) (chars c.args.text.now) c.wanted.invariant.0 (chars c.in-Some.more.now) c.in-Some.c
    (no_more (chars c.args.text.now) c.wanted.invariant.0 (chars c.wanted.rest.now) c.wanted.invariant.1 c.in-None.ensures.first)
    (c.wanted.invariant.2 ∙ ap (λ (t : List ℕ). c.wanted.invariant.0 ++ t) c.in-Some.ensures.first)

pub returns-in-Some-2-clause-read : goal.returns-in-Some-2-clause-read
returns-in-Some-2-clause-read c =
    text_broken (chars c.args.wanted.now) (chars c.args.text.now) c.wanted.invariant.0 (chars c.in-Some.more.now) (chars c.in-Some-first.behind.now) c.in-Some.c c.in-Some-first.d
    (c.wanted.invariant.1 ∙ ap (λ (t : List ℕ). c.wanted.invariant.0 ++ t) c.in-Some-first.ensures.first)
    (c.wanted.invariant.2 ∙ ap (λ (t : List ℕ). c.wanted.invariant.0 ++ t) c.in-Some.ensures.first) c.if-d-c.false

pub wanted-preserved : goal.wanted-preserved
wanted-preserved c = (
  c.wanted.invariant.0 ++ c.in-Some-first.d ∷ [],
  one_more (chars c.args.text.now) c.wanted.invariant.0 (chars c.wanted.rest.now) (chars c.in-Some-first.behind.now) c.in-Some-first.d c.wanted.invariant.1 c.in-Some-first.ensures.first,
  one_more (chars c.args.wanted.now) c.wanted.invariant.0 (chars c.wanted.left.now) (chars c.in-Some.more.now) c.in-Some-first.d c.wanted.invariant.2
      (c.in-Some.ensures.first ∙ ap (λ (x : ℕ). x ∷ chars c.in-Some.more.now) (sym c.if-d-c.true)),
  spent_push c.wanted.invariant.0 c.in-Some-first.d (length c.wanted.rest.now) (length c.in-Some-first.behind.now) (length c.args.text.now) c.wanted.invariant.3 c.in-Some-first.ensures.shorter,
  search rules,
  search rules,
)

pub returns-clause-read : goal.returns-clause-read
returns-clause-read c =
    text_read (chars c.args.wanted.now) (chars c.args.text.now) (chars c.wanted.rest.now)
    (c.wanted.invariant.1 ∙ ap (λ (t : List ℕ). t ++ chars c.wanted.rest.now)
    (sym (no_more (chars c.args.wanted.now) c.wanted.invariant.0 (chars c.wanted.left.now) c.wanted.invariant.2 c.in_default.ensures.first)))
