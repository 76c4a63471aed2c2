-- The end stands here, or a character that passes, or neither.
use Rattle.std.proofs.Common.{◌≡◌, ℕ, List, [], ◌∷◌, ◌++◌, chars, true, false, sym, ◌∙◌, subst, arith, rules}
use Rattle.std.proofs.lemmas.Grind.{common_steps}
use Rattle.std.proofs.lemmas.List.{append-nil, append_cancel_right}
use Rattle.markup_parts.specs.Constructs.{IsUpTo}
use Rattle.markup_parts.specs.Outcomes.{Found, Stopped, Reads, IsRead}
use Rattle.markup_parts.specs.Runs.{is_allowed}
use Rattle.markup_parts.specs.declared.stop.Stop.TheVariants.{Broken, Cut}
use Rattle.markup_parts.proofs.ReadsLemmas.{mapped, mapped_more, reads_on}
use Rattle.markup_parts.proofs.SkippedLemmas.{up_to_end, up_to_cut, up_to_on, up_to_broken, up_to_nil}
use Rattle.markup_parts.proofs.TextLemmas.{one_more}
use Rattle.markup_parts.proofs.skipped.up_to.Goals as goal

pub returns-in-Ok-clause-read : goal.returns-in-Ok-clause-read
returns-in-Ok-clause-read c =
    let test = is_allowed c.args.allowed in
    let end = chars c.args.end.now in
    let body : chars c.before-in-Ok.result.now ≡ c.body.invariant.0 =
    append_cancel_right (chars c.before-in-Ok.result.now) c.body.invariant.0 (chars c.body.rest.now) (sym c.before-in-Ok.ensures ∙ c.body.invariant.1) in
    subst (λ (b : List ℕ). IsRead (IsUpTo test end) (chars c.args.text.now) b (chars c.in-Ok.behind.now)) (append-nil c.body.invariant.0 ∙ sym body)
    (c.body.invariant.3 (Found [] (chars c.in-Ok.behind.now)) (up_to_end test end c.in-Ok.ensures.read))

pub returns-in-Err-Cut-clause-read : goal.returns-in-Err-Cut-clause-read
returns-in-Err-Cut-clause-read c =
    c.body.invariant.3 (Stopped Cut) (up_to_cut (is_allowed c.args.allowed) (chars c.args.end.now) (rw c.in-Err-Cut.field-0-is at c.in-Err-Cut.ensures.read))

pub returns-in-Err-Refused-clause-read : goal.returns-in-Err-Refused-clause-read
returns-in-Err-Refused-clause-read c = absurd ((rw c.in-Err-Refused.field-0-is at c.in-Err-Refused.ensures.read).is [])

pub returns-in-None-clause-read : goal.returns-in-None-clause-read
returns-in-None-clause-read c =
    c.body.invariant.3 (Stopped Cut) (up_to_nil (is_allowed c.args.allowed) (chars c.args.end.now) c.in-None.ensures.first (rw c.in-Err-Broken.field-0-is at c.in-Err-Broken.ensures.read))

pub returns-in-Some-clause-read : goal.returns-in-Some-clause-read
returns-in-Some-clause-read c =
    let fails : is_allowed c.args.allowed c.in-Some.c ≡ false = first_of (cc, grind (arith, common_steps)) in
    c.body.invariant.3 (Stopped Broken) (up_to_broken (is_allowed c.args.allowed) (chars c.args.end.now) (rw c.in-Err-Broken.field-0-is at c.in-Err-Broken.ensures.read) c.in-Some.ensures.first fails)

pub body-preserved : goal.body-preserved
body-preserved c =
    let test = is_allowed c.args.allowed in
    let end = chars c.args.end.now in
    let front = c.body.invariant.0 in
    let passes : is_allowed c.args.allowed c.in-Some.c ≡ true = first_of (cc, grind (arith, common_steps)) in (
      front ++ c.in-Some.c ∷ [],
      one_more (chars c.args.text.now) front (chars c.body.rest.now) (chars c.in-Some.field-0-1.now) c.in-Some.c c.body.invariant.1 c.in-Some.ensures.first,
      omega (arith, c.in-Some.ensures.shorter),
      (λ o r. subst (Reads (IsUpTo test end) (chars c.args.text.now)) (mapped_more front c.in-Some.c o)
          (c.body.invariant.3 (mapped (λ (body : List ℕ). c.in-Some.c ∷ body) o) (reads_on (up_to_on test end (rw c.in-Err-Broken.field-0-is at c.in-Err-Broken.ensures.read) c.in-Some.ensures.first passes) o r))),
      search rules,
    )
