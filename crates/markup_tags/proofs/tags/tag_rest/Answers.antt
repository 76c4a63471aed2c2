-- The end of the tag, or one more attribute.
use Rattle.std.proofs.Common.{ℕ, List, [], ◌∷◌, ◌++◌, Bool, true, false, chars, ap, sym, ◌∙◌, subst, arith, rules}
use Rattle.std.proofs.lemmas.List.{append-nil}
use Rattle.std.proofs.lemmas.Result.{err_from_is_err_and}
use Rattle.markup_parts.specs.Chars.{is_space}
use Rattle.markup_parts.specs.Outcomes.{Found, Stopped, Reads, IsRead}
use Rattle.markup_parts.specs.declared.stop.Stop.TheVariants.{Broken, Cut}
use Rattle.markup_parts.proofs.LiteralLemmas.{true_false}
use Rattle.markup_parts.proofs.ReadsLemmas.{mapped, reads_on}
use Rattle.markup_nodes.specs.declared.words.Attr.{Attr}
use Rattle.markup_tags.specs.Attempts.{ReadsUnlessMemory, fault_outcome}
use Rattle.markup_tags.specs.Tags.{IsAttribute, IsTagRest}
use Rattle.markup_tags.proofs.AttemptLemmas.{fault_stop}
use Rattle.markup_tags.proofs.TagLemmas.{pair, run_before, run_all, tag_rest_cut, tag_rest_end, tag_rest_slash, tag_rest_broken, tag_rest_stop, tag_rest_attribute, mapped_all, mapped_next}
use Rattle.markup_tags.proofs.tags.tag_rest.Goals as goal

pub attributes-init : goal.attributes-init
attributes-init c = (
  omega arith,
  (λ o r. subst (Reads IsTagRest (chars c.args.text.now)) (sym (mapped_all c.new-attrs.result.items c.new-attrs.ensures.items o)) r),
  search rules,
)

pub returns-in_default-clause-read : goal.returns-in_default-clause-read
returns-in_default-clause-read c =
    c.attributes.invariant.1 (Stopped Cut) (tag_rest_cut (run_all is_space (chars c.attributes.rest.now) (chars c.run.result.0.now) (chars c.run.result.1.now)
    c.run.ensures.text c.run.ensures.all c.in_default.ensures.first))

pub returns-then-c-eq62-clause-read : goal.returns-then-c-eq62-clause-read
returns-then-c-eq62-clause-read c =
    let text = chars c.args.text.now in
    let end = chars c.in-Some.end.now in
    let attrs = c.attributes.attrs.items in
    let read : IsRead IsTagRest text (pair (attrs ++ []) false) end =
    c.attributes.invariant.1 (Found (pair [] false) end) (tag_rest_end (run_before {test = is_space} c.run.ensures.text c.run.ensures.all c.run.ensures.ends
    (c.in-Some.ensures.first ∙ ap (λ (x : ℕ). x ∷ end) c.if-c-eq62.true))) in
    subst (λ (t : List Attr). IsRead IsTagRest text (pair t false) end) (append-nil attrs ∙ sym c.from_vec.ensures) read

pub returns-in_err-behind-clause-read : goal.returns-in_err-behind-clause-read
returns-in_err-behind-clause-read c =
    let p = err_from_is_err_and c.from_residual.result c.from_residual.ensures.1 in
    rw (p.1, p.2) (c.attributes.invariant.1 (Stopped c.in_err-behind.field-0.0) (reads_on (tag_rest_slash (run_before {test = is_space} c.run.ensures.text c.run.ensures.all c.run.ensures.ends
    (c.in-Some.ensures.first ∙ ap (λ (x : ℕ). x ∷ chars c.in-Some.end.now) c.if-c-eq47.true))) (Stopped c.in_err-behind.field-0.0) c.in_err-behind.ensures.read))

pub returns-then-c-eq47-clause-read : goal.returns-then-c-eq47-clause-read
returns-then-c-eq47-clause-read c =
    let text = chars c.args.text.now in
    let behind = chars c.in_ok-behind.behind.now in
    let attrs = c.attributes.attrs.items in
    let read : IsRead IsTagRest text (pair (attrs ++ []) true) behind =
    c.attributes.invariant.1 (Found (pair [] true) behind) (reads_on (tag_rest_slash (run_before {test = is_space} c.run.ensures.text c.run.ensures.all c.run.ensures.ends
    (c.in-Some.ensures.first ∙ ap (λ (x : ℕ). x ∷ chars c.in-Some.end.now) c.if-c-eq47.true))) (Found tt behind) c.in_ok-behind.ensures.read) in
    subst (λ (t : List Attr). IsRead IsTagRest text (pair t true) behind) (append-nil attrs ∙ sym c.from_vec-then-c-eq47.ensures) read

pub returns-then-is_nothing-clause-read : goal.returns-then-is_nothing-clause-read
returns-then-is_nothing-clause-read c =
    c.attributes.invariant.1 (Stopped Broken) (tag_rest_broken (c.is_nothing.ensures.0 c.if-is_nothing.true)
    (run_before {test = is_space} c.run.ensures.text c.run.ensures.all c.run.ensures.ends c.in-Some.ensures.first) (c.if-c-eq62.false, c.if-c-eq47.false))

pub returns-in-Err-clause-read : goal.returns-in-Err-clause-read
returns-in-Err-clause-read c =
    let end = chars c.in-Some.end.now in
    fault_stop (λ stop r. c.attributes.invariant.1 (Stopped stop) (tag_rest_stop (chars c.attributes.rest.now) (chars c.run.result.0.now) end c.in-Some.c
    (λ e. true_false (c.is_nothing.ensures.1 e) c.if-is_nothing.false)
    (run_before {test = is_space} c.run.ensures.text c.run.ensures.all c.run.ensures.ends c.in-Some.ensures.first) (c.if-c-eq62.false, c.if-c-eq47.false) stop r))
    c.in-Err.fault
    (subst (λ (t : List ℕ). ReadsUnlessMemory IsAttribute t (fault_outcome c.in-Err.fault)) c.in-Some.ensures.first c.in-Err.ensures.read)

pub attributes-preserved : goal.attributes-preserved
attributes-preserved c =
    let attr = c.in-Ok.found.0 in
    let behind = chars c.in-Ok.found.1.now in
    let read : IsRead IsAttribute (c.in-Some.c ∷ chars c.in-Some.end.now) attr behind =
    subst (λ (t : List ℕ). IsRead IsAttribute t attr behind) c.in-Some.ensures.first c.in-Ok.ensures.read in (
      omega (arith, c.in-Ok.ensures.shorter, c.run.ensures.shorter),
      (λ o r. subst (Reads IsTagRest (chars c.args.text.now)) (mapped_next c.attributes.attrs.items c.push.new.self.items attr c.in_ok-push.ensures.items o)
          (c.attributes.invariant.1 (mapped (λ (found : List Attr × Bool). pair (attr ∷ found.0) found.1) o)
          (reads_on (tag_rest_attribute (λ e. true_false (c.is_nothing.ensures.1 e) c.if-is_nothing.false)
          (run_before {test = is_space} c.run.ensures.text c.run.ensures.all c.run.ensures.ends c.in-Some.ensures.first) (c.if-c-eq62.false, c.if-c-eq47.false) read) o r))),
      search rules,
    )
