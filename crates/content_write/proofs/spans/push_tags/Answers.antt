-- Spans that both stand in go on; the others end and begin.
use Rattle.std.proofs.Common.{◌≡◌, ◌++◌, ℕ, List, ap, ◌∙◌}
use Rattle.std.specs.Str.{chars}
use Rattle.std.specs.String.{string_bytes}
use Rattle.doc_model.specs.declared.texts.Name.{Name}
use Rattle.markup_parts.proofs.LiteralLemmas.{true_false}
use Rattle.element_text.proofs.AddedLemmas.{last}
use Rattle.value_write.proofs.ChainLemmas.{two}
use Rattle.content_write.specs.Rest.{starts, ends, tags}
use Rattle.content_write.proofs.Fronts.{front, rest}
use Rattle.content_write.proofs.TagLemmas.{none_ends, none_begins, all_change, one_stays}
use Rattle.content_write.proofs.spans.push_tags.Goals as goal

both_same : (a b t u : List ℕ) → a ≡ b → t ≡ u → a ++ t ≡ b ++ u
both_same a b t u e f = ap (λ (x : List ℕ). x ++ t) e ∙ ap (λ (x : List ℕ). b ++ x) f

pub returns-in_default : goal.returns-in_default
returns-in_default c =
    let ending = c.shared.ending.now in
    let beginning = c.shared.beginning.now in
    let whole = tags c.args.around.now c.args.spans.now in
    last c.push_starts.result (chars (string_bytes c.push_starts.new.out)) (chars (string_bytes c.shared.out)) (starts beginning) c.push_starts.ensures
    (both_same _ _ _ _ c.shared.invariant.out_same (none_ends ending beginning whole c.in_default.len_below c.shared.invariant.tags_same))

pub returns-in_default-beginning : goal.returns-in_default-beginning
returns-in_default-beginning c =
    let ending = c.shared.ending.now in
    let beginning = c.shared.beginning.now in
    let whole = tags c.args.around.now c.args.spans.now in
    last c.push_ends.result (chars (string_bytes c.push_ends.new.out)) (chars (string_bytes c.shared.out)) (ends ending) c.push_ends.ensures
    (both_same _ _ _ _ c.shared.invariant.out_same (none_begins ending beginning whole c.in_default-beginning.len_below c.shared.invariant.tags_same))

pub returns-then-not-is_same : goal.returns-then-not-is_same
returns-then-not-is_same c =
    let ending : List Name = c.shared.ending.now in
    let beginning : List Name = c.shared.beginning.now in
    let whole = tags c.args.around.now c.args.spans.now in
    two c.push_starts-then-not-is_same.result (chars (string_bytes c.push_starts-then-not-is_same.new.out)) (chars (string_bytes c.push_ends-then-not-is_same.new.out)) (chars (string_bytes c.args.out.now))
    (ends ending) (starts beginning) (c.in_ok-push_ends.ensures ∙ ap (λ (t : List ℕ). t ++ ends ending) c.shared.invariant.out_same) c.push_starts-then-not-is_same.ensures
    (all_change ending beginning whole c.name-item.result c.other-item.result (rest ending) (rest beginning) (front ending c.name-item.result _ c.in-len1-up.len_at_least c.name-item.is) (front beginning c.other-item.result _ c.in-len1-up-beginning.len_at_least c.other-item.is)
    (λ e. true_false (c.is_same.ensures.1 e) c.if-not-is_same.true) c.shared.invariant.tags_same)

pub shared-preserved : goal.shared-preserved
shared-preserved c =
    let ending : List Name = c.shared.ending.now in
    let beginning : List Name = c.shared.beginning.now in
    let whole = tags c.args.around.now c.args.spans.now in
    record {
      out_same = c.shared.invariant.out_same;
      tags_same = one_stays ending beginning whole c.name-item.result c.other-item.result (rest ending) (rest beginning) (front ending c.name-item.result _ c.in-len1-up.len_at_least c.name-item.is) (front beginning c.other-item.result _ c.in-len1-up-beginning.len_at_least c.other-item.is)
          (c.is_same.ensures.0 c.if-not-is_same.false) c.shared.invariant.tags_same;
    }
