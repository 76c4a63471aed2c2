-- The end of the tag, the content and the end of the element.
use Rattle.std.proofs.Common.{◌≡◌, ◌++◌, ℕ, List, OnOk, codes, sym, ap, ◌∙◌, subst, true, false}
use Rattle.std.specs.Prelude.{not}
use Rattle.std.specs.Str.{chars}
use Rattle.std.specs.String.{string_bytes}
use Rattle.markup_nodes.specs.Node.{Node}
use Rattle.markup_nodes.specs.declared.tree.Elem.{Elem}
use Rattle.spelling_model.specs.Spelling.{is_there}
use Rattle.tree_text.specs.Writing.{end_text, content_text}
use Rattle.written_model.specs.Content.{head_content}
use Rattle.value_write.proofs.ChainLemmas.{three}
use Rattle.sheet_write.proofs.HeldLemmas.{held_none, held_some}
use Rattle.sheet_write.proofs.ThereLemmas.{there-length}
use Rattle.head_write.proofs.ContentLemmas.{there-content}
use Rattle.head_write.proofs.paragraphs.push_held_items.Goals as goal

pub returns-then-is_empty : goal.returns-then-is_empty
unfolding chars
returns-then-is_empty c =
    let tag = codes "text:p" in
    let nodes : List (Node Elem) = head_content c.args.whats.now in
    let none : is_there nodes ≡ false = there-content c.args.whats.now ∙ (sym (there-length c.args.whats.now) ∙ ap not (sym c.is_empty.ensures ∙ c.if-is_empty.true)) in
    subst (λ (text : List ℕ). OnOk c.push_empty_end.result (chars (string_bytes c.push_empty_end.new.out) ≡ chars (string_bytes c.args.out.now) ++ text)) (held_none tag nodes none) c.push_empty_end.ensures

pub returns : goal.returns
unfolding chars
returns c =
    let tag = codes "text:p" in
    let nodes : List (Node Elem) = head_content c.args.whats.now in
    let some : is_there nodes ≡ true = there-content c.args.whats.now ∙ (sym (there-length c.args.whats.now) ∙ ap not (sym c.is_empty.ensures ∙ c.if-is_empty.false)) in
    three c.push_end.result (chars (string_bytes c.push_end.new.out)) (chars (string_bytes c.push_head_content.new.out)) (chars (string_bytes c.push_tag_end.new.out)) (chars (string_bytes c.args.out.now))
    (codes ">") (content_text nodes) (end_text tag) c.in_ok-push_tag_end.ensures c.in_ok-push_head_content.ensures c.push_end.ensures (held_some tag nodes some)
