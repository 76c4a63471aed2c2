-- The style, the name, whether it is protected and whether it is hidden.
use Rattle.std.proofs.Common.{◌≡◌, ◌++◌, ℕ, List, codes, ap, ◌∙◌}
use Rattle.std.specs.List.{flat_map}
use Rattle.std.specs.Str.{chars}
use Rattle.std.specs.String.{string_bytes}
use Rattle.markup_nodes.specs.declared.words.Attr.{Attr}
use Rattle.tree_text.specs.Writing.{attr_text}
use Rattle.written_model.specs.Elements.{unless_empty, where_true}
use Rattle.block_write.proofs.JoinLemmas.{joined, joined_last}
use Rattle.block_write.proofs.sections.push_attributes.Goals as goal

pub returns : goal.returns
unfolding chars
returns c =
    let tag = c.args.tag in
    let old = chars (string_bytes c.args.out.now) in
    let one = chars (string_bytes c.push_unless_empty.new.out) in
    let two = chars (string_bytes c.push_unless_empty-2.new.out) in
    let three = chars (string_bytes c.push_where.new.out) in
    let style : List Attr = unless_empty (codes "text:style-name") tag.style.now in
    let name : List Attr = unless_empty (codes "text:name") tag.name.now in
    let protected : List Attr = where_true (codes "text:protected") (codes "true") tag.protected in
    let hidden : List Attr = where_true (codes "text:display") (codes "none") tag.hidden in
    let with_style : one ≡ old ++ flat_map attr_text style = c.in_ok-push_unless_empty.ensures ∙ ap (λ (value : List ℕ). old ++ flat_map attr_text (unless_empty (codes "text:style-name") value)) c.get.ensures in
    let next : two ≡ one ++ flat_map attr_text name = c.in_ok-push_unless_empty-2.ensures ∙ ap (λ (value : List ℕ). one ++ flat_map attr_text (unless_empty (codes "text:name") value)) c.get-2.ensures in
    let with_name = joined two one old style name with_style next in
    joined_last c.push_where-2.result (chars (string_bytes c.push_where-2.new.out)) three old (style ++ name ++ protected) hidden (joined three two old (style ++ name) protected with_name c.in_ok-push_where.ensures) c.push_where-2.ensures
