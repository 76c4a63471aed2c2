-- The list, the name, the style, the level and what ends the tag.
use Rattle.std.proofs.Common.{◌++◌, [], ℕ, List, codes, ap, ◌∙◌}
use Rattle.std.specs.List.{flat_map}
use Rattle.std.specs.Str.{chars}
use Rattle.std.specs.String.{string_bytes}
use Rattle.markup_nodes.specs.declared.words.Attr.{Attr}
use Rattle.tree_text.specs.Writing.{attr_text, tag_text}
use Rattle.written_model.specs.Elements.{unless_empty}
use Rattle.value_write.proofs.ChainLemmas.{five}
use Rattle.paragraph_write.specs.Around.{tag_close, before_paragraph, paragraph_name, level_attributes}
use Rattle.paragraph_write.proofs.AroundLemmas.{two_groups}
use Rattle.paragraph_write.proofs.paragraphs.push_paragraph_start.Goals as goal

pub returns : goal.returns
unfolding chars
returns c =
    let name = paragraph_name c.args.level in
    let style : List Attr = unless_empty (codes "text:style-name") (chars c.args.style.now) in
    let level : List Attr = level_attributes c.args.level in
    let before = before_paragraph c.args.list.now in
    five c.push_tag_close.result (chars (string_bytes c.push_tag_close.new.out)) (chars (string_bytes c.push_level.new.out)) (chars (string_bytes c.push_unless_empty.new.out)) (chars (string_bytes c.push_name.new.out)) (chars (string_bytes c.push_before.new.out)) (chars (string_bytes c.args.out.now))
    before (tag_text name []) (flat_map attr_text style) (flat_map attr_text level) (tag_close c.args.holds)
    c.in_ok-push_before.ensures
    (c.in_ok-push_name.ensures ∙ ap (λ (tag : List ℕ). chars (string_bytes c.push_before.new.out) ++ tag_text tag []) c.paragraph_name.ensures)
    c.in_ok-push_unless_empty.ensures c.in_ok-push_level.ensures c.push_tag_close.ensures
    (ap (λ (t : List ℕ). before ++ t) (two_groups name style level (tag_close c.args.holds)))
