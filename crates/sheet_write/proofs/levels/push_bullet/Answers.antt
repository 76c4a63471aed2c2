use Rattle.std.proofs.Common.{[], ◌∷◌, List, codes, decimal}
use Rattle.std.specs.List.{flat_map}
use Rattle.std.specs.Str.{chars}
use Rattle.std.specs.String.{string_bytes}
use Rattle.markup_nodes.specs.declared.words.Attr.{Attr}
use Rattle.tree_text.specs.Writing.{attr_text, tag_text}
use Rattle.written_model.specs.Elements.{attribute}
use Rattle.value_write.proofs.ChainLemmas.{four}
use Rattle.value_write.proofs.ElementLemmas.{empty_two}
use Rattle.sheet_write.proofs.levels.push_bullet.Goals as goal

pub returns : goal.returns
unfolding chars
returns c =
    let old = chars (string_bytes c.args.out.now) in
    let tag = codes "text:list-level-style-bullet" in
    let level : List Attr = attribute (codes "text:level") (decimal c.args.level) ∷ [] in
    let bullet : List Attr = attribute (codes "text:bullet-char") (c.args.bullet ∷ []) ∷ [] in
    four c.push_empty_end.result (chars (string_bytes c.push_empty_end.new.out)) (chars (string_bytes c.push_character.new.out)) (chars (string_bytes c.push_level_number.new.out)) (chars (string_bytes c.push_name.new.out)) old (tag_text tag []) (flat_map attr_text level) (flat_map attr_text bullet) (codes "/>")
    c.in_ok-push_name.ensures c.in_ok-push_level_number.ensures c.in_ok-push_character.ensures c.push_empty_end.ensures (empty_two tag level bullet)
