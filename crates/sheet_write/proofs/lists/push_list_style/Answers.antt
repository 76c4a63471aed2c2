use Rattle.std.proofs.Common.{◌≡◌, ◌++◌, [], ◌∷◌, ℕ, List, map, codes, subst, OnOk}
use Rattle.std.specs.List.{flat_map}
use Rattle.std.specs.Str.{chars}
use Rattle.std.specs.String.{string_bytes}
use Rattle.markup_nodes.specs.Node.{Node}
use Rattle.markup_nodes.specs.declared.tree.Elem.{Elem}
use Rattle.markup_nodes.specs.declared.words.Attr.{Attr}
use Rattle.doc_model.specs.declared.list_style.ListLevel.{ListLevel}
use Rattle.tree_text.specs.Writing.{attr_text, tag_text}
use Rattle.written_model.specs.Elements.{attribute}
use Rattle.written_model.specs.Styles.{level_element}
use Rattle.value_write.proofs.ChainLemmas.{three}
use Rattle.sheet_write.specs.Held.{held_text}
use Rattle.sheet_write.proofs.HeldLemmas.{holding}
use Rattle.sheet_write.proofs.lists.push_list_style.Goals as goal

pub returns : goal.returns
unfolding chars
returns c =
    let tag = codes "text:list-style" in
    let attrs : List Attr = attribute (codes "style:name") c.args.list.now.name ∷ [] in
    let nodes : List (Node Elem) = map level_element c.args.list.now.levels in
    three c.push_held_levels.result (chars (string_bytes c.push_held_levels.new.out)) (chars (string_bytes c.push_text.new.out)) (chars (string_bytes c.push_name.new.out)) (chars (string_bytes c.args.out.now))
    (tag_text tag []) (flat_map attr_text attrs) (held_text tag nodes) c.in_ok-push_name.ensures
    (subst (λ (value : List ℕ). chars (string_bytes c.push_text.new.out) ≡ chars (string_bytes c.push_name.new.out) ++ flat_map attr_text (attribute (codes "style:name") value ∷ [])) c.get.ensures c.in_ok-push_text.ensures)
    (subst (λ (levels : List ListLevel). OnOk c.push_held_levels.result (chars (string_bytes c.push_held_levels.new.out) ≡ chars (string_bytes c.push_text.new.out) ++ held_text tag (map level_element levels))) c.get-2.ensures c.push_held_levels.ensures)
    (holding tag attrs nodes)
