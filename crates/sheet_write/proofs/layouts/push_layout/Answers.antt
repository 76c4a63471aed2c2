use Rattle.std.proofs.Common.{◌≡◌, ◌++◌, [], ◌∷◌, ℕ, List, codes, subst}
use Rattle.std.specs.List.{flat_map}
use Rattle.std.specs.Str.{chars}
use Rattle.std.specs.String.{string_bytes}
use Rattle.markup_nodes.specs.Node.{Node}
use Rattle.markup_nodes.specs.declared.tree.Elem.{Elem}
use Rattle.markup_nodes.specs.declared.words.Attr.{Attr}
use Rattle.tree_text.specs.Writing.{attr_text, tag_text}
use Rattle.written_model.specs.Elements.{attribute, properties}
use Rattle.written_model.specs.Styles.{layout_attributes}
use Rattle.value_write.proofs.ChainLemmas.{three}
use Rattle.sheet_write.specs.Held.{held_text}
use Rattle.sheet_write.proofs.HeldLemmas.{holding}
use Rattle.sheet_write.proofs.layouts.push_layout.Goals as goal

pub returns : goal.returns
unfolding chars
returns c =
    let tag = codes "style:page-layout" in
    let attrs : List Attr = attribute (codes "style:name") c.args.layout.now.name ∷ [] in
    let nodes : List (Node Elem) = properties (codes "style:page-layout-properties") (layout_attributes c.args.layout.now) in
    three c.push_dimensions.result (chars (string_bytes c.push_dimensions.new.out)) (chars (string_bytes c.push_text.new.out)) (chars (string_bytes c.push_name.new.out)) (chars (string_bytes c.args.out.now))
    (tag_text tag []) (flat_map attr_text attrs) (held_text tag nodes) c.in_ok-push_name.ensures
    (subst (λ (value : List ℕ). chars (string_bytes c.push_text.new.out) ≡ chars (string_bytes c.push_name.new.out) ++ flat_map attr_text (attribute (codes "style:name") value ∷ [])) c.get.ensures c.in_ok-push_text.ensures)
    c.push_dimensions.ensures (holding tag attrs nodes)
