use Rattle.std.proofs.Common.{[], List, codes}
use Rattle.std.specs.List.{flat_map}
use Rattle.std.specs.Str.{chars}
use Rattle.std.specs.String.{string_bytes}
use Rattle.markup_nodes.specs.Node.{Node}
use Rattle.markup_nodes.specs.declared.tree.Elem.{Elem}
use Rattle.markup_nodes.specs.declared.words.Attr.{Attr}
use Rattle.tree_text.specs.Writing.{attr_text, tag_text}
use Rattle.value_write.proofs.ChainLemmas.{three}
use Rattle.sheet_write.specs.Held.{held_text}
use Rattle.sheet_write.proofs.HeldLemmas.{holding}
use Rattle.head_write.specs.Masters.{master_attributes, master_nodes}
use Rattle.head_write.proofs.masters.push_master.Goals as goal

pub returns : goal.returns
unfolding chars
returns c =
    let tag = codes "style:master-page" in
    let attrs : List Attr = master_attributes c.args.master.now in
    let nodes : List (Node Elem) = master_nodes c.args.master.now in
    three c.push_held_heads.result (chars (string_bytes c.push_held_heads.new.out)) (chars (string_bytes c.push_master_attributes.new.out)) (chars (string_bytes c.push_name.new.out)) (chars (string_bytes c.args.out.now))
    (tag_text tag []) (flat_map attr_text attrs) (held_text tag nodes) c.in_ok-push_name.ensures c.in_ok-push_master_attributes.ensures c.push_held_heads.ensures (holding tag attrs nodes)
