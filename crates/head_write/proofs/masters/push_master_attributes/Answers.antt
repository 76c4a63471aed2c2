-- One attribute after another.
use Rattle.std.proofs.Common.{◌≡◌, ◌++◌, [], ◌∷◌, ℕ, List, OnOk, codes, subst}
use Rattle.std.specs.List.{flat_map}
use Rattle.std.specs.Str.{chars}
use Rattle.std.specs.String.{string_bytes}
use Rattle.markup_nodes.specs.declared.words.Attr.{Attr}
use Rattle.tree_text.specs.Writing.{attr_text}
use Rattle.written_model.specs.Elements.{attribute, unless_empty}
use Rattle.style_write.proofs.JoinLemmas.{joined, joined_last}
use Rattle.head_write.proofs.masters.push_master_attributes.Goals as goal

pub returns : goal.returns
unfolding chars
returns c =
    let old = chars (string_bytes c.args.out.now) in
    let a : List Attr = attribute (codes "style:name") c.args.master.now.name ∷ [] in
    let b : List Attr = unless_empty (codes "style:page-layout-name") c.args.master.now.layout in
    let d : List Attr = unless_empty (codes "style:next-style-name") c.args.master.now.next in
    let s0 : chars (string_bytes c.push_text.new.out) ≡ old ++ flat_map attr_text a =
    subst (λ (value : List ℕ). chars (string_bytes c.push_text.new.out) ≡ old ++ flat_map attr_text (attribute (codes "style:name") value ∷ [])) c.get.ensures c.in_ok-push_text.ensures in
    let h1 : chars (string_bytes c.push_unless_empty.new.out) ≡ chars (string_bytes c.push_text.new.out) ++ flat_map attr_text b =
    subst (λ (value : List ℕ). chars (string_bytes c.push_unless_empty.new.out) ≡ chars (string_bytes c.push_text.new.out) ++ flat_map attr_text (unless_empty (codes "style:page-layout-name") value)) c.get-2.ensures c.in_ok-push_unless_empty.ensures in
    let h2 = subst (λ (value : List ℕ). OnOk c.push_unless_empty-2.result (chars (string_bytes c.push_unless_empty-2.new.out) ≡ chars (string_bytes c.push_unless_empty.new.out) ++ flat_map attr_text (unless_empty (codes "style:next-style-name") value))) c.get-3.ensures c.push_unless_empty-2.ensures in
    let s1 = joined (chars (string_bytes c.push_unless_empty.new.out)) (chars (string_bytes c.push_text.new.out)) old a b s0 h1 in
    joined_last c.push_unless_empty-2.result (chars (string_bytes c.push_unless_empty-2.new.out)) (chars (string_bytes c.push_unless_empty.new.out)) old (a ++ b) d s1 h2
