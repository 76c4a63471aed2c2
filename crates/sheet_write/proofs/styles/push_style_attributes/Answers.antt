-- One attribute after another.
use Rattle.std.proofs.Common.{◌≡◌, ◌++◌, [], ◌∷◌, ℕ, List, codes, subst}
use Rattle.std.specs.List.{flat_map}
use Rattle.std.specs.Str.{chars}
use Rattle.std.specs.String.{string_bytes}
use Rattle.markup_nodes.specs.declared.words.Attr.{Attr}
use Rattle.doc_model.specs.declared.style.Style.{Style}
use Rattle.tree_text.specs.Writing.{attr_text}
use Rattle.written_model.specs.Elements.{attribute, unless_empty, where_stated}
use Rattle.written_model.specs.Styles.{outline_attribute}
use Rattle.written_model.specs.Values as named
use Rattle.style_write.proofs.JoinLemmas.{joined, joined_last}
use Rattle.sheet_write.proofs.styles.push_style_attributes.Goals as goal

pub returns : goal.returns
unfolding chars
returns c =
    let old = chars (string_bytes c.args.out.now) in
    let style : Style = c.args.style.now in
    let a : List Attr = attribute (codes "style:name") style.name ∷ [] in
    let b : List Attr = attribute (codes "style:family") (named.family_text style.family) ∷ [] in
    let d : List Attr = unless_empty (codes "style:parent-style-name") style.parent in
    let x : List Attr = unless_empty (codes "style:next-style-name") style.next in
    let y : List Attr = where_stated (codes "style:master-page-name") (λ (name : List ℕ). name) style.master in
    let z : List Attr = outline_attribute style.outline in
    let s0 : chars (string_bytes c.push_text.new.out) ≡ old ++ flat_map attr_text a =
    subst (λ (value : List ℕ). chars (string_bytes c.push_text.new.out) ≡ old ++ flat_map attr_text (attribute (codes "style:name") value ∷ [])) c.get.ensures c.in_ok-push_text.ensures in
    let h1 : chars (string_bytes c.push_text-2.new.out) ≡ chars (string_bytes c.push_text.new.out) ++ flat_map attr_text b =
    subst (λ (value : List ℕ). chars (string_bytes c.push_text-2.new.out) ≡ chars (string_bytes c.push_text.new.out) ++ flat_map attr_text (attribute (codes "style:family") value ∷ [])) c.family_text.ensures c.in_ok-push_text-2.ensures in
    let h2 : chars (string_bytes c.push_unless_empty.new.out) ≡ chars (string_bytes c.push_text-2.new.out) ++ flat_map attr_text d =
    subst (λ (value : List ℕ). chars (string_bytes c.push_unless_empty.new.out) ≡ chars (string_bytes c.push_text-2.new.out) ++ flat_map attr_text (unless_empty (codes "style:parent-style-name") value)) c.get-2.ensures c.in_ok-push_unless_empty.ensures in
    let h3 : chars (string_bytes c.push_unless_empty-2.new.out) ≡ chars (string_bytes c.push_unless_empty.new.out) ++ flat_map attr_text x =
    subst (λ (value : List ℕ). chars (string_bytes c.push_unless_empty-2.new.out) ≡ chars (string_bytes c.push_unless_empty.new.out) ++ flat_map attr_text (unless_empty (codes "style:next-style-name") value)) c.get-3.ensures c.in_ok-push_unless_empty-2.ensures in
    let s1 = joined (chars (string_bytes c.push_text-2.new.out)) (chars (string_bytes c.push_text.new.out)) old a b s0 h1 in
    let s2 = joined (chars (string_bytes c.push_unless_empty.new.out)) (chars (string_bytes c.push_text-2.new.out)) old (a ++ b) d s1 h2 in
    let s3 = joined (chars (string_bytes c.push_unless_empty-2.new.out)) (chars (string_bytes c.push_unless_empty.new.out)) old (a ++ b ++ d) x s2 h3 in
    let s4 = joined (chars (string_bytes c.push_master_stated.new.out)) (chars (string_bytes c.push_unless_empty-2.new.out)) old (a ++ b ++ d ++ x) y s3 c.in_ok-push_master_stated.ensures in
    joined_last c.push_outline_attribute.result (chars (string_bytes c.push_outline_attribute.new.out)) (chars (string_bytes c.push_master_stated.new.out)) old (a ++ b ++ d ++ x ++ y) z s4 c.push_outline_attribute.ensures
