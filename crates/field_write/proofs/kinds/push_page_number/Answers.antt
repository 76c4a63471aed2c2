use Rattle.std.proofs.Common.{◌≡◌, [], ◌∷◌, ◌++◌, ℕ, List, codes, ◌∙◌, subst, ℤ, to_z-of_z}
use Rattle.std.specs.List.{flat_map}
use Rattle.std.specs.Str.{chars}
use Rattle.std.specs.String.{string_bytes}
use Rattle.tree_text.specs.Writing.{attr_text, tag_text}
use Rattle.markup_nodes.specs.declared.words.Attr.{Attr}
use Rattle.written_model.specs.Elements.{attribute}
use Rattle.written_model.specs.Values as named
use Rattle.written_model.specs.Fields.{format_attribute}
use Rattle.value_write.proofs.ChainLemmas.{five}
use Rattle.value_write.proofs.ElementLemmas.{empty_three}
use Rattle.field_write.proofs.AdjustLemmas.{fits}
use Rattle.field_write.proofs.kinds.push_page_number.Goals as goal

pub returns : goal.returns
unfolding chars
returns c =
    let old = chars (string_bytes c.args.out.now) in
    let tag = codes "text:page-number" in
    let first : List Attr = attribute (codes "text:select-page") (named.select_text c.args.select) ∷ [] in
    let second : List Attr = attribute (codes "text:page-adjust") (named.whole_text c.args.adjust) ∷ [] in
    let third : List Attr = format_attribute c.args.format ∷ [] in
    five c.push_empty_end.result (chars (string_bytes c.push_empty_end.new.out)) (chars (string_bytes c.push_format.new.out)) (chars (string_bytes c.push_whole.new.out)) (chars (string_bytes c.push_text.new.out)) (chars (string_bytes c.push_name.new.out)) old (tag_text tag []) (flat_map attr_text first) (flat_map attr_text second) (flat_map attr_text third) (codes "/>")
    c.in_ok-push_name.ensures (subst (λ (value : List ℕ). chars (string_bytes c.push_text.new.out) ≡ chars (string_bytes c.push_name.new.out) ++ flat_map attr_text (attribute (codes "text:select-page") value ∷ [])) c.select_text.ensures c.in_ok-push_text.ensures) (subst (λ (z : ℤ). chars (string_bytes c.push_whole.new.out) ≡ chars (string_bytes c.push_text.new.out) ++ flat_map attr_text (attribute (codes "text:page-adjust") (named.whole_text z) ∷ [])) (to_z-of_z (fits c.pages.result c.pages.ensures.range) ∙ c.pages.ensures.same) c.in_ok-push_whole.ensures) c.in_ok-push_format.ensures c.push_empty_end.ensures (empty_three tag first second third)
