-- The name, the style and `>`.
use Rattle.std.proofs.Common.{[], ◌∷◌, ◌++◌, ℕ, List, codes, ap, ◌∙◌}
use Rattle.std.specs.List.{flat_map}
use Rattle.std.specs.Str.{chars}
use Rattle.std.specs.String.{string_bytes}
use Rattle.markup_nodes.specs.declared.words.Attr.{Attr}
use Rattle.tree_text.specs.Writing.{attr_text, tag_text}
use Rattle.written_model.specs.Elements.{attribute}
use Rattle.value_write.proofs.ChainLemmas.{three}
use Rattle.value_write.proofs.ElementLemmas.{attributes_on}
use Rattle.content_write.proofs.spans.push_span_start.Goals as goal

pub returns : goal.returns
unfolding chars
returns c =
    let tag = codes "text:span" in
    let attrs : List Attr = attribute (codes "text:style-name") c.args.name.now ∷ [] in
    three c.push_tag_end.result (chars (string_bytes c.push_tag_end.new.out)) (chars (string_bytes c.push_text.new.out)) (chars (string_bytes c.push_name.new.out)) (chars (string_bytes c.args.out.now))
    (tag_text tag []) (flat_map attr_text attrs) (codes ">") c.in_ok-push_name.ensures
    (c.in_ok-push_text.ensures ∙ ap (λ (name : List ℕ). chars (string_bytes c.push_name.new.out) ++ flat_map attr_text (attribute (codes "text:style-name") name ∷ [])) c.get.ensures)
    c.push_tag_end.ensures (attributes_on tag attrs (codes ">"))
