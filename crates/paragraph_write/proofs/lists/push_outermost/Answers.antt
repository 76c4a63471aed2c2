-- The name, the style, whether it goes on counting, and `>`.
use Rattle.std.proofs.Common.{◌++◌, [], ◌∷◌, ℕ, true, false, List, codes, ap, ◌∙◌}
use Rattle.std.specs.Prelude.{if◌then◌else◌}
use Rattle.std.specs.List.{flat_map}
use Rattle.std.specs.Str.{chars}
use Rattle.std.specs.String.{string_bytes}
use Rattle.markup_nodes.specs.declared.words.Attr.{Attr}
use Rattle.tree_text.specs.Writing.{attr_text, tag_text}
use Rattle.written_model.specs.Elements.{attribute, unless_empty}
use Rattle.written_model.specs.Values.{truth}
use Rattle.value_write.proofs.ChainLemmas.{four}
use Rattle.paragraph_write.proofs.AroundLemmas.{two_groups, not_fresh}
use Rattle.paragraph_write.proofs.lists.push_outermost.Goals as goal

pub returns : goal.returns
unfolding chars
returns c =
    let place = c.args.place.now in
    let tag = codes "text:list" in
    let style : List Attr = unless_empty (codes "text:style-name") place.style in
    let goes_on : List Attr = attribute (codes "text:continue-numbering") (truth (if place.fresh then false else true)) ∷ [] in
    four c.push_tag_end.result (chars (string_bytes c.push_tag_end.new.out)) (chars (string_bytes c.push_text.new.out)) (chars (string_bytes c.push_unless_empty.new.out)) (chars (string_bytes c.push_name.new.out)) (chars (string_bytes c.args.out.now))
    (tag_text tag []) (flat_map attr_text style) (flat_map attr_text goes_on) (codes ">")
    c.in_ok-push_name.ensures
    (c.in_ok-push_unless_empty.ensures ∙ ap (λ (value : List ℕ). chars (string_bytes c.push_name.new.out) ++ flat_map attr_text (unless_empty (codes "text:style-name") value)) c.get.ensures)
    (c.in_ok-push_text.ensures ∙ ap (λ (value : List ℕ). chars (string_bytes c.push_unless_empty.new.out) ++ flat_map attr_text (attribute (codes "text:continue-numbering") value ∷ [])) (c.truth.ensures ∙ ap truth (not_fresh place.fresh)))
    c.push_tag_end.ensures (two_groups tag style goes_on (codes ">"))
