-- The name, the id, the class and `>`.
use Rattle.std.proofs.Common.{◌++◌, [], ◌∷◌, ℕ, List, codes, ap, ◌∙◌}
use Rattle.std.specs.List.{flat_map}
use Rattle.std.specs.Str.{chars}
use Rattle.std.specs.String.{string_bytes}
use Rattle.markup_nodes.specs.declared.words.Attr.{Attr}
use Rattle.tree_text.specs.Writing.{attr_text, tag_text}
use Rattle.written_model.specs.Elements.{attribute, unless_empty}
use Rattle.written_model.specs.Values.{class_text}
use Rattle.value_write.proofs.ChainLemmas.{four}
use Rattle.paragraph_write.proofs.AroundLemmas.{two_groups}
use Rattle.paragraph_write.proofs.notes.push_note_tag.Goals as goal

pub returns : goal.returns
unfolding chars
returns c =
    let tag = codes "text:note" in
    let id : List Attr = unless_empty (codes "text:id") (chars c.args.id.now) in
    let class : List Attr = attribute (codes "text:note-class") (class_text c.args.class) ∷ [] in
    four c.push_tag_end.result (chars (string_bytes c.push_tag_end.new.out)) (chars (string_bytes c.push_text.new.out)) (chars (string_bytes c.push_unless_empty.new.out)) (chars (string_bytes c.push_name.new.out)) (chars (string_bytes c.args.out.now))
    (tag_text tag []) (flat_map attr_text id) (flat_map attr_text class) (codes ">")
    c.in_ok-push_name.ensures c.in_ok-push_unless_empty.ensures
    (c.in_ok-push_text.ensures ∙ ap (λ (value : List ℕ). chars (string_bytes c.push_unless_empty.new.out) ++ flat_map attr_text (attribute (codes "text:note-class") value ∷ [])) c.class_text.ensures)
    c.push_tag_end.ensures (two_groups tag id class (codes ">"))
