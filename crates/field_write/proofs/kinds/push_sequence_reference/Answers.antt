use Rattle.std.proofs.Common.{◌≡◌, [], ◌∷◌, ◌++◌, ℕ, List, codes, subst}
use Rattle.std.specs.List.{flat_map}
use Rattle.std.specs.Str.{chars}
use Rattle.std.specs.String.{string_bytes}
use Rattle.tree_text.specs.Writing.{attr_text, tag_text}
use Rattle.markup_nodes.specs.declared.words.Attr.{Attr}
use Rattle.written_model.specs.Elements.{attribute, unless_empty}
use Rattle.written_model.specs.Values as named
use Rattle.value_write.proofs.ChainLemmas.{four}
use Rattle.value_write.proofs.ElementLemmas.{empty_two}
use Rattle.field_write.proofs.kinds.push_sequence_reference.Goals as goal

pub returns : goal.returns
unfolding chars
returns c =
    let old = chars (string_bytes c.args.out.now) in
    let tag = codes "text:sequence-ref" in
    let first : List Attr = unless_empty (codes "text:ref-name") (chars c.args.name.now) in
    let second : List Attr = attribute (codes "text:reference-format") (named.sequence_text c.args.form) ∷ [] in
    four c.push_empty_end.result (chars (string_bytes c.push_empty_end.new.out)) (chars (string_bytes c.push_text.new.out)) (chars (string_bytes c.push_unless_empty.new.out)) (chars (string_bytes c.push_name.new.out)) old (tag_text tag []) (flat_map attr_text first) (flat_map attr_text second) (codes "/>")
    c.in_ok-push_name.ensures c.in_ok-push_unless_empty.ensures (subst (λ (value : List ℕ). chars (string_bytes c.push_text.new.out) ≡ chars (string_bytes c.push_unless_empty.new.out) ++ flat_map attr_text (attribute (codes "text:reference-format") value ∷ [])) c.sequence_text.ensures c.in_ok-push_text.ensures) c.push_empty_end.ensures (empty_two tag first second)
