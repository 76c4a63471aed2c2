-- The name, the file, the section in it and `/>`.
use Rattle.std.proofs.Common.{◌++◌, [], ℕ, List, codes, ap, sym, ◌∙◌}
use Rattle.std.proofs.lemmas.List.{append-nil}
use Rattle.std.specs.List.{flat_map}
use Rattle.std.specs.Str.{chars}
use Rattle.std.specs.String.{string_bytes}
use Rattle.markup_nodes.specs.declared.words.Attr.{Attr}
use Rattle.tree_text.specs.Writing.{attr_text, tag_text, child_text}
use Rattle.written_model.specs.Elements.{unless_empty, empty_element}
use Rattle.value_write.proofs.ChainLemmas.{four}
use Rattle.value_write.proofs.ElementLemmas.{empty_two}
use Rattle.block_write.proofs.sections.push_some_source.Goals as goal

pub returns : goal.returns
unfolding chars
returns c =
    let source = c.args.source.now in
    let tag = codes "text:section-source" in
    let href : List Attr = unless_empty (codes "xlink:href") source.href in
    let section : List Attr = unless_empty (codes "text:section-name") source.section in
    four c.push_empty_end.result (chars (string_bytes c.push_empty_end.new.out)) (chars (string_bytes c.push_unless_empty-2.new.out)) (chars (string_bytes c.push_unless_empty.new.out)) (chars (string_bytes c.push_name.new.out)) (chars (string_bytes c.args.out.now))
    (tag_text tag []) (flat_map attr_text href) (flat_map attr_text section) (codes "/>")
    c.in_ok-push_name.ensures
    (c.in_ok-push_unless_empty.ensures ∙ ap (λ (value : List ℕ). chars (string_bytes c.push_name.new.out) ++ flat_map attr_text (unless_empty (codes "xlink:href") value)) c.get.ensures)
    (c.in_ok-push_unless_empty-2.ensures ∙ ap (λ (value : List ℕ). chars (string_bytes c.push_unless_empty.new.out) ++ flat_map attr_text (unless_empty (codes "text:section-name") value)) c.get-2.ensures)
    c.push_empty_end.ensures (empty_two tag href section ∙ sym (append-nil (child_text (empty_element tag (href ++ section)))))
