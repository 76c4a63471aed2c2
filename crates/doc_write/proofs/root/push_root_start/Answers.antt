-- The name, the namespaces, the version, the media type and what ends the tag.
use Rattle.std.proofs.Common.{ℕ, List, [], ◌∷◌, ◌++◌, codes, ap, ◌∙◌}
use Rattle.std.specs.List.{flat_map}
use Rattle.std.specs.Str.{chars}
use Rattle.std.specs.String.{string_bytes}
use Rattle.markup_nodes.specs.declared.words.Attr.{Attr}
use Rattle.tree_text.specs.Writing.{attr_text, tag_text}
use Rattle.written_model.specs.Elements.{attribute}
use Rattle.written_model.specs.Written.{namespaces, mimetype}
use Rattle.value_write.proofs.ChainLemmas.{five}
use Rattle.doc_write.proofs.RootLemmas.{two_behind}
use Rattle.doc_write.proofs.root.push_root_start.Goals as goal

pub returns : goal.returns
unfolding chars
returns c =
    let name = codes "office:document" in
    let version : Attr = attribute (codes "office:version") (codes "1.3") in
    let kind : Attr = attribute (codes "office:mimetype") (mimetype c.args.global) in
    let versioned = chars (string_bytes c.push_text.new.out) in
    five c.push_tag_end.result (chars (string_bytes c.push_tag_end.new.out)) (chars (string_bytes c.push_text-2.new.out)) versioned (chars (string_bytes c.push_namespaces.new.out)) (chars (string_bytes c.push_name.new.out)) (chars (string_bytes c.args.out.now))
    (tag_text name []) (flat_map attr_text namespaces) (flat_map attr_text (version ∷ [])) (flat_map attr_text (kind ∷ [])) (codes ">")
    c.in_ok-push_name.ensures c.in_ok-push_namespaces.ensures c.in_ok-push_text.ensures
    (c.in_ok-push_text-2.ensures ∙ ap (λ (value : List ℕ). versioned ++ flat_map attr_text (attribute (codes "office:mimetype") value ∷ [])) c.mimetype.ensures)
    c.push_tag_end.ensures (two_behind name namespaces version kind (codes ">"))
