use Rattle.std.proofs.Common.{[], ◌∷◌, codes}
use Rattle.std.specs.List.{flat_map}
use Rattle.std.specs.Str.{chars}
use Rattle.std.specs.String.{string_bytes}
use Rattle.markup_nodes.specs.declared.words.Attr.{Attr}
use Rattle.tree_text.specs.Writing.{attr_text}
use Rattle.written_model.specs.Elements.{attribute}
use Rattle.sheet_write.proofs.JoinLemmas.{six}
use Rattle.doc_write.proofs.RootLemmas.{six_attributes}
use Rattle.doc_write.proofs.root.push_namespaces.Goals as goal

pub returns : goal.returns
unfolding chars
returns c =
    let office : Attr = attribute (codes "xmlns:office") (codes "urn:oasis:names:tc:opendocument:xmlns:office:1.0") in
    let style : Attr = attribute (codes "xmlns:style") (codes "urn:oasis:names:tc:opendocument:xmlns:style:1.0") in
    let text : Attr = attribute (codes "xmlns:text") (codes "urn:oasis:names:tc:opendocument:xmlns:text:1.0") in
    let table : Attr = attribute (codes "xmlns:table") (codes "urn:oasis:names:tc:opendocument:xmlns:table:1.0") in
    let fo : Attr = attribute (codes "xmlns:fo") (codes "urn:oasis:names:tc:opendocument:xmlns:xsl-fo-compatible:1.0") in
    let xlink : Attr = attribute (codes "xmlns:xlink") (codes "http://www.w3.org/1999/xlink") in
    six c.push_text-6.result (chars (string_bytes c.push_text-6.new.out)) (chars (string_bytes c.push_text-5.new.out)) (chars (string_bytes c.push_text-4.new.out)) (chars (string_bytes c.push_text-3.new.out)) (chars (string_bytes c.push_text-2.new.out)) (chars (string_bytes c.push_text.new.out)) (chars (string_bytes c.args.out.now))
    (flat_map attr_text (office ∷ [])) (flat_map attr_text (style ∷ [])) (flat_map attr_text (text ∷ [])) (flat_map attr_text (table ∷ [])) (flat_map attr_text (fo ∷ [])) (flat_map attr_text (xlink ∷ []))
    c.in_ok-push_text.ensures c.in_ok-push_text-2.ensures c.in_ok-push_text-3.ensures c.in_ok-push_text-4.ensures c.in_ok-push_text-5.ensures c.push_text-6.ensures
    (six_attributes office style text table fo xlink)
