use Rattle.std.specs.Str.{chars}
use Rattle.std.specs.String.{string_bytes}
use Rattle.tree_text.specs.Writing.{child_text, content_text}
use Rattle.value_write.proofs.ChainLemmas.{four}
use Rattle.doc_write.specs.Root.{document_start, document_end, document_parts, body_element}
use Rattle.doc_write.proofs.RootLemmas.{document_around}
use Rattle.doc_write.proofs.document.push_document.Goals as goal

pub returns : goal.returns
returns c =
    let doc = c.args.doc.now in
    four c.push_document_end.result (chars (string_bytes c.push_document_end.new.out)) (chars (string_bytes c.push_body.new.out)) (chars (string_bytes c.push_parts.new.out)) (chars (string_bytes c.push_document_start.new.out)) (chars (string_bytes c.args.out.now))
    (document_start doc.global) (content_text (document_parts doc)) (child_text (body_element doc)) document_end
    c.in_ok-push_document_start.ensures c.in_ok-push_parts.ensures c.in_ok-push_body.ensures c.push_document_end.ensures (document_around doc)
