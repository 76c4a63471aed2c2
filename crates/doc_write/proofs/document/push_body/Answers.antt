use Rattle.std.proofs.Common.{[], ◌++◌, codes, sym, ◌∙◌, append_assoc}
use Rattle.std.specs.Str.{chars}
use Rattle.std.specs.String.{string_bytes}
use Rattle.tree_text.specs.Writing.{tag_text, end_text, child_text}
use Rattle.value_write.proofs.ChainLemmas.{four}
use Rattle.paragraph_write.proofs.AroundLemmas.{one_held}
use Rattle.written_model.specs.Written.{text_element}
use Rattle.doc_write.proofs.document.push_body.Goals as goal

pub returns : goal.returns
unfolding chars
returns c =
    let name = codes "office:body" in
    let text = text_element c.args.doc.now in
    four c.push_end.result (chars (string_bytes c.push_end.new.out)) (chars (string_bytes c.push_text_element.new.out)) (chars (string_bytes c.push_tag_end.new.out)) (chars (string_bytes c.push_name.new.out)) (chars (string_bytes c.args.out.now))
    (tag_text name []) (codes ">") (child_text text) (end_text name) c.in_ok-push_name.ensures c.in_ok-push_tag_end.ensures c.in_ok-push_text_element.ensures c.push_end.ensures
    (sym (one_held name [] text ∙ append_assoc (tag_text name []) (codes ">") (child_text text ++ end_text name)))
