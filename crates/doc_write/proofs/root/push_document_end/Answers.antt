use Rattle.std.proofs.Common.{codes, refl}
use Rattle.std.specs.Str.{chars}
use Rattle.std.specs.String.{string_bytes}
use Rattle.tree_text.specs.Writing.{end_text}
use Rattle.value_write.proofs.ChainLemmas.{two}
use Rattle.doc_write.proofs.root.push_document_end.Goals as goal

pub returns : goal.returns
unfolding chars
returns c =
    two c.push_line_end.result (chars (string_bytes c.push_line_end.new.out)) (chars (string_bytes c.push_end.new.out)) (chars (string_bytes c.args.out.now))
    (end_text (codes "office:document")) (codes "\n") c.in_ok-push_end.ensures c.push_line_end.ensures refl
