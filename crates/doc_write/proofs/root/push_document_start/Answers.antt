use Rattle.std.proofs.Common.{◌++◌, codes, refl}
use Rattle.std.specs.Str.{chars}
use Rattle.std.specs.String.{string_bytes}
use Rattle.tree_text.specs.Writing.{declaration}
use Rattle.value_write.proofs.ChainLemmas.{two}
use Rattle.doc_write.specs.Root.{root_start}
use Rattle.doc_write.proofs.root.push_document_start.Goals as goal

pub returns : goal.returns
returns c =
    two c.push_root_start.result (chars (string_bytes c.push_root_start.new.out)) (chars (string_bytes c.push_declaration.new.out)) (chars (string_bytes c.args.out.now))
    (declaration ++ codes "\n") (root_start c.args.global) c.in_ok-push_declaration.ensures c.push_root_start.ensures refl
