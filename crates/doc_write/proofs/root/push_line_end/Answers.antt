use Rattle.element_text.proofs.AddedLemmas.{added}
use Rattle.std.proofs.Common.{codes}
use Rattle.std.specs.Str.{chars}
use Rattle.doc_write.proofs.root.push_line_end.Goals as goal

pub returns : goal.returns
unfolding chars
returns c = added c.push_str.result c.args.out.now _ (codes "\n") c.push_str.ensures.bytes
