use Rattle.std.proofs.Common.{ap, map}
use Rattle.doc_texts.specs.Holds.{gathered_par}
use Rattle.doc_texts.proofs.reader.Reader.new.Goals as goal

pub returns : goal.returns
returns c = λ lists. record { counted = c.new-2.ensures lists; texts = ap (map gathered_par) c.new.ensures.items }
