-- Each kind as it stands.
use Rattle.std.proofs.Common.{ap, sym}
use Rattle.std.specs.Str.{chars}
use Rattle.written_model.specs.Written as tree
use Rattle.doc_write.proofs.root.mimetype.Goals as goal

pub returns-then-global : goal.returns-then-global
unfolding chars
returns-then-global c = ap tree.mimetype (sym c.if-global.true)

pub returns : goal.returns
unfolding chars
returns c = ap tree.mimetype (sym c.if-global.false)
