-- From the root's tag to its end.
use Rattle.std.proofs.Common.{chars}
use Rattle.markup_tree.proofs.ReaderLemmas.{root_closed, root_open}
use Rattle.markup_tree.proofs.reader.read_text.Goals as goal

pub to_end-requires-clause-way : goal.to_end-requires-clause-way
to_end-requires-clause-way c = root_closed c.in-Ok.found.0 (chars c.in-Ok.found.2.now) c.in-Ok.ensures.read c.if-closed.true c.element-root.ensures

pub to_close-requires-clause-way : goal.to_close-requires-clause-way
to_close-requires-clause-way c = root_open c.in-Ok.found.0 (chars c.in-Ok.found.2.now) c.in-Ok.ensures.read c.if-closed.false c.element-root.ensures
