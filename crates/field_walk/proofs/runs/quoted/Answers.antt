use Rattle.std.proofs.lemmas.Iterator.{YieldsList-from_chars, YieldsList-from_take}
use Rattle.std.proofs.lemmas.Iterator.Consumers.{count_from_yields_List}
use Rattle.field_walk.proofs.runs.quoted.Goals as goal

pub returns : goal.returns
returns c = count_from_yields_List c.take.result c.count.result c.count.ensures.ran (YieldsList-from_take 512 (YieldsList-from_chars c.args.text.now c.utf8.text cc) cc)
