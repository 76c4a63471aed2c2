use Rattle.std.proofs.Common.{map, replicate}
use Rattle.doc_model.specs.declared.paragraph.What.TheOpen.{What-F}
use Rattle.load_model.specs.Content.{Read, item_in}
use Rattle.content_read.specs.Adds.{Gains}
use Rattle.content_read.proofs.pushes.push_spaces.Given as goal

abbrev pub invariant-loop : goal.invariant-loop
invariant-loop l = Gains l.fn.items l.items (map Read (replicate l.counter (item_in l.spans (What-F.Char 0x20))))
