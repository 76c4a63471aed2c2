use Rattle.std.proofs.Common.{map}
use Rattle.load_model.specs.Content.{raw_character}
use Rattle.content_read.specs.Adds.{Gains}
use Rattle.content_read.proofs.pushes.push_run.Given as goal

abbrev pub invariant-loop-c : goal.invariant-loop-c
invariant-loop-c l = Gains l.fn.items l.items (map (raw_character l.spans) l.yielded)
