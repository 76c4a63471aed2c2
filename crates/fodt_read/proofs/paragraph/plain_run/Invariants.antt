use Rattle.std.proofs.Common.{take}
use Rattle.std.specs.List.{AllByRecursion as Each}
use Rattle.fodt_read.specs.PlainText.{IsUnmarked}
use Rattle.fodt_read.proofs.paragraph.plain_run.Given as goal

abbrev pub invariant-loop-place : goal.invariant-loop-place
invariant-loop-place l = Each IsUnmarked (take l.place l.bytes)
