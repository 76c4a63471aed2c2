-- Two hyphens, and a `>` behind them.
use Rattle.std.specs.Str.{chars}
use Rattle.markup_parts.proofs.ReadsLemmas.{reads_same, unit_outcome}
use Rattle.markup_parts.proofs.SkippedLemmas.{comment_on, comment_stop}
use Rattle.markup_parts.proofs.skipped.comment.Goals as goal

pub returns-in-Err-clause-read : goal.returns-in-Err-clause-read
unfolding chars
returns-in-Err-clause-read c = comment_stop (chars c.args.text.now) c.in-Err.stop c.in-Err.ensures.read

pub returns-in-Ok-clause-read : goal.returns-in-Ok-clause-read
unfolding chars
returns-in-Ok-clause-read c = reads_same (comment_on c.in-Ok.ensures.read) (unit_outcome c.expect.result) c.expect.ensures.read
