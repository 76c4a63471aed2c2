use Rattle.std.proofs.Common.{ap, sym}
use Rattle.std.specs.Str.{chars}
use Rattle.paragraph_write.specs.Around.{paragraph_name}
use Rattle.paragraph_write.proofs.ParagraphLemmas.{heading_name}
use Rattle.paragraph_write.proofs.paragraphs.paragraph_name.Goals as goal

pub returns-then-level-eq0 : goal.returns-then-level-eq0
unfolding chars
returns-then-level-eq0 c = ap paragraph_name (sym c.if-level-eq0.true)

pub returns-else-level-eq0 : goal.returns-else-level-eq0
unfolding chars
returns-else-level-eq0 c = heading_name c.args.level c.if-level-eq0.false
