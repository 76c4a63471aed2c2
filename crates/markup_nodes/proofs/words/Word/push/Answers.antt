use Rattle.markup_nodes.proofs.WordLemmas.{grown, char_alone}
use Rattle.markup_nodes.proofs.words.Word.push.Goals as goal

pub returns-clause-ok : goal.returns-clause-ok
returns-clause-ok c = rw (← c.self.view_is) (grown c.push.result c.self.inside.text _ _ _ c.push.ensures.bytes (char_alone c.args.c c.ranges.c.0))
