use Rattle.std.proofs.Common.{refl}
use Rattle.markup_nodes.proofs.WordLemmas.{grown}
use Rattle.markup_nodes.proofs.words.Word.push_str.Goals as goal

pub returns-clause-ok : goal.returns-clause-ok
returns-clause-ok c = rw (← c.self.view_is) (grown c.push_str.result c.self.inside.text _ _ _ c.push_str.ensures.bytes refl)
