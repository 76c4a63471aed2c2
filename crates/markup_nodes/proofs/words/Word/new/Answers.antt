use Rattle.std.proofs.Common.{rules}
use Rattle.markup_nodes.proofs.WordLemmas.{none_chars}
use Rattle.markup_nodes.proofs.words.Word.new.Goals as goal

pub returns : goal.returns
returns c = none_chars _ (search rules)
