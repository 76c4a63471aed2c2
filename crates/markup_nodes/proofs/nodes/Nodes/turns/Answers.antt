use Rattle.std.proofs.Common.{◌∙◌, sym, ap}
use Rattle.markup_nodes.specs.Nodes.{turns_of}
use Rattle.markup_nodes.proofs.NodeLemmas.{turns_back}
use Rattle.markup_nodes.proofs.nodes.Nodes.turns.Goals as goal

pub returns : goal.returns
returns g c = c.as_slice.ensures.value ∙ (sym (turns_back c.self.inside.first c.self.inside.turns.items) ∙ ap turns_of c.self.view_is)
