use Rattle.std.proofs.Common.{◌∙◌, sym, ap}
use Rattle.markup_nodes.specs.Nodes.{leading}
use Rattle.markup_nodes.proofs.NodeLemmas.{leading_of}
use Rattle.markup_nodes.proofs.nodes.Nodes.first.Goals as goal

pub returns : goal.returns
returns g c = c.get.ensures ∙ (sym (leading_of c.self.inside.first c.self.inside.turns.items) ∙ ap leading c.self.view_is)
